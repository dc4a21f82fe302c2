-- What holds of every stream of requests, and of replies.
use Rattle.std.specs.Prelude.{◌≡◌, ℕ, ◌-◌, List, [], ◌∷◌, ◌++◌, ◌⊎◌, length, Result, Ok, Err}
use Rattle.gd_names.specs.declared.memory.NoMemory.{NoMemory}
use Rattle.gd_item.specs.declared.reply.Reply.{Reply}
use Rattle.gd_frame.specs.declared.message.Kind.{Kind}
use Rattle.gd_frame.specs.declared.message.MessageCause.{MessageCause}
use Rattle.gd_frame.specs.declared.message.MessageCause.TheVariants.{Meaning}
use Rattle.gd_frame.specs.declared.step.ReadStep.{ReadStep}
use Rattle.gd_frame.specs.declared.step.ReadStep.TheVariants.{Need, Done, Bad}
use Rattle.gd_frame.specs.Syntax.{Syntax, replies, syntax_of}
use Rattle.gd_frame.specs.Messages.{HasNoMessage, HasCause}
use Rattle.gd_frame.specs.Laws.{SameStep}
use Rattle.gd_http.specs.HearingReplies.{Listening, ReplyBytes, MeansNothing, ReplyFed}

-- a stream is messages that say this, one after another, and then a rest
abbrev pub Says : {F : Type 0} → (List ℕ → F → Type 0) → List ℕ → List F → List ℕ → Type 0
Says Is stream [] rest = stream ≡ rest
Says Is stream (m ∷ ms) rest = (front : List ℕ) × (tail : List ℕ) × (stream ≡ front ++ tail) × Is front m × Says Is tail ms rest

-- however a stream is cut, it says this and nothing else
abbrev pub OneHearing : {F : Type 0} → Syntax → (List ℕ → F → Type 0) → Type 0
OneHearing {F} s Is = (ms ns : List F) (stream r q : List ℕ) → Says Is stream ms r → Says Is stream ns q → HasNoMessage s r → HasNoMessage s q → (ms ≡ ns) × (r ≡ q)

-- bytes have one cause at most
abbrev pub OneCause : Kind → Type 0
OneCause kind = (bytes : List ℕ) (a b : MessageCause) → HasCause (syntax_of kind) a bytes → HasCause (syntax_of kind) b bytes → a ≡ b

-- more bytes of a stream are more of its rest
abbrev pub RestGrows : {F : Type 0} → (List ℕ → F → Type 0) → Type 0
RestGrows {F} Is = (ms : List F) (stream rest more : List ℕ) → Says Is stream ms rest → Says Is (stream ++ more) ms (rest ++ more)

-- a rest that begins with a message is that message more, and what follows it
abbrev pub RestEnds : {F : Type 0} → (List ℕ → F → Type 0) → Type 0
RestEnds {F} Is = (ms : List F) (m : F) (stream rest front tail : List ℕ) → Says Is stream ms rest → rest ≡ front ++ tail → Is front m → Says Is stream (ms ++ m ∷ []) tail

-- whole replies that answer no such request begin no reply that does
abbrev pub MeaninglessForGood : Listening → Type 0
MeaninglessForGood l = (bytes more front rest : List ℕ) (reply : Reply) → MeansNothing l bytes → bytes ++ more ≡ front ++ rest → ReplyBytes l front reply → ⊥

-- a whole reply at the front of a stream is what feeding gives, whatever follows it
abbrev pub WholeReplyIsDone : Listening → Type 0
WholeReplyIsDone l = (piece a rest new : List ℕ) (reply : Reply) (result : Result (ReadStep Reply) NoMemory) → HasNoMessage replies l.reading.held → ReplyFed l piece result new
    → l.reading.held ++ piece ≡ a ++ rest → ReplyBytes l a reply → ((e : NoMemory) × (result ≡ Err e)) ⊎ (result ≡ Ok (Done reply (length a - length l.reading.held)))

-- and so is one that answers no such request
abbrev pub WholeReplyIsBad : Listening → Type 0
WholeReplyIsBad l = (piece a rest new : List ℕ) (result : Result (ReadStep Reply) NoMemory) → HasNoMessage replies l.reading.held → ReplyFed l piece result new
    → l.reading.held ++ piece ≡ a ++ rest → MeansNothing l a → ((e : NoMemory) × (result ≡ Err e)) ⊎ (result ≡ Ok (Bad l.reading.place Meaning))

-- the same reader, which holds these bytes
abbrev pub holding : Listening → List ℕ → Listening
holding l held = record { base = l.base; kind = l.kind; reading = record { held = held; place = l.reading.place; state = l.reading.state } }

-- feeding a, which leaves the reply open, and then b gives what feeding both at once gives
abbrev pub RepliesCutAnywhere : Listening → Type 0
RepliesCutAnywhere l = (a b middle new once : List ℕ) (x y : Result (ReadStep Reply) NoMemory) → ReplyFed l a (Ok Need) middle
    → ReplyFed (holding l middle) b x new → ReplyFed l (a ++ b) y once → SameStep (length a) x y
