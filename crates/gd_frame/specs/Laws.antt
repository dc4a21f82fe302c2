-- What holds of every stream of messages.
use Rattle.std.specs.Prelude.{◌≡◌, ℕ, ◌+◌, ◌-◌, ⊤, List, [], ◌++◌, ◌⊎◌, length, Result, Ok, Err}
use Rattle.gd_names.specs.declared.memory.NoMemory.{NoMemory}
use Rattle.gd_frame.specs.declared.message.Kind.{Kind}
use Rattle.gd_frame.specs.declared.message.MessageCause.{MessageCause}
use Rattle.gd_frame.specs.declared.step.ReadStep.{ReadStep}
use Rattle.gd_frame.specs.declared.step.ReadStep.TheVariants.{Need, Done, Bad}
use Rattle.gd_frame.specs.Syntax.{Syntax, syntax_of}
use Rattle.gd_frame.specs.Messages.{IsMessage, HasNoMessage, NeverHasMessage, HasCause}
use Rattle.gd_frame.specs.Feeding.{Fed}
use Rattle.gd_frame.specs.Splitting.{Splits}

-- however a stream is cut, its messages are these and no others
abbrev pub OneReading : Kind → Type 0
OneReading kind = (ms ns : List (List ℕ)) (stream r q : List ℕ) → Splits (syntax_of kind) stream ms r → Splits (syntax_of kind) stream ns q
    → HasNoMessage (syntax_of kind) r → HasNoMessage (syntax_of kind) q → (ms ≡ ns) × (r ≡ q)

-- no message is a proper prefix of another
abbrev pub NoPrefix : Kind → Type 0
NoPrefix kind = (a b : List ℕ) → IsMessage (syntax_of kind) a → IsMessage (syntax_of kind) (a ++ b) → b ≡ []

-- bytes that have a cause begin no message, whatever follows
abbrev pub BadForGood : Kind → Type 0
BadForGood kind = (cause : MessageCause) (bytes : List ℕ) → HasCause (syntax_of kind) cause bytes → NeverHasMessage (syntax_of kind) bytes

-- bytes have the parts of one message
abbrev pub OneFrame : {F : Type 0} → (List ℕ → F → Type 0) → Type 0
OneFrame {F} Is = (bytes : List ℕ) (f g : F) → Is bytes f → Is bytes g → f ≡ g

-- a whole message at the front of a stream is what feeding gives, whatever follows it
abbrev pub WholeIsDone : {F : Type 0} → Syntax → (List ℕ → F → Type 0) → Type 0
WholeIsDone {F} s Is = (place : ℕ) (held piece a rest new : List ℕ) (f : F) (result : Result (ReadStep F) NoMemory) → HasNoMessage s held → Fed s Is place held piece result new
    → held ++ piece ≡ a ++ rest → Is a f → ((e : NoMemory) × (result ≡ Err e)) ⊎ (result ≡ Ok (Done f (length a - length held)))

-- the same answer, where n bytes were taken before the first
abbrev pub SameStep : {F : Type 0} → ℕ → Result (ReadStep F) NoMemory → Result (ReadStep F) NoMemory → Type 0
SameStep n (Err e) y = ⊤
SameStep n (Ok x) (Err e) = ⊤
SameStep n (Ok Need) (Ok Need) = ⊤
SameStep n (Ok Need) (Ok (Done g total)) = ⊥
SameStep n (Ok Need) (Ok (Bad place other)) = ⊥
SameStep n (Ok (Done f used)) (Ok Need) = ⊥
SameStep n (Ok (Done f used)) (Ok (Done g total)) = (f ≡ g) × (total ≡ n + used)
SameStep n (Ok (Done f used)) (Ok (Bad place other)) = ⊥
SameStep n (Ok (Bad at cause)) (Ok Need) = ⊥
SameStep n (Ok (Bad at cause)) (Ok (Done g total)) = ⊥
SameStep n (Ok (Bad at cause)) (Ok (Bad place other)) = (at ≡ place) × (cause ≡ other)

-- feeding a, which leaves the message open, and then b gives what feeding both at once gives
abbrev pub CutAnywhere : {F : Type 0} → Syntax → (List ℕ → F → Type 0) → Type 0
CutAnywhere {F} s Is = (place : ℕ) (held a b middle new once : List ℕ) (x y : Result (ReadStep F) NoMemory) → Fed s Is place held a (Ok Need) middle
    → Fed s Is place middle b x new → Fed s Is place held (a ++ b) y once → SameStep (length a) x y
