-- What streams say is determined by their bytes.
use Rattle.std.proofs.Common.{◌≡◌, ℕ, ◌-◌, List, [], ◌∷◌, ◌++◌, ◌⊎◌, length, Option, Some, None, Result, Ok, Err, inl, inr, refl, sym, ap, subst, ◌∙◌, append_assoc}
use Rattle.gd_names.specs.declared.memory.NoMemory.{NoMemory}
use Rattle.gd_item.specs.declared.reply.Reply.{Reply}
use Rattle.gd_frame.specs.declared.message.Kind.TheVariants as of
use Rattle.gd_frame.specs.declared.message.MessageCause.TheVariants.{Head, Coding, Framing, Body, Meaning}
use Rattle.gd_frame.specs.declared.frame.ReplyFrame.{ReplyFrame}
use Rattle.gd_frame.specs.declared.step.ReadStep.{ReadStep}
use Rattle.gd_frame.specs.declared.step.ReadStep.TheVariants.{Need, Done, Bad}
use Rattle.gd_frame.specs.Frames.{IsReply}
use Rattle.gd_frame.specs.Feeding.{Fed}
use Rattle.gd_frame.specs.Laws.{OneFrame, SameStep}
use Rattle.gd_frame.specs.Messages.{IsMessage, HasNoMessage}
use Rattle.gd_frame.specs.Syntax.{Syntax, requests, replies}
use Rattle.gd_frame.proofs.Feeds as frames
use Rattle.gd_frame.proofs.Heads.{Plain, plain}
use Rattle.gd_frame.proofs.Streams.{same_message}
use Rattle.gd_http.specs.declared.incoming.Incoming.{Incoming}
use Rattle.gd_http.specs.Closing.{asks_to_close}
use Rattle.gd_http.specs.Hearing.{incoming_of_frame, RequestBytes, RequestCloses}
use Rattle.gd_http.specs.HearingReplies.{Listening, reply_of_frame, ReplyBytes, MeansNothing, ReplyFed}
use Rattle.gd_http.specs.Laws.{Says, MeaninglessForGood, WholeReplyIsDone, WholeReplyIsBad, RepliesCutAnywhere, holding}

-- ---- whole messages

pub request_is : (bytes : List ℕ) (m : Incoming) → RequestBytes bytes m → IsMessage requests bytes
request_is bytes m x = x.1.0

pub one_request : OneFrame RequestBytes
one_request bytes m n x y = x.2 ∙ ap incoming_of_frame (frames.one_request bytes x.0 y.0 x.1 y.1) ∙ sym y.2

pub one_closing : OneFrame RequestCloses
one_closing bytes m n x y = x.2 ∙ ap asks_to_close (frames.one_request bytes x.0 y.0 x.1 y.1) ∙ sym y.2

-- what a whole reply says, if it answers a request of the kind
abbrev pub Answers : Listening → List ℕ → Option Reply → Type 0
Answers l bytes said = (frame : ReplyFrame) × IsReply bytes frame × (said ≡ reply_of_frame l frame)

pub answer_is : (l : Listening) (bytes : List ℕ) (said : Option Reply) → Answers l bytes said → IsMessage replies bytes
answer_is l bytes said x = x.1.0

pub one_answer : (l : Listening) → OneFrame (Answers l)
one_answer l bytes said other x y = x.2 ∙ ap (reply_of_frame l) (frames.one_reply bytes x.0 y.0 x.1 y.1) ∙ sym y.2

pub answers_so : (l : Listening) (bytes : List ℕ) (reply : Reply) → ReplyBytes l bytes reply → Answers l bytes (Some reply)
answers_so l bytes reply x = (x.0, x.1, sym x.2)

pub answers_nothing : (l : Listening) (bytes : List ℕ) → MeansNothing l bytes → Answers l bytes None
answers_nothing l bytes x = (x.0, x.1, sym x.2)

some_is : {A : Type 0} (x y : A) → let some : A → Option A = Some in some x ≡ some y → x ≡ y
some_is x y e = cc

none_is : {A B : Type 0} (x : A) → let none : Option A = None in Some x ≡ none → B
none_is x e = absurd cc

pub one_reply : (l : Listening) → OneFrame (ReplyBytes l)
one_reply l bytes m n x y = some_is m n (one_answer l bytes (Some m) (Some n) (answers_so l bytes m x) (answers_so l bytes n y))

pub reply_is : (l : Listening) (bytes : List ℕ) (m : Reply) → ReplyBytes l bytes m → IsMessage replies bytes
reply_is l bytes m x = x.1.0

pub meaningless : (l : Listening) → MeaninglessForGood l
meaningless l bytes more front rest reply nothing e x =
    let same = same_message replies (plain of.Reply) bytes front more rest nothing.1.0 x.1.0 e in
    none_is reply (one_answer l front (Some reply) None (answers_so l front reply x) (subst (λ b. Answers l b None) same.0 (answers_nothing l bytes nothing)))

-- ---- whole streams

module _ {F : Type 0} (s : Syntax) (p : Plain s) (Is : List ℕ → F → Type 0) (is : (bytes : List ℕ) (f : F) → Is bytes f → IsMessage s bytes) (one : OneFrame Is) where
  pub one_hearing : (ms ns : List F) (stream r q : List ℕ) → Says Is stream ms r → Says Is stream ns q → HasNoMessage s r → HasNoMessage s q → (ms ≡ ns) × (r ≡ q)
  one_hearing [] [] stream r q f g none never = (refl, sym f ∙ g)
  one_hearing [] (n ∷ ns) stream r q f g none never = absurd (none g.0 g.1 (sym f ∙ g.2) (is g.0 n g.3))
  one_hearing (m ∷ ms) [] stream r q f g none never = absurd (never f.0 f.1 (sym g ∙ f.2) (is f.0 m f.3))
  one_hearing (m ∷ ms) (n ∷ ns) stream r q f g none never =
      let first = same_message s p f.0 g.0 f.1 g.1 (is f.0 m f.3) (is g.0 n g.3) (sym f.2 ∙ g.2) in
      let message : m ≡ n = one g.0 m n (subst (λ x. Is x m) first.0 f.3) g.3 in
      let others = one_hearing ms ns g.1 r q (subst (λ x. Says Is x ms r) first.1 f.4) g.4 none never in
      (rw (message, others.0) refl, others.1)

module _ {F : Type 0} (Is : List ℕ → F → Type 0) where
  pub rest_grows : (ms : List F) (stream rest more : List ℕ) → Says Is stream ms rest → Says Is (stream ++ more) ms (rest ++ more)
  rest_grows [] stream rest more x = ap (λ (t : List ℕ). t ++ more) x
  rest_grows (m ∷ ms) stream rest more x =
      (x.0, x.1 ++ more, ap (λ (t : List ℕ). t ++ more) x.2 ∙ append_assoc x.0 x.1 more, x.3, rest_grows ms x.1 rest more x.4)

  pub rest_ends : (ms : List F) (m : F) (stream rest front tail : List ℕ) → Says Is stream ms rest → rest ≡ front ++ tail → Is front m → Says Is stream (ms ++ m ∷ []) tail
  rest_ends [] m stream rest front tail x e is = (front, tail, x ∙ e, is, refl)
  rest_ends (n ∷ ms) m stream rest front tail x e is = (x.0, x.1, x.2, x.3, rest_ends ms m x.1 rest front tail x.4 e is)

-- ---- replies: one that means nothing is refused where it ends

-- the answer of a reader of replies to what a reader of frames would say
abbrev pub told : ℕ → Result (ReadStep (Option Reply)) NoMemory → Result (ReadStep Reply) NoMemory
told place (Ok Need) = Ok Need
told place (Ok (Done (Some reply) used)) = Ok (Done reply used)
told place (Ok (Done None used)) = Ok (Bad place Meaning)
told place (Ok (Bad at cause)) = Ok (Bad at cause)
told place (Err e) = Err e

abbrev pub Heard : Listening → List ℕ → Result (ReadStep Reply) NoMemory → List ℕ → Type 0
Heard l piece result new = (said : Result (ReadStep (Option Reply)) NoMemory) × Fed replies (Answers l) l.reading.place l.reading.held piece said new × (result ≡ told l.reading.place said)

heard : (l : Listening) (piece : List ℕ) (result : Result (ReadStep Reply) NoMemory) (new : List ℕ) → ReplyFed l piece result new → Heard l piece result new
heard l piece (Ok Need) new fed = (Ok Need, fed, refl)
heard l piece (Ok (Done reply used)) new fed = (Ok (Done (Some reply) used), (fed.0, (fed.1.0, fed.1.1, sym fed.1.2), fed.2), refl)
heard l piece (Ok (Bad at Head)) new fed = (Ok (Bad at Head), fed, refl)
heard l piece (Ok (Bad at Coding)) new fed = (Ok (Bad at Coding), fed, refl)
heard l piece (Ok (Bad at Framing)) new fed = (Ok (Bad at Framing), fed, refl)
heard l piece (Ok (Bad at Body)) new fed = (Ok (Bad at Body), fed, refl)
heard l piece (Ok (Bad at Meaning)) new fed =
    (Ok (Done None fed.1.0), (fed.1.1, (fed.1.2.0, fed.1.2.1, sym fed.1.2.2), fed.2), ap (λ p. Ok (Bad p Meaning)) fed.0)
heard l piece (Err e) new fed = (Err e, fed, refl)

same_told : (n place : ℕ) (x y : Result (ReadStep (Option Reply)) NoMemory) → SameStep n x y → SameStep n (told place x) (told place y)
same_told n place (Err e) y same = tt
same_told n place (Ok Need) (Err e) same = tt
same_told n place (Ok Need) (Ok Need) same = tt
same_told n place (Ok Need) (Ok (Done g total)) same = absurd same
same_told n place (Ok Need) (Ok (Bad at cause)) same = absurd same
same_told n place (Ok (Done f used)) (Ok Need) same = absurd same
same_told n place (Ok (Done f used)) (Ok (Bad at cause)) same = absurd same
same_told n place (Ok (Done (Some f) used)) (Err e) same = tt
same_told n place (Ok (Done None used)) (Err e) same = tt
same_told n place (Ok (Done (Some f) used)) (Ok (Done (Some g) total)) same = (some_is f g same.0, same.1)
same_told n place (Ok (Done (Some f) used)) (Ok (Done None total)) same = none_is f same.0
same_told n place (Ok (Done None used)) (Ok (Done (Some g) total)) same = none_is g (sym same.0)
same_told n place (Ok (Done None used)) (Ok (Done None total)) same = (refl, refl)
same_told n place (Ok (Bad at cause)) (Err e) same = tt
same_told n place (Ok (Bad at cause)) (Ok Need) same = absurd same
same_told n place (Ok (Bad at cause)) (Ok (Done g total)) same = absurd same
same_told n place (Ok (Bad at cause)) (Ok (Bad place' other)) same = same

pub replies_cut : (l : Listening) → RepliesCutAnywhere l
replies_cut l a b middle new once x y first u v =
    let p = heard (holding l middle) b x new u in
    let q = heard l (a ++ b) y once v in
    let same : SameStep (length a) p.0 q.0 = frames.cut_anywhere replies (plain of.Reply) (Answers l) (answer_is l) (one_answer l) l.reading.place l.reading.held a b middle new once p.0 q.0 first p.1 q.1 in
    subst (λ r. SameStep (length a) r y) (sym p.2) (subst (λ r. SameStep (length a) (told l.reading.place p.0) r) (sym q.2) (same_told (length a) l.reading.place p.0 q.0 same))

by_answer : (l : Listening) (said : Option Reply) (n : ℕ) (result : Result (ReadStep Reply) NoMemory) (found : Result (ReadStep (Option Reply)) NoMemory) → result ≡ told l.reading.place found
    → ((e : NoMemory) × (found ≡ Err e)) ⊎ (found ≡ Ok (Done said n)) → ((e : NoMemory) × (result ≡ Err e)) ⊎ (result ≡ told l.reading.place (Ok (Done said n)))
by_answer l said n result found is (inl (e, failed)) = inl (e, is ∙ ap (told l.reading.place) failed)
by_answer l said n result found is (inr done) = inr (is ∙ ap (told l.reading.place) done)

answered : (l : Listening) (piece a rest new : List ℕ) (said : Option Reply) (result : Result (ReadStep Reply) NoMemory) → HasNoMessage replies l.reading.held → ReplyFed l piece result new
    → l.reading.held ++ piece ≡ a ++ rest → Answers l a said
    → ((e : NoMemory) × (result ≡ Err e)) ⊎ (result ≡ told l.reading.place (Ok (Done said (length a - length l.reading.held))))
answered l piece a rest new said result none fed e x =
    let p = heard l piece result new fed in
    by_answer l said (length a - length l.reading.held) result p.0 p.2
    (frames.whole_done replies (plain of.Reply) (Answers l) (answer_is l) (one_answer l) l.reading.place l.reading.held piece a rest new said p.0 none p.1 e x)

pub reply_done : (l : Listening) → WholeReplyIsDone l
reply_done l piece a rest new reply result none fed e x = answered l piece a rest new (Some reply) result none fed e (answers_so l a reply x)

pub reply_bad : (l : Listening) → WholeReplyIsBad l
reply_bad l piece a rest new result none fed e x = answered l piece a rest new None result none fed e (answers_nothing l a x)
