-- What feeding gives is determined by the bytes that are there.
use Rattle.std.proofs.Common.{◌≡◌, ℕ, ◌+◌, ◌-◌, List, [], ◌++◌, ◌⊎◌, length, take, drop, Result, Ok, Err, inl, inr, refl, sym, ap, subst, ◌∙◌, arith, append_assoc, append-nil, length-append}
use Rattle.std.proofs.lemmas.List.{take-append-drop, length-take-le}
use Rattle.gd_names.specs.declared.memory.NoMemory.{NoMemory}
use Rattle.gd_frame.specs.declared.message.Kind.TheVariants.{Request, Reply}
use Rattle.gd_frame.specs.declared.frame.RequestFrame.{RequestFrame}
use Rattle.gd_frame.specs.declared.frame.ReplyFrame.{ReplyFrame}
use Rattle.gd_frame.specs.declared.step.ReadStep.{ReadStep}
use Rattle.gd_frame.specs.declared.step.ReadStep.TheVariants.{Need, Done, Bad}
use Rattle.gd_frame.specs.Syntax.{Syntax, requests, replies}
use Rattle.gd_frame.specs.Messages.{IsMessage, HasNoMessage, HasCause, Awaits}
use Rattle.gd_frame.specs.Frames.{request_frame, reply_frame, IsRequest, IsReply}
use Rattle.gd_frame.specs.Feeding.{Fed}
use Rattle.gd_frame.specs.Laws.{OneFrame, SameStep}
use Rattle.gd_frame.proofs.Heads.{Plain, plain, same_parts, cause_never, one_cause, waits_only}
use Rattle.gd_frame.proofs.Streams.{same_message}

pub one_request : (bytes : List ℕ) (f g : RequestFrame) → IsRequest bytes f → IsRequest bytes g → f ≡ g
one_request bytes f g x y =
    let same = same_parts requests (plain Request) bytes x.0 y.0 in
    x.1 ∙ ap (λ h. request_frame h x.0.body) same.0 ∙ ap (request_frame y.0.head) same.1 ∙ sym y.1

pub one_reply : (bytes : List ℕ) (f g : ReplyFrame) → IsReply bytes f → IsReply bytes g → f ≡ g
one_reply bytes f g x y =
    let same = same_parts replies (plain Reply) bytes x.0 y.0 in
    x.1 ∙ ap (λ h. reply_frame h x.0.body) same.0 ∙ ap (reply_frame y.0.head) same.1 ∙ sym y.1

module _ {F : Type 0} (s : Syntax) (p : Plain s) (Is : List ℕ → F → Type 0) (is : (bytes : List ℕ) (f : F) → Is bytes f → IsMessage s bytes) (one : OneFrame Is) where
  pub whole_done : (place : ℕ) (held piece a rest new : List ℕ) (f : F) (result : Result (ReadStep F) NoMemory) → HasNoMessage s held → Fed s Is place held piece result new
      → held ++ piece ≡ a ++ rest → Is a f → ((e : NoMemory) × (result ≡ Err e)) ⊎ (result ≡ Ok (Done f (length a - length held)))
  whole_done place held piece a rest new f (Ok Need) none fed e x = absurd (fed.0 a rest e (is a f x))
  whole_done place held piece a rest new f (Ok (Bad at cause)) none fed e x = absurd (cause_never s p cause (held ++ piece) fed.1 [] a rest (append-nil (held ++ piece) ∙ e) (is a f x))
  whole_done place held piece a rest new f (Err e') none fed e x = inl (e', refl)
  whole_done place held piece a rest new f (Ok (Done g used)) none fed e x =
      let there : held ++ piece ≡ (held ++ take used piece) ++ drop used piece = ap (λ (t : List ℕ). held ++ t) (sym (take-append-drop used piece)) ∙ sym (append_assoc held (take used piece) (drop used piece)) in
      let same = same_message s p a (held ++ take used piece) rest (drop used piece) (is a f x) (is (held ++ take used piece) g fed.1) (sym e ∙ there) in
      let count : used ≡ length a - length held = omega (arith, ap length same.0, length-append held (take used piece), length-take-le used piece fed.0) in
      inr (rw (one a f g x (subst (λ b. Is b g) (sym same.0) fed.1), ← count) refl)

  -- the bytes of a message and what follows it
  parted : (held piece : List ℕ) (used : ℕ) → held ++ piece ≡ (held ++ take used piece) ++ drop used piece
  parted held piece used = ap (λ (t : List ℕ). held ++ t) (sym (take-append-drop used piece)) ∙ sym (append_assoc held (take used piece) (drop used piece))

  pub cut_anywhere : (place : ℕ) (held a b middle new once : List ℕ) (x y : Result (ReadStep F) NoMemory) → Fed s Is place held a (Ok Need) middle
      → Fed s Is place middle b x new → Fed s Is place held (a ++ b) y once → SameStep (length a) x y
  cut_anywhere place held a b middle new once (Err e) y first u v = tt
  cut_anywhere place held a b middle new once (Ok x) (Err e) first u v = tt
  cut_anywhere place held a b middle new once (Ok Need) (Ok Need) first u v = tt
  cut_anywhere place held a b middle new once (Ok Need) (Ok (Done g total)) first u v =
      let all : middle ++ b ≡ held ++ (a ++ b) = ap (λ (t : List ℕ). t ++ b) first.2 ∙ append_assoc held a b in
      absurd (u.0 (held ++ take total (a ++ b)) (drop total (a ++ b)) (all ∙ parted held (a ++ b) total) (is (held ++ take total (a ++ b)) g v.1))
  cut_anywhere place held a b middle new once (Ok Need) (Ok (Bad at cause)) first u v =
      let all : middle ++ b ≡ held ++ (a ++ b) = ap (λ (t : List ℕ). t ++ b) first.2 ∙ append_assoc held a b in
      absurd (waits_only s p (held ++ (a ++ b)) cause (subst (Awaits s) all u.1) v.1)
  cut_anywhere place held a b middle new once (Ok (Done f used)) (Ok Need) first u v =
      let all : middle ++ b ≡ held ++ (a ++ b) = ap (λ (t : List ℕ). t ++ b) first.2 ∙ append_assoc held a b in
      absurd (v.0 (middle ++ take used b) (drop used b) (sym all ∙ parted middle b used) (is (middle ++ take used b) f u.1))
  cut_anywhere place held a b middle new once (Ok (Done f used)) (Ok (Done g total)) first u v =
      let all : middle ++ b ≡ held ++ (a ++ b) = ap (λ (t : List ℕ). t ++ b) first.2 ∙ append_assoc held a b in
      let same = same_message s p (middle ++ take used b) (held ++ take total (a ++ b)) (drop used b) (drop total (a ++ b)) (is (middle ++ take used b) f u.1) (is (held ++ take total (a ++ b)) g v.1) (sym (parted middle b used) ∙ all ∙ parted held (a ++ b) total) in
      let count : total ≡ length a + used = omega (arith, ap length same.0, length-append middle (take used b), length-append held (take total (a ++ b)), length-take-le used b u.0, length-take-le total (a ++ b) v.0, ap length first.2, length-append held a) in
      (one (held ++ take total (a ++ b)) f g (subst (λ t. Is t f) same.0 u.1) v.1, count)
  cut_anywhere place held a b middle new once (Ok (Done f used)) (Ok (Bad at cause)) first u v =
      let all : middle ++ b ≡ held ++ (a ++ b) = ap (λ (t : List ℕ). t ++ b) first.2 ∙ append_assoc held a b in
      absurd (cause_never s p cause (held ++ (a ++ b)) v.1 [] (middle ++ take used b) (drop used b) (append-nil (held ++ (a ++ b)) ∙ sym all ∙ parted middle b used) (is (middle ++ take used b) f u.1))
  cut_anywhere place held a b middle new once (Ok (Bad at cause)) (Ok Need) first u v =
      let all : middle ++ b ≡ held ++ (a ++ b) = ap (λ (t : List ℕ). t ++ b) first.2 ∙ append_assoc held a b in
      absurd (waits_only s p (held ++ (a ++ b)) cause v.1 (subst (HasCause s cause) all u.1))
  cut_anywhere place held a b middle new once (Ok (Bad at cause)) (Ok (Done g total)) first u v =
      let all : middle ++ b ≡ held ++ (a ++ b) = ap (λ (t : List ℕ). t ++ b) first.2 ∙ append_assoc held a b in
      absurd (cause_never s p cause (middle ++ b) u.1 [] (held ++ take total (a ++ b)) (drop total (a ++ b)) (append-nil (middle ++ b) ∙ all ∙ parted held (a ++ b) total) (is (held ++ take total (a ++ b)) g v.1))
  cut_anywhere place held a b middle new once (Ok (Bad at cause)) (Ok (Bad place' other)) first u v =
      let all : middle ++ b ≡ held ++ (a ++ b) = ap (λ (t : List ℕ). t ++ b) first.2 ∙ append_assoc held a b in
      (u.0 ∙ sym v.0, one_cause s p (held ++ (a ++ b)) cause other (subst (HasCause s cause) all u.1) v.1)
