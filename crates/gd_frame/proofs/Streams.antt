-- A message ends after what was held, begins no other, and is the only one at the front of its stream.
use Rattle.std.proofs.Common.{◌≡◌, ℕ, ◌+◌, ◌-◌, ◌≤◌, List, [], ◌∷◌, ◌++◌, length, take, drop, inl, inr, refl, sym, ap, subst, ◌∙◌, arith, append-nil, length-append}
use Rattle.std.proofs.lemmas.Bool.{cases_lt}
use Rattle.std.proofs.lemmas.List.{append_cancel_left, take_at, take-append-le, take-append-drop, nil_from_length}
use Rattle.std.proofs.Math.Seq.{take-append-add}
use Rattle.gd_frame.specs.Syntax.{Syntax}
use Rattle.gd_frame.specs.Messages.{IsMessage, HasNoMessage}
use Rattle.gd_frame.specs.Splitting.{Splits}
use Rattle.gd_frame.proofs.Heads.{Plain, ok_is, same_head}

-- a message is whole only with bytes of the new piece
pub ends_later : (s : Syntax) (held piece : List ℕ) (end : ℕ) → HasNoMessage s held → IsMessage s (take end (held ++ piece)) → length held ≤ end
ends_later s held piece end none x =
    elim (cases_lt end (length held)) [
      | inl lt ↦ absurd (none (take end held) (drop end held) (sym (take-append-drop end held)) (subst (IsMessage s) (take-append-le end held piece (omega arith)) x))
      | inr le ↦ le
    ]

pub with_piece : (held piece : List ℕ) (end : ℕ) → length held ≤ end → take end (held ++ piece) ≡ held ++ take (end - length held) piece
with_piece held piece end within =
    let split : end ≡ length held + (end - length held) = omega arith in
    ap (λ (k : ℕ). take k (held ++ piece)) split ∙ take-append-add held piece (end - length held)

-- no message is a proper prefix of another, and the head and the body of one are determined
pub one_message : (s : Syntax) → Plain s → (a b : List ℕ) (x : IsMessage s a) (y : IsMessage s (a ++ b)) → (b ≡ []) × (x.head ≡ y.head) × (x.body ≡ y.body)
one_message s p a b x y =
    let same = same_head s p a b (a ++ b) [] x.body x.head x.begins.reads (sym (append-nil (a ++ b))) y in
    let len : length x.body ≡ length y.body = ok_is (sym x.framed ∙ ap s.announced same.0 ∙ y.framed) in
    let whole : x.body ++ b ≡ y.body = same.1 ∙ append-nil y.body in
    let nothing : b ≡ [] = nil_from_length b (omega (arith, len, ap length whole, length-append x.body b)) in
    (nothing, same.0, sym (append-nil x.body) ∙ ap (λ (t : List ℕ). x.body ++ t) (sym nothing) ∙ whole)

-- where two lists go on to one, the shorter one begins the longer one
begins : (a b x y : List ℕ) → a ++ x ≡ b ++ y → length a ≤ length b → b ≡ a ++ drop (length a) b
begins a b x y e short =
    let front : take (length a) b ≡ a = sym (take-append-le (length a) b y short) ∙ ap (take (length a)) (sym e) ∙ take_at a x (length a) refl in
    sym (take-append-drop (length a) b) ∙ ap (λ (t : List ℕ). t ++ drop (length a) b) front

ordered : (s : Syntax) → Plain s → (a b x y : List ℕ) → IsMessage s a → IsMessage s b → a ++ x ≡ b ++ y → length a ≤ length b → (a ≡ b) × (x ≡ y)
ordered s p a b x y m n e short =
    let more = drop (length a) b in
    let longer = begins a b x y e short in
    let one = one_message s p a more m (subst (IsMessage s) longer n) in
    let same : a ≡ b = sym (longer ∙ ap (λ (t : List ℕ). a ++ t) one.0 ∙ append-nil a) in
    (same, append_cancel_left a x y (e ∙ ap (λ (t : List ℕ). t ++ y) (sym same)))

-- the message at the front of a stream is one, and so is where it ends
pub same_message : (s : Syntax) → Plain s → (a b x y : List ℕ) → IsMessage s a → IsMessage s b → a ++ x ≡ b ++ y → (a ≡ b) × (x ≡ y)
same_message s p a b x y m n e =
    elim (cases_lt (length b) (length a)) [
      | inl lt ↦ let h = ordered s p b a y x n m (sym e) (omega arith) in (sym h.0, sym h.1)
      | inr le ↦ ordered s p a b x y m n e le
    ]

pub one_reading : (s : Syntax) → Plain s → (ms ns : List (List ℕ)) (stream r q : List ℕ) → Splits s stream ms r → Splits s stream ns q → HasNoMessage s r → HasNoMessage s q → (ms ≡ ns) × (r ≡ q)
one_reading s p [] [] stream r q f g none never = (refl, sym f ∙ g)
one_reading s p [] (n ∷ ns) stream r q f g none never = absurd (none n g.0 (sym f ∙ g.1) g.2)
one_reading s p (m ∷ ms) [] stream r q f g none never = absurd (never m f.0 (sym g ∙ f.1) f.2)
one_reading s p (m ∷ ms) (n ∷ ns) stream r q f g none never =
    let first = same_message s p m n f.0 g.0 f.2 g.2 (sym f.1 ∙ g.1) in
    let others = one_reading s p ms ns f.0 r q f.3 (subst (λ x. Splits s x ns q) (sym first.1) g.3) none never in
    (rw (first.0, others.0) refl, others.1)
