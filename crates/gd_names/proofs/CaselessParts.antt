-- Names that are equal but for case, part by part.
use Rattle.std.proofs.Common.{◌≡◌, ℕ, Bool, true, false, ◌&&◌, List, [], ◌∷◌, ◌++◌, length, nat_eq, sym, refl, ap, ◌∙◌, arith}
use Rattle.std.specs.Char.{to_ascii_lowercase}
use Rattle.std.specs.Cmp.Lexicographic.{as_long}
use Rattle.std.proofs.Math.Bool.{and_assoc}
use Rattle.std.proofs.lemmas.Bool.{false_from_ne_true, and_left, and_right}
use Rattle.std.proofs.lemmas.List.{length-append, length-map}
use Rattle.gd_names.specs.Caseless.{lower_case, equal_caseless}

-- names that are equal but for case have one length
pub same_length : (a b : List ℕ) → equal_caseless a b ≡ true → length a ≡ length b
same_length a b same =
    sym (length-map a to_ascii_lowercase) ∙ (as_long nat_eq (lower_case a) (lower_case b) same ∙ length-map b to_ascii_lowercase)

pub unequal_lengths : (a b : List ℕ) → (length a ≡ length b → ⊥) → equal_caseless a b ≡ false
unequal_lengths a b differ = false_from_ne_true (equal_caseless a b) (λ same. differ (same_length a b same))

-- the two fronts are as long
pub fronts_apart : (begin front left rest : List ℕ) → length begin ≡ length front → equal_caseless (begin ++ left) (front ++ rest) ≡ (equal_caseless begin front && equal_caseless left rest)
fronts_apart [] [] left rest long = refl
fronts_apart [] (y ∷ front) left rest long = absurd (omega arith)
fronts_apart (x ∷ begin) [] left rest long = absurd (omega arith)
fronts_apart (x ∷ begin) (y ∷ front) left rest long =
    let first = nat_eq (to_ascii_lowercase x) (to_ascii_lowercase y) in
    ap (λ b. first && b) (fronts_apart begin front left rest (omega arith)) ∙ sym (and_assoc first (equal_caseless begin front) (equal_caseless left rest))

-- the two ends are as long
pub ends_apart : (left rest last end : List ℕ) → length last ≡ length end → equal_caseless (left ++ last) (rest ++ end) ≡ (equal_caseless left rest && equal_caseless last end)
ends_apart [] [] last end long = refl
ends_apart [] (y ∷ rest) last end long = unequal_lengths last (y ∷ (rest ++ end)) (λ e. omega (arith, length-append rest end))
ends_apart (x ∷ left) [] last end long = unequal_lengths (x ∷ (left ++ last)) end (λ e. omega (arith, length-append left last))
ends_apart (x ∷ left) (y ∷ rest) last end long =
    let first = nat_eq (to_ascii_lowercase x) (to_ascii_lowercase y) in
    ap (λ b. first && b) (ends_apart left rest last end (omega arith)) ∙ sym (and_assoc first (equal_caseless left rest) (equal_caseless last end))

and_true : (b : Bool) → (b && true) ≡ b
and_true true = refl
and_true false = refl

-- a text cut after its front, or before its end
module _ (text first second : List ℕ) (is_text : text ≡ first ++ second) where
  pub front_is : (front : List ℕ) → length first ≡ length front → equal_caseless first front ≡ true → (rest : List ℕ) → equal_caseless text (front ++ rest) ≡ equal_caseless second rest
  front_is front long same rest =
      ap (λ xs. equal_caseless xs (front ++ rest)) is_text ∙ (fronts_apart first front second rest long ∙ ap (λ b. b && equal_caseless second rest) same)

  pub front_is_not : (front : List ℕ) → length first ≡ length front → equal_caseless first front ≡ false → (rest : List ℕ) → equal_caseless text (front ++ rest) ≡ false
  front_is_not front long other rest =
      ap (λ xs. equal_caseless xs (front ++ rest)) is_text ∙ (fronts_apart first front second rest long ∙ and_left (equal_caseless first front) (equal_caseless second rest) other)

  pub end_is : (end : List ℕ) → length second ≡ length end → equal_caseless second end ≡ true → (rest : List ℕ) → equal_caseless text (rest ++ end) ≡ equal_caseless first rest
  end_is end long same rest =
      ap (λ xs. equal_caseless xs (rest ++ end)) is_text ∙ (ends_apart first rest second end long ∙ (ap (λ b. equal_caseless first rest && b) same ∙ and_true (equal_caseless first rest)))

  pub end_is_not : (end : List ℕ) → length second ≡ length end → equal_caseless second end ≡ false → (rest : List ℕ) → equal_caseless text (rest ++ end) ≡ false
  end_is_not end long other rest =
      ap (λ xs. equal_caseless xs (rest ++ end)) is_text ∙ (ends_apart first rest second end long ∙ and_right (equal_caseless first rest) (equal_caseless second end) other)
