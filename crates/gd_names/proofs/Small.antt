-- Small facts on tests, options, lists and numbers.
use Rattle.std.proofs.Common.{◌≡◌, ℕ, ◌<◌, ◌≤◌, Bool, true, false, not, cond, ◌&&◌, ◌||◌, nat_eq, nat_lt, List, [], ◌∷◌, Option, Some, None, is_some, is_none, sym, refl, ap₂, ◌∙◌, ⊎_elim, arith}
use Rattle.std.specs.List.{list_any, find}
use Rattle.std.specs.Option.{option_map}
use Rattle.std.proofs.lemmas.Bool.{cond-true, cond-false, cases_Bool, not-false, or_parts, and_parts, ltb-false, ne_eqb, eq-eqb, both_ways}

-- ---- tests
pub un-not : (b : Bool) → not b ≡ false → b ≡ true
un-not b h = not-false b h

pub neither : (a b : Bool) → (a || b) ≡ false → (a ≡ false) × (b ≡ false)
neither a b h = or_parts a b h

pub both : (a b : Bool) → (a && b) ≡ true → (a ≡ true) × (b ≡ true)
both a b h = and_parts a b h

-- a list of causes with no refusal: the first test is false, and the others refuse nothing
pub clear : {Cause : Type 0} (test : Bool) (cause : Cause) (rest : Option Cause) → None ≡ cond test (Some cause) rest → (test ≡ false) × (None ≡ rest)
clear true cause rest h = absurd cc
clear false cause rest h = (refl, h)

pub none-given : (b : Bool) (x : ℕ) → cond b (Some x) None ≡ None → b ≡ false
none-given true x h = absurd cc
none-given false x h = refl

-- ---- options
pub mapped-none : {X Y : Type 0} (f : X → Y) (x : Option X) → option_map f x ≡ None → None ≡ x
mapped-none f None h = refl
mapped-none f (Some x) h = absurd cc

pub none-from : {X : Type 0} (x : Option X) → is_none x ≡ true → None ≡ x
none-from None h = refl
none-from (Some x) h = absurd cc

pub not-some : {T : Type 0} (found : Option T) → is_some found ≡ false → found ≡ None
not-some None h = refl
not-some (Some x) h = absurd cc

pub none_found : {X : Type 0} (test : X → Bool) (xs : List X) → find test xs ≡ None → list_any test xs ≡ false
none_found test [] none = refl
none_found test (x ∷ xs) none =
    ⊎_elim
    (λ here. absurd (let found = cond-true (test x) (Some x) (find test xs) here in cc))
    (λ here. ap₂ (λ a b. a || b) here (none_found test xs (sym (cond-false (test x) (Some x) (find test xs) here) ∙ none)))
    (cases_Bool (test x))

-- ---- numbers
pub not-below : (a b : ℕ) → nat_lt a b ≡ false → b ≤ a
not-below a b h = ltb-false a b h

pub not-one : (number : ℕ) → nat_eq number 1 ≡ false → nat_eq 1 number ≡ false
not-one number other = ne_eqb 1 number (λ same. both_ways (nat_eq number 1) other (eq-eqb number 1 (sym same)))

pub not-root : (number : ℕ) → 1 < number → nat_eq number 1 ≡ false
not-root number above = ne_eqb number 1 (λ same. omega arith)
