-- A text is another in double quotes.
use Rattle.std.proofs.Common.{◌≡◌, ℕ, ◌+◌, ◌-◌, Bool, true, false, ◌&&◌, List, [], ◌∷◌, ◌++◌, length, get_or, take, drop, nat_eq, sym, ap, ◌∙◌, arith, add-one}
use Rattle.std.proofs.Math.Bool.{and-true}
use Rattle.std.proofs.lemmas.Bool.{ne_eqb}
use Rattle.std.specs.Cmp.Lexicographic.{pointwise}

and_assoc : (a b c : Bool) → (a && (b && c)) ≡ (a && b && c)
and_assoc a b c = grind arith

and_swap : (a b : Bool) → (a && b) ≡ (b && a)
and_swap a b = grind arith

-- a text and another with a last byte
with_last : (xs ys : List ℕ) (last : ℕ) → length xs ≡ length ys + 1
    → pointwise nat_eq xs (ys ++ last ∷ []) ≡ (pointwise nat_eq (take (length ys) xs) ys && nat_eq (get_or xs (length ys) 0) last)
with_last [] ys last long = absurd (omega arith)
with_last (x ∷ []) [] last long = and_swap (nat_eq x last) true
with_last (x ∷ y ∷ xs) [] last long = absurd (omega arith)
with_last (x ∷ xs) (y ∷ ys) last long =
    ap (λ t. nat_eq x y && t) (with_last xs ys last (omega arith))
    ∙ and_assoc (nat_eq x y) (pointwise nat_eq (take (length ys) xs) ys) (nat_eq (get_or xs (length ys) 0) last)

quoted_is : (text bare : List ℕ) → length text ≡ length bare + 2
    → pointwise nat_eq text (34 ∷ (bare ++ 34 ∷ [])) ≡ (nat_eq (get_or text 0 0) 34 && (pointwise nat_eq (take (length bare) (drop 1 text)) bare && nat_eq (get_or text (length bare + 1) 0) 34))
quoted_is [] bare long = absurd (omega arith)
quoted_is (b ∷ text) bare long = rw add-one (ap (λ t. nat_eq b 34 && t) (with_last text bare 34 (omega arith)))

-- a text that does not begin with a quote, one that does not end with one, and one that does both
pub other_first : (text bare : List ℕ) → length text ≡ length bare + 2 → (get_or text 0 0 ≡ 34 → ⊥) → false ≡ pointwise nat_eq text (34 ∷ (bare ++ 34 ∷ []))
other_first text bare long differs = rw (quoted_is text bare long, ne_eqb _ _ differs)

pub other_last : (text bare : List ℕ) → length text ≡ length bare + 2 → (get_or text (length bare + 1) 0 ≡ 34 → ⊥) → false ≡ pointwise nat_eq text (34 ∷ (bare ++ 34 ∷ []))
other_last text bare long differs = rw (quoted_is text bare long, ne_eqb _ _ differs) (grind arith)

pub in_quotes : (text bare middle : List ℕ) → length text ≡ length bare + 2 → get_or text 0 0 ≡ 34 → get_or text (length bare + 1) 0 ≡ 34
    → middle ≡ take (length bare + 1 - 1) (drop 1 text) → pointwise nat_eq middle bare ≡ pointwise nat_eq text (34 ∷ (bare ++ 34 ∷ []))
in_quotes text bare middle long first last is =
    let length_is : length bare + 1 - 1 ≡ length bare = omega arith in
    rw (is, length_is, quoted_is text bare long, first, last) (sym (and-true _))
