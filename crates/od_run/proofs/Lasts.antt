-- The last of the steps that are such, where one more step comes.
use Rattle.std.proofs.Common.{◌≡◌, Bool, true, false, ◌||◌, cond, List, [], ◌∷◌, ◌++◌, refl, ap, ◌∙◌}
use Rattle.std.specs.List.{list_any}
use Rattle.std.proofs.lemmas.Bool.{or_left, or_right}
use Rattle.std.proofs.lemmas.List.Folds.{list_any-append}
use Rattle.od_run.specs.Moments.{after_last, before_last}

or-none : (a : Bool) → (a || false) ≡ a
or-none true = refl
or-none false = refl

module _ {X : Type 0} (is : X → Bool) where
  pub any-hit : (xs : List X) (x : X) → is x ≡ true → list_any is (xs ++ x ∷ []) ≡ true
  any-hit xs x such = list_any-append is xs (x ∷ []) ∙ or_right (list_any is xs) (is x || false) (or_left (is x) false such)

  pub any-missed : (xs : List X) (x : X) → is x ≡ false → list_any is (xs ++ x ∷ []) ≡ list_any is xs
  any-missed xs x other = list_any-append is xs (x ∷ []) ∙ ap (λ b. list_any is xs || (b || false)) other ∙ or-none (list_any is xs)

  pub last-hit : (xs : List X) (x : X) → is x ≡ true → before_last is (xs ++ x ∷ []) ≡ xs
  last-hit [] x such = refl
  last-hit (first ∷ xs) x such =
      ap (λ b. cond b (first ∷ before_last is (xs ++ x ∷ [])) []) (any-hit xs x such) ∙ ap (λ ys. first ∷ ys) (last-hit xs x such)

  pub last-missed : (xs : List X) (x : X) → is x ≡ false → before_last is (xs ++ x ∷ []) ≡ before_last is xs
  last-missed [] x other = refl
  last-missed (first ∷ xs) x other =
      ap (λ b. cond b (first ∷ before_last is (xs ++ x ∷ [])) []) (any-missed xs x other)
      ∙ ap (λ ys. cond (list_any is xs) (first ∷ ys) []) (last-missed xs x other)

  -- the steps after the last one that is such
  after-hit : (xs ys : List X) (x : X) → is x ≡ true → list_any is (xs ++ x ∷ ys) ≡ true
  after-hit [] ys x such = or_left (is x) (list_any is ys) such
  after-hit (first ∷ xs) ys x such = or_right (is first) (list_any is (xs ++ x ∷ ys)) (after-hit xs ys x such)

  pub after-none : (xs ys : List X) (x : X) → is x ≡ true → list_any is ys ≡ false → after_last is (xs ++ x ∷ ys) ≡ ys
  after-none [] ys x such none = ap (λ b. cond b (after_last is ys) ys) none
  after-none (first ∷ xs) ys x such none = ap (λ b. cond b (after_last is (xs ++ x ∷ ys)) (xs ++ x ∷ ys)) (after-hit xs ys x such) ∙ after-none xs ys x such none
