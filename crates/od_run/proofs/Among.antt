-- What is among the things of a list.
use Rattle.std.proofs.Common.{ℕ, zero, suc, ◌<◌, List, [], ◌∷◌, length, get_or, refl, subst, arith}
use Rattle.std.specs.List.{AllByRecursion, Contains}

module _ {X : Type 0} where
  pub among-head : (x : X) (xs : List X) → Contains (x ∷ xs) x
  among-head x xs = (0, omega arith, refl)

  pub among-later : (x first : X) (xs : List X) → Contains xs x → Contains (first ∷ xs) x
  among-later x first xs there = (suc there.0, omega (arith, there.1), there.2)

  pub each-at : (P : X → Type 0) (xs : List X) (i : ℕ) (d : X) → AllByRecursion P xs → i < length xs → P (get_or xs i d)
  each-at P [] i d all less = absurd (omega (arith, less))
  each-at P (x ∷ xs) zero d all less = all.0
  each-at P (x ∷ xs) (suc i) d all less = each-at P xs i d all.1 (omega (arith, less))

  -- what holds of each holds of one
  pub of-each : (P : X → Type 0) (xs : List X) (x : X) → AllByRecursion P xs → Contains xs x → P x
  of-each P xs x all there = subst P there.2 (each-at P xs there.0 x all there.1)
