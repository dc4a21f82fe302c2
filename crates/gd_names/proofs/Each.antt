-- Facts on each element of a list, and on each pair of its elements.
use Rattle.std.proofs.Common.{suc, List, [], ◌∷◌, ◌++◌, arith}
use Rattle.std.specs.List.{All, AllPairs, AllByRecursion}
use Rattle.std.proofs.lemmas.List.Elements.{All-nil, All-cons, All-head, All-tail}

pub AllPairs-nil : {X : Type 0} (R : X → X → Type 0) → AllPairs R []
AllPairs-nil R i j d i<j j<0 = absurd (omega arith)

pub AllPairs-head : {X : Type 0} (R : X → X → Type 0) (x : X) (xs : List X) → AllPairs R (x ∷ xs) → All (R x) xs
AllPairs-head R x xs pairs k d lt = pairs 0 (suc k) d (omega arith) (omega arith)

pub AllPairs-tail : {X : Type 0} (R : X → X → Type 0) (x : X) (xs : List X) → AllPairs R (x ∷ xs) → AllPairs R xs
AllPairs-tail R x xs pairs i j d i<j j<n = pairs (suc i) (suc j) d (omega arith) (omega arith)

module _ {X : Type 0} where
  -- from place by place to element by element
  pub each : (P : X → Type 0) (xs : List X) → All P xs → AllByRecursion P xs
  each P [] all = tt
  each P (x ∷ xs) all = (All-head P x xs all, each P xs (All-tail P x xs all))

  -- and back
  pub all-each : (P : X → Type 0) (xs : List X) → AllByRecursion P xs → All P xs
  all-each P [] all = All-nil P
  all-each P (x ∷ xs) all = All-cons P x xs all.0 (all-each P xs all.1)

  pub each-later : (R : X → X → Type 0) (x : X) (xs : List X) → AllPairs R (x ∷ xs) → AllByRecursion (R x) xs
  each-later R x xs pairs = each (R x) xs (AllPairs-head R x xs pairs)

  -- what follows from one fact, or from two, of each
  pub each-so : (P Q : X → Type 0) → ((x : X) → P x → Q x) → (xs : List X) → AllByRecursion P xs → AllByRecursion Q xs
  each-so P Q so [] all = tt
  each-so P Q so (x ∷ xs) all = (so x all.0, each-so P Q so xs all.1)

  pub each-both : (P Q S : X → Type 0) → ((x : X) → P x → Q x → S x) → (xs : List X) → AllByRecursion P xs → AllByRecursion Q xs → AllByRecursion S xs
  each-both P Q S so [] all also = tt
  each-both P Q S so (x ∷ xs) all also = (so x all.0 also.0, each-both P Q S so xs all.1 also.1)

  pub each-always : (P : X → Type 0) → ((x : X) → P x) → (xs : List X) → AllByRecursion P xs
  each-always P always [] = tt
  each-always P always (x ∷ xs) = (always x, each-always P always xs)

  -- of two parts of a list
  pub each-append : (P : X → Type 0) (xs ys : List X) → AllByRecursion P xs → AllByRecursion P ys → AllByRecursion P (xs ++ ys)
  each-append P [] ys all also = also
  each-append P (x ∷ xs) ys all also = (all.0, each-append P xs ys all.1 also)

  pub each-first : (P : X → Type 0) (xs ys : List X) → AllByRecursion P (xs ++ ys) → AllByRecursion P xs
  each-first P [] ys each = tt
  each-first P (x ∷ xs) ys each = (each.0, each-first P xs ys each.1)

  pub each-second : (P : X → Type 0) (xs ys : List X) → AllByRecursion P (xs ++ ys) → AllByRecursion P ys
  each-second P [] ys each = each
  each-second P (x ∷ xs) ys each = each-second P xs ys each.1
