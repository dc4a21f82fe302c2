-- An element of which something holds, and each element with each later one, by recursion on the list.
use Rattle.std.proofs.Common.{◌≡◌, ◌⊎◌, inl, inr, ℕ, ◌<◌, zero, suc, Bool, true, false, cond, List, [], ◌∷◌, ◌++◌, length, filter, get_or, refl, sym, subst, ◌∙◌, arith}
use Rattle.std.specs.List.{AllPairs, AllByRecursion, Any, Contains}
use Rattle.std.proofs.lemmas.List.Elements.{All-from_recursion}
use Rattle.std.proofs.lemmas.List.Kept.{AllPairs-cons}
use Rattle.gd_names.proofs.Each.{AllPairs-nil, AllPairs-tail, each-later, each-append}

later-case : (A B C : Type 0) → B ⊎ C → (A ⊎ B) ⊎ C
later-case A B C (inl first) = inl (inr first)
later-case A B C (inr second) = inr second

module _ {X : Type 0} where
  abbrev pub SomeOf : (X → Type 0) → List X → Type 0
  SomeOf P [] = ⊥
  SomeOf P (x ∷ xs) = P x ⊎ SomeOf P xs

  -- an element that is this one
  abbrev pub Has : X → List X → Type 0
  Has x xs = SomeOf (λ (y : X). x ≡ y) xs

  pub some-so : (P Q : X → Type 0) → ((x : X) → P x → Q x) → (xs : List X) → SomeOf P xs → SomeOf Q xs
  some-so P Q so [] some = absurd some
  some-so P Q so (x ∷ xs) (inl here) = inl (so x here)
  some-so P Q so (x ∷ xs) (inr later) = inr (some-so P Q so xs later)

  pub some-left : (P : X → Type 0) (xs ys : List X) → SomeOf P xs → SomeOf P (xs ++ ys)
  some-left P [] ys some = absurd some
  some-left P (x ∷ xs) ys (inl here) = inl here
  some-left P (x ∷ xs) ys (inr later) = inr (some-left P xs ys later)

  pub some-right : (P : X → Type 0) (xs ys : List X) → SomeOf P ys → SomeOf P (xs ++ ys)
  some-right P [] ys some = some
  some-right P (x ∷ xs) ys some = inr (some-right P xs ys some)

  pub some-cases : (P : X → Type 0) (xs ys : List X) → SomeOf P (xs ++ ys) → SomeOf P xs ⊎ SomeOf P ys
  some-cases P [] ys some = inr some
  some-cases P (x ∷ xs) ys (inl here) = inl (inl here)
  some-cases P (x ∷ xs) ys (inr later) = later-case (P x) (SomeOf P xs) (SomeOf P ys) (some-cases P xs ys later)

  -- what holds of each element holds of one that is there
  pub each-has : (P : X → Type 0) (x : X) (xs : List X) → AllByRecursion P xs → Has x xs → P x
  each-has P x [] all has = absurd has
  each-has P x (y ∷ xs) all (inl same) = subst P (sym same) all.0
  each-has P x (y ∷ xs) all (inr later) = each-has P x xs all.1 later

  -- what holds of one that is there holds of some
  pub some-is : (P : X → Type 0) (x : X) (xs : List X) → P x → Has x xs → SomeOf P xs
  some-is P x [] holds has = absurd has
  some-is P x (y ∷ xs) holds (inl same) = inl (subst P same holds)
  some-is P x (y ∷ xs) holds (inr later) = inr (some-is P x xs holds later)

  pub has-some : (P : X → Type 0) (xs : List X) → SomeOf P xs → (x : X) × Has x xs × P x
  has-some P [] some = absurd some
  has-some P (x ∷ xs) (inl here) = (x, inl refl, here)
  has-some P (x ∷ xs) (inr later) = let rest : (y : X) × Has y xs × P y = has-some P xs later in (rest.0, inr rest.1, rest.2)

  -- what a test keeps
  has-if : (b : Bool) (test : X → Bool) (x y : X) (xs : List X) → test y ≡ b → test x ≡ true → Has x (y ∷ xs) → (Has x xs → Has x (filter test xs))
      → Has x (cond b (y ∷ filter test xs) (filter test xs))
  has-if true test x y xs kept is (inl same) later = inl same
  has-if true test x y xs kept is (inr more) later = inr (later more)
  has-if false test x y xs left is (inl same) later = absurd (let kept : test y ≡ true = subst (λ (z : X). test z ≡ true) same is in cc (sym kept ∙ left))
  has-if false test x y xs left is (inr more) later = later more

  pub has-filter : (test : X → Bool) (x : X) (xs : List X) → test x ≡ true → Has x xs → Has x (filter test xs)
  has-filter test x [] is has = absurd has
  has-filter test x (y ∷ xs) is has = has-if (test y) test x y xs refl is has (λ more. has-filter test x xs is more)

  -- ---- to and from the words that go by place
  pub any-from-some : (P : X → Type 0) (xs : List X) → SomeOf P xs → Any P xs
  any-from-some P [] some = absurd some
  any-from-some P (x ∷ xs) (inl here) = (0, x, omega arith, refl, here)
  any-from-some P (x ∷ xs) (inr later) =
      let rest : Any P xs = any-from-some P xs later in
      let lt : rest.0 < length xs = rest.2 in
      (suc rest.0, rest.1, omega arith, rest.3, rest.4)

  some-at : (P : X → Type 0) (xs : List X) (k : ℕ) (y : X) → k < length xs → get_or xs k y ≡ y → P y → SomeOf P xs
  some-at P [] k y lt same holds = absurd (omega (arith, lt))
  some-at P (x ∷ xs) zero y lt same holds = inl (subst P (sym same) holds)
  some-at P (x ∷ xs) (suc k) y lt same holds = inr (some-at P xs k y (omega (arith, lt)) same holds)

  pub some-from-any : (P : X → Type 0) (xs : List X) → Any P xs → SomeOf P xs
  some-from-any P xs there = some-at P xs there.0 there.1 there.2 there.3 there.4

  pub contains-from-has : (x : X) (xs : List X) → Has x xs → Contains xs x
  contains-from-has x [] has = absurd has
  contains-from-has x (y ∷ xs) (inl same) = (0, omega arith, sym same)
  contains-from-has x (y ∷ xs) (inr later) =
      let rest : Contains xs x = contains-from-has x xs later in
      let lt : rest.0 < length xs = rest.1 in
      (suc rest.0, omega arith, rest.2)

  pub has-from-contains : (x : X) (xs : List X) → Contains xs x → Has x xs
  has-from-contains x xs there = some-at (λ (y : X). x ≡ y) xs there.0 x there.1 there.2 refl

  -- ---- each element with each later one
  abbrev pub Paired : (X → X → Type 0) → List X → Type 0
  Paired R [] = Unit {0}
  Paired R (x ∷ xs) = AllByRecursion (R x) xs × Paired R xs

  pub paired : (R : X → X → Type 0) (xs : List X) → AllPairs R xs → Paired R xs
  paired R [] pairs = tt
  paired R (x ∷ xs) pairs = (each-later R x xs pairs, paired R xs (AllPairs-tail R x xs pairs))

  pub pairs-from : (R : X → X → Type 0) (xs : List X) → Paired R xs → AllPairs R xs
  pairs-from R [] each = AllPairs-nil R
  pairs-from R (x ∷ xs) each = AllPairs-cons R x xs (All-from_recursion (R x) xs each.0) (pairs-from R xs each.1)

  pub paired-append : (R : X → X → Type 0) (xs ys : List X) → Paired R xs → Paired R ys → AllByRecursion (λ (x : X). AllByRecursion (R x) ys) xs → Paired R (xs ++ ys)
  paired-append R [] ys first second both = second
  paired-append R (x ∷ xs) ys first second both = (each-append (R x) xs ys first.0 both.0, paired-append R xs ys first.1 second both.1)
