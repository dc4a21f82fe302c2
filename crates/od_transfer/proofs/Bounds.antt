-- How far a count rose over the outcomes of jobs, of which each of some kind raised it.
use Rattle.std.proofs.Common.{◌≡◌, ℕ, ◌+◌, ◌≤◌, Bool, true, false, not, ◌||◌, cond, List, [], ◌∷◌, ◌++◌, refl, ap, sym, ◌∙◌, subst, arith}
use Rattle.std.specs.List.{count_by, list_any}
use Rattle.std.proofs.lemmas.List.Sums.{sum_by-append, sum_by-cons}
use Rattle.gd_names.specs.Streams.{Rose}
use Rattle.od_transfer.specs.Asking.{RoseBy}
use Rattle.od_transfer.specs.Fits.{is_lost}
use Rattle.od_transfer.specs.declared.job.Outcome.{Outcome}

-- it rose by so many, and then by so many more
pub rose-then : (by more first middle last : ℕ) → RoseBy by first middle → RoseBy more middle last → RoseBy (by + more) first last
rose-then by more first middle last one next = omega (arith, one, next)

rose-one : (b : Bool) (middle last : ℕ) → middle ≤ last → (b ≡ true → Rose middle last) → RoseBy (cond b 1 0) middle last
rose-one true middle last later rose = rose refl
rose-one false middle last later rose = omega (arith, later)

count-cons : {X : Type 0} (test : X → Bool) (x : X) (xs : List X) → count_by test (x ∷ xs) ≡ cond (test x) 1 0 + count_by test xs
count-cons test x xs = sum_by-cons (λ y. cond (test y) 1 0) x xs

count-push : {X : Type 0} (test : X → Bool) (xs : List X) (x : X) → count_by test (xs ++ x ∷ []) ≡ count_by test xs + cond (test x) 1 0
count-push test xs x =
    let both : count_by test (xs ++ x ∷ []) ≡ count_by test xs + count_by test (x ∷ []) = sum_by-append (λ y. cond (test y) 1 0) xs (x ∷ []) in
    let last : count_by test (x ∷ []) ≡ cond (test x) 1 0 + 0 = count-cons test x [] in
    omega (arith, both, last)

-- one step of a loop over the jobs
pub rose-step : {X : Type 0} (test : X → Bool) (xs new : List X) (x : X) (first middle last : ℕ) → new ≡ xs ++ x ∷ [] → RoseBy (count_by test xs) first middle
    → middle ≤ last → (test x ≡ true → Rose middle last) → RoseBy (count_by test new) first last
rose-step test xs new x first middle last is before later rose =
    let count_is : count_by test xs + cond (test x) 1 0 ≡ count_by test new = sym (ap (λ ys. count_by test ys) is ∙ count-push test xs x) in
    subst (λ count. RoseBy count first last) count_is
    (rose-then (count_by test xs) (cond (test x) 1 0) first middle last before (rose-one (test x) middle last later rose))

-- an outcome that is not lost
not-false : (b : Bool) → not b ≡ true → b ≡ false
not-false true is = absurd (cc is)
not-false false is = refl

pub other-rose : (outcome : Outcome) (before now : ℕ) → (is_lost outcome ≡ false → Rose before now) → not (is_lost outcome) ≡ true → Rose before now
other-rose outcome before now rose is = rose (not-false (is_lost outcome) is)

-- one that is such is counted
some-counted : (b : Bool) (more count : ℕ) (others : Bool) → count ≡ cond b 1 0 + more → (others ≡ true → 1 ≤ more) → (b || others) ≡ true → 1 ≤ count
some-counted true more count others is later some = omega (arith, is)
some-counted false more count others is later some = let one : 1 ≤ more = later some in omega (arith, is, one)

any-counted : {X : Type 0} (test : X → Bool) (xs : List X) → list_any test xs ≡ true → 1 ≤ count_by test xs
any-counted test [] some = absurd (cc some)
any-counted test (x ∷ xs) some =
    some-counted (test x) (count_by test xs) (count_by test (x ∷ xs)) (list_any test xs) (count-cons test x xs) (any-counted test xs) some

pub some_lost : (outcomes : List Outcome) (before now : ℕ) → RoseBy (count_by is_lost outcomes) before now → list_any is_lost outcomes ≡ true → Rose before now
some_lost outcomes before now rose some =
    let one : 1 ≤ count_by is_lost outcomes = any-counted is_lost outcomes some in
    omega (arith, rose, one)
