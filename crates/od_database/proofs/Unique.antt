-- Rows that ascend strictly by path are the one order of them that is sorted by path.
use Rattle.std.proofs.Common.{◌≡◌, ℕ, suc, ◌+◌, ◌≤◌, Bool, cond, sum_by, arith, is_eq, true, false, ◌&&◌, List, [], ◌∷◌, Option, Some, refl, sym, ap, ◌∙◌, subst, Ordering, Less, Equal, Greater, IsPermutation, IsSorted, is_lt, true≢false}
use Rattle.std.specs.Ordering.{ordering_reverse}
use Rattle.std.proofs.lemmas.Cmp.{tied_itself}
use Rattle.std.specs.Cmp.{IsStrictWeakOrder, IsTotalOrder, on_total, nat_cmp_total}
use Rattle.std.specs.Cmp.Lexicographic.{lists_total}
use Rattle.std.proofs.lemmas.List.Sums.{sum_by-cons}
use Rattle.std.proofs.lemmas.List.Sorted.{sum_by-IsPermutation, ranks_by}
use Rattle.gd_item.specs.declared.item.Item.{Item}
use Rattle.od_keeper.specs.Images.{by_id, by_path}
use Rattle.od_keeper.specs.declared.image.BaseRow.{BaseRow}
use Rattle.od_keeper.specs.declared.image.Image.{Image}
use Rattle.od_database.specs.Agreements.{base_of}
use Rattle.od_database.specs.Entries.{item_of}
use Rattle.od_database.specs.Stored.{ascends, ascends_from, is_less, IsImageOf}
use Rattle.od_database.specs.Writes.{collected}
use Rattle.od_database.specs.declared.tables.Tables.{Tables}

path-total : IsTotalOrder by_path
path-total = on_total (λ (base : BaseRow). base.path) (lists_total (lists_total nat_cmp_total))

less-of : (o : Ordering) → is_less o ≡ true → o ≡ Less
less-of Less h = refl
less-of Equal h = absurd (true≢false (sym h))
less-of Greater h = absurd (true≢false (sym h))

first-of : (a b : Bool) → (a && b) ≡ true → a ≡ true
first-of true b h = refl
first-of false b h = h

second-of : (a b : Bool) → (a && b) ≡ true → b ≡ true
second-of true b h = h
second-of false b h = absurd (true≢false (sym h))

tie : BaseRow → BaseRow → ℕ
tie x z = cond (is_eq (by_path x z)) 1 0

more : (x z : BaseRow) (zs : List BaseRow) → sum_by (tie x) (z ∷ zs) ≡ tie x z + sum_by (tie x) zs
more x z zs = sum_by-cons (tie x) z zs

tie-one : (x z : BaseRow) → by_path x z ≡ Equal → tie x z ≡ 1
unfolding tie
tie-one x z e = ap (λ (o : Ordering). cond (is_eq o) 1 0) e

tie-of : (x z : BaseRow) (o : Ordering) → by_path x z ≡ o → is_eq o ≡ false → tie x z ≡ 0
unfolding tie
tie-of x z o e h = ap (λ (o : Ordering). cond (is_eq o) 1 0) e ∙ ap (λ (b : Bool). cond b 1 0) h

-- of what ascends strictly from above x, nothing ties with x
none-ties : (x y : BaseRow) (ys : List BaseRow) → by_path x y ≡ Less → ascends_from by_path y ys ≡ true → sum_by (tie x) ys ≡ 0
none-ties x y [] h up = refl
none-ties x y (z ∷ ys) h up =
    let next : by_path y z ≡ Less = less-of (by_path y z) (first-of (is_less (by_path y z)) (ascends_from by_path z ys) up) in
    let here : by_path x z ≡ Less = path-total.trans x y z h next in
    let rest : sum_by (tie x) ys ≡ 0 = none-ties x z ys here (second-of (is_less (by_path y z)) (ascends_from by_path z ys) up) in
    let zero : tie x z ≡ 0 = tie-of x z Less here refl in
    omega (arith, rest, zero, more x z ys)

tie-small-by : (b : Bool) → cond b 1 0 ≤ 1
tie-small-by true = omega arith
tie-small-by false = omega arith

tie-small : (x z : BaseRow) → tie x z ≤ 1
unfolding tie
tie-small x z = tie-small-by (is_eq (by_path x z))

few-by : (x y : BaseRow) (ys : List BaseRow) (o : Ordering) → by_path x y ≡ o → ascends_from by_path y ys ≡ true → sum_by (tie x) (y ∷ ys) ≤ 1
few-by x y [] o e up = let none : sum_by (tie x) [] ≡ 0 = refl in let small : tie x y ≤ 1 = tie-small x y in omega (arith, small, more x y [], none)
few-by x y (z ∷ ys) Equal e up =
    let next : by_path y z ≡ Less = less-of (by_path y z) (first-of (is_less (by_path y z)) (ascends_from by_path z ys) up) in
    let here : by_path x z ≡ Less = path-total.congr x y z e ∙ next in
    let rest : sum_by (tie x) ys ≡ 0 = none-ties x z ys here (second-of (is_less (by_path y z)) (ascends_from by_path z ys) up) in
    let zero : tie x z ≡ 0 = tie-of x z Less here refl in
    let small : tie x y ≤ 1 = tie-small x y in
    omega (arith, rest, zero, small, more x y (z ∷ ys), more x z ys)
few-by x y (z ∷ ys) Less e up =
    let rest : sum_by (tie x) (z ∷ ys) ≤ 1 = few-by x z ys (by_path x z) refl (second-of (is_less (by_path y z)) (ascends_from by_path z ys) up) in
    let zero : tie x y ≡ 0 = tie-of x y Less e refl in
    omega (arith, rest, zero, more x y (z ∷ ys))
few-by x y (z ∷ ys) Greater e up =
    let rest : sum_by (tie x) (z ∷ ys) ≤ 1 = few-by x z ys (by_path x z) refl (second-of (is_less (by_path y z)) (ascends_from by_path z ys) up) in
    let zero : tie x y ≡ 0 = tie-of x y Greater e refl in
    omega (arith, rest, zero, more x y (z ∷ ys))

few : (x : BaseRow) (rows : List BaseRow) → ascends by_path rows ≡ true → sum_by (tie x) rows ≤ 1
few x [] up = omega arith
few x (y ∷ ys) up = few-by x y ys (by_path x y) refl up

-- what is sorted, and has no two that tie, ascends strictly
strict-by : (o p : Ordering) → o ≡ ordering_reverse p → is_lt p ≡ false → (o ≡ Equal → ⊥) → is_less o ≡ true
strict-by Less p e h apart = refl
strict-by Equal p e h apart = absurd (apart refl)
strict-by Greater Less e h apart = absurd (true≢false h)
strict-by Greater Equal e h apart = cc
strict-by Greater Greater e h apart = cc

both : (a b : Bool) → a ≡ true → b ≡ true → (a && b) ≡ true
both a b h k = rw (h, k)

strict-from : (x : BaseRow) (xs : List BaseRow) → IsSorted by_path (x ∷ xs) → ((z : BaseRow) → sum_by (tie z) (x ∷ xs) ≤ 1) → ascends_from by_path x xs ≡ true
strict-from x [] sorted one = refl
strict-from x (y ∷ ys) sorted one =
    let tail : IsSorted by_path (y ∷ ys) = λ k d p q. rw Rattle.std.proofs.Common.add-one (rw Rattle.std.proofs.Common.add-one at (sorted (suc k) d (omega arith) (omega arith))) in
    let self : tie x x ≡ 1 = tie-one x x (tied_itself path-total x) in
    let apart : by_path x y ≡ Equal → ⊥ = λ e.
    let two : tie x y ≡ 1 = tie-one x y e in
    absurd (omega (arith, self, two, one x, more x x (y ∷ ys), more x y ys)) in
    let here : is_less (by_path x y) ≡ true = strict-by (by_path x y) (by_path y x) (path-total.antisymm x y) (sorted 0 x (omega arith) (omega arith)) apart in
    let rest : ascends_from by_path y ys ≡ true = strict-from y ys tail (λ z. omega (arith, one z, more z x (y ∷ ys))) in
    both (is_less (by_path x y)) (ascends_from by_path y ys) here rest

strict : (xs : List BaseRow) → IsSorted by_path xs → ((z : BaseRow) → sum_by (tie z) xs ≤ 1) → ascends by_path xs ≡ true
strict [] sorted one = refl
strict (x ∷ xs) sorted one = strict-from x xs sorted one

one-order : (read rows sorted : List BaseRow) → IsPermutation read rows → ascends by_path rows ≡ true → IsPermutation read sorted → IsSorted by_path sorted → ascends by_path sorted ≡ true
one-order read rows sorted first up second ordered = strict sorted ordered (λ z.
    let a : sum_by (tie z) sorted ≡ sum_by (tie z) read = sum_by-IsPermutation (tie z) read sorted second in
    let b : sum_by (tie z) rows ≡ sum_by (tie z) read = sum_by-IsPermutation (tie z) read rows first in
    let c : sum_by (tie z) rows ≤ 1 = few z rows up in
    omega (arith, a, b, c))

pub by-path-ranks : IsStrictWeakOrder (λ x y. is_lt (by_path x y))
by-path-ranks = ranks_by (lists_total (lists_total nat_cmp_total)) (λ (base : BaseRow). base.path)

some-same : {X : Type 0} (o : Option X) (x y : X) → o ≡ Some x → o ≡ Some y → x ≡ y
some-same o x y first second = cc

pub no-items : (tables : Tables) (image : Image) (items : List Item) → IsImageOf tables image → collected item_of tables.entries ≡ Some items → ascends by_id items ≡ false → ⊥
no-items tables image items is read up =
    let same : items ≡ image.items = some-same (collected item_of tables.entries) items image.items read is.items in
    true≢false (sym is.items_ascend ∙ sym (ap (ascends by_id) same) ∙ up)

pub no-rows : (tables : Tables) (image : Image) (read sorted : List BaseRow) → IsImageOf tables image → collected base_of tables.rows ≡ Some read → IsPermutation read sorted → IsSorted by_path sorted
    → ascends by_path sorted ≡ false → ⊥
no-rows tables image read sorted is all second ordered up =
    let same : is.read ≡ read = some-same (collected base_of tables.rows) is.read read is.rows_read all in
    let first : IsPermutation read image.rows = subst (λ (l : List BaseRow). IsPermutation l image.rows) same is.rows in
    true≢false (sym (one-order read image.rows sorted first is.rows_ascend second ordered) ∙ up)
