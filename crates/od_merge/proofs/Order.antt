-- The paths of both sides are in order, each once.
use Rattle.std.proofs.Common.{◌≡◌, ℕ, Bool, true, false, ◌&&◌, ◌||◌, cond, nat_eq, nat_lt, length, arith, List, [], ◌∷◌, filter, refl, ap, sym, subst, ◌∙◌}
use Rattle.std.proofs.lemmas.Bool.{false≢true, and_parts, and_from, and_right, or_from, false_from_ne_true, ltb-true, lt-ltb}
use Rattle.std.specs.List.{list_any, AllByRecursion}
use Rattle.std.specs.List.Sorted.{IsStrictlySortedBy}
use Rattle.std.specs.BTreeSet.{insert_key}
use Rattle.std.specs.Ordering.{nat_cmp, match_ordering, ordering_then}
use Rattle.std.specs.Cmp.{tied_itself}
use Rattle.std.specs.Cmp.Lexicographic.{pointwise, same_text, slice_cmp, nat_list_cmp_total}
use Rattle.std.specs.declared.cmp.Ordering.{Ordering}
use Rattle.std.specs.declared.cmp.Ordering.TheVariants.{Less, Equal, Greater}
use Rattle.gd_names.specs.Ordered.{path_cmp}
use Rattle.gd_names.proofs.Ordered.{paths-total, turned}
use Rattle.od_merge.specs.Merging.{in_order_from}
use Rattle.od_merge.specs.Sides.{is_below, is_from, is_path}
use Rattle.od_merge.proofs.Lists.{Path, filter-in, is_in, same-path}

abbrev pub Rises : List Path → Type 0
Rises paths = IsStrictlySortedBy path_cmp paths

abbrev pub Above : Path → List Path → Type 0
Above path paths = AllByRecursion (λ (other : Path). path_cmp path other ≡ Less) paths

above-less : (a b : Path) (paths : List Path) → path_cmp a b ≡ Less → Above b paths → Above a paths
above-less a b [] low above = tt
above-less a b (path ∷ paths) low above = (paths-total.trans a b path low above.0, above-less a b paths low above.1)

put-above-at : (o : Ordering) (top path first : Path) (paths : List Path) → Above top (first ∷ paths) → path_cmp top path ≡ Less → Above top (insert_key path_cmp paths path)
    → Above top (match_ordering o (path ∷ (first ∷ paths)) (first ∷ paths) (first ∷ insert_key path_cmp paths path))
put-above-at Less top path first paths above less rest = (less, above)
put-above-at Equal top path first paths above less rest = above
put-above-at Greater top path first paths above less rest = (above.0, rest)

put-above : (top path : Path) (paths : List Path) → Above top paths → path_cmp top path ≡ Less → Above top (insert_key path_cmp paths path)
put-above top path [] above less = (less, tt)
put-above top path (first ∷ paths) above less = put-above-at (path_cmp path first) top path first paths above less (put-above top path paths above.1 less)

put-rises-at : (o : Ordering) (path first : Path) (paths : List Path) → path_cmp path first ≡ o → Rises (first ∷ paths) → Rises (insert_key path_cmp paths path)
    → Rises (match_ordering o (path ∷ (first ∷ paths)) (first ∷ paths) (first ∷ insert_key path_cmp paths path))
unfolding IsStrictlySortedBy
put-rises-at Less path first paths is rises rest = ((is, above-less path first paths is rises.0), rises)
put-rises-at Equal path first paths is rises rest = rises
put-rises-at Greater path first paths is rises rest = (put-above first path paths rises.0 (turned path first is), rest)

put-rises : (path : Path) (paths : List Path) → Rises paths → Rises (insert_key path_cmp paths path)
unfolding IsStrictlySortedBy
put-rises path [] rises = (tt, tt)
put-rises path (first ∷ paths) rises = put-rises-at (path_cmp path first) path first paths refl rises (put-rises path paths rises.1)

rises-from : (put paths : List Path) → Rises put → Rises (in_order_from put paths)
rises-from put [] rises = rises
rises-from put (path ∷ paths) rises = rises-from (insert_key path_cmp put path) paths (put-rises path put rises)

nothing-rises : Rises []
unfolding IsStrictlySortedBy
nothing-rises = tt

pub rises : (paths : List Path) → Rises (in_order_from [] paths)
rises paths = rises-from [] paths nothing-rises

-- ---- each once
abbrev pub Apart : List Path → Type 0
Apart [] = Unit {0}
Apart (path ∷ paths) = (is_in path paths ≡ false) × Apart paths

less-other : Less ≡ Equal → ⊥
less-other is = cc is

itself : (path : Path) → path_cmp path path ≡ Equal
itself path = tied_itself paths-total path

not-in : (path : Path) (paths : List Path) → Above path paths → is_in path paths ≡ false
not-in path [] above = refl
not-in path (first ∷ paths) above =
    or_from (is_path path first) (is_in path paths)
    (false_from_ne_true (is_path path first) (λ same. less-other (sym above.0 ∙ (ap (λ (p : Path). path_cmp path p) (sym (same-path path first same)) ∙ itself path))))
    (not-in path paths above.1)

pub apart-sorted : (paths : List Path) → Rises paths → Apart paths
unfolding IsStrictlySortedBy
apart-sorted [] rises = tt
apart-sorted (path ∷ paths) rises = (not-in path paths rises.0, apart-sorted paths rises.1)

apart-at : (t : Bool) (path : Path) (kept : List Path) → is_in path kept ≡ false → Apart kept → Apart (cond t (path ∷ kept) kept)
apart-at true path kept none apart = (none, apart)
apart-at false path kept none apart = apart

pub apart-filter : (test : Path → Bool) (paths : List Path) → Apart paths → Apart (filter test paths)
apart-filter test [] apart = tt
apart-filter test (path ∷ paths) apart =
    apart-at (test path) path (filter test paths) (filter-in test path paths ∙ and_right (test path) (is_in path paths) apart.0) (apart-filter test paths apart.1)

-- ---- a folder comes before what is in it
names-itself : (name : List ℕ) → slice_cmp nat_cmp name name ≡ Equal
names-itself name = tied_itself nat_list_cmp_total name

pub below-later : (top path : Path) → is_below top path ≡ true → path_cmp top path ≡ Less
below-later [] [] below = absurd (false≢true below)
below-later [] (y ∷ path) below = refl
below-later (x ∷ top) [] below = absurd (false≢true (sym (and_right (nat_lt (length (x ∷ top)) 0) false refl) ∙ below))
below-later (x ∷ top) (y ∷ path) below =
    let parts = and_parts (nat_lt (length (x ∷ top)) (length (y ∷ path))) (is_from (x ∷ top) (y ∷ path)) below in
    let both = and_parts (pointwise nat_eq x y) (is_from top path) parts.1 in
    let less = ltb-true (length (x ∷ top)) (length (y ∷ path)) parts.0 in
    let rest = below-later top path (and_from (nat_lt (length top) (length path)) (is_from top path) (lt-ltb (length top) (length path) (omega (arith, less))) both.1) in
    ap (λ (o : Ordering). ordering_then o (path_cmp top path)) (ap (λ (name : List ℕ). slice_cmp nat_cmp x name) (sym (same_text x y (sym both.0))) ∙ names-itself x) ∙ rest
