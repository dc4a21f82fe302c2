-- What stands at a path for its own sake, and that nothing is to stand below a path that need not be a folder.
use Rattle.std.proofs.Common.{◌≡◌, ◌≤◌, ◌<◌, ◌⊎◌, inl, inr, Bool, true, false, not, ◌&&◌, ◌||◌, cond, is_none, is_some, List, [], ◌∷◌, length, nat_lt, Option, Some, None, refl, ap, sym, subst, ◌∙◌, arith}
use Rattle.std.proofs.lemmas.Bool.{true≢false, false≢true, and_parts, and_from, or_parts, or_from, or_left, or_right, ltb-true, lt-ltb, false_from_ne_true}
use Rattle.std.specs.List.{list_any}
use Rattle.od_merge.specs.declared.content.Content.{Content}
use Rattle.od_merge.specs.declared.content.Content.TheVariants.{Folder}
use Rattle.od_merge.specs.Sides.{Sides, at, same, is_path, is_from, is_below, is_file, is_other_kind, is_kept, is_kept_there}
use Rattle.od_merge.specs.Merging.{both_paths, is_left, is_needed, is_staying, merged, seen, target, wanted}
use Rattle.od_merge.proofs.Lists.{Path, is_in, same-path, from-through, from-longer, none-in}

-- ---- what is taken stands on one of the sides
cond-either : {X : Type 0} (t : Bool) (x y : X) → (cond t x y ≡ x) ⊎ (cond t x y ≡ y)
cond-either true x y = inl refl
cond-either false x y = inr refl

three : (a b c : Bool) (x y : Option Content) → (cond a y (cond b x (cond c y x)) ≡ x) ⊎ (cond a y (cond b x (cond c y x)) ≡ y)
three true b c x y = inr refl
three false true c x y = inl refl
three false false true x y = inr refl
three false false false x y = inl refl

pub merged-either : (b x y : Option Content) → (merged b x y ≡ x) ⊎ (merged b x y ≡ y)
merged-either b x y = three (same x b) (same y b || same x y) (is_none x) x y

file-is : (t : Bool) (x y : Option Content) → y ≡ cond t None x → is_file y ≡ true → y ≡ x
file-is true x y is file = absurd (false≢true (sym (ap is_file is) ∙ file))
file-is false x y is file = is

pub seen-file : (s : Sides) (side : List (Path × Content)) (q : Path) (y : Option Content) → y ≡ seen s side q → is_file y ≡ true → y ≡ at side q
seen-file s side q y is file = file-is (is_other_kind (at s.local q) (at s.remote q) && not (is_kept s.passes side q)) (at side q) y is file

-- what is wanted where it is a file
pub wanted-is : (s : Sides) (q : Path) → is_kept_there s q ≡ true → is_left s q ≡ false → wanted s q ≡ merged (s.base q) (seen s s.local q) (seen s s.remote q)
wanted-is s q kept not_left = rw (kept, not_left) refl

file-needs-at : (t : Bool) (s : Sides) (q : Path) → is_needed s q ≡ t → is_file (cond t (Some Folder) (wanted s q)) ≡ true → (is_needed s q ≡ false) × (target s q ≡ wanted s q)
file-needs-at true s q is file = absurd (false≢true file)
file-needs-at false s q is file = (is, rw is refl)

pub file-needs : (s : Sides) (q : Path) → is_file (target s q) ≡ true → (is_needed s q ≡ false) × (target s q ≡ wanted s q)
file-needs s q file = file-needs-at (is_needed s q) s q refl file

file-from-at : (s : Sides) (q : Path) (t m : Option Content) → t ≡ m → is_file t ≡ true → (m ≡ seen s s.local q) ⊎ (m ≡ seen s s.remote q) → (t ≡ at s.local q) ⊎ (t ≡ at s.remote q)
file-from-at s q t m is file (inl x) = inl (seen-file s s.local q t (is ∙ x) file)
file-from-at s q t m is file (inr y) = inr (seen-file s s.remote q t (is ∙ y) file)

pub file-from : (s : Sides) (q : Path) → is_kept_there s q ≡ true → is_left s q ≡ false → is_file (target s q) ≡ true → (target s q ≡ at s.local q) ⊎ (target s q ≡ at s.remote q)
file-from s q kept not_left file =
    let is : target s q ≡ merged (s.base q) (seen s s.local q) (seen s s.remote q) = (file-needs s q file).1 ∙ wanted-is s q kept not_left in
    file-from-at s q (target s q) (merged (s.base q) (seen s s.local q) (seen s s.remote q)) is file (merged-either (s.base q) (seen s s.local q) (seen s s.remote q))

-- ---- paths from one on
not-longer-at : (t : Bool) (a b : Path) → is_path a b ≡ t → is_from a b ≡ true → length a ≤ length b
not-longer-at true a b is ab = subst (λ (p : Path). length a ≤ length p) (same-path a b is) (omega arith)
not-longer-at false a b is ab = let longer = ltb-true (length a) (length b) (from-longer a b ab is) in omega (arith, longer)

not-longer : (a b : Path) → is_from a b ≡ true → length a ≤ length b
not-longer a b ab = not-longer-at (is_path a b) a b refl ab

shorter : (a b c : Path) → is_from a b ≡ true → nat_lt (length b) (length c) ≡ true → length a < length c
shorter a b c ab bc = let first = not-longer a b ab in let second = ltb-true (length b) (length c) bc in omega (arith, first, second)

pub below-from : (a b c : Path) → is_from a b ≡ true → is_below b c ≡ true → is_below a c ≡ true
below-from a b c ab bc =
    let parts = and_parts (nat_lt (length b) (length c)) (is_from b c) bc in
    and_from (nat_lt (length a) (length c)) (is_from a c) (lt-ltb (length a) (length c) (shorter a b c ab parts.0)) (from-through a b c ab parts.1)

pub from-below : (a b : Path) → is_from a b ≡ true → is_path a b ≡ false → is_below a b ≡ true
from-below a b ab apart = and_from (nat_lt (length a) (length b)) (is_from a b) (from-longer a b ab apart) ab

pub below-is-from : (a b : Path) → is_below a b ≡ true → is_from a b ≡ true
below-is-from a b below = (and_parts (nat_lt (length a) (length b)) (is_from a b) below).1

-- ---- nothing is to stand below a path that need not be a folder
pub none-more : (f g : Path → Bool) (paths : List Path) → ((o : Path) → f o ≡ true → g o ≡ true) → list_any g paths ≡ false → list_any f paths ≡ false
none-more f g [] more none = refl
none-more f g (path ∷ paths) more none =
    let parts = or_parts (g path) (list_any g paths) none in
    or_from (f path) (list_any f paths) (false_from_ne_true (f path) (λ is. true≢false (sym (more path is) ∙ parts.0))) (none-more f g paths more parts.1)

abbrev pub makes_needed : Sides → Path → Path → Bool
makes_needed s q o = is_below q o && is_some (wanted s o) || is_from q o && is_staying s o

needed-more-at : (t : Bool) (s : Sides) (q p : Path) → is_from q p ≡ true → (o : Path) → (is_below p o && is_some (wanted s o)) ≡ t → (t || is_from p o && is_staying s o) ≡ true → makes_needed s q o ≡ true
needed-more-at true s q p from o first is =
    let parts = and_parts (is_below p o) (is_some (wanted s o)) first in
    or_left (is_below q o && is_some (wanted s o)) (is_from q o && is_staying s o) (and_from (is_below q o) (is_some (wanted s o)) (below-from q p o from parts.0) parts.1)
needed-more-at false s q p from o first is =
    let parts = and_parts (is_from p o) (is_staying s o) is in
    or_right (is_below q o && is_some (wanted s o)) (is_from q o && is_staying s o) (and_from (is_from q o) (is_staying s o) (from-through q p o from parts.0) parts.1)

pub needed-more : (s : Sides) (q p : Path) → is_from q p ≡ true → (o : Path) → makes_needed s p o ≡ true → makes_needed s q o ≡ true
needed-more s q p from o is = needed-more-at (is_below p o && is_some (wanted s o)) s q p from o refl is

-- a path below that is on a side has no target
pub no-wanted : (x : Option Content) → is_some x ≡ false → x ≡ None
no-wanted None is = refl
no-wanted (Some x) is = absurd (true≢false is)

first-false : (a b c : Bool) → a ≡ true → (a && b || c) ≡ false → b ≡ false
first-false true true c is none = none
first-false true false c is none = refl
first-false false b c is none = absurd (false≢true is)

pub none-below : (s : Sides) (q p : Path) → is_needed s q ≡ false → is_below q p ≡ true → is_in p (both_paths s) ≡ true → target s p ≡ None
none-below s q p not_needed below has =
    let from = below-is-from q p below in
    let parts = or_parts (list_any (makes_needed s q) (both_paths s)) (list_any (λ top. is_below q top) s.left) not_needed in
    let free : is_needed s p ≡ false = or_from (list_any (makes_needed s p) (both_paths s)) (list_any (λ top. is_below p top) s.left)
    (none-more (makes_needed s p) (makes_needed s q) (both_paths s) (needed-more s q p from) parts.0)
    (none-more (λ top. is_below p top) (λ top. is_below q top) s.left (λ top is. below-from q p top from is) parts.1) in
    let unwanted : wanted s p ≡ None = no-wanted (wanted s p) (first-false (is_below q p) (is_some (wanted s p)) (is_from q p && is_staying s p) below (none-in (makes_needed s q) p (both_paths s) parts.0 has)) in
    rw free unwanted
