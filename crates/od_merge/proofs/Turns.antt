-- The order in which steps can be done: what is below a path that goes goes too, and above what is to stand are folders.
use Rattle.std.proofs.Common.{◌≡◌, ◌⊎◌, inl, inr, ℕ, zero, suc, ◌≤◌, Bool, true, false, not, ◌&&◌, ◌||◌, cond, is_none, is_some, nat_eq, nat_lt, length, length-append, arith, drop, List, [], ◌∷◌, ◌++◌, filter, append_assoc, append-nil, Option, Some, None, refl, ap, sym, subst, ◌∙◌}
use Rattle.std.proofs.lemmas.Bool.{true≢false, false≢true, and_parts, and_from, and_left, or_parts, or_from, or_left, or_right, not-true, false_from_ne_true, ltb-true, lt-ltb, eqb-true, cond-false}
use Rattle.std.specs.Cmp.Lexicographic.{pointwise}
use Rattle.std.specs.List.{list_any, list_all}
use Rattle.gd_item.specs.declared.digest.Digest.{Digest}
use Rattle.od_merge.specs.declared.content.Content.{Content}
use Rattle.od_merge.specs.declared.content.Content.TheVariants.{Folder, File}
use Rattle.od_merge.specs.declared.why.Why.{Why}
use Rattle.od_merge.specs.declared.why.Why.TheVariants.{NoCopyName}
use Rattle.od_merge.specs.Sides.{Sides, Tree, at, is_below, is_file, is_folder, is_from, is_kept, is_kept_node, is_kept_there, is_path, paths_of}
use Rattle.od_merge.specs.Merging.{Limits, both_paths, first_held, is_going, is_going_node, is_left, is_needed, is_staying, is_unwanted, merged, own_cause, prefixes, prefixes_from, seen, target, wanted, why_held}
use Rattle.od_merge.specs.Pairs.{folder_of}
use Rattle.od_merge.specs.Steps.{AreRenamed, by_depth, deepest_first, depth_of}
use Rattle.od_merge.proofs.Agreements.{any-one, any-with, target-free}
use Rattle.od_merge.proofs.Lists.{Path, all-at, at-in, depth-in, each-of, filter-in, from-through, in-joined, is_in, path-self, same-path, text-self}
use Rattle.od_merge.proofs.Needs.{below-from, below-is-from, from-below, makes_needed, needed-more}
use Rattle.od_merge.proofs.Order.{Apart, apart-filter}
use Rattle.od_merge.proofs.Proper.{split}

-- ---- deepest first
abbrev pub Falls : List Path → Type 0
Falls [] = Unit {0}
Falls (path ∷ paths) = ((other : Path) → is_in other paths ≡ true → length other ≤ length path) × (is_in path paths ≡ false) × Falls paths

or-cases : (a b : Bool) → (a || b) ≡ true → (a ≡ true) ⊎ (b ≡ true)
or-cases true b is = inl refl
or-cases false b is = inr is

pub joined-in : (q : Path) (a b : List Path) → is_in q (a ++ b) ≡ true → (is_in q a ≡ true) ⊎ (is_in q b ≡ true)
joined-in q a b has = or-cases (is_in q a) (is_in q b) (sym (in-joined q a b) ∙ has)

pub head-in : (path : Path) (paths : List Path) → is_in path (path ∷ paths) ≡ true
head-in path paths = or_left (is_path path path) (is_in path paths) (path-self path)

pub tail-in : (q path : Path) (paths : List Path) → is_in q paths ≡ true → is_in q (path ∷ paths) ≡ true
tail-in q path paths has = or_right (is_path q path) (is_in q paths) has

falls-by : {P : Type 0} {a b : Bool} → (a ≡ true) ⊎ (b ≡ true) → (a ≡ true → P) → (b ≡ true → P) → P
falls-by (inl is) first second = first is
falls-by (inr is) first second = second is

falls-joined : (a b : List Path) → Falls a → Falls b → ((p q : Path) → is_in p a ≡ true → is_in q b ≡ true → (length q ≤ length p) × (is_path p q ≡ false)) → Falls (a ++ b)
falls-joined [] b first second apart = second
falls-joined (path ∷ a) b first second apart = (
  λ other has. falls-by (joined-in other a b has) (first.0 other) (λ more. (apart path other (head-in path a) more).0),
  (in-joined path a b ∙ or_from (is_in path a) (is_in path b) first.1
      (false_from_ne_true (is_in path b) (λ has. true≢false (sym (path-self path) ∙ (apart path path (head-in path a) has).1)))),
  falls-joined a b first.2 second (λ p q p_in q_in. apart p q (tail-in p path a p_in) q_in),
)

falls-same : (depth : ℕ) (paths : List Path) → Apart paths → ((p : Path) → is_in p paths ≡ true → length p ≡ depth) → Falls paths
falls-same depth [] apart each = tt
falls-same depth (path ∷ paths) apart each = (
  λ other has. let one = each other (tail-in other path paths has) in let two = each path (head-in path paths) in omega (arith, one, two),
  apart.0,
  falls-same depth paths apart.1 (λ p has. each p (tail-in p path paths has)),
)

of-depth : (depth : ℕ) (paths : List Path) (p : Path) → is_in p (filter (λ path. nat_eq (length path) depth) paths) ≡ true → length p ≡ depth
of-depth depth paths p has =
    eqb-true (length p) depth (and_parts (nat_eq (length p) depth) (is_in p paths) (sym (filter-in (λ path. nat_eq (length path) depth) p paths) ∙ has)).0

shallower : (depth : ℕ) (paths : List Path) (p : Path) → is_in p (by_depth depth paths) ≡ true → nat_lt (length p) depth ≡ true
shallower depth paths p has = (and_parts (nat_lt (length p) depth) (is_in p paths) (sym (depth-in p depth paths) ∙ has)).0

apart-depth : (depth : ℕ) (p q : Path) → length p ≡ depth → nat_lt (length q) depth ≡ true → (length q ≤ length p) × (is_path p q ≡ false)
apart-depth depth p q is less =
    let lower = ltb-true (length q) depth less in (
      omega (arith, is, lower),
      false_from_ne_true (is_path p q) (λ same. let one : length p ≡ length q = ap (λ (x : Path). length x) (same-path p q same) in absurd (omega (arith, is, lower, one))),
    )

falls-depth : (depth : ℕ) (paths : List Path) → Apart paths → Falls (by_depth depth paths)
falls-depth zero paths apart = tt
falls-depth (suc depth) paths apart =
    falls-joined (filter (λ path. nat_eq (length path) depth) paths) (by_depth depth paths)
    (falls-same depth (filter (λ path. nat_eq (length path) depth) paths) (apart-filter (λ path. nat_eq (length path) depth) paths apart) (of-depth depth paths))
    (falls-depth depth paths apart)
    (λ p q p_in q_in. apart-depth depth p q (of-depth depth paths p p_in) (shallower depth paths q q_in))

pub falls-deepest : (paths : List Path) → Apart paths → Falls (deepest_first paths)
falls-deepest paths apart = falls-depth (depth_of paths) paths apart

pub falls-apart : (paths : List Path) → Falls paths → Apart paths
falls-apart [] falls = tt
falls-apart (path ∷ paths) falls = (falls.1, falls-apart paths falls.2)

falls-filter-at : (t : Bool) (path : Path) (kept : List Path) → ((other : Path) → is_in other kept ≡ true → length other ≤ length path) → is_in path kept ≡ false → Falls kept → Falls (cond t (path ∷ kept) kept)
falls-filter-at true path kept lower none falls = (lower, none, falls)
falls-filter-at false path kept lower none falls = falls

pub falls-filter : (test : Path → Bool) (paths : List Path) → Falls paths → Falls (filter test paths)
falls-filter test [] falls = tt
falls-filter test (path ∷ paths) falls =
    falls-filter-at (test path) path (filter test paths)
    (λ other has. falls.0 other (and_parts (test other) (is_in other paths) (sym (filter-in test other paths) ∙ has)).1)
    (false_from_ne_true (is_in path (filter test paths)) (λ has. true≢false (sym (and_parts (test path) (is_in path paths) (sym (filter-in test path paths) ∙ has)).1 ∙ falls.1)))
    (falls-filter test paths falls.2)

-- ---- the folder of a path
from-folder : (top path : Path) → is_below top path ≡ true → is_from top (folder_of path) ≡ true
from-folder [] path below = refl
from-folder (x ∷ top) [] below = absurd (false≢true (below-is-from (x ∷ top) [] below))
from-folder (x ∷ top) (y ∷ []) below =
    let parts = and_parts (nat_lt (length (x ∷ top)) (length (y ∷ []))) (is_from (x ∷ top) (y ∷ [])) below in
    let less = ltb-true (length (x ∷ top)) (length (y ∷ [])) parts.0 in
    absurd (omega (arith, less))
from-folder (x ∷ top) (y ∷ (z ∷ path)) below =
    let parts = and_parts (nat_lt (length (x ∷ top)) (length (y ∷ (z ∷ path)))) (is_from (x ∷ top) (y ∷ (z ∷ path))) below in
    let both = and_parts (pointwise nat_eq x y) (is_from top (z ∷ path)) parts.1 in
    let less = ltb-true (length (x ∷ top)) (length (y ∷ (z ∷ path))) parts.0 in
    and_from (pointwise nat_eq x y) (is_from top (folder_of (z ∷ path))) both.0
    (from-folder top (z ∷ path) (and_from (nat_lt (length top) (length (z ∷ path))) (is_from top (z ∷ path)) (lt-ltb (length top) (length (z ∷ path)) (omega (arith, less))) both.1))

folder-above : (name : List ℕ) (path : Path) → is_below (folder_of (name ∷ path)) (name ∷ path) ≡ true
folder-above name [] = and_from (nat_lt 0 (length (name ∷ []))) true (lt-ltb 0 (length (name ∷ [])) (omega arith)) refl
folder-above name (next ∷ path) =
    let rest = folder-above next path in
    let parts = and_parts (nat_lt (length (folder_of (next ∷ path))) (length (next ∷ path))) (is_from (folder_of (next ∷ path)) (next ∷ path)) rest in
    let less = ltb-true (length (folder_of (next ∷ path))) (length (next ∷ path)) parts.0 in
    and_from (nat_lt (length (name ∷ folder_of (next ∷ path))) (length (name ∷ (next ∷ path)))) (is_from (name ∷ folder_of (next ∷ path)) (name ∷ (next ∷ path)))
    (lt-ltb (length (name ∷ folder_of (next ∷ path))) (length (name ∷ (next ∷ path))) (omega (arith, less)))
    (and_from (pointwise nat_eq name name) (is_from (folder_of (next ∷ path)) (next ∷ path)) (text-self name) parts.1)

long-from : (top path : Path) → nat_lt 0 (length top) ≡ true → is_from top path ≡ true → nat_lt 0 (length path) ≡ true
long-from [] path long from = absurd (false≢true long)
long-from (x ∷ top) [] long from = absurd (false≢true from)
long-from (x ∷ top) (y ∷ path) long from = lt-ltb 0 (length (y ∷ path)) (omega arith)

none-less : (a : ℕ) → nat_lt a 0 ≡ true → ⊥
none-less a less = let is = ltb-true a 0 less in omega (arith, is)

-- ---- what is below a path that goes
module _ (m : Sides) (side : Tree) (above : (top path : Path) → nat_lt 0 (length top) ≡ true → is_below top path ≡ true → is_some (at side path) ≡ true → at side top ≡ Some Folder) where
  going-all : (p : Path) → is_going m side p ≡ true → at side p ≡ Some Folder → list_all (λ (entry : Path × Content). not (is_from p entry.0) || is_unwanted m side entry.0) side ≡ true
  going-all p going folder = sym (ap (λ (x : Option Content). is_going_node m side p x) folder) ∙ going

  unwanted-below : (p o : Path) → is_going m side p ≡ true → at side p ≡ Some Folder → is_from p o ≡ true → is_in o (paths_of side) ≡ true → is_unwanted m side o ≡ true
  unwanted-below p o going folder from has =
      sym (ap (λ (b : Bool). not b || is_unwanted m side o) from) ∙ all-at (λ q. not (is_from p q) || is_unwanted m side q) o side (going-all p going folder) has

  one-below : (t : Bool) (p o q : Path) → is_going m side p ≡ true → at side p ≡ Some Folder → is_from p o ≡ true → is_from o q ≡ t → is_in q (paths_of side) ≡ true → (not t || is_unwanted m side q) ≡ true
  one-below true p o q going folder from on has = unwanted-below p q going folder (from-through p o q from on) has
  one-below false p o q going folder from on has = refl

  going-by : (x : Option Content) (p o : Path) → at side o ≡ x → is_going m side p ≡ true → at side p ≡ Some Folder → is_from p o ≡ true → is_some x ≡ true → is_going_node m side o x ≡ true
  going-by None p o there going folder from some = absurd (false≢true some)
  going-by (Some Folder) p o there going folder from some =
      each-of (λ q. not (is_from o q) || is_unwanted m side q) side (λ q has. one-below (is_from o q) p o q going folder from refl has)
  going-by (Some (File d)) p o there going folder from some = unwanted-below p o going folder from (sym (at-in o side) ∙ ap (λ (x : Option Content). is_some x) there)

  pub going-below : (p o : Path) → nat_lt 0 (length p) ≡ true → is_going m side p ≡ true → is_below p o ≡ true → is_some (at side o) ≡ true → is_going m side o ≡ true
  going-below p o long going below some = going-by (at side o) p o refl going (above p o long below some) (below-is-from p o below) some

  folder-goes-at : (t : Bool) (p o : Path) (name : List ℕ) (rest : Path) → o ≡ name ∷ rest → nat_lt 0 (length p) ≡ true → is_going m side p ≡ true → is_below p o ≡ true → is_some (at side o) ≡ true
      → is_path p (folder_of o) ≡ t → is_going m side (folder_of o) ≡ true
  folder-goes-at true p o name rest o_is long going below some same = subst (λ (q : Path). is_going m side q ≡ true) (same-path p (folder_of o) same) going
  folder-goes-at false p o name rest o_is long going below some other =
      let from = from-folder p o below in
      let on = from-below p (folder_of o) from other in
      let stands = above (folder_of o) o (long-from p (folder_of o) long from) (subst (λ (q : Path). is_below (folder_of q) q ≡ true) (sym o_is) (folder-above name rest)) some in
      going-below p (folder_of o) long going on (ap (λ (x : Option Content). is_some x) stands)

  -- the folder of what is below goes
  pub folder-goes : (p o : Path) → nat_lt 0 (length p) ≡ true → is_going m side p ≡ true → is_below p o ≡ true → is_some (at side o) ≡ true → is_going m side (folder_of o) ≡ true
  folder-goes p [] long going below some =
      absurd (none-less (length p) (and_parts (nat_lt (length p) 0) (is_from p []) below).0)
  folder-goes p (name ∷ rest) long going below some = folder-goes-at (is_path p (folder_of (name ∷ rest))) p (name ∷ rest) name rest refl long going below some refl

-- ---- above what is to stand are folders
module _ (m : Sides) where
  needs-by : (top p : Path) → is_from top p ≡ true → (list_any (makes_needed m p) (both_paths m) ≡ true) ⊎ (list_any (λ o. is_below p o) m.left ≡ true) → is_needed m top ≡ true
  needs-by top p from (inl made) =
      let one = any-one (makes_needed m p) (both_paths m) made in
      or_left (list_any (makes_needed m top) (both_paths m)) (list_any (λ o. is_below top o) m.left) (any-with (makes_needed m top) (both_paths m) one.0 one.1 (needed-more m top p from one.0 one.2))
  needs-by top p from (inr left) =
      let one = any-one (λ o. is_below p o) m.left left in
      or_right (list_any (makes_needed m top) (both_paths m)) (list_any (λ o. is_below top o) m.left) (any-with (λ o. is_below top o) m.left one.0 one.1 (below-from top p one.0 from one.2))

  needs-any : (top p : Path) → is_from top p ≡ true → is_needed m p ≡ true → is_needed m top ≡ true
  needs-any top p from needed =
      needs-by top p from (or-cases (list_any (makes_needed m p) (both_paths m)) (list_any (λ o. is_below p o) m.left) needed)

  needs-wanted : (top p : Path) → is_below top p ≡ true → is_in p (both_paths m) ≡ true → is_some (wanted m p) ≡ true → is_needed m top ≡ true
  needs-wanted top p below has some =
      or_left (list_any (makes_needed m top) (both_paths m)) (list_any (λ o. is_below top o) m.left)
      (any-with (makes_needed m top) (both_paths m) p has (or_left (is_below top p && is_some (wanted m p)) (is_from top p && is_staying m p) (and_from (is_below top p) (is_some (wanted m p)) below some)))

  folder-needed : (top : Path) → is_needed m top ≡ true → target m top ≡ Some Folder
  folder-needed top needed = ap (λ (b : Bool). cond b (Some Folder) (wanted m top)) needed

  some-kept : (tree : Tree) (q : Path) (x : Option Content) → is_kept_node m.passes tree q x ≡ true → is_some x ≡ true
  some-kept tree q None kept = kept
  some-kept tree q (Some x) kept = refl

  pub kept-in : (q : Path) → is_kept_there m q ≡ true → is_in q (both_paths m) ≡ true
  kept-in q kept =
      in-joined q (paths_of m.local) (paths_of m.remote)
      ∙ falls-by (or-cases (is_kept m.passes m.local q) (is_kept m.passes m.remote q) kept)
      (λ here. or_left (is_in q (paths_of m.local)) (is_in q (paths_of m.remote)) (sym (at-in q m.local) ∙ some-kept m.local q (at m.local q) here))
      (λ there. or_right (is_in q (paths_of m.local)) (is_in q (paths_of m.remote)) (sym (at-in q m.remote) ∙ some-kept m.remote q (at m.remote q) there))

  wanted-kept : (k l : Bool) (x : Option Content) → is_some (cond (k && l) x None) ≡ true → k ≡ true
  wanted-kept true l x some = refl
  wanted-kept false l x some = some

  wanted-in : (p : Path) → is_some (wanted m p) ≡ true → is_in p (both_paths m) ≡ true
  wanted-in p some = kept-in p (wanted-kept (is_kept_there m p) (not (is_left m p)) (merged (m.base p) (seen m m.local p) (seen m m.remote p)) some)

  above-at : (t : Bool) (top p : Path) → is_below top p ≡ true → is_needed m p ≡ t → is_some (cond t (Some Folder) (wanted m p)) ≡ true → target m top ≡ Some Folder
  above-at true top p below needed some = folder-needed top (needs-any top p (below-is-from top p below) needed)
  above-at false top p below needed some = folder-needed top (needs-wanted top p below (wanted-in p some) some)

  pub target-above : (top p : Path) → is_below top p ≡ true → is_some (target m p) ≡ true → target m top ≡ Some Folder
  target-above top p below some = above-at (is_needed m p) top p below refl some

-- ---- above what is not held is nothing held
firsts-at : (t : Bool) (limits : Limits) (m : Sides) (path : Path) (a b : List Path) → cond t (own_cause limits m path) (first_held limits m (a ++ b)) ≡ None
    → (first_held limits m (a ++ b) ≡ None → first_held limits m a ≡ None) → cond t (own_cause limits m path) (first_held limits m a) ≡ None
firsts-at true limits m path a b none rest = none
firsts-at false limits m path a b none rest = rest none

firsts : (limits : Limits) (m : Sides) (a b : List Path) → first_held limits m (a ++ b) ≡ None → first_held limits m a ≡ None
firsts limits m [] b none = refl
firsts limits m (path ∷ a) b none = firsts-at (is_some (own_cause limits m path)) limits m path a b none (firsts limits m a b)

prefixes-on : (above top rest : Path) → prefixes_from above (top ++ rest) ≡ prefixes_from above top ++ prefixes_from (above ++ top) rest
prefixes-on above [] rest = ap (λ (a : Path). prefixes_from a rest) (sym (append-nil above))
prefixes-on above (name ∷ top) rest =
    ap (λ (ps : List Path). (above ++ name ∷ []) ∷ ps)
    (prefixes-on (above ++ name ∷ []) top rest ∙ ap (λ (a : Path). prefixes_from (above ++ name ∷ []) top ++ prefixes_from a rest) (append_assoc above (name ∷ []) top))

why-of : (limits : Limits) (m : Sides) (p : Path) → is_left m p ≡ false → is_some (target m p) ≡ true → why_held limits m p ≡ first_held limits m (prefixes p)
why-of limits m p free some =
    cond-false (is_left m p) (cond (is_kept m.passes m.local p || list_any (is_path p) m.left) (Some NoCopyName) None) (cond (is_some (target m p)) (first_held limits m (prefixes p)) None) free
    ∙ ap (λ (b : Bool). cond b (first_held limits m (prefixes p)) None) some

pub why-above : (limits : Limits) (m : Sides) → AreRenamed m → (top p : Path) → is_below top p ≡ true → is_some (target m top) ≡ true → is_some (target m p) ≡ true → why_held limits m p ≡ None → why_held limits m top ≡ None
why-above limits m is top p below top_some some none =
    let first = sym (why-of limits m p (target-free m is p some) some) ∙ none in
    let p_is = split top p (below-is-from top p below) in
    let joined : first_held limits m (prefixes top ++ prefixes_from ([] ++ top) (drop (length top) p)) ≡ None =
    ap (λ (ps : List Path). first_held limits m ps) (sym (ap (λ (q : Path). prefixes q) p_is ∙ prefixes-on [] top (drop (length top) p))) ∙ first in
    why-of limits m top (target-free m is top top_some) top_some ∙ firsts limits m (prefixes top) (prefixes_from ([] ++ top) (drop (length top) p)) joined
