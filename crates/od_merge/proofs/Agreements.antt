-- What goes from a side is what both had agreed on, and nothing is to stand where a conflict is left.
use Rattle.std.proofs.Common.{◌≡◌, ◌⊎◌, inl, inr, Bool, true, false, not, ◌&&◌, ◌||◌, cond, is_none, is_some, nat_lt, arith, List, [], ◌∷◌, length, Option, Some, None, refl, ap, sym, subst, ◌∙◌}
use Rattle.std.proofs.lemmas.Bool.{true≢false, false≢true, and_parts, and_from, and_left, and_right, or_parts, or_from, or_left, or_right, false_from_ne_true, true_from_ne_false, not-true, cond-false, lt-ltb}
use Rattle.std.specs.List.{list_any}
use Rattle.gd_item.specs.declared.digest.Digest.{Digest}
use Rattle.od_merge.specs.declared.content.Content.{Content}
use Rattle.od_merge.specs.declared.content.Content.TheVariants.{Folder, File}
use Rattle.od_merge.specs.Sides.{Sides, Tree, at, is_below, is_file, is_folder, is_from, is_kept, is_kept_node, is_kept_there, is_other_kind, is_path, is_skipped, paths_of, same}
use Rattle.od_merge.specs.Merging.{both_paths, is_going, is_left, is_needed, is_staying, merged, seen, target, wanted}
use Rattle.od_merge.specs.Steps.{AreRenamed, IsClear, IsProper}
use Rattle.od_merge.proofs.Cases.{same-nodes}
use Rattle.od_merge.proofs.Lists.{Path, at-in, from-self, from-through, in-joined, is_in, path-self, same-path}
use Rattle.od_merge.proofs.Needs.{below-from, below-is-from, makes_needed, merged-either, wanted-is}
use Rattle.od_merge.proofs.SideFacts.{folder-beside, going-at, goes}
use Rattle.od_merge.proofs.Digests.{folder-over-as-base, keeps-changed, none-wanted}
use Rattle.od_merge.proofs.Doing.{as-drive, none-of-list, none-of-tree, not-needed, seen-kept, there-folder-goes}
use Rattle.od_merge.proofs.NotKept.{no-target}

target-by : (s : Sides) (q : Path) → is_needed s q ≡ false → target s q ≡ wanted s q
target-by s q free = ap (λ (b : Bool). cond b (Some Folder) (wanted s q)) free

pub folder-target : (t : Bool) (x : Option Content) → x ≡ Some Folder → cond t (Some Folder) x ≡ Some Folder
folder-target true x is = refl
folder-target false x is = is

no-folder-in : (t : Bool) (x : Option Content) → is_folder x ≡ false → is_folder (cond t None x) ≡ false
no-folder-in true x none = refl
no-folder-in false x none = none

-- what nothing comes of, beside what stands there
merged-none-at : (a b c : Bool) (x y base : Option Content) → same x base ≡ a → same y base ≡ b → same x y ≡ c → is_some y ≡ true → cond a y (cond (b || c) x (cond (is_none x) y x)) ≡ None → b ≡ true
merged-none-at true b c x y base xb yb xy some none = absurd (false≢true (sym (ap (λ (z : Option Content). is_some z) none) ∙ some))
merged-none-at false true c x y base xb yb xy some none = refl
merged-none-at false false true x y base xb yb xy some none = absurd (false≢true (sym (ap (λ (z : Option Content). is_some z) none) ∙ (ap (λ (z : Option Content). is_some z) (same-nodes x y xy) ∙ some)))
merged-none-at false false false None y base xb yb xy some none = absurd (false≢true (sym (ap (λ (z : Option Content). is_some z) none) ∙ some))
merged-none-at false false false (Some x) y base xb yb xy some none = absurd (cc none)

merged-none : (base x y : Option Content) → merged base x y ≡ None → is_some y ≡ true → same y base ≡ true
merged-none base x y none some = merged-none-at (same x base) (same y base) (same x y) x y base refl refl refl some none

-- a list with something in it
any-with-at : (t : Bool) (test : Path → Bool) (path first : Path) (paths : List Path) → is_path path first ≡ t → (t || is_in path paths) ≡ true → test path ≡ true
    → (is_in path paths ≡ true → list_any test paths ≡ true) → (test first || list_any test paths) ≡ true
any-with-at true test path first paths is has passes rest = or_left (test first) (list_any test paths) (subst (λ (p : Path). test p ≡ true) (same-path path first is) passes)
any-with-at false test path first paths is has passes rest = or_right (test first) (list_any test paths) (rest has)

pub any-with : (test : Path → Bool) (paths : List Path) (path : Path) → is_in path paths ≡ true → test path ≡ true → list_any test paths ≡ true
any-with test [] path has passes = absurd (false≢true has)
any-with test (first ∷ paths) path has passes = any-with-at (is_path path first) test path first paths refl has passes (λ more. any-with test paths path more passes)

any-one-at : (t : Bool) (test : Path → Bool) (first : Path) (paths : List Path) → test first ≡ t → (t || list_any test paths) ≡ true
    → (list_any test paths ≡ true → (path : Path) × (is_in path paths ≡ true) × (test path ≡ true)) → (path : Path) × (is_in path (first ∷ paths) ≡ true) × (test path ≡ true)
any-one-at true test first paths passes has rest = (first, or_left (is_path first first) (is_in first paths) (path-self first), passes)
any-one-at false test first paths passes has rest = let more = rest has in (more.0, or_right (is_path more.0 first) (is_in more.0 paths) more.1, more.2)

pub any-one : (test : Path → Bool) (paths : List Path) → list_any test paths ≡ true → (path : Path) × (is_in path paths ≡ true) × (test path ≡ true)
any-one test [] has = absurd (false≢true has)
any-one test (first ∷ paths) has = any-one-at (test first) test first paths refl has (any-one test paths)

pub long-by : (tree : Tree) → at tree [] ≡ None → (q : Path) → is_some (at tree q) ≡ true → nat_lt 0 (length q) ≡ true
long-by tree root [] some = absurd (false≢true (sym (ap (λ (x : Option Content). is_some x) root) ∙ some))
long-by tree root (name ∷ names) some = lt-ltb 0 (length (name ∷ names)) (omega arith)

-- what goes is a file or a folder that has nothing, or the other kind, as its target
pub gone-other : (x t : Option Content) → is_some x ≡ true → (is_none t || is_other_kind x t) ≡ true → t ≡ x → ⊥
gone-other None t some other is = false≢true some
gone-other (Some Folder) t some other is = false≢true (sym (ap (λ (y : Option Content). is_none y || is_other_kind (Some Folder) y) is) ∙ other)
gone-other (Some (File d)) t some other is = false≢true (sym (ap (λ (y : Option Content). is_none y || is_other_kind (Some (File d)) y) is) ∙ other)

module _ (m : Sides) (is : AreRenamed m) where
  pub clear-at : (q : Path) → is_kept_there m q ≡ true → is_left m q ≡ false → IsClear m q
  clear-at q kept not_left = record { kept = kept; not_left = not_left; no_conflict = is.no_conflict q not_left }

  pub not-left-going : (side : Tree) (q : Path) → is_going m side q ≡ true → is_left m q ≡ false
  not-left-going side q going =
      let unwanted = going-at m side q (at side q) refl going in
      let parts = and_parts (is_kept m.passes side q && not (is_left m q)) (is_none (target m q) || is_other_kind (at side q) (target m q)) unwanted in
      not-true (is_left m q) (and_parts (is_kept m.passes side q) (not (is_left m q)) parts.0).1

  pub going-clear-here : (q : Path) → is_going m m.local q ≡ true → IsClear m q
  going-clear-here q going = clear-at q (or_left (is_kept m.passes m.local q) (is_kept m.passes m.remote q) (goes m m.local q going).0) (not-left-going m.local q going)

  pub going-clear-there : (q : Path) → is_going m m.remote q ≡ true → IsClear m q
  going-clear-there q going = clear-at q (or_right (is_kept m.passes m.local q) (is_kept m.passes m.remote q) (goes m m.remote q going).0) (not-left-going m.remote q going)

  -- ---- a path below which nothing stands need not be a folder
  module _ (q : Path) (here : (p : Path) → is_below q p ≡ true → is_some (at m.local p) ≡ false) (there : (p : Path) → is_below q p ≡ true → is_some (at m.remote p) ≡ false) where
    lone-want : (o : Path) (t : Bool) → is_below q o ≡ t → is_in o (both_paths m) ≡ true → (t && is_some (wanted m o)) ≡ false
    lone-want o false below has = refl
    lone-want o true below has =
        absurd (true≢false (sym has ∙ (in-joined o (paths_of m.local) (paths_of m.remote)
        ∙ or_from (is_in o (paths_of m.local)) (is_in o (paths_of m.remote)) (sym (at-in o m.local) ∙ here o below) (sym (at-in o m.remote) ∙ there o below))))

    lone-skip : (side : Tree) → ((p : Path) → is_below q p ≡ true → is_some (at side p) ≡ false) → (o p : Path) (t : Bool) → is_from q o ≡ true → is_below o p ≡ t → (t && is_skipped m.passes side p) ≡ false
    lone-skip side none o p false from below = refl
    lone-skip side none o p true from below = and_left (is_some (at side p)) (not (is_kept m.passes side p)) (none p (below-from q o p from below))

    lone-stay : (o : Path) (t : Bool) → is_from q o ≡ t → (t && is_staying m o) ≡ false
    lone-stay o false from = refl
    lone-stay o true from =
        and_right (m.passes o true && not (is_left m o))
        (list_any (λ (entry : Path × Content). is_below o entry.0 && is_skipped m.passes m.local entry.0) m.local || list_any (λ (entry : Path × Content). is_below o entry.0 && is_skipped m.passes m.remote entry.0) m.remote)
        (or_from (list_any (λ (entry : Path × Content). is_below o entry.0 && is_skipped m.passes m.local entry.0) m.local)
        (list_any (λ (entry : Path × Content). is_below o entry.0 && is_skipped m.passes m.remote entry.0) m.remote)
        (none-of-tree (λ p. is_below o p && is_skipped m.passes m.local p) m.local (λ p some. lone-skip m.local here o p (is_below o p) from refl))
        (none-of-tree (λ p. is_below o p && is_skipped m.passes m.remote p) m.remote (λ p some. lone-skip m.remote there o p (is_below o p) from refl)))

    lone-left : (top : Path) (t : Bool) → is_below q top ≡ t → is_in top m.left ≡ true → t ≡ false
    lone-left top false below has = refl
    lone-left top true below has = absurd (true≢false (sym (is.fits.left_there top has) ∙ there top below))

    lone : is_needed m q ≡ false
    lone =
        or_from (list_any (makes_needed m q) (both_paths m)) (list_any (λ top. is_below q top) m.left)
        (none-of-list (makes_needed m q) (both_paths m) (λ o has. or_from (is_below q o && is_some (wanted m o)) (is_from q o && is_staying m o) (lone-want o (is_below q o) refl has) (lone-stay o (is_from q o) refl)))
        (none-of-list (λ top. is_below q top) m.left (λ top has. lone-left top (is_below q top) refl has))

  -- nothing is below what is no folder
  none-in-file : (side : Tree) → ((top path : Path) → nat_lt 0 (length top) ≡ true → is_below top path ≡ true → is_some (at side path) ≡ true → at side top ≡ Some Folder)
      → (q : Path) → nat_lt 0 (length q) ≡ true → is_folder (at side q) ≡ false → (p : Path) → is_below q p ≡ true → is_some (at side p) ≡ false
  none-in-file side above q from_root no_folder p below = false_from_ne_true (is_some (at side p))
      (λ some. true≢false (sym (ap (λ (x : Option Content). is_folder x) (above q p from_root below some)) ∙ no_folder))

  pub lone-needs : (q : Path) → nat_lt 0 (length q) ≡ true → is_folder (at m.local q) ≡ false → is_folder (at m.remote q) ≡ false → is_needed m q ≡ false
  lone-needs q from_root here there = lone q (none-in-file m.local is.proper.here q from_root here) (none-in-file m.remote is.proper.there q from_root there)

  -- ---- what goes from the folder
  long-here : (q : Path) → is_some (at m.local q) ≡ true → nat_lt 0 (length q) ≡ true
  long-here q some = long-by m.local is.root q some

  long-there : (q : Path) → is_some (at m.remote q) ≡ true → nat_lt 0 (length q) ≡ true
  long-there q some = long-by m.remote is.root_there q some

  wanted-changed : (q : Path) → IsClear m q → is_kept m.passes m.local q ≡ true → is_some (at m.local q) ≡ true → same (at m.local q) (m.base q) ≡ false → wanted m q ≡ at m.local q
  wanted-changed q clear kept some changed =
      let seen_is = seen-kept m m.local q kept in
      wanted-is m q clear.kept clear.not_left
      ∙ (keeps-changed (m.base q) (seen m m.local q) (seen m m.remote q) (ap (λ x. same x (m.base q)) seen_is ∙ changed) (ap (λ (x : Option Content). is_some x) seen_is ∙ some) ∙ seen_is)

  file-stays : (t : Bool) (d : Option Digest) (q : Path) → at m.local q ≡ Some (File d) → is_going m m.local q ≡ true → is_folder (at m.remote q) ≡ t → same (at m.local q) (m.base q) ≡ false → ⊥
  file-stays true d q here going there changed =
      true≢false (sym (folder-over-as-base m q (going-clear-here q going) (ap (λ x. is_file x) here) there) ∙ changed)
  file-stays false d q here going there changed =
      let parts = goes m m.local q going in
      let some : is_some (at m.local q) ≡ true = ap (λ (x : Option Content). is_some x) here in
      let free = lone-needs q (long-here q some) (ap (λ x. is_folder x) here) there in
      gone-other (at m.local q) (target m q) some parts.1 (target-by m q free ∙ wanted-changed q (going-clear-here q going) parts.0 some changed)

  folder-stays : (q : Path) → at m.local q ≡ Some Folder → is_going m m.local q ≡ true → same (at m.local q) (m.base q) ≡ false → ⊥
  folder-stays q here going changed =
      let parts = goes m m.local q going in
      let some : is_some (at m.local q) ≡ true = ap (λ (x : Option Content). is_some x) here in
      let wants = wanted-changed q (going-clear-here q going) parts.0 some changed ∙ here in
      gone-other (at m.local q) (target m q) some parts.1 (folder-target (is_needed m q) (wanted m q) wants ∙ sym here)

  here-by : (x : Option Content) (q : Path) → at m.local q ≡ x → is_going m m.local q ≡ true → same (at m.local q) (m.base q) ≡ true
  here-by None q here going = absurd (false≢true (sym (ap (λ x. is_kept_node m.passes m.local q x) here) ∙ (goes m m.local q going).0))
  here-by (Some Folder) q here going = true_from_ne_false (same (at m.local q) (m.base q)) (folder-stays q here going)
  here-by (Some (File d)) q here going = true_from_ne_false (same (at m.local q) (m.base q)) (file-stays (is_folder (at m.remote q)) d q here going refl)

  pub gone-here-as-base : (q : Path) → is_going m m.local q ≡ true → same (at m.local q) (m.base q) ≡ true
  gone-here-as-base q going = here-by (at m.local q) q refl going

  -- ---- what goes from the drive
  seen-no-folder : (side : Tree) (q : Path) → is_folder (at side q) ≡ false → is_folder (seen m side q) ≡ false
  seen-no-folder side q none = no-folder-in (is_other_kind (at m.local q) (at m.remote q) && not (is_kept m.passes side q)) (at side q) none

  merged-no-folder : (q : Path) → is_folder (seen m m.local q) ≡ false → is_folder (seen m m.remote q) ≡ false
      → (merged (m.base q) (seen m m.local q) (seen m m.remote q) ≡ seen m m.local q) ⊎ (merged (m.base q) (seen m m.local q) (seen m m.remote q) ≡ seen m m.remote q)
      → is_folder (merged (m.base q) (seen m m.local q) (seen m m.remote q)) ≡ false
  merged-no-folder q here there (inl first) = ap (λ x. is_folder x) first ∙ here
  merged-no-folder q here there (inr second) = ap (λ x. is_folder x) second ∙ there

  files-target : (q : Path) → IsClear m q → nat_lt 0 (length q) ≡ true → is_folder (at m.local q) ≡ false → is_folder (at m.remote q) ≡ false → is_folder (target m q) ≡ false
  files-target q clear from_root here there =
      ap (λ x. is_folder x) (target-by m q (lone-needs q from_root here there) ∙ wanted-is m q clear.kept clear.not_left)
      ∙ merged-no-folder q (seen-no-folder m.local q here) (seen-no-folder m.remote q there) (merged-either (m.base q) (seen m m.local q) (seen m m.remote q))

  pub there-file-by : (x : Option Content) (q : Path) (e : Option Digest) → at m.local q ≡ x → at m.remote q ≡ Some (File e) → IsClear m q → is_folder (target m q) ≡ false
  there-file-by None q e here there clear =
      files-target q clear (long-there q (ap (λ (x : Option Content). is_some x) there)) (ap (λ x. is_folder x) here) (ap (λ x. is_folder x) there)
  there-file-by (Some (File d)) q e here there clear =
      files-target q clear (long-there q (ap (λ (x : Option Content). is_some x) there)) (ap (λ x. is_folder x) here) (ap (λ x. is_folder x) there)
  there-file-by (Some Folder) q e here there clear =
      let base = folder-beside m q e here there clear.kept clear.no_conflict in
      let free = not-needed m is.fits q (ap (λ x. is_file x) there) base in
      ap (λ x. is_folder x) (target-by m q free ∙ (wanted-is m q clear.kept clear.not_left ∙ as-drive m q (base q (from-self q) (ap (λ (x : Option Content). is_some x) here))))
      ∙ seen-no-folder m.remote q (ap (λ x. is_folder x) there)

  there-by : (y t : Option Content) (q : Path) → at m.remote q ≡ y → target m q ≡ t → IsClear m q → (is_none t || is_other_kind y t) ≡ true → t ≡ None
  there-by y None q there is_t clear other = refl
  there-by None (Some Folder) q there is_t clear other = absurd (false≢true other)
  there-by None (Some (File d)) q there is_t clear other = absurd (false≢true other)
  there-by (Some Folder) (Some Folder) q there is_t clear other = absurd (false≢true other)
  there-by (Some (File e)) (Some (File d)) q there is_t clear other = absurd (false≢true other)
  there-by (Some Folder) (Some (File d)) q there is_t clear other =
      absurd (there-folder-goes m q clear (ap (λ x. is_folder x) there) (ap (λ x. is_file x) is_t))
  there-by (Some (File e)) (Some Folder) q there is_t clear other =
      absurd (true≢false (sym (ap (λ x. is_folder x) is_t) ∙ there-file-by (at m.local q) q e refl there clear))

  pub gone-there-none : (q : Path) → is_going m m.remote q ≡ true → target m q ≡ None
  gone-there-none q going = there-by (at m.remote q) (target m q) q refl refl (going-clear-there q going) (goes m m.remote q going).1

  pub gone-there-as-base : (q : Path) → is_going m m.remote q ≡ true → is_some (at m.remote q) ≡ true → same (at m.remote q) (m.base q) ≡ true
  gone-there-as-base q going some =
      let clear = going-clear-there q going in
      let none = none-wanted (is_needed m q) (wanted m q) (ap (λ (x : Option Content). is_none x) (gone-there-none q going)) in
      let seen_is = seen-kept m m.remote q (goes m m.remote q going).0 in
      ap (λ x. same x (m.base q)) (sym seen_is)
      ∙ merged-none (m.base q) (seen m m.local q) (seen m m.remote q) (sym (wanted-is m q clear.kept clear.not_left) ∙ none) (ap (λ (x : Option Content). is_some x) seen_is ∙ some)

  -- ---- where a conflict is left
  left-from : (top q : Path) → is_in top m.left ≡ true → is_from top q ≡ true → is_left m q ≡ true
  left-from top q has from = any-with (λ other. is_from other q) m.left top has from

  not-wanted : (q : Path) → is_left m q ≡ true → wanted m q ≡ None
  not-wanted q left =
      cond-false (is_kept_there m q && not (is_left m q)) (merged (m.base q) (seen m m.local q) (seen m m.remote q)) None
      (and_right (is_kept_there m q) (not (is_left m q)) (ap (λ b. not b) left))

  not-staying : (q : Path) → is_left m q ≡ true → is_staying m q ≡ false
  not-staying q left =
      and_left (m.passes q true && not (is_left m q))
      (list_any (λ (entry : Path × Content). is_below q entry.0 && is_skipped m.passes m.local entry.0) m.local || list_any (λ (entry : Path × Content). is_below q entry.0 && is_skipped m.passes m.remote entry.0) m.remote)
      (and_right (m.passes q true) (not (is_left m q)) (ap (λ b. not b) left))

  module _ (top q : Path) (has_top : is_in top m.left ≡ true) (from_top : is_from top q ≡ true) where
    left-want : (o : Path) (t : Bool) → is_below q o ≡ t → (t && is_some (wanted m o)) ≡ false
    left-want o false below = refl
    left-want o true below = ap (λ (x : Option Content). is_some x) (not-wanted o (left-from top o has_top (below-is-from top o (below-from top q o from_top below))))

    left-stay : (o : Path) (t : Bool) → is_from q o ≡ t → (t && is_staying m o) ≡ false
    left-stay o false from = refl
    left-stay o true from = not-staying o (left-from top o has_top (from-through top q o from_top from))

    left-below : (o : Path) → is_in o m.left ≡ true → is_below q o ≡ false
    left-below o other = false_from_ne_true (is_below q o) (λ below. true≢false (sym (below-from top q o from_top below) ∙ is.apart top o has_top other))

    left-none : target m q ≡ None
    left-none =
        target-by m q
        (or_from (list_any (makes_needed m q) (both_paths m)) (list_any (λ o. is_below q o) m.left)
        (none-of-list (makes_needed m q) (both_paths m) (λ o has. or_from (is_below q o && is_some (wanted m o)) (is_from q o && is_staying m o) (left-want o (is_below q o) refl) (left-stay o (is_from q o) refl)))
        (none-of-list (λ o. is_below q o) m.left left-below))
        ∙ not-wanted q (left-from top q has_top from_top)

  pub no-target-left : (q : Path) → is_left m q ≡ true → target m q ≡ None
  no-target-left q left = let top = any-one (λ other. is_from other q) m.left left in left-none top.0 q top.1 top.2

  -- ---- what is to stand somewhere
  kept-by : (t : Bool) (q : Path) → nat_lt 0 (length q) ≡ true → is_kept_there m q ≡ t → is_some (target m q) ≡ true → t ≡ true
  kept-by true q from_root kept some = refl
  kept-by false q from_root kept some = absurd (false≢true (sym (ap (λ (x : Option Content). is_some x) (no-target m is.proper q from_root kept)) ∙ some))

  left-by : (t : Bool) (q : Path) → is_left m q ≡ t → is_some (target m q) ≡ true → t ≡ false
  left-by true q left some = absurd (false≢true (sym (ap (λ (x : Option Content). is_some x) (no-target-left q left)) ∙ some))
  left-by false q left some = refl

  pub target-clear : (q : Path) → nat_lt 0 (length q) ≡ true → is_some (target m q) ≡ true → IsClear m q
  target-clear q from_root some = clear-at q (kept-by (is_kept_there m q) q from_root refl some) (left-by (is_left m q) q refl some)

  pub target-free : (q : Path) → is_some (target m q) ≡ true → is_left m q ≡ false
  target-free q some = left-by (is_left m q) q refl some
