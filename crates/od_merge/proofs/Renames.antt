-- After the renames no path is a conflict that was none before.
use Rattle.std.proofs.Common.{◌≡◌, Bool, true, false, not, ◌&&◌, ◌||◌, cond, is_some, List, [], ◌∷◌, ◌++◌, length, nat_lt, arith, drop, Option, Some, None, refl, ap, sym, subst, ◌∙◌}
use Rattle.std.proofs.lemmas.Bool.{true≢false, false≢true, and_parts, and_from, and_left, or_parts, or_from, false_from_ne_true, lt-ltb}
use Rattle.std.specs.List.{list_any}
use Rattle.gd_item.specs.declared.digest.Digest.{Digest}
use Rattle.od_merge.specs.declared.content.Content.{Content}
use Rattle.od_merge.specs.declared.content.Content.TheVariants.{Folder, File}
use Rattle.od_merge.specs.Sides.{Sides, Tree, at, entry_passes, is_below, is_file, is_from, is_kept, is_kept_node, is_kept_there, is_path, same}
use Rattle.od_merge.specs.Merging.{is_changed_or_skipped, is_conflict, is_conflict_of, moved, renamed_tree}
use Rattle.od_merge.specs.Steps.{AreCopies, IsCopy, after_renames}
use Rattle.od_merge.proofs.Lists.{Path, same-path, text-self}
use Rattle.od_merge.proofs.SideFacts.{prefixes}
use Rattle.od_merge.proofs.Needs.{below-from}

-- what begins with a path is from it on
pub from-front : (top rest : Path) → is_from top (top ++ rest) ≡ true
from-front [] rest = refl
from-front (name ∷ top) rest = rw (text-self name) (from-front top rest)

-- ---- a path that is not from a rename has what it had
abbrev pub is_touched : Path → Path × Path → Bool
is_touched q rename = is_from rename.0 q || is_from rename.1 q

moved-at : (t : Bool) (q p : Path) (rename : Path × Path) (rest : Path) → is_from rename.0 p ≡ t → is_from rename.0 q ≡ false → is_from rename.1 q ≡ false → is_path q rest ≡ is_path q p
    → is_path q (cond t (rename.1 ++ drop (length rename.0) p) rest) ≡ is_path q p
moved-at false q p rename rest from not_from not_to is = is
moved-at true q p rename rest from not_from not_to is =
    false_from_ne_true (is_path q (rename.1 ++ drop (length rename.0) p))
    (λ same. true≢false (sym (subst (λ (x : Path). is_from rename.1 x ≡ true) (sym (same-path q (rename.1 ++ drop (length rename.0) p) same)) (from-front rename.1 (drop (length rename.0) p))) ∙ not_to))
    ∙ sym (false_from_ne_true (is_path q p) (λ same. true≢false (sym (subst (λ (x : Path). is_from rename.0 x ≡ true) (sym (same-path q p same)) from) ∙ not_from)))

moved-same : (renames : List (Path × Path)) (q p : Path) → list_any (is_touched q) renames ≡ false → is_path q (moved renames p) ≡ is_path q p
moved-same [] q p none = refl
moved-same (rename ∷ renames) q p none =
    let parts = or_parts (is_touched q rename) (list_any (is_touched q) renames) none in
    let first = or_parts (is_from rename.0 q) (is_from rename.1 q) parts.0 in
    moved-at (is_from rename.0 p) q p rename (moved renames p) refl first.0 first.1 (moved-same renames q p parts.1)

at-step : (t : Bool) (q : Path) (a b : Path × Content) (x y : Tree) → is_path q a.0 ≡ t → is_path q b.0 ≡ t → a.1 ≡ b.1 → at x q ≡ at y q → at (a ∷ x) q ≡ at (b ∷ y) q
at-step true q a b x y a_is b_is same rest = rw (a_is, b_is) (ap (λ (n : Content). Some n) same)
at-step false q a b x y a_is b_is same rest = rw (a_is, b_is) rest

pub at-renamed : (renames : List (Path × Path)) (tree : Tree) (q : Path) → list_any (is_touched q) renames ≡ false → at (renamed_tree renames tree) q ≡ at tree q
at-renamed renames [] q none = refl
at-renamed renames (entry ∷ tree) q none =
    at-step (is_path q entry.0) q (moved renames entry.0, entry.1) entry (renamed_tree renames tree) tree (moved-same renames q entry.0 none) refl refl (at-renamed renames tree q none)

-- ---- a path that no rename is above or below
abbrev pub is_near : Path → Path × Path → Bool
is_near u rename = is_touched u rename || (is_below u rename.0 || is_below u rename.1)

record Near (u : Path) (rename : Path × Path) : Type 0 where
  from_old : is_from rename.0 u ≡ false
  from_new : is_from rename.1 u ≡ false
  below_old : is_below u rename.0 ≡ false
  below_new : is_below u rename.1 ≡ false

apart : (u : Path) (rename : Path × Path) → is_near u rename ≡ false → Near u rename
apart u rename none =
    let parts = or_parts (is_touched u rename) (is_below u rename.0 || is_below u rename.1) none in
    let first = or_parts (is_from rename.0 u) (is_from rename.1 u) parts.0 in
    let second = or_parts (is_below u rename.0) (is_below u rename.1) parts.1 in
    record { from_old = first.0; from_new = first.1; below_old = second.0; below_new = second.1 }

stays-at : (t : Bool) (u p : Path) (rename : Path × Path) (rest : Path) → is_from rename.0 p ≡ t → Near u rename → is_from u p ≡ true → rest ≡ p
    → cond t (rename.1 ++ drop (length rename.0) p) rest ≡ p
stays-at false u p rename rest from near under is = is
stays-at true u p rename rest from near under is =
    absurd (true≢false (sym (prefixes rename.0 u p from under) ∙ or_from (is_from rename.0 u) (is_below u rename.0) near.from_old near.below_old))

pub moved-stays : (renames : List (Path × Path)) (u p : Path) → list_any (is_near u) renames ≡ false → is_from u p ≡ true → moved renames p ≡ p
moved-stays [] u p none under = refl
moved-stays (rename ∷ renames) u p none under =
    let parts = or_parts (is_near u rename) (list_any (is_near u) renames) none in
    stays-at (is_from rename.0 p) u p rename (moved renames p) refl (apart u rename parts.0) under (moved-stays renames u p parts.1 under)

away-at : (t : Bool) (u p : Path) (rename : Path × Path) (rest : Path) → is_from rename.0 p ≡ t → Near u rename → is_from u rest ≡ false → is_from u (cond t (rename.1 ++ drop (length rename.0) p) rest) ≡ false
away-at false u p rename rest from near is = is
away-at true u p rename rest from near is = false_from_ne_true (is_from u (rename.1 ++ drop (length rename.0) p))
    (λ under. true≢false (sym (prefixes rename.1 u (rename.1 ++ drop (length rename.0) p) (from-front rename.1 (drop (length rename.0) p)) under) ∙ or_from (is_from rename.1 u) (is_below u rename.1) near.from_new near.below_new))

pub moved-away : (renames : List (Path × Path)) (u p : Path) → list_any (is_near u) renames ≡ false → is_from u p ≡ false → is_from u (moved renames p) ≡ false
moved-away [] u p none away = away
moved-away (rename ∷ renames) u p none away =
    let parts = or_parts (is_near u rename) (list_any (is_near u) renames) none in
    away-at (is_from rename.0 p) u p rename (moved renames p) refl (apart u rename parts.0) (moved-away renames u p parts.1 away)

-- a test of what is from such a path on says the same after the renames
one-test : (t : Bool) (renames : List (Path × Path)) (u : Path) (f g : Path × Content → Bool) (entry : Path × Content) → list_any (is_near u) renames ≡ false → is_from u entry.0 ≡ t
    → (is_from u entry.0 ≡ true → f entry ≡ g entry) → (is_from u (moved renames entry.0) && f (moved renames entry.0, entry.1)) ≡ (is_from u entry.0 && g entry)
one-test true renames u f g entry none under same =
    ap (λ (p : Path). is_from u p && f (p, entry.1)) (moved-stays renames u entry.0 none under) ∙ ap (λ b. is_from u entry.0 && b) (same under)
one-test false renames u f g entry none under same =
    and_left (is_from u (moved renames entry.0)) (f (moved renames entry.0, entry.1)) (moved-away renames u entry.0 none under) ∙ sym (and_left (is_from u entry.0) (g entry) under)

pub any-renamed : (renames : List (Path × Path)) (u : Path) (f g : Path × Content → Bool) (tree : Tree) → list_any (is_near u) renames ≡ false → ((entry : Path × Content) → is_from u entry.0 ≡ true → f entry ≡ g entry)
    → list_any (λ entry. is_from u entry.0 && f entry) (renamed_tree renames tree) ≡ list_any (λ entry. is_from u entry.0 && g entry) tree
any-renamed renames u f g [] none same = refl
any-renamed renames u f g (entry ∷ tree) none same =
    ap (λ b. b || list_any (λ e. is_from u e.0 && f e) (renamed_tree renames tree)) (one-test (is_from u entry.0) renames u f g entry none refl (same entry))
    ∙ ap (λ b. (is_from u entry.0 && g entry) || b) (any-renamed renames u f g tree none same)

near-touched : (renames : List (Path × Path)) (u : Path) → list_any (is_near u) renames ≡ false → list_any (is_touched u) renames ≡ false
near-touched [] u none = refl
near-touched (rename ∷ renames) u none =
    let parts = or_parts (is_near u rename) (list_any (is_near u) renames) none in
    or_from (is_touched u rename) (list_any (is_touched u) renames) (or_parts (is_touched u rename) (is_below u rename.0 || is_below u rename.1) parts.0).0 (near-touched renames u parts.1)

-- what is from such a path on is such a path
near-on : (u p : Path) (rename : Path × Path) → is_from u p ≡ true → Near u rename → is_near p rename ≡ false
near-on u p rename under near =
    or_from (is_touched p rename) (is_below p rename.0 || is_below p rename.1)
    (or_from (is_from rename.0 p) (is_from rename.1 p)
    (false_from_ne_true (is_from rename.0 p) (λ from. true≢false (sym (prefixes rename.0 u p from under) ∙ or_from (is_from rename.0 u) (is_below u rename.0) near.from_old near.below_old)))
    (false_from_ne_true (is_from rename.1 p) (λ from. true≢false (sym (prefixes rename.1 u p from under) ∙ or_from (is_from rename.1 u) (is_below u rename.1) near.from_new near.below_new))))
    (or_from (is_below p rename.0) (is_below p rename.1)
    (false_from_ne_true (is_below p rename.0) (λ below. true≢false (sym (below-from u p rename.0 under below) ∙ near.below_old)))
    (false_from_ne_true (is_below p rename.1) (λ below. true≢false (sym (below-from u p rename.1 under below) ∙ near.below_new))))

near-all : (renames : List (Path × Path)) (u p : Path) → is_from u p ≡ true → list_any (is_near u) renames ≡ false → list_any (is_near p) renames ≡ false
near-all [] u p under none = refl
near-all (rename ∷ renames) u p under none =
    let parts = or_parts (is_near u rename) (list_any (is_near u) renames) none in
    or_from (is_near p rename) (list_any (is_near p) renames) (near-on u p rename under (apart u rename parts.0)) (near-all renames u p under parts.1)

-- ---- whether it is kept, changed or skipped
module _ (s : Sides) (renames : List (Path × Path)) where
  kept-by : (u : Path) (x : Option Content) → list_any (is_near u) renames ≡ false → is_kept_node s.passes (renamed_tree renames s.local) u x ≡ is_kept_node s.passes s.local u x
  kept-by u None none = refl
  kept-by u (Some Folder) none = any-renamed renames u (entry_passes s.passes) (entry_passes s.passes) s.local none (λ entry under. refl)
  kept-by u (Some (File d)) none = refl

  pub kept-renamed : (u : Path) → list_any (is_near u) renames ≡ false → is_kept s.passes (renamed_tree renames s.local) u ≡ is_kept s.passes s.local u
  kept-renamed u none = kept-by u (at (renamed_tree renames s.local) u) none ∙ ap (λ x. is_kept_node s.passes s.local u x) (at-renamed renames s.local u (near-touched renames u none))

  pub changed-renamed : (u : Path) → list_any (is_near u) renames ≡ false → is_changed_or_skipped (after_renames s renames) u ≡ is_changed_or_skipped s u
  changed-renamed u none =
      ap (λ x. not (same x (s.base u)) || is_some x && not (is_kept s.passes (renamed_tree renames s.local) u)) (at-renamed renames s.local u (near-touched renames u none))
      ∙ ap (λ b. not (same (at s.local u) (s.base u)) || is_some (at s.local u) && not b) (kept-renamed u none)

  -- a folder beside a file of the drive
  pub folder-conflict : (u : Path) → list_any (is_near u) renames ≡ false → (d : Option Digest) → is_conflict_of (after_renames s renames) u (Some Folder) (Some (File d)) ≡ is_conflict_of s u (Some Folder) (Some (File d))
  folder-conflict u none d =
      ap (λ b. (b || is_kept s.passes s.remote u) && list_any (λ (entry : Path × Content). is_from u entry.0 && is_changed_or_skipped (after_renames s renames) entry.0) (renamed_tree renames s.local)) (kept-renamed u none)
      ∙ ap (λ b. is_kept_there s u && b)
      (any-renamed renames u (λ entry. is_changed_or_skipped (after_renames s renames) entry.0) (λ entry. is_changed_or_skipped s entry.0) s.local none
      (λ entry under. changed-renamed entry.0 (near-all renames u entry.0 under none)))

-- ---- a path that a rename has left, or to which one came
abbrev is_old : Path → Path × Path → Bool
is_old q rename = is_from rename.0 q

abbrev is_new : Path → Path × Path → Bool
is_new q rename = is_from rename.1 q

unmoved-at : (t : Bool) (q p : Path) (rename : Path × Path) (renames : List (Path × Path)) → is_from rename.0 p ≡ t → is_from rename.1 q ≡ false
    → (is_path q (moved renames p) ≡ true → (is_path q p ≡ true) × (list_any (is_old p) renames ≡ false))
    → is_path q (cond t (rename.1 ++ drop (length rename.0) p) (moved renames p)) ≡ true → (is_path q p ≡ true) × ((t || list_any (is_old p) renames) ≡ false)
unmoved-at false q p rename renames from not_new rest is = rest is
unmoved-at true q p rename renames from not_new rest is =
    absurd (true≢false (sym (subst (λ (x : Path). is_from rename.1 x ≡ true) (sym (same-path q (rename.1 ++ drop (length rename.0) p) is)) (from-front rename.1 (drop (length rename.0) p))) ∙ not_new))

unmoved : (renames : List (Path × Path)) (q p : Path) → list_any (is_new q) renames ≡ false → is_path q (moved renames p) ≡ true → (is_path q p ≡ true) × (list_any (is_old p) renames ≡ false)
unmoved [] q p none is = (is, refl)
unmoved (rename ∷ renames) q p none is =
    let parts = or_parts (is_new q rename) (list_any (is_new q) renames) none in
    unmoved-at (is_from rename.0 p) q p rename renames refl parts.0 (unmoved renames q p parts.1) is

nobody : (renames : List (Path × Path)) (q p : Path) → list_any (is_old q) renames ≡ true → list_any (is_new q) renames ≡ false → is_path q (moved renames p) ≡ false
nobody renames q p old new = false_from_ne_true (is_path q (moved renames p))
    (λ is.
    let parts = unmoved renames q p new is in
    true≢false (sym old ∙ subst (λ (x : Path). list_any (is_old x) renames ≡ false) (sym (same-path q p parts.0)) parts.1))

skip-entry : (q : Path) (entry : Path × Content) (tree : Tree) → is_path q entry.0 ≡ false → at tree q ≡ None → at (entry ∷ tree) q ≡ None
skip-entry q entry tree is rest = rw is rest

pub left-empty : (renames : List (Path × Path)) (tree : Tree) (q : Path) → list_any (is_old q) renames ≡ true → list_any (is_new q) renames ≡ false → at (renamed_tree renames tree) q ≡ None
left-empty renames [] q old new = refl
left-empty renames (entry ∷ tree) q old new =
    skip-entry q (moved renames entry.0, entry.1) (renamed_tree renames tree) (nobody renames q entry.0 old new) (left-empty renames tree q old new)

touched-parts : (renames : List (Path × Path)) (q : Path) → list_any (is_old q) renames ≡ false → list_any (is_new q) renames ≡ false → list_any (is_touched q) renames ≡ false
touched-parts [] q old new = refl
touched-parts (rename ∷ renames) q old new =
    let first = or_parts (is_old q rename) (list_any (is_old q) renames) old in
    let second = or_parts (is_new q rename) (list_any (is_new q) renames) new in
    or_from (is_touched q rename) (list_any (is_touched q) renames) (or_from (is_from rename.0 q) (is_from rename.1 q) first.0 second.0) (touched-parts renames q first.1 second.1)

-- ---- no path becomes a conflict
no-drive : (s : Sides) (q : Path) (x : Option Content) → is_conflict_of s q x None ≡ false
no-drive s q None = refl
no-drive s q (Some Folder) = refl
no-drive s q (Some (File d)) = refl

pub conflict-there : (s : Sides) (q : Path) (x y : Option Content) → is_conflict_of s q x y ≡ true → is_some y ≡ true
conflict-there s q x None is = absurd (true≢false (sym is ∙ no-drive s q x))
conflict-there s q x (Some y) is = refl

no-there : (y : Option Content) (t : Sides) (q : Path) → is_some y ≡ false → is_conflict_of t q (at t.local q) y ≡ false
no-there None t q none = no-drive t q (at t.local q)
no-there (Some y) t q none = absurd (true≢false none)

module _ (s : Sides) (root : at s.remote [] ≡ None) (closed : (top path : Path) → nat_lt 0 (length top) ≡ true → is_some (at s.remote top) ≡ false → is_from top path ≡ true → is_some (at s.remote path) ≡ false)
    (files : (top path : Path) → is_file (at s.remote top) ≡ true → is_below top path ≡ true → is_some (at s.remote path) ≡ false) where
  not-root : (p : Path) → is_some (at s.remote p) ≡ true → nat_lt 0 (length p) ≡ true
  not-root [] some = absurd (false≢true (sym (ap (λ (x : Option Content). is_some x) root) ∙ some))
  not-root (name ∷ names) some = lt-ltb 0 (length (name ∷ names)) (omega arith)

  long : (rename : Path × Path) → IsCopy s rename → nat_lt 0 (length rename.1) ≡ true
  long rename copy =
      let old = not-root rename.0 (conflict-there s rename.0 (at s.local rename.0) (at s.remote rename.0) copy.conflict) in
      (and_parts (nat_lt 0 (length rename.1)) true (copy.beside [] ∙ and_from (nat_lt 0 (length rename.0)) true old refl)).0

  came-at : (t : Bool) (rename : Path × Path) (renames : List (Path × Path)) (q : Path) → AreCopies s (rename ∷ renames) → is_from rename.1 q ≡ t → (t || list_any (is_new q) renames) ≡ true
      → (list_any (is_new q) renames ≡ true → is_some (at s.remote q) ≡ false) → is_some (at s.remote q) ≡ false
  came-at true rename renames q copies from new rest = closed rename.1 q (long rename copies.0) copies.0.free from
  came-at false rename renames q copies from new rest = rest new

  came : (renames : List (Path × Path)) (q : Path) → AreCopies s renames → list_any (is_new q) renames ≡ true → is_some (at s.remote q) ≡ false
  came [] q copies new = absurd (false≢true new)
  came (rename ∷ renames) q copies new = came-at (is_from rename.1 q) rename renames q copies refl new (came renames q copies.1)

  -- no rename is below a file of the drive
  none-under : (q : Path) (rename : Path × Path) → IsCopy s rename → is_file (at s.remote q) ≡ true → is_below q rename.0 ≡ false
  none-under q rename copy file = false_from_ne_true (is_below q rename.0)
      (λ below. true≢false (sym (conflict-there s rename.0 (at s.local rename.0) (at s.remote rename.0) copy.conflict) ∙ files q rename.0 file below))

  near-none : (renames : List (Path × Path)) (q : Path) → AreCopies s renames → is_file (at s.remote q) ≡ true → list_any (is_touched q) renames ≡ false → list_any (is_near q) renames ≡ false
  near-none [] q copies file none = refl
  near-none (rename ∷ renames) q copies file none =
      let parts = or_parts (is_touched q rename) (list_any (is_touched q) renames) none in
      let below = none-under q rename copies.0 file in
      or_from (is_near q rename) (list_any (is_near q) renames)
      (or_from (is_touched q rename) (is_below q rename.0 || is_below q rename.1) parts.0 (or_from (is_below q rename.0) (is_below q rename.1) below (copies.0.beside q ∙ below)))
      (near-none renames q copies.1 file parts.1)

  file-alike : (q : Path) (d : Option Digest) (renames : List (Path × Path)) → at (renamed_tree renames s.local) q ≡ Some (File d) → at s.local q ≡ Some (File d)
      → is_conflict_of (after_renames s renames) q (Some (File d)) (Some Folder) ≡ is_conflict_of s q (Some (File d)) (Some Folder)
  file-alike q d renames after here = rw (after, here) refl

  alike : (renames : List (Path × Path)) (q : Path) (x y : Option Content) → at s.local q ≡ x → at s.remote q ≡ y → AreCopies s renames → list_any (is_touched q) renames ≡ false
      → is_conflict_of (after_renames s renames) q x y ≡ is_conflict_of s q x y
  alike renames q None y here there copies none = refl
  alike renames q (Some Folder) None here there copies none = refl
  alike renames q (Some (File d)) None here there copies none = refl
  alike renames q (Some Folder) (Some Folder) here there copies none = refl
  alike renames q (Some (File d)) (Some (File e)) here there copies none =
      ap (λ x. s.passes q false && not (same x (s.base q)) && not (same (Some (File d)) (Some (File e))) && not (same (Some (File e)) (s.base q))) (at-renamed renames s.local q none)
  alike renames q (Some (File d)) (Some Folder) here there copies none =
      let after : at (renamed_tree renames s.local) q ≡ Some (File d) = at-renamed renames s.local q none ∙ here in
      file-alike q d renames after here
  alike renames q (Some Folder) (Some (File d)) here there copies none = folder-conflict s renames q (near-none renames q copies (ap (λ x. is_file x) there) none) d

  by-new : (new old : Bool) (renames : List (Path × Path)) (q : Path) → list_any (is_new q) renames ≡ new → list_any (is_old q) renames ≡ old → AreCopies s renames
      → (is_conflict s q ≡ true → old ≡ true) → is_conflict (after_renames s renames) q ≡ false
  by-new true old renames q new_is old_is copies each = no-there (at s.remote q) (after_renames s renames) q (came renames q copies new_is)
  by-new false true renames q new_is old_is copies each = ap (λ x. is_conflict_of (after_renames s renames) q x (at s.remote q)) (left-empty renames s.local q old_is new_is)
  by-new false false renames q new_is old_is copies each =
      let none = touched-parts renames q old_is new_is in
      ap (λ x. is_conflict_of (after_renames s renames) q x (at s.remote q)) (at-renamed renames s.local q none)
      ∙ (alike renames q (at s.local q) (at s.remote q) refl refl copies none ∙ false_from_ne_true (is_conflict s q) (λ is. false≢true (each is)))

  pub none-new : (renames : List (Path × Path)) (q : Path) → AreCopies s renames → (is_conflict s q ≡ true → list_any (is_old q) renames ≡ true) → is_conflict (after_renames s renames) q ≡ false
  none-new renames q copies each = by-new (list_any (is_new q) renames) (list_any (is_old q) renames) renames q refl refl copies each
