-- What the plan has done on each side, and what a side has after steps: a step leaves something, or nothing, at its path.
use Rattle.std.specs.Prelude.{ℕ, zero, suc, ◌+◌, max, ◌≡◌, Bool, true, false, not, ◌&&◌, ◌||◌, cond, List, [], ◌∷◌, ◌++◌, length, map, filter, is_some, nat_eq, nat_lt, Option, Some, None}
use Rattle.std.specs.List.{list_any}
use Rattle.std.specs.List.Sorted.{IsStrictlySortedBy}
use Rattle.gd_names.specs.Ordered.{path_cmp}
use Rattle.od_merge.specs.declared.content.Content.{Content}
use Rattle.od_merge.specs.declared.content.Content.TheVariants.{Folder, File}
use Rattle.od_merge.specs.Sides.{Path, Tree, Sides, is_path, is_below, is_from, is_kept_there, at, same, is_folder, is_file, is_skipped, paths_of}
use Rattle.od_merge.specs.Merging.{all_paths, renamed_tree, target, is_going, is_left, is_conflict}

-- what stands at a path after steps, by what stood there
abbrev pub done : List (Path × Option Content) → Path → Option Content → Option Content
done [] path there = there
done (step ∷ steps) path there = done steps path (cond (is_path path step.0) step.1 there)

-- one kind of step at each path of a list that has a property
abbrev pub steps_at : (Path → Bool) → (Path → Option Content) → List Path → List (Path × Option Content)
steps_at test leaves paths = map (λ path. (path, leaves path)) (filter test paths)

-- the deepest first, and those of one depth in their order
abbrev pub by_depth : ℕ → List Path → List Path
by_depth zero paths = []
by_depth (suc depth) paths = filter (λ path. nat_eq (length path) depth) paths ++ by_depth depth paths

abbrev pub depth_of : List Path → ℕ
depth_of [] = 0
depth_of (path ∷ paths) = max (length path + 1) (depth_of paths)

abbrev pub deepest_first : List Path → List Path
deepest_first paths = by_depth (depth_of paths) paths

abbrev pub needs_folder : Sides → Tree → Path → Bool
needs_folder s side path = is_folder (target s path) && not (is_folder (at side path))

abbrev pub is_fetched : Sides → Path → Bool
is_fetched s path = is_file (target s path) && same (target s path) (at s.remote path) && not (same (target s path) (at s.local path))

abbrev pub is_sent : Sides → Path → Bool
is_sent s path = is_file (target s path) && not (same (target s path) (at s.remote path))

abbrev pub steps_here : Sides → List (Path × Option Content)
steps_here s = steps_at (is_going s s.local) (λ path. None) (deepest_first (all_paths s))
    ++ (steps_at (needs_folder s s.local) (λ path. Some Folder) (all_paths s) ++ steps_at (is_fetched s) (target s) (all_paths s))

-- held are the paths that nothing is sent to
abbrev pub steps_there : (Path → Bool) → Sides → List (Path × Option Content)
steps_there is_held s = steps_at (is_going s s.remote) (λ path. None) (deepest_first (all_paths s))
    ++ (steps_at (λ path. needs_folder s s.remote path && not (is_held path)) (λ path. Some Folder) (all_paths s)
    ++ steps_at (λ path. is_sent s path && not (is_held path)) (target s) (all_paths s))

-- what is to stand at a path of a side: what is skipped there and a folder that does not go stay
abbrev pub stands : Sides → Tree → Path → Option Content
stands s side path = cond (is_skipped s.passes side path || is_folder (at side path) && not (is_going s side path)) (at side path) (target s path)

-- what is asked of the sides: the drive's digests are known, nothing is below a file of the drive, and what is left stands there
pub record Fits (s : Sides) : Type 0 where
  pub known : (path : Path) → at s.remote path ≡ Some (File None) → ⊥
  pub files : (top path : Path) → is_file (at s.remote top) ≡ true → is_below top path ≡ true → is_some (at s.remote path) ≡ false
  pub left_there : (top : Path) → list_any (is_path top) s.left ≡ true → is_some (at s.remote top) ≡ true

-- a path where something is kept, and which is no conflict and not below one
pub record IsClear (s : Sides) (path : Path) : Type 0 where
  pub kept : is_kept_there s path ≡ true
  pub not_left : is_left s path ≡ false
  pub no_conflict : is_conflict s path ≡ false

-- a rename of a conflict to a path beside it that the drive does not have
pub record IsCopy (s : Sides) (rename : Path × Path) : Type 0 where
  pub conflict : is_conflict s rename.0 ≡ true
  pub free : is_some (at s.remote rename.1) ≡ false
  pub beside : (path : Path) → is_below path rename.1 ≡ is_below path rename.0

-- a copy path is beside its path, and free
abbrev pub IsCopying : (List Path → Path → Option Path) → Type 0
IsCopying copy = (taken : List Path) (path to : Path) → copy taken path ≡ Some to → (list_any (is_path to) taken ≡ false) × ((top : Path) → is_below top to ≡ is_below top path)

abbrev pub AreCopies : Sides → List (Path × Path) → Type 0
AreCopies s [] = Unit {0}
AreCopies s (rename ∷ renames) = IsCopy s rename × AreCopies s renames

-- the sides where some local entries have moved
abbrev pub after_renames : Sides → List (Path × Path) → Sides
after_renames s renames = record s { local = renamed_tree renames s.local }

-- what is asked of the drive's tree: below what is not there is nothing, nor below a file, and its digests are known
pub record IsDriveTree (tree : Tree) : Type 0 where
  pub root : at tree [] ≡ None
  pub closed : (top path : Path) → nat_lt 0 (length top) ≡ true → is_some (at tree top) ≡ false → is_from top path ≡ true → is_some (at tree path) ≡ false
  pub files : (top path : Path) → is_file (at tree top) ≡ true → is_below top path ≡ true → is_some (at tree path) ≡ false
  pub known : (path : Path) → at tree path ≡ Some (File None) → ⊥

-- after the plan's steps both sides are what is to stand on them
pub record IsMerged (is_held : Path → Bool) (s : Sides) (path : Path) : Type 0 where
  pub here : done (steps_here s) path (at s.local path) ≡ stands s s.local path
  pub there : is_held path ≡ false → done (steps_there is_held s) path (at s.remote path) ≡ stands s s.remote path

-- both trees are proper, and what is left is kept on one of the sides
pub record IsProper (s : Sides) : Type 0 where
  pub here : (top path : Path) → nat_lt 0 (length top) ≡ true → is_below top path ≡ true → is_some (at s.local path) ≡ true → at s.local top ≡ Some Folder
  pub there : (top path : Path) → nat_lt 0 (length top) ≡ true → is_below top path ≡ true → is_some (at s.remote path) ≡ true → at s.remote top ≡ Some Folder
  pub left_kept : (top : Path) → list_any (is_path top) s.left ≡ true → is_kept_there s top ≡ true

-- what a scan of the folder and a pull of the drive give: trees, the folder's entries in order of path, each once
pub record AreTrees (s : Sides) : Type 0 where
  pub in_order : IsStrictlySortedBy path_cmp (paths_of s.local)
  pub root : at s.local [] ≡ None
  pub here : (top path : Path) → nat_lt 0 (length top) ≡ true → is_below top path ≡ true → is_some (at s.local path) ≡ true → at s.local top ≡ Some Folder
  pub there : IsDriveTree s.remote

-- what is so after the renames: both sides are trees, no path is a conflict but those that are left, and none of these is below another one
pub record AreRenamed (m : Sides) : Type 0 where
  pub root : at m.local [] ≡ None
  pub root_there : at m.remote [] ≡ None
  pub proper : IsProper m
  pub fits : Fits m
  pub no_conflict : (path : Path) → is_left m path ≡ false → is_conflict m path ≡ false
  pub apart : (top other : Path) → list_any (is_path top) m.left ≡ true → list_any (is_path other) m.left ≡ true → is_below top other ≡ false
