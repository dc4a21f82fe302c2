-- The plan where all passes and no copy name is missing.
use Rattle.std.specs.Prelude.{◌≡◌, Bool, true, List, [], length, is_some, nat_lt, Some, None}
use Rattle.std.specs.List.{list_any}
use Rattle.od_merge.specs.declared.content.Content.TheVariants.{Folder, File}
use Rattle.od_merge.specs.Sides.{Path, Tree, Sides, is_path, is_below, at}

abbrev pub core : Tree → Tree → Tree → Sides
core base local remote = record { passes = λ path folder. true; base = at base; local = local; remote = remote; left = [] }

abbrev pub is_in : Path → List Path → Bool
is_in path paths = list_any (is_path path) paths

-- A tree: what is above something is a folder, nothing stands at the root itself, and digests are known.
pub record IsTree (tree : Tree) : Type 0 where
  pub root : at tree [] ≡ None
  pub above : (top path : Path) → nat_lt 0 (length top) ≡ true → is_below top path ≡ true → is_some (at tree path) ≡ true → at tree top ≡ Some Folder
  pub known : (path : Path) → at tree path ≡ Some (File None) → ⊥
