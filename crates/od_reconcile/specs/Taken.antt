-- The names that are taken, in the folders that have them.
use Rattle.std.specs.Prelude.{ℕ, ◌≡◌, List, [], ◌∷◌, ◌++◌, Option, Some, None}
use Rattle.std.specs.Map.{lookup}
use Rattle.std.specs.Ordering.{is_eq}
use Rattle.gd_names.specs.Ordered.{path_cmp}
use Rattle.od_merge.specs.Sides.{Path}
use Rattle.od_reconcile.specs.Copying.{names_in}

-- the names of a folder, and each folder's names
abbrev pub Names : Type 0
Names = List (List ℕ)

abbrev pub NamesByFolder : Type 0
NamesByFolder = List (Path × Names)

abbrev pub names_or_none : Option Names → Names
names_or_none None = []
names_or_none (Some names) = names

abbrev pub names_at : NamesByFolder → Path → Names
names_at index folder = names_or_none (lookup (λ key. is_eq (path_cmp folder key)) index)

-- an index has the names that paths have in their folders
pub record HasNames (paths : List Path) (index : NamesByFolder) : Type 0 where
  pub has : (folder : Path) → names_at index folder ≡ names_in folder paths

-- the paths that are taken once copies have got theirs
abbrev pub and_copies : List Path → List (Path × Path) → List Path
and_copies paths [] = paths
and_copies paths (rename ∷ renames) = and_copies (paths ++ rename.1 ∷ []) renames
