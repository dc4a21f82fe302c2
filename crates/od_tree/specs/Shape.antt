-- The shape of a local folder: its entries make a tree, and each file has bytes that were written or placed.
use Rattle.std.specs.Prelude.{◌≡◌, ℕ, true, false, List, [], Option, Some, None}
use Rattle.std.specs.List.{AllByRecursion, Contains}
use Rattle.od_tree.specs.Local.{spot_at, is_path, is_from, is_folder_at}
use Rattle.od_tree.specs.declared.local.LocalFile.{LocalFile}
use Rattle.od_tree.specs.declared.local.Spot.{Spot}

-- the entries make a tree: each is the one that stands at its path, none is at the root's, and above each there are folders
-- alone
pub record IsTree (spots : List Spot) : Type 0 where
  pub apart : AllByRecursion (λ (spot : Spot). spot_at spot.path spots ≡ Some spot) spots
  pub named : AllByRecursion (λ (spot : Spot). is_path [] spot.path ≡ false) spots
  pub folders : AllByRecursion (λ (spot : Spot). (top : List (List ℕ)) → is_from top spot.path ≡ true → is_path top spot.path ≡ false → is_folder_at top spots ≡ true) spots

-- the bytes of a file are one of some contents
abbrev pub IsOneOf : List (List ℕ) → Option LocalFile → Type 0
IsOneOf contents None = Unit {0}
IsOneOf contents (Some file) = Contains contents file.bytes
