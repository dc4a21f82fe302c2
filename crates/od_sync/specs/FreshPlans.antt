-- The plan where nothing stands in the folder and nothing was agreed on: it can be done, and makes the drive's tree.
use Rattle.std.specs.Prelude.{◌≡◌, ℕ, List, [], ◌++◌, map}
use Rattle.std.specs.List.{AllZip}
use Rattle.gd_item.specs.Inventory.{Inventory}
use Rattle.gd_item.specs.Trees.{tree_of}
use Rattle.od_tree.specs.Local.{tree_of_spots}
use Rattle.od_sync.specs.Doing.{CanMake, CanPlace, IsFileOf, file_spot, folder_spot}
use Rattle.od_sync.specs.declared.planning.Fetching.{Fetching}

-- the plan of a drive that is made from nothing, with the path and the bytes of each file
pub record FreshPlan (held : Inventory) (folders : List (List (List ℕ))) (fetches : List Fetching) : Type 0 where
  pub files : List (List (List ℕ) × List ℕ)
  pub are : AllZip (IsFileOf held) fetches files
  pub can_make : CanMake [] folders
  pub can_place : CanPlace (map folder_spot folders) files
  pub tree : tree_of_spots (map folder_spot folders ++ map file_spot files) ≡ tree_of held
