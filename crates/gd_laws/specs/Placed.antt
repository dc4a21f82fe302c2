-- The items of a drive at their paths.
use Rattle.std.specs.Prelude.{◌≡◌, ◌⊎◌, ℕ, List, [], Option, Some, None, Any, Contains}
use Rattle.gd_item.specs.Inventory.{Inventory}
use Rattle.gd_item.specs.Nodes.{path_of}
use Rattle.gd_item.specs.Places.{names_above}
use Rattle.gd_item.specs.Trees.{placed, nodes_of}
use Rattle.gd_item.specs.declared.live.LiveItem.{LiveItem}

-- the items that a drive holds, each at its path
abbrev pub placed_items : Inventory → List (List (List ℕ) × LiveItem)
placed_items held = placed (λ (item : LiveItem). item.number) (nodes_of held) held.items

-- an item stands at the path, a file of these bytes or a folder
abbrev pub HasAt : Inventory → List (List ℕ) → Option (List ℕ) → Type 0
HasAt held path bytes = Any (λ (item : LiveItem). (path_of (nodes_of held) item.number ≡ Some path) × (item.bytes ≡ bytes)) held.items

-- what has the path stands in the root, or in a folder of the tree
abbrev pub StandsIn : List (List (List ℕ) × Option (List ℕ)) → List (List ℕ) → Type 0
StandsIn tree path = (names_above path ≡ []) ⊎ Contains tree (names_above path, None)
