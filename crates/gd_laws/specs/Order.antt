-- The order in which an item and all below it are removed.
use Rattle.std.specs.Prelude.{◌≡◌, ◌⊎◌, ℕ, ◌<◌}
use Rattle.gd_item.specs.Inventory.{Inventory}
use Rattle.gd_item.specs.Moves.{depth_of_path}
use Rattle.gd_item.specs.Nodes.{path_of}
use Rattle.gd_item.specs.Trees.{nodes_of}

-- how many names the path of a number has
abbrev pub depth_of : Inventory → ℕ → ℕ
depth_of held number = depth_of_path (path_of (nodes_of held) number)

-- the first stands deeper than the second, or has the lower number of two of one depth
abbrev pub GoesBefore : Inventory → ℕ → ℕ → Type 0
GoesBefore held m n = (depth_of held n < depth_of held m) ⊎ ((depth_of held m ≡ depth_of held n) × (m < n))
