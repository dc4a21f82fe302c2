-- Where in a list the items of numbers stand, and the first item of each name in a folder, in ordered maps.
use Rattle.std.specs.Prelude.{◌≡◌, ℕ, Bool, not, ◌&&◌, cond, List, drop, find, nat_eq, slice_get, Option, Some, None}
use Rattle.std.specs.BTreeMap.{is_at}
use Rattle.std.specs.Cmp.Lexicographic.{slice_cmp, pointwise}
use Rattle.std.specs.Map.{lookup}
use Rattle.std.specs.Option.{option_map}
use Rattle.std.specs.Ordering.{nat_cmp, ordering_then}
use Rattle.std.specs.declared.cmp.Ordering.{Ordering}
use Rattle.gd_names.specs.Caseless.{lower_case}
use Rattle.gd_item.specs.Nodes.{Node, item_node, node_at, is_same_parent}
use Rattle.gd_item.specs.declared.item.Item.{Item}
use Rattle.od_mirror.specs.Pulled.{nodes}

-- the item at a place
abbrev pub item_in : List Item → Option ℕ → Option Item
item_in items None = None
item_in items (Some at) = slice_get items at

-- the map has where the first item of each number stands, of those from a place on
pub record ArePlacesFrom (from : ℕ) (items : List Item) (places : List (ℕ × ℕ)) : Type 0 where
  pub found : (n : ℕ) → option_map item_node (item_in items (lookup (is_at (nat_cmp n)) places)) ≡ node_at n (nodes (drop from items))

abbrev pub ArePlaces : List Item → List (ℕ × ℕ) → Type 0
ArePlaces items places = ArePlacesFrom 0 items places

-- the order of folders and names in lower case
abbrev pub spot_cmp : ℕ × List ℕ → ℕ × List ℕ → Ordering
spot_cmp a b = ordering_then (nat_cmp a.0 b.0) (slice_cmp nat_cmp a.1 b.1)

-- whether a node but the root has this name in this folder
abbrev pub is_at_spot : ℕ × List ℕ → Node → Bool
is_at_spot spot node = not (nat_eq node.number 1) && (is_same_parent node.parent (Some spot.0) && pointwise nat_eq (lower_case node.name) spot.1)

abbrev pub first_at : ℕ × List ℕ → List Node → Option ℕ
first_at spot all = option_map (λ (node : Node). node.number) (find (is_at_spot spot) all)

-- the map has the number of the first item of each name in a folder, of those from a place on
pub record AreFirstsFrom (from : ℕ) (items : List Item) (firsts : List ((ℕ × List ℕ) × ℕ)) : Type 0 where
  pub found : (spot : ℕ × List ℕ) → lookup (is_at (spot_cmp spot)) firsts ≡ first_at spot (nodes (drop from items))

abbrev pub AreFirsts : List Item → List ((ℕ × List ℕ) × ℕ) → Type 0
AreFirsts items firsts = AreFirstsFrom 0 items firsts

-- a map in which a number stands at one key more
pub record Puts (key : ℕ × List ℕ) (number : ℕ) (old new : List ((ℕ × List ℕ) × ℕ)) : Type 0 where
  pub each : (spot : ℕ × List ℕ) → lookup (is_at (spot_cmp spot)) new ≡ cond (is_at (spot_cmp key) spot) (Some number) (lookup (is_at (spot_cmp spot)) old)
