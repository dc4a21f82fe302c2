-- A tree has an entry at each of its paths: None for a folder, and the bytes of a file. It is written as the list
-- of its entries in order of path, so two trees are the same exactly where the lists are equal.
use Rattle.std.specs.Prelude.{ℕ, List, [], ◌∷◌, map, Option, Some, None}
use Rattle.gd_names.specs.Ordered.{in_order}
use Rattle.gd_item.specs.declared.live.LiveItem.{LiveItem}
use Rattle.gd_item.specs.Inventory.{Inventory}
use Rattle.gd_item.specs.Nodes.{Node, live_node, path_of}

-- a thing at its path, if it has one, before the others
abbrev pub at_path : {X : Type 0} → Option (List (List ℕ)) → X → List (List (List ℕ) × X) → List (List (List ℕ) × X)
at_path None x entries = entries
at_path (Some path) x entries = (path, x) ∷ entries

-- the things whose numbers have a path, each beside its path
abbrev pub placed : {X : Type 0} → (X → ℕ) → List Node → List X → List (List (List ℕ) × X)
placed number nodes [] = []
placed number nodes (x ∷ xs) = at_path (path_of nodes (number x)) x (placed number nodes xs)

-- the nodes of what a drive holds
abbrev pub nodes_of : Inventory → List Node
nodes_of held = map live_node held.items

-- the tree of what a drive holds
abbrev pub tree_of : Inventory → List (List (List ℕ) × Option (List ℕ))
tree_of held = in_order (map (λ entry. (entry.0, entry.1.bytes)) (placed (λ (item : LiveItem). item.number) (nodes_of held) held.items))
