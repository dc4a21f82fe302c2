-- What the walks over a list of items read: the step from an item to the folder in which it stands, and the first
-- item that does not fit.
use Rattle.std.specs.Prelude.{◌≡◌, ℕ, Bool, ◌||◌, cond, List, ◌++◌, map, find, is_none, Option, Some, None}
use Rattle.std.specs.List.Sorted.{IsStrictlySortedBy}
use Rattle.std.specs.Map.{keys_of, values_of}
use Rattle.std.specs.Option.{option_map}
use Rattle.std.specs.Ordering.{nat_cmp}
use Rattle.gd_item.specs.Nodes.{Node, node_at, is_folder, path_of, has_twin}
use Rattle.gd_item.specs.declared.item.Item.{Item}

-- each item stands at its number
abbrev pub IsKeyed : List (ℕ × Item) → Type 0
IsKeyed items = keys_of items ≡ map (λ (item : Item). item.id.0) (values_of items)

-- the numbers rise
abbrev pub Rise : List Node → Type 0
Rise all = IsStrictlySortedBy nat_cmp (map (λ (node : Node). node.number) all)

-- the name of a node and the number of its folder, if that is a folder
abbrev pub step_to : List Node → List ℕ → Option ℕ → Option (List ℕ × ℕ)
step_to all name None = None
step_to all name (Some parent) = cond (is_folder parent all) (Some (name, parent)) None

abbrev pub step_from : List Node → Option Node → Option (List ℕ × ℕ)
step_from all None = None
step_from all (Some node) = step_to all node.name node.parent

abbrev pub step_up : List Node → ℕ → Option (List ℕ × ℕ)
step_up all number = step_from all (node_at number all)

-- whether a node has no path to the root, or an earlier sibling has its name but for case
abbrev pub misfits : List Node → Node → Bool
misfits all node = is_none (path_of all node.number) || has_twin all node

-- the number of the first node that does not fit
abbrev pub first_misfit : List Node → Option ℕ
first_misfit all = option_map (λ (node : Node). node.number) (find (misfits all) all)

-- the path with more names, if there is one
abbrev pub with_names : Option (List (List ℕ)) → List (List ℕ) → Option (List (List ℕ))
with_names None names = None
with_names (Some path) names = Some (path ++ names)
