-- Where an item stands: its number, the number of its folder, its name, and whether it is a folder itself. The
-- root has the number 1. A path is read by going up from folder to folder to the root.
use Rattle.std.specs.Prelude.{ℕ, zero, suc, Bool, true, false, ◌&&◌, ◌||◌, not, cond, List, [], ◌∷◌, ◌++◌, length, find, is_none, nat_eq, nat_lt, Option, Some, None}
use Rattle.std.specs.List.{list_any}
use Rattle.std.specs.Option.{option_map}
use Rattle.gd_names.specs.Caseless.{equal_caseless}
use Rattle.gd_item.specs.declared.item.Item.{Item}
use Rattle.gd_item.specs.declared.item.Kind.{Kind}
use Rattle.gd_item.specs.declared.item.Kind.TheVariants.{Folder, File, Bare, Deleted}
use Rattle.gd_item.specs.declared.id.ItemId.{ItemId}
use Rattle.gd_item.specs.declared.live.LiveItem.{LiveItem}

pub record Node : Type 0 where
  pub number : ℕ
  pub parent : Option ℕ
  pub name : List ℕ
  pub folder : Bool

-- an item of the drive as a node
abbrev pub live_node : LiveItem → Node
live_node item = record { number = item.number; parent = Some item.parent; name = item.name; folder = is_none item.bytes }

-- whether the kind is that of a folder
abbrev pub is_folder_kind : Kind → Bool
is_folder_kind (Folder child_count) = true
is_folder_kind (File digest) = false
is_folder_kind Bare = false
is_folder_kind Deleted = false

-- an item of a reply as a node
abbrev pub item_node : Item → Node
item_node item = record { number = item.id.0; parent = option_map (λ (id : ItemId). id.0) item.parent; name = item.name; folder = is_folder_kind item.kind }

-- the node of a number
abbrev pub node_at : ℕ → List Node → Option Node
node_at number nodes = find (λ node. nat_eq node.number number) nodes

-- whether a node that may be there is a folder
abbrev pub is_some_folder : Option Node → Bool
is_some_folder None = false
is_some_folder (Some node) = node.folder

-- whether the number is that of the root or of a folder
abbrev pub is_folder : ℕ → List Node → Bool
is_folder number nodes = nat_eq number 1 || is_some_folder (node_at number nodes)

-- the path with one more name, if there is one
abbrev pub below : Option (List (List ℕ)) → List ℕ → Option (List (List ℕ))
below None name = None
below (Some path) name = Some (path ++ name ∷ [])

-- the path below a folder, whose own path is read by the function
abbrev pub below_parent : (ℕ → Option (List (List ℕ))) → List Node → List ℕ → Option ℕ → Option (List (List ℕ))
below_parent path nodes name None = None
below_parent path nodes name (Some parent) = cond (is_folder parent nodes) (below (path parent) name) None

abbrev pub path_of_node : (ℕ → Option (List (List ℕ))) → List Node → Option Node → Option (List (List ℕ))
path_of_node path nodes None = None
path_of_node path nodes (Some node) = below_parent path nodes node.name node.parent

-- the path of a number, over at most so many folders
abbrev pub path_within : ℕ → List Node → ℕ → Option (List (List ℕ))
path_within zero nodes number = cond (nat_eq number 1) (Some []) None
path_within (suc steps) nodes number =
    cond (nat_eq number 1) (Some []) (path_of_node (path_within steps nodes) nodes (node_at number nodes))

-- the path of a number, if its folders lead up to the root
abbrev pub path_of : List Node → ℕ → Option (List (List ℕ))
path_of nodes number = path_within (length nodes) nodes number

-- whether two folders that may be there are one
abbrev pub is_same_parent : Option ℕ → Option ℕ → Bool
is_same_parent None other = false
is_same_parent (Some parent) None = false
is_same_parent (Some parent) (Some other) = nat_eq parent other

-- whether an earlier node is a sibling whose name is equal but for case
abbrev pub is_twin : Node → Node → Bool
is_twin node other =
    nat_lt other.number node.number && not (nat_eq other.number 1) && not (nat_eq node.number 1)
    && is_same_parent other.parent node.parent && equal_caseless other.name node.name

abbrev pub has_twin : List Node → Node → Bool
has_twin nodes node = list_any (is_twin node) nodes

-- the child of a folder that has the name, but for case
abbrev pub child_at : ℕ → List ℕ → List Node → Option ℕ
child_at parent name nodes =
    option_map (λ (node : Node). node.number) (find (λ node. is_same_parent node.parent (Some parent) && equal_caseless node.name name) nodes)

-- the number at the end of the names that go down from a number
abbrev pub number_below : Option ℕ → List (List ℕ) → List Node → Option ℕ
number_below None path nodes = None
number_below (Some number) [] nodes = Some number
number_below (Some number) (name ∷ path) nodes = number_below (child_at number name nodes) path nodes

-- the number at a path
abbrev pub number_at : List (List ℕ) → List Node → Option ℕ
number_at path nodes = number_below (Some 1) path nodes
