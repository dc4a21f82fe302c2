-- What an address names: the number of an item, or where a file is put. An item is addressed by id, by path from the
-- root, or by the id of its folder and its name. A file that is put by id replaces the file of this id.
use Rattle.std.specs.Prelude.{ℕ, List, [], ◌∷◌, Option, Some, None}
use Rattle.std.specs.Option.{option_map}
use Rattle.gd_item.specs.Ids.{item_id}
use Rattle.gd_item.specs.Inventory.{Inventory}
use Rattle.gd_item.specs.Nodes.{number_at, child_at}
use Rattle.gd_item.specs.Places.{last_name, folder_above}
use Rattle.gd_item.specs.Trees.{nodes_of}
use Rattle.gd_item.specs.declared.live.Place.{Place}
use Rattle.gd_item.specs.declared.live.Place.TheVariants.{Over, Under}
use Rattle.gd_item.specs.declared.request.Address.{Address}
use Rattle.gd_item.specs.declared.request.Address.TheVariants.{Id, ByPath, Child}

-- the number that an address names; that of an id may be no item's
abbrev pub target_of : Inventory → Address → Option ℕ
target_of held (Id id) = Some id.0
target_of held (ByPath path) = number_at path (nodes_of held)
target_of held (Child id name) = child_at id.0 name (nodes_of held)

-- where an address by path puts a file, if the folder above its last name is there; the root is named by its number
abbrev pub place_at : Inventory → List (List ℕ) → Option Place
place_at held [] = Some (Over (item_id 1))
place_at held (name ∷ path) = option_map (λ parent. Under (item_id parent) (last_name (name ∷ path))) (folder_above held (name ∷ path))

-- where an address puts a file
abbrev pub place_of : Inventory → Address → Option Place
place_of held (Id id) = Some (Over id)
place_of held (ByPath path) = place_at held path
place_of held (Child id name) = Some (Under id name)

-- the last name that an address spells, if it spells one
abbrev pub name_in_path : List (List ℕ) → Option (List ℕ)
name_in_path [] = None
name_in_path (name ∷ path) = Some (last_name (name ∷ path))

abbrev pub name_in : Address → Option (List ℕ)
name_in (Id id) = None
name_in (ByPath path) = name_in_path path
name_in (Child id name) = Some name
