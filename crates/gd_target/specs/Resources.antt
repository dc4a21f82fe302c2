-- What a target names. Where an address by path or by name stands, a colon ends it before a further segment.
use Rattle.std.specs.Prelude.{ℕ, cond, List, [], ◌∷◌, take, drop, codes, nat_eq, Option, Some, None, option_map, option_and_then}
use Rattle.std.specs.Cmp.Lexicographic.{pointwise}
use Rattle.gd_names.specs.Escapes.{unescaped}
use Rattle.gd_names.specs.Paths.{path_of_text}
use Rattle.gd_item.specs.Ids.{item_id}
use Rattle.gd_item.specs.declared.id.ItemId.{ItemId}
use Rattle.gd_item.specs.declared.request.Address.{Address}
use Rattle.gd_item.specs.declared.request.Address.TheVariants.{Id, ByPath, Child}
use Rattle.gd_json.specs.Links.{past}
use Rattle.gd_json.specs.Numbers.{number_of_text, item_id_of}
use Rattle.gd_json.specs.Values.{one_of}
use Rattle.gd_target.specs.declared.resource.Resource.{Resource}
use Rattle.gd_target.specs.declared.resource.Resource.TheVariants.{Item, Children, Content, Uploads, Versions, Version, Changes, Download, Session, Batch}
use Rattle.gd_target.specs.Cuts.{cut, front, behind}

-- what is read from the text behind its front, where it has that front
abbrev pub if_past : {A : Type 0} → Option (List ℕ) → (List ℕ → A) → A → A
if_past None read other = other
if_past (Some rest) read other = read rest

-- ---- what stands behind an address

abbrev pub part_of : Address → List ℕ → Option Resource
part_of at = one_of ((codes "children", Children at) ∷ (codes "content", Content at) ∷ (codes "createUploadSession", Uploads at) ∷ [])

-- nothing, or a part
unfoldable pub under : Address → List ℕ → Option Resource
under at [] = Some (Item at)
under at (b ∷ name) = cond (nat_eq b 47) (part_of at name) None

-- ---- the addresses

-- a path of no name is the root
abbrev pub address_of : List (List ℕ) → Address
address_of [] = Id (item_id 1)
address_of (name ∷ names) = ByPath (name ∷ names)

-- the path stands before the next colon
unfoldable pub by_path : List ℕ → Option Resource
by_path text = option_and_then (λ path. under (address_of path) (behind 58 text)) (path_of_text (front 58 text))

unfoldable pub at_root : List ℕ → Option Resource
at_root rest =
    if_past (past (codes ":") rest) by_path
    (cond (pointwise nat_eq rest (codes "/delta")) (Some Changes) (under (Id (item_id 1)) rest))

-- a `/` and the name's segment stand before the next colon
unfoldable pub by_name : ItemId → List ℕ → Option Resource
by_name id text =
    option_and_then (λ name. under (Child id name) (behind 58 text)) (option_and_then unescaped (past (codes "/") (front 58 text)))

-- the versions of an item, and one that is to be restored
unfoldable pub restored : ItemId → List ℕ × Option (List ℕ) → Option Resource
restored id (number, None) = None
restored id (number, Some action) =
    cond (pointwise nat_eq action (codes "restoreVersion")) (option_map (Version id) (number_of_text number)) None

unfoldable pub versions_of : ItemId → List ℕ → Option Resource
versions_of id [] = Some (Versions id)
versions_of id (b ∷ rest) = cond (nat_eq b 47) (restored id (cut 47 rest)) None

unfoldable pub of_item : ItemId → List ℕ → Option Resource
of_item id rest = if_past (past (codes ":") rest) (by_name id) (if_past (past (codes "/versions") rest) (versions_of id) (under (Id id) rest))

-- an id, which has twenty bytes, and what follows it
abbrev pub id_and_rest : List ℕ → Option (ItemId × List ℕ)
id_and_rest text = option_map (λ id. (id, drop 20 text)) (item_id_of (take 20 text))

unfoldable pub at_item : List ℕ → Option Resource
at_item text = option_and_then (λ p. of_item p.0 p.1) (id_and_rest text)

unfoldable pub in_drive : List ℕ → Option Resource
in_drive rest = if_past (past (codes "root") rest) at_root (if_past (past (codes "items/") rest) at_item None)

-- ---- the others

unfoldable pub of_version : ItemId → List ℕ → Option Resource
of_version id rest = if_past (past (codes "/") rest) (λ digits. option_map (Download id) (number_of_text digits)) None

unfoldable pub download_of : List ℕ → Option Resource
download_of text = option_and_then (λ p. of_version p.0 p.1) (id_and_rest text)

unfoldable pub session_of : List ℕ → Option Resource
session_of digits = option_map Session (number_of_text digits)

unfoldable pub beside_drive : List ℕ → Option Resource
beside_drive path =
    if_past (past (codes "/v1.0/download/") path) download_of (if_past (past (codes "/v1.0/upload/") path) session_of None)

-- what a path names
unfoldable pub resource_of : List ℕ → Option Resource
resource_of path =
    if_past (past (codes "/v1.0/me/drive/") path) in_drive
    (if_past (past (codes "/v1.0/drives/gd1/") path) in_drive (beside_drive path))

-- what a target names, whatever its query is; a batch has none
unfoldable pub named_by : List ℕ → Option Resource
named_by target = cond (pointwise nat_eq target (codes "/v1.0/$batch")) (Some Batch) (resource_of (front 63 target))
