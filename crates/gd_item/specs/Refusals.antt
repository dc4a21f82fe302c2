-- Why a drive refuses to make a folder or to put a file: the first cause that holds, in their order.
use Rattle.std.specs.Prelude.{ℕ, ◌+◌, ◌-◌, ◌^◌, Bool, true, false, not, ◌||◌, cond, List, [], ◌∷◌, length, map, filter, is_some, is_none, nat_eq, nat_lt, Option, Some, None}
use Rattle.gd_names.specs.Causes.{first_cause}
use Rattle.gd_names.specs.Caseless.{equal_caseless}
use Rattle.gd_names.specs.Names.{name_fault}
use Rattle.gd_names.specs.Paths.{is_fitting}
use Rattle.gd_names.specs.Settling.{settled}
use Rattle.gd_names.specs.declared.conflict.Conflict.{Conflict}
use Rattle.gd_names.specs.declared.conflict.Sibling.{Sibling}
use Rattle.gd_names.specs.declared.conflict.Settle.{Settle}
use Rattle.gd_names.specs.declared.conflict.Settle.TheVariants.{Free, Over, Refuse}
use Rattle.gd_item.specs.Inventory.{Inventory, live_at, Effect, MadeFolder, PutNew, PutOver, Moved, Removed}
use Rattle.gd_item.specs.Nodes.{Node, is_folder, node_at, path_of, below}
use Rattle.gd_item.specs.Records.{content_tag}
use Rattle.gd_item.specs.Tags.{tag_of, etag_text, is_matching}
use Rattle.gd_item.specs.Trees.{nodes_of}
use Rattle.gd_item.specs.declared.condition.Condition.{Condition}
use Rattle.gd_item.specs.declared.condition.Condition.TheVariants as condition
use Rattle.gd_item.specs.declared.fault.StoreFault.{StoreFault}
use Rattle.gd_item.specs.declared.fault.StoreFault.TheVariants.{NotFound, NotFolder, NotFile, BadName, Modified, NameTaken, PathTooLong, Quota}
use Rattle.gd_item.specs.declared.live.LiveItem.{LiveItem}
use Rattle.gd_item.specs.declared.live.Place.{Place}
use Rattle.gd_item.specs.declared.live.Place.TheVariants as place

-- why something is not given that may be there
abbrev pub missing : {X : Type 0} → Option X → Option StoreFault
missing None = Some NotFound
missing (Some x) = None

-- whether the number is that of the root or of a living item
abbrev pub is_there : ℕ → List Node → Bool
is_there number nodes = nat_eq number 1 || is_some (node_at number nodes)

-- why a number is refused where a folder, or a file, is needed
abbrev pub folder_refusal : Inventory → ℕ → Option StoreFault
folder_refusal held number =
    first_cause ((not (is_there number (nodes_of held)), NotFound) ∷ (not (is_folder number (nodes_of held)), NotFolder) ∷ [])

abbrev pub file_refusal : Inventory → ℕ → Option StoreFault
file_refusal held number =
    first_cause ((not (is_there number (nodes_of held)), NotFound) ∷ (is_folder number (nodes_of held), NotFile) ∷ [])

-- the items of a folder, as siblings of a new name
abbrev pub sibling_of : LiveItem → Sibling
sibling_of item = record { id = item.number; name = item.name; folder = is_none item.bytes }

abbrev pub siblings_in : ℕ → List LiveItem → List Sibling
siblings_in parent items = map sibling_of (filter (λ item. nat_eq item.parent parent) items)

-- how a name is settled in a folder
abbrev pub settled_in : Inventory → ℕ → List ℕ → Conflict → Bool → Settle
settled_in held parent name behaviour folder = settled behaviour (siblings_in parent held.items) name folder

abbrev pub is_refuse : Settle → Bool
is_refuse (Free name) = false
is_refuse (Over number) = false
is_refuse Refuse = true

-- the path that an item gets which is settled so
abbrev pub settled_path : Inventory → ℕ → Settle → Option (List (List ℕ))
settled_path held parent (Free name) = below (path_of (nodes_of held) parent) name
settled_path held parent (Over number) = path_of (nodes_of held) number
settled_path held parent Refuse = None

-- whether a path is longer than any item's may be
abbrev pub is_too_long : Option (List (List ℕ)) → Bool
is_too_long None = false
is_too_long (Some path) = not (is_fitting path)

-- whether the drive would pass one of its limits: 100,000 living items, the root among them, a change number of
-- 2 ^ 64 - 1, or 536,870,912 kept bytes
abbrev pub is_over_quota : Inventory → ℕ → ℕ → Bool
is_over_quota held items bytes =
    nat_lt 100000 (length held.items + 1 + items) || nat_lt (2 ^ 64 - 1) (held.number + 1) || nat_lt 536870912 (held.kept + bytes)

-- how many items are made by what is settled so
abbrev pub made_items : Settle → ℕ
made_items (Free name) = 1
made_items (Over number) = 0
made_items Refuse = 0

abbrev pub make_folder_refusal : Inventory → ℕ → List ℕ → Conflict → Option StoreFault
make_folder_refusal held parent name behaviour =
    let settle = settled_in held parent name behaviour true in
    first_cause (
    (not (is_there parent (nodes_of held)), NotFound)
    ∷ (not (is_folder parent (nodes_of held)), NotFolder)
    ∷ (is_some (name_fault name), BadName)
    ∷ (is_refuse settle, NameTaken)
    ∷ (is_too_long (settled_path held parent settle), PathTooLong)
    ∷ (is_over_quota held (made_items settle) 0, Quota)
    ∷ [])

-- the item of a folder that has the name, but for case
abbrev pub live_named : ℕ → List ℕ → List LiveItem → Option LiveItem
live_named parent name [] = None
live_named parent name (item ∷ items) =
    cond (nat_eq item.parent parent) (cond (equal_caseless item.name name) (Some item) (live_named parent name items)) (live_named parent name items)

-- whether a condition holds of an item that may be there
abbrev pub is_met : Condition → Option LiveItem → Bool
is_met condition.Free item = true
is_met (condition.Match text) None = false
is_met (condition.Match text) (Some item) =
    is_matching (condition.Match text) (tag_of (etag_text item.change)) (content_tag item.bytes item.content)

-- why a put is refused; other bytes that count against the limit are those of upload sessions
abbrev pub put_over_refusal : Inventory → ℕ → List ℕ → Condition → ℕ → Option StoreFault
put_over_refusal held number bytes condition others =
    first_cause (
    (not (is_there number (nodes_of held)), NotFound)
    ∷ (is_folder number (nodes_of held), NotFile)
    ∷ (not (is_met condition (live_at number held.items)), Modified)
    ∷ (is_too_long (path_of (nodes_of held) number), PathTooLong)
    ∷ (is_over_quota held 0 (length bytes + others), Quota)
    ∷ [])

abbrev pub put_under_refusal : Inventory → ℕ → List ℕ → List ℕ → Conflict → Condition → ℕ → Option StoreFault
put_under_refusal held parent name bytes behaviour condition others =
    let settle = settled_in held parent name behaviour false in
    first_cause (
    (not (is_there parent (nodes_of held)), NotFound)
    ∷ (not (is_folder parent (nodes_of held)), NotFolder)
    ∷ (is_some (name_fault name), BadName)
    ∷ (not (is_met condition (live_named parent name held.items)), Modified)
    ∷ (is_refuse settle, NameTaken)
    ∷ (is_too_long (settled_path held parent settle), PathTooLong)
    ∷ (is_over_quota held (made_items settle) (length bytes + others), Quota)
    ∷ [])

abbrev pub put_refusal : Inventory → Place → List ℕ → Conflict → Condition → ℕ → Option StoreFault
put_refusal held (place.Over id) bytes behaviour condition others = put_over_refusal held id.0 bytes condition others
put_refusal held (place.Under id name) bytes behaviour condition others =
    put_under_refusal held id.0 name bytes behaviour condition others

-- what a folder that is made and a file that is put do, where they are not refused
abbrev pub folder_effect : ℕ → List ℕ → Settle → Effect
folder_effect parent name (Free free) = MadeFolder parent free
folder_effect parent name (Over number) = MadeFolder parent name
folder_effect parent name Refuse = MadeFolder parent name

abbrev pub make_folder_effect : Inventory → ℕ → List ℕ → Conflict → Effect
make_folder_effect held parent name behaviour = folder_effect parent name (settled_in held parent name behaviour true)

abbrev pub file_effect : ℕ → List ℕ → List ℕ → Settle → Effect
file_effect parent name bytes (Free free) = PutNew parent free bytes
file_effect parent name bytes (Over number) = PutOver number bytes
file_effect parent name bytes Refuse = PutNew parent name bytes

abbrev pub put_effect : Inventory → Place → List ℕ → Conflict → Effect
put_effect held (place.Over id) bytes behaviour = PutOver id.0 bytes
put_effect held (place.Under id name) bytes behaviour =
    file_effect id.0 name bytes (settled_in held id.0 name behaviour false)

-- the item that an effect made or changed, in what the drive held before it
abbrev pub touched : Inventory → Effect → ℕ
touched held (MadeFolder parent name) = held.next
touched held (PutNew parent name bytes) = held.next
touched held (PutOver number bytes) = number
touched held (Moved number parent name) = number
touched held (Removed number) = number

-- whether an effect made an item
abbrev pub is_made : Effect → Bool
is_made (MadeFolder parent name) = true
is_made (PutNew parent name bytes) = true
is_made (PutOver number bytes) = false
is_made (Moved number parent name) = false
is_made (Removed number) = false
