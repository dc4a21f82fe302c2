-- The record of an item in a reply, and the feed: the records of what changed, in order of change number.
use Rattle.std.specs.Prelude.{ℕ, ◌-◌, Bool, ◌&&◌, cond, List, [], ◌∷◌, ◌++◌, length, take, map, count_by, codes, nat_eq, nat_lt, slice_index, Option, Some, None}
use Rattle.std.specs.Option.{option_map}
use Rattle.std.specs.Ordering.{nat_cmp}
use Rattle.std.specs.BTreeMap.{insert_entry}
use Rattle.std.specs.Map.{keys_of, values_of}
use Rattle.sha2.specs.Sha256.{sha256}
use Rattle.gd_names.specs.Paths.{path_text}
use Rattle.gd_item.specs.Ids.{item_id}
use Rattle.gd_item.specs.Tags.{tag_of, etag_text, ctag_text}
use Rattle.gd_item.specs.Inventory.{Inventory, live_at}
use Rattle.gd_item.specs.Nodes.{path_of}
use Rattle.gd_item.specs.Trees.{nodes_of}
use Rattle.gd_item.specs.declared.digest.Digest.{Digest}
use Rattle.gd_item.specs.declared.item.Item.{Item}
use Rattle.gd_item.specs.declared.item.Kind.{Kind}
use Rattle.gd_item.specs.declared.item.Kind.TheVariants.{Folder, File, Deleted}
use Rattle.gd_item.specs.declared.item.Tag.{Tag}
use Rattle.gd_item.specs.declared.live.LiveItem.{LiveItem}
use Rattle.gd_item.specs.declared.live.Tombstone.{Tombstone}

-- the digest of bytes
abbrev pub digest_record : List ℕ → Digest
digest_record bytes = record { 0 = sha256 bytes }

-- how many items stand in a folder
abbrev pub child_count : ℕ → List LiveItem → ℕ
child_count number items = count_by (λ item. nat_eq item.parent number) items

-- of a folder and of a file: the size, the content tag and the kind
abbrev pub size_of : Option (List ℕ) → ℕ
size_of None = 0
size_of (Some bytes) = length bytes

abbrev pub content_tag : Option (List ℕ) → ℕ → Option Tag
content_tag None content = None
content_tag (Some bytes) content = Some (tag_of (ctag_text content))

abbrev pub kind_at : Option (List ℕ) → ℕ → List LiveItem → Kind
kind_at None number items = Folder (child_count number items)
kind_at (Some bytes) number items = File (digest_record bytes)

-- the record of a living item, as the feed has it
abbrev pub record_of : List LiveItem → LiveItem → Item
record_of items item = record {
  id = item_id item.number;
  parent = Some (item_id item.parent);
  parent_path = None;
  name = item.name;
  size = size_of item.bytes;
  etag = tag_of (etag_text item.change);
  ctag = content_tag item.bytes item.content;
  kind = kind_at item.bytes item.number items;
}

-- the record of the root, whose change number is always 1
abbrev pub root_record : List LiveItem → Item
root_record items = record {
  id = item_id 1;
  parent = None;
  parent_path = None;
  name = codes "root";
  size = 0;
  etag = tag_of (etag_text 1);
  ctag = None;
  kind = Folder (child_count 1 items);
}

-- the records of all that a drive holds, the root's first
abbrev pub records_of : Inventory → List Item
records_of held = root_record held.items ∷ map (record_of held.items) held.items

-- the record of a removed item
abbrev pub deleted_record : Tombstone → Item
deleted_record stone = record {
  id = item_id stone.number;
  parent = Some (item_id stone.parent);
  parent_path = None;
  name = [];
  size = 0;
  etag = tag_of (etag_text stone.change);
  ctag = None;
  kind = Deleted;
}

-- the text of the path of a folder, as the items in it have it
abbrev pub parent_path_text : List (List ℕ) → List ℕ
parent_path_text [] = codes "/drive/root:"
parent_path_text (name ∷ path) = codes "/drive/root:" ++ path_text (name ∷ path)

-- the record of a living item with the path of its folder, if it is asked for
abbrev pub record_with : Bool → Inventory → LiveItem → Item
record_with with_path held item =
    cond with_path (record (record_of held.items item) { parent_path = option_map parent_path_text (path_of (nodes_of held) item.parent) }) (record_of held.items item)

-- the record of a number, if it is that of the root or of a living item
abbrev pub record_at : ℕ → Bool → Inventory → Option Item
record_at number with_path held =
    cond (nat_eq number 1) (Some (root_record held.items)) (option_map (record_with with_path held) (live_at number held.items))

-- records in order of their change numbers, those of the second list put among those of the first
abbrev pub in_change_order_from : List (ℕ × Item) → List (ℕ × Item) → List (ℕ × Item)
in_change_order_from placed [] = placed
in_change_order_from placed (entry ∷ entries) = in_change_order_from (insert_entry nat_cmp placed entry.0 entry.1) entries

-- the records past a position: the root, living items, and the removed ones that are past the other number too
abbrev pub root_change : ℕ → List LiveItem → List (ℕ × Item)
root_change position items = cond (nat_eq position 0) ((1, root_record items) ∷ []) []

abbrev pub live_changes : ℕ → List LiveItem → List LiveItem → List (ℕ × Item)
live_changes position all [] = []
live_changes position all (item ∷ items) =
    cond (nat_lt position item.change) ((item.change, record_of all item) ∷ live_changes position all items) (live_changes position all items)

abbrev pub removals : ℕ → ℕ → List Tombstone → List (ℕ × Item)
removals position removed_after [] = []
removals position removed_after (stone ∷ stones) =
    cond (nat_lt position stone.change && nat_lt removed_after stone.change)
    ((stone.change, deleted_record stone) ∷ removals position removed_after stones) (removals position removed_after stones)

-- the feed past a position
abbrev pub feed : Inventory → ℕ → ℕ → List (ℕ × Item)
feed held position removed_after =
    in_change_order_from [] (root_change position held.items ++ live_changes position held.items held.items ++ removals position removed_after held.removed)

-- the first records of a feed, and the change number of the last of them where more follow
abbrev pub first_of : ℕ → List (ℕ × Item) → List Item
first_of most changes = take most (values_of changes)

abbrev pub last_of : ℕ → List (ℕ × Item) → Option ℕ
last_of most changes = cond (nat_lt most (length changes)) (Some (slice_index (keys_of changes) (most - 1))) None
