-- Records over the items alone.
use Rattle.std.specs.Prelude.{ℕ, ◌&&◌, Bool, cond, List, map, filter, nat_eq, nat_lt, Option, Some}
use Rattle.std.specs.Option.{option_map}
use Rattle.gd_item.specs.Inventory.{live_at}
use Rattle.gd_item.specs.Nodes.{live_node, path_of}
use Rattle.gd_item.specs.Records.{record_of, root_record, deleted_record, parent_path_text}
use Rattle.gd_item.specs.declared.item.Item.{Item}
use Rattle.gd_item.specs.declared.item.Kind.TheVariants.{Bare}
use Rattle.gd_item.specs.declared.live.LiveItem.{LiveItem}
use Rattle.gd_item.specs.declared.live.Tombstone.{Tombstone}

-- the record of a living item with the path of its folder, if it is asked for
abbrev pub record_in : Bool → List LiveItem → LiveItem → Item
record_in with_path items item =
    cond with_path (record (record_of items item) { parent_path = option_map parent_path_text (path_of (map live_node items) item.parent) }) (record_of items item)

-- the record of a number, if it is that of the root or of a living item
abbrev pub recorded_at : ℕ → Bool → List LiveItem → Option Item
recorded_at number with_path items =
    cond (nat_eq number 1) (Some (root_record items)) (option_map (record_in with_path items) (live_at number items))

-- a record that does not say yet what the item is
abbrev pub without_kind : Item → Item
without_kind item = record item { kind = Bare }

-- a living item's record at its change number, and a tombstone's at its own
abbrev pub live_entry : List LiveItem → LiveItem → ℕ × Item
live_entry items item = (item.change, record_of items item)

abbrev pub stone_entry : Tombstone → ℕ × Item
stone_entry stone = (stone.change, deleted_record stone)

-- the removed items past both numbers
abbrev pub stones_past : ℕ → ℕ → List Tombstone → List Tombstone
stones_past position removed_after stones =
    filter (λ (stone : Tombstone). nat_lt position stone.change && nat_lt removed_after stone.change) stones
