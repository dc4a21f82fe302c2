use Rattle.std.proofs.Common.{◌≡◌, drop, All}
use Rattle.serde_json.specs.Data.{no_items}
use Rattle.gd_json.specs.Items.{item_data, IsKnown}
use Rattle.gd_json.specs.Writing.{listed}
use Rattle.gd_json.proofs.ListLoop.{before}
use Rattle.gd_json.proofs.list.item_values.Given as goal

abbrev pub invariant-loop-item : goal.invariant-loop-item
invariant-loop-item l = record {
  values : before l.values.items (listed item_data (drop l.item-index l.items) no_items) ≡ listed item_data l.items no_items;
  known : All IsKnown (drop l.item-index l.items) → All IsKnown l.items;
}
