use Rattle.std.proofs.Common.{◌≡◌, ◌++◌, true, map, drop}
use Rattle.gd_item.specs.Records.{record_with}
use Rattle.gd_store.proofs.items.Items.records_of.Given as goal

abbrev pub invariant-loop-item : goal.invariant-loop-item
invariant-loop-item l = l.records.items ++ map (λ item. record_with true l.self item.now) (drop l.item-index l.items) ≡ map (λ item. record_with true l.self item.now) l.items
