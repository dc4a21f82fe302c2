use Rattle.std.proofs.Common.{◌≡◌, map, drop}
use Rattle.gd_item.specs.Records.{in_change_order_from}
use Rattle.gd_store.specs.Recorded.{live_entry}
use Rattle.gd_store.proofs.feed.put_items.Given as goal

abbrev pub invariant-loop-item : goal.invariant-loop-item
invariant-loop-item l =
    in_change_order_from l.changes.entries (map (λ item. live_entry l.items item.now) (drop l.item-index l.changed))
    ≡ in_change_order_from l.fn.changes.entries (map (λ item. live_entry l.items item.now) l.changed)
