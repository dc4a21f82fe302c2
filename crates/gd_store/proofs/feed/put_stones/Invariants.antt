use Rattle.std.proofs.Common.{◌≡◌, map, drop}
use Rattle.gd_item.specs.Records.{in_change_order_from}
use Rattle.gd_store.specs.Recorded.{stone_entry}
use Rattle.gd_store.proofs.feed.put_stones.Given as goal

abbrev pub invariant-loop-stone : goal.invariant-loop-stone
invariant-loop-stone l =
    in_change_order_from l.changes.entries (map stone_entry (drop l.stone-index l.stones)) ≡ in_change_order_from l.fn.changes.entries (map stone_entry l.stones)
