use Rattle.std.proofs.Common.{◌≡◌, ◌++◌, drop}
use Rattle.od_sync.proofs.changing.push_items.Given as goal

abbrev pub invariant-loop-item : goal.invariant-loop-item
invariant-loop-item l = l.put ++ drop l.item-index l.items ≡ l.fn.put ++ l.items
