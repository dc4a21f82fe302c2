use Rattle.std.proofs.Common.{◌≡◌, length}
use Rattle.od_keeper.specs.Images.{by_id}
use Rattle.od_database.specs.Stored.{ascends}
use Rattle.od_database.proofs.tables.items_ascend.Given as goal

abbrev pub invariant-loop-items : goal.invariant-loop-items
invariant-loop-items l = ascends by_id l.items ≡ ascends by_id l.fn.items

abbrev pub decreases-loop-items : goal.decreases-loop-items
decreases-loop-items l = length l.items
