use Rattle.std.proofs.Common.{◌≡◌, length}
use Rattle.od_keeper.specs.Images.{by_path}
use Rattle.od_database.specs.Stored.{ascends}
use Rattle.od_database.proofs.tables.rows_ascend.Given as goal

abbrev pub invariant-loop-rows : goal.invariant-loop-rows
invariant-loop-rows l = ascends by_path l.rows ≡ ascends by_path l.fn.rows

abbrev pub decreases-loop-rows : goal.decreases-loop-rows
decreases-loop-rows l = length l.rows
