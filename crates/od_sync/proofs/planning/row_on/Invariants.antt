use Rattle.std.proofs.Common.{◌≡◌, drop}
use Rattle.od_sync.specs.Planning.{row_on}
use Rattle.od_sync.proofs.planning.row_on.Given as goal

abbrev pub invariant-loop-row : goal.invariant-loop-row
invariant-loop-row l = row_on l.rows l.path ≡ row_on (drop l.row-index l.rows) l.path
