use Rattle.std.proofs.Common.{◌≡◌, ◌++◌, drop}
use Rattle.od_sync.specs.Agreeing.{landed_rows}
use Rattle.od_sync.proofs.agreeing.push_landed.Given as goal

abbrev pub invariant-loop-row : goal.invariant-loop-row
invariant-loop-row l = l.agreed ++ landed_rows (drop l.row-index l.rows) l.remote ≡ l.fn.agreed ++ landed_rows l.rows l.remote
