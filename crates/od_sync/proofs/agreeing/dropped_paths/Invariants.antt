use Rattle.std.proofs.Common.{◌≡◌, ◌++◌, drop}
use Rattle.od_sync.specs.Agreeing.{dropped_paths}
use Rattle.od_sync.proofs.agreeing.dropped_paths.Given as goal

abbrev pub invariant-loop-row : goal.invariant-loop-row
invariant-loop-row l = l.paths ++ dropped_paths (drop l.row-index l.rows) l.local l.remote ≡ dropped_paths l.rows l.local l.remote
