use Rattle.std.proofs.Common.{◌≡◌, Some, drop}
use Rattle.od_database.specs.Writes.{collected, more, dropped_write}
use Rattle.od_database.proofs.write.push_dropped.Given as goal

abbrev pub invariant-loop-path : goal.invariant-loop-path
invariant-loop-path l = more (Some l.writes.items) (collected dropped_write (drop l.path-index l.paths)) ≡ more (Some l.fn.writes.items) (collected dropped_write l.paths)
