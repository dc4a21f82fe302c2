use Rattle.std.proofs.Common.{◌≡◌, Some, drop}
use Rattle.od_database.specs.Writes.{collected, more, row_write}
use Rattle.od_database.proofs.write.push_rows.Given as goal

abbrev pub invariant-loop-base : goal.invariant-loop-base
invariant-loop-base l = more (Some l.writes.items) (collected row_write (drop l.base-index l.rows)) ≡ more (Some l.fn.writes.items) (collected row_write l.rows)
