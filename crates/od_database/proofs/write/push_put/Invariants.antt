use Rattle.std.proofs.Common.{◌≡◌, Some, drop}
use Rattle.od_database.specs.Writes.{collected, more, put_write}
use Rattle.od_database.proofs.write.push_put.Given as goal

abbrev pub invariant-loop-item : goal.invariant-loop-item
invariant-loop-item l = more (Some l.writes.items) (collected put_write (drop l.item-index l.items)) ≡ more (Some l.fn.writes.items) (collected put_write l.items)
