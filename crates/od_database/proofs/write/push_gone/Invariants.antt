use Rattle.std.proofs.Common.{◌≡◌, Some, drop}
use Rattle.od_database.specs.Writes.{collected, more, gone_write}
use Rattle.od_database.proofs.write.push_gone.Given as goal

abbrev pub invariant-loop-id : goal.invariant-loop-id
invariant-loop-id l = more (Some l.writes.items) (collected gone_write (drop l.id-index l.ids)) ≡ more (Some l.fn.writes.items) (collected gone_write l.ids)
