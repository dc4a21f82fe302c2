use Rattle.std.proofs.Common.{◌≡◌, [], drop}
use Rattle.od_reconcile.specs.Above.{with_fronts}
use Rattle.od_reconcile.proofs.folders.above_each.Given as goal

abbrev pub invariant-loop-path : goal.invariant-loop-path
invariant-loop-path l = with_fronts l.folders.keys (drop l.path-index l.marked) ≡ with_fronts [] l.marked
