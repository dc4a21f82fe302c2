use Rattle.od_reconcile.specs.Looks.{merge_sides}
use Rattle.od_reconcile.proofs.Listed.{side-here}
use Rattle.od_reconcile.proofs.pairs.sources_here.Goals as goal

pub is_going-requires-clause-one : goal.is_going-requires-clause-one
is_going-requires-clause-one c = side-here (merge_sides c.args.look.now.merge.now)
