use Rattle.od_reconcile.specs.Looks.{merge_sides}
use Rattle.od_reconcile.proofs.Listed.{side-here}
use Rattle.od_reconcile.proofs.steps.add_removals_here.Goals as goal

pub removal_here-requires-clause-one : goal.removal_here-requires-clause-one
removal_here-requires-clause-one c = side-here (merge_sides c.args.look.now.merge.now)
