use Rattle.od_reconcile.specs.Looks.{merge_sides}
use Rattle.od_reconcile.proofs.Listed.{side-there}
use Rattle.od_reconcile.proofs.holding.stays_there.Goals as goal

pub is_going-requires-clause-one : goal.is_going-requires-clause-one
is_going-requires-clause-one c = side-there (merge_sides c.args.look.now.merge.now)
