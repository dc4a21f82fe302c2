use Rattle.od_reconcile.specs.Holding.{limiter_sides}
use Rattle.od_reconcile.proofs.Listed.{side-there}
use Rattle.od_reconcile.proofs.pairs.sources_there.Goals as goal

pub is_going-requires-clause-one : goal.is_going-requires-clause-one
is_going-requires-clause-one c = side-there (limiter_sides c.args.limiter.now)
