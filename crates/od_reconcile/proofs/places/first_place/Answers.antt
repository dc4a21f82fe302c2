use Rattle.od_reconcile.specs.Holding.{stands_at}
use Rattle.od_reconcile.proofs.Placing.{first-top}
use Rattle.od_reconcile.proofs.places.first_place.Goals as goal

pub returns : goal.returns
returns c =
    first-top (stands_at c.args.places.now.entries) c.args.path.now c.names.result.now c.in_ok-above.above c.place_at.result c.earlier.result
    c.names.ensures c.in_ok-above.ensures c.place_at.ensures c.earlier.ensures
