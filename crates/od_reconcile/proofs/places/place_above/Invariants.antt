use Rattle.std.proofs.Common.{◌≡◌, [], drop}
use Rattle.od_reconcile.specs.Above.{fronts_from}
use Rattle.od_reconcile.specs.Holding.{stands_at}
use Rattle.od_reconcile.specs.Places.{earlier, first_place}
use Rattle.od_reconcile.proofs.places.place_above.Given as goal

abbrev pub invariant-loop-name : goal.invariant-loop-name
invariant-loop-name l =
    earlier l.place (first_place (stands_at l.places.entries) (fronts_from l.above (drop l.name-index l.names))) ≡ first_place (stands_at l.places.entries) (fronts_from [] l.names)
