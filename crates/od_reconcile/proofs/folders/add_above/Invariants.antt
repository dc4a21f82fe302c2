use Rattle.std.proofs.Common.{◌≡◌, [], drop}
use Rattle.od_merge.specs.Merging.{in_order_from}
use Rattle.od_reconcile.specs.Above.{fronts_from}
use Rattle.od_reconcile.proofs.folders.add_above.Given as goal

abbrev pub invariant-loop-name : goal.invariant-loop-name
invariant-loop-name l = in_order_from l.folders.keys (fronts_from l.above (drop l.name-index l.name-items)) ≡ in_order_from l.initial.folders.keys (fronts_from [] l.name-items)
