use Rattle.std.proofs.Common.{◌≡◌, drop}
use Rattle.od_reconcile.specs.Holding.{has_bad_name}
use Rattle.od_reconcile.proofs.holding.has_bad_name.Given as goal

abbrev pub invariant-loop-name : goal.invariant-loop-name
invariant-loop-name l =
    has_bad_name l.path ≡ has_bad_name (drop l.name-index l.name-items)
