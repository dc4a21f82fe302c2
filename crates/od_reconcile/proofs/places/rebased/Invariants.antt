use Rattle.std.proofs.Common.{◌≡◌, ◌++◌, drop}
use Rattle.od_reconcile.proofs.places.rebased.Given as goal

abbrev pub invariant-loop-name : goal.invariant-loop-name
invariant-loop-name l =
    l.names ++ drop l.name-index l.rest ≡ l.initial.names ++ l.rest
