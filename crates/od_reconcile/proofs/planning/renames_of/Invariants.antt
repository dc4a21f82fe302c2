use Rattle.std.proofs.Common.{◌≡◌, ◌++◌, map, drop}
use Rattle.od_reconcile.specs.Plans.{rename_of}
use Rattle.od_reconcile.proofs.planning.renames_of.Given as goal

abbrev pub invariant-loop-pair : goal.invariant-loop-pair
invariant-loop-pair l =
    l.list ++ map rename_of (drop l.pair-index l.renames) ≡ map rename_of l.renames
