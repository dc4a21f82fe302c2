use Rattle.std.proofs.Common.{◌≡◌, drop}
use Rattle.od_merge.specs.Core.{is_in}
use Rattle.od_reconcile.proofs.holding.is_one_of.Given as goal

abbrev pub invariant-loop-other : goal.invariant-loop-other
invariant-loop-other l =
    is_in l.path l.paths ≡ is_in l.path (drop l.other-index l.paths)
