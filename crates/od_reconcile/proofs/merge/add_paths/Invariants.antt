use Rattle.std.proofs.Common.{◌≡◌, drop}
use Rattle.od_merge.specs.Merging.{in_order_from}
use Rattle.od_merge.specs.Sides.{paths_of}
use Rattle.od_reconcile.proofs.merge.add_paths.Given as goal

abbrev pub invariant-loop-entry : goal.invariant-loop-entry
invariant-loop-entry l =
    in_order_from l.paths.keys (paths_of (drop l.entry-index l.tree)) ≡ in_order_from l.fn.paths.keys (paths_of l.tree)
