use Rattle.std.proofs.Common.{◌≡◌, drop}
use Rattle.od_merge.specs.Merging.{in_order_from}
use Rattle.od_reconcile.proofs.folders.add_all.Given as goal

abbrev pub invariant-loop-path : goal.invariant-loop-path
invariant-loop-path l = in_order_from l.folders.keys (drop l.path-index l.marked) ≡ in_order_from l.initial.folders.keys l.marked
