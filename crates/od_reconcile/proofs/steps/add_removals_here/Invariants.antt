use Rattle.std.proofs.Common.{◌≡◌, ◌++◌, drop}
use Rattle.std.specs.List.{filter_map}
use Rattle.od_reconcile.specs.Looks.{merge_sides}
use Rattle.od_reconcile.specs.Plans.{removal_here}
use Rattle.od_reconcile.proofs.steps.add_removals_here.Given as goal

abbrev pub invariant-loop-path : goal.invariant-loop-path
invariant-loop-path l =
    l.down ++ filter_map (removal_here (merge_sides l.look.merge.now) l.ends.pairs.now) (drop l.path-index l.paths) ≡ l.fn.down ++ filter_map (removal_here (merge_sides l.look.merge.now) l.ends.pairs.now) l.paths
