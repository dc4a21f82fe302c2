use Rattle.std.proofs.Common.{◌≡◌, ◌++◌, drop}
use Rattle.std.specs.List.{filter_map}
use Rattle.od_reconcile.specs.Holding.{limiter_sides}
use Rattle.od_reconcile.specs.Plans.{removal_there}
use Rattle.od_reconcile.proofs.steps.add_removals_there.Given as goal

abbrev pub invariant-loop-path : goal.invariant-loop-path
invariant-loop-path l =
    l.up ++ filter_map (removal_there (limiter_sides l.limiter) l.items.entries l.ends.pairs.now) (drop l.path-index l.paths) ≡ l.fn.up ++ filter_map (removal_there (limiter_sides l.limiter) l.items.entries l.ends.pairs.now) l.paths
