use Rattle.std.proofs.Common.{◌≡◌, ◌++◌}
use Rattle.std.specs.List.{filter_map}
use Rattle.od_reconcile.specs.Holding.{limiter_limits, limiter_sides}
use Rattle.od_reconcile.specs.Plans.{folder_there}
use Rattle.od_reconcile.proofs.steps.add_folders_there.Given as goal

abbrev pub invariant-loop-path : goal.invariant-loop-path
invariant-loop-path l =
    l.up ++ filter_map (folder_there (limiter_limits l.limiter) (limiter_sides l.limiter)) l.path-iterator ≡ l.fn.up ++ filter_map (folder_there (limiter_limits l.limiter) (limiter_sides l.limiter)) l.limiter.look.now.paths.keys
