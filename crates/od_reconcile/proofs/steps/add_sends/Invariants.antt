use Rattle.std.proofs.Common.{◌≡◌, ◌++◌}
use Rattle.std.specs.List.{filter_map}
use Rattle.od_reconcile.specs.Holding.{limiter_limits, limiter_sides}
use Rattle.od_reconcile.specs.Plans.{send_there}
use Rattle.od_reconcile.proofs.steps.add_sends.Given as goal

abbrev pub invariant-loop-path : goal.invariant-loop-path
invariant-loop-path l =
    l.up ++ filter_map (send_there (limiter_limits l.limiter) (limiter_sides l.limiter) l.items.entries l.ends.pairs.now) l.path-iterator ≡ l.fn.up ++ filter_map (send_there (limiter_limits l.limiter) (limiter_sides l.limiter) l.items.entries l.ends.pairs.now) l.limiter.look.now.paths.keys
