use Rattle.std.proofs.Common.{◌≡◌, ◌++◌}
use Rattle.std.specs.List.{filter_map}
use Rattle.od_reconcile.specs.Holding.{held_of, limiter_limits, limiter_sides}
use Rattle.od_reconcile.proofs.holding.held.Given as goal

abbrev pub invariant-loop-path : goal.invariant-loop-path
invariant-loop-path l =
    l.held ++ filter_map (held_of (limiter_limits l.limiter) (limiter_sides l.limiter)) l.path-iterator ≡ filter_map (held_of (limiter_limits l.limiter) (limiter_sides l.limiter)) l.limiter.look.now.paths.keys
