use Rattle.std.proofs.Common.{◌≡◌, ◌++◌, filter}
use Rattle.od_reconcile.specs.Holding.{limiter_limits, limiter_sides}
use Rattle.od_reconcile.specs.Moving.{is_target_there}
use Rattle.od_reconcile.proofs.pairs.targets_there.Given as goal

abbrev pub invariant-loop-path : goal.invariant-loop-path
invariant-loop-path l =
    l.found.items ++ filter (is_target_there (limiter_limits l.limiter) (limiter_sides l.limiter)) l.path-iterator ≡ filter (is_target_there (limiter_limits l.limiter) (limiter_sides l.limiter)) l.limiter.look.now.paths.keys
