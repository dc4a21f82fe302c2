use Rattle.std.proofs.Common.{◌≡◌, ◌++◌, filter}
use Rattle.od_merge.specs.Pairs.{comes_there}
use Rattle.od_reconcile.specs.Holding.{limiter_limits, limiter_sides}
use Rattle.od_reconcile.proofs.pairs.coming_paths.Given as goal

abbrev pub invariant-loop-path : goal.invariant-loop-path
invariant-loop-path l =
    l.found.items ++ filter (comes_there (limiter_limits l.limiter) (limiter_sides l.limiter)) l.path-iterator ≡ filter (comes_there (limiter_limits l.limiter) (limiter_sides l.limiter)) l.limiter.look.now.paths.keys
