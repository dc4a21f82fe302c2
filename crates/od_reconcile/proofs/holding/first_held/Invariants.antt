use Rattle.std.proofs.Common.{◌≡◌, drop}
use Rattle.od_merge.specs.Merging.{first_held, prefixes, prefixes_from}
use Rattle.od_reconcile.specs.Holding.{limiter_limits, limiter_sides}
use Rattle.od_reconcile.proofs.holding.first_held.Given as goal

abbrev pub invariant-loop-name : goal.invariant-loop-name
invariant-loop-name l =
    first_held (limiter_limits l.limiter) (limiter_sides l.limiter) (prefixes l.path) ≡ first_held (limiter_limits l.limiter) (limiter_sides l.limiter) (prefixes_from l.above (drop l.name-index l.name-items))
