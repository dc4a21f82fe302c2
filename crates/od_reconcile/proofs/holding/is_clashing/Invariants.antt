use Rattle.std.proofs.Common.{◌≡◌, drop}
use Rattle.std.specs.List.{list_any}
use Rattle.od_merge.specs.Merging.{is_barred, prefixes, prefixes_from}
use Rattle.od_reconcile.specs.Holding.{limiter_limits, limiter_sides}
use Rattle.od_reconcile.proofs.holding.is_clashing.Given as goal

abbrev pub invariant-loop-name : goal.invariant-loop-name
invariant-loop-name l =
    list_any (is_barred (limiter_limits l.limiter) (limiter_sides l.limiter)) (prefixes l.path) ≡ list_any (is_barred (limiter_limits l.limiter) (limiter_sides l.limiter)) (prefixes_from l.above (drop l.name-index l.name-items))
