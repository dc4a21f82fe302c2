use Rattle.std.proofs.Common.{◌≡◌, ◌++◌, filter}
use Rattle.od_reconcile.specs.Holding.{limiter_sides}
use Rattle.od_reconcile.specs.Moving.{is_source_there}
use Rattle.od_reconcile.proofs.pairs.sources_there.Given as goal

abbrev pub invariant-loop-path : goal.invariant-loop-path
invariant-loop-path l =
    l.found.items ++ filter (is_source_there (limiter_sides l.limiter)) l.path-iterator ≡ filter (is_source_there (limiter_sides l.limiter)) l.limiter.look.now.paths.keys
