use Rattle.std.proofs.Common.{◌≡◌, ◌++◌, filter}
use Rattle.od_reconcile.specs.Looks.{merge_sides}
use Rattle.od_reconcile.specs.Moving.{is_source_here}
use Rattle.od_reconcile.proofs.pairs.sources_here.Given as goal

abbrev pub invariant-loop-path : goal.invariant-loop-path
invariant-loop-path l =
    l.found.items ++ filter (is_source_here (merge_sides l.look.merge.now)) l.path-iterator ≡ filter (is_source_here (merge_sides l.look.merge.now)) l.look.paths.keys
