use Rattle.std.proofs.Common.{◌≡◌, ◌++◌, filter}
use Rattle.od_reconcile.specs.Holding.{stays_there}
use Rattle.od_reconcile.specs.Looks.{merge_sides}
use Rattle.od_reconcile.proofs.holding.kept_paths.Given as goal

abbrev pub invariant-loop-path : goal.invariant-loop-path
invariant-loop-path l =
    l.found.items ++ filter (stays_there (merge_sides l.look.merge.now)) l.path-iterator ≡ filter (stays_there (merge_sides l.look.merge.now)) l.look.paths.keys
