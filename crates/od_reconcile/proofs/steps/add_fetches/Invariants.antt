use Rattle.std.proofs.Common.{◌≡◌, ◌++◌}
use Rattle.std.specs.List.{filter_map}
use Rattle.od_reconcile.specs.Looks.{merge_sides}
use Rattle.od_reconcile.specs.Plans.{fetch_here}
use Rattle.od_reconcile.proofs.steps.add_fetches.Given as goal

abbrev pub invariant-loop-path : goal.invariant-loop-path
invariant-loop-path l =
    l.down ++ filter_map (fetch_here (merge_sides l.look.merge.now) l.items.entries l.ends.pairs.now) l.path-iterator ≡ l.fn.down ++ filter_map (fetch_here (merge_sides l.look.merge.now) l.items.entries l.ends.pairs.now) l.look.paths.keys
