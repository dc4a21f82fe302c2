use Rattle.std.proofs.Common.{◌≡◌, ◌++◌, filter, drop}
use Rattle.od_merge.specs.Merging.{is_conflict}
use Rattle.od_merge.specs.Sides.{paths_of}
use Rattle.od_reconcile.specs.Ready.{sides_found}
use Rattle.od_reconcile.proofs.conflicts.conflicts.Given as goal

abbrev pub invariant-loop-entry : goal.invariant-loop-entry
invariant-loop-entry l =
    l.found.items ++ filter (is_conflict (sides_found l.both)) (paths_of (drop l.entry-index l.both.here.tree.now))
    ≡ filter (is_conflict (sides_found l.both)) (paths_of l.both.here.tree.now)
