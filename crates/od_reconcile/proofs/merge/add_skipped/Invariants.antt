use Rattle.std.proofs.Common.{◌≡◌, ◌++◌, filter, drop}
use Rattle.od_merge.specs.Sides.{is_skipped, paths_of}
use Rattle.od_synclist.specs.Rules.{passes_file}
use Rattle.od_reconcile.proofs.merge.add_skipped.Given as goal

abbrev pub invariant-loop-entry : goal.invariant-loop-entry
invariant-loop-entry l =
    l.found.items ++ filter (is_skipped (passes_file l.rules) l.side.tree.now) (paths_of (drop l.entry-index l.side.tree.now)) ≡ l.fn.found.items ++ filter (is_skipped (passes_file l.rules) l.side.tree.now) (paths_of l.side.tree.now)
