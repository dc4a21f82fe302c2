use Rattle.std.proofs.Common.{◌≡◌, ◌++◌, filter, drop}
use Rattle.od_merge.specs.Sides.{entry_passes, paths_of}
use Rattle.od_synclist.specs.Rules.{passes_file}
use Rattle.od_reconcile.proofs.side.passing_paths.Given as goal

abbrev pub invariant-loop-entry : goal.invariant-loop-entry
invariant-loop-entry l =
    l.found.items ++ paths_of (filter (entry_passes (passes_file l.rules)) (drop l.entry-index l.tree)) ≡ paths_of (filter (entry_passes (passes_file l.rules)) l.tree)
