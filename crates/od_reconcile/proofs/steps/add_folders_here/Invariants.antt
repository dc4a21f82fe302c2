use Rattle.std.proofs.Common.{◌≡◌, ◌++◌}
use Rattle.std.specs.List.{filter_map}
use Rattle.od_reconcile.specs.Looks.{merge_sides}
use Rattle.od_reconcile.specs.Plans.{folder_here}
use Rattle.od_reconcile.proofs.steps.add_folders_here.Given as goal

abbrev pub invariant-loop-path : goal.invariant-loop-path
invariant-loop-path l =
    l.down ++ filter_map (folder_here (merge_sides l.look.merge.now)) l.path-iterator ≡ l.fn.down ++ filter_map (folder_here (merge_sides l.look.merge.now)) l.look.paths.keys
