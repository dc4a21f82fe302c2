use Rattle.std.proofs.Common.{◌≡◌, ◌++◌, filter}
use Rattle.od_merge.specs.Merging.{is_staying}
use Rattle.od_reconcile.specs.Looks.{merge_sides}
use Rattle.od_reconcile.proofs.merge.staying_paths.Given as goal

abbrev pub invariant-loop-path : goal.invariant-loop-path
invariant-loop-path l =
    l.found.items ++ filter (is_staying (merge_sides l.merge)) l.path-iterator ≡ filter (is_staying (merge_sides l.merge)) l.paths.keys
