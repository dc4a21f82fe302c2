use Rattle.std.proofs.Common.{◌≡◌, ◌++◌, filter, is_some}
use Rattle.od_merge.specs.Merging.{wanted}
use Rattle.od_reconcile.specs.Looks.{merge_sides}
use Rattle.od_reconcile.proofs.merge.wanted_paths.Given as goal

abbrev pub invariant-loop-path : goal.invariant-loop-path
invariant-loop-path l =
    l.found.items ++ filter (λ path. is_some (wanted (merge_sides l.merge) path)) l.path-iterator ≡ filter (λ path. is_some (wanted (merge_sides l.merge) path)) l.paths.keys
