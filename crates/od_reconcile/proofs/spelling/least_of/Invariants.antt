use Rattle.std.proofs.Common.{◌≡◌, ◌&&◌, ◌||◌, ℕ, List, drop}
use Rattle.std.specs.List.{list_any}
use Rattle.std.specs.Ordering.{is_lt}
use Rattle.gd_names.specs.Ordered.{path_cmp}
use Rattle.od_reconcile.specs.Holding.{is_before, lower_path, same_caseless_path, stands_at}
use Rattle.od_reconcile.proofs.spelling.least_of.Given as goal

abbrev pub invariant-loop-path : goal.invariant-loop-path
invariant-loop-path l = (q : List (List ℕ))
    → (is_before (stands_at l.index.entries (lower_path q)) q || list_any (λ other. same_caseless_path other q && is_lt (path_cmp other q)) (drop l.path-index l.paths))
    ≡ list_any (λ other. same_caseless_path other q && is_lt (path_cmp other q)) l.paths
