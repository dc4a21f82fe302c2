use Rattle.std.proofs.Common.{◌≡◌, ◌&&◌, ◌||◌, not, ℕ, List, drop}
use Rattle.std.specs.List.{list_any}
use Rattle.od_merge.specs.Sides.{is_path}
use Rattle.od_reconcile.specs.Holding.{has_other, lower_path, same_caseless_path, stands_at}
use Rattle.od_reconcile.proofs.spelling.spelt_of.Given as goal

abbrev pub invariant-loop-path : goal.invariant-loop-path
invariant-loop-path l = (from to : List (List ℕ))
    → (has_other (stands_at l.index.entries (lower_path from)) to || list_any (λ other. not (is_path other to) && same_caseless_path other from) (drop l.path-index l.paths))
    ≡ list_any (λ other. not (is_path other to) && same_caseless_path other from) l.paths
