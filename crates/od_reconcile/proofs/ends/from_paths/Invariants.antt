use Rattle.std.proofs.Common.{◌≡◌, ◌++◌, ℕ, List, map, drop}
use Rattle.od_reconcile.proofs.ends.from_paths.Given as goal

abbrev pub invariant-loop-pair : goal.invariant-loop-pair
invariant-loop-pair l =
    l.found.items ++ map (λ (pair : List (List ℕ) × List (List ℕ)). pair.0) (drop l.pair-index l.pairs) ≡ map (λ (pair : List (List ℕ) × List (List ℕ)). pair.0) l.pairs
