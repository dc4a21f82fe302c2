use Rattle.std.proofs.Common.{◌≡◌, ◌++◌, ℕ, List, map, filter, drop}
use Rattle.od_reconcile.specs.Holding.{is_large}
use Rattle.od_reconcile.specs.declared.types.Node.{Node}
use Rattle.od_reconcile.proofs.holding.large_paths.Given as goal

abbrev pub invariant-loop-entry : goal.invariant-loop-entry
invariant-loop-entry l =
    l.found.items ++ map (λ (entry : List (List ℕ) × Node). entry.0) (filter (λ (entry : List (List ℕ) × Node). is_large entry.1) (drop l.entry-index l.entries)) ≡ map (λ (entry : List (List ℕ) × Node). entry.0) (filter (λ (entry : List (List ℕ) × Node). is_large entry.1) l.entries)
