use Rattle.std.proofs.Common.{◌≡◌, ℕ, List, drop}
use Rattle.od_reconcile.specs.Above.{or_else}
use Rattle.od_reconcile.specs.Plans.{item_at}
use Rattle.od_reconcile.proofs.planning.index_of.Given as goal

abbrev pub invariant-loop-entry : goal.invariant-loop-entry
invariant-loop-entry l = (path : List (List ℕ)) → or_else (item_at l.found.entries path) (item_at (drop l.entry-index l.items) path) ≡ item_at l.items path
