use Rattle.std.proofs.Common.{◌≡◌, ℕ, List, drop}
use Rattle.od_merge.specs.Sides.{at}
use Rattle.od_reconcile.specs.Above.{or_else}
use Rattle.od_reconcile.proofs.entries.index.Given as goal

abbrev pub invariant-loop-entry : goal.invariant-loop-entry
invariant-loop-entry l = (path : List (List ℕ)) → or_else (at l.found.entries path) (at (drop l.entry-index l.tree) path) ≡ at l.tree path
