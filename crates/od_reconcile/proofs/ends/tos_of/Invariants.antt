use Rattle.std.proofs.Common.{◌≡◌, ℕ, List, drop}
use Rattle.od_reconcile.specs.Above.{or_else}
use Rattle.od_reconcile.specs.Holding.{stands_at}
use Rattle.od_reconcile.specs.Moving.{source_of}
use Rattle.od_reconcile.proofs.ends.tos_of.Given as goal

abbrev pub invariant-loop-pair : goal.invariant-loop-pair
invariant-loop-pair l = (path : List (List ℕ)) → or_else (stands_at l.tos.entries path) (source_of (drop l.pair-index l.pairs) path) ≡ source_of l.pairs path
