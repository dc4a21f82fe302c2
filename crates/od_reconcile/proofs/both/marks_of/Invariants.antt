use Rattle.std.proofs.Common.{◌≡◌, ℕ, List, None, drop}
use Rattle.od_merge.specs.Sides.{row_at}
use Rattle.od_reconcile.specs.Ready.{mark_at, mark_or}
use Rattle.od_reconcile.proofs.both.marks_of.Given as goal

abbrev pub invariant-loop-row : goal.invariant-loop-row
invariant-loop-row l = (path : List (List ℕ)) → mark_or (mark_at l.marks.entries path) (row_at (drop l.row-index l.rows) path) ≡ mark_or None (row_at l.rows path)
