use Rattle.std.proofs.Common.{◌≡◌, ◌++◌, ℕ, List, drop}
use Rattle.od_merge.specs.Sides.{paths_of}
use Rattle.od_reconcile.specs.Copying.{names_in}
use Rattle.od_reconcile.specs.Taken.{names_at}
use Rattle.od_reconcile.proofs.taken.add_tree.Given as goal

abbrev pub invariant-loop-entry : goal.invariant-loop-entry
invariant-loop-entry l = (q : List (List ℕ)) → names_at l.index.entries q ++ names_in q (paths_of (drop l.entry-index l.tree)) ≡ names_at l.fn.index.entries q ++ names_in q (paths_of l.tree)
