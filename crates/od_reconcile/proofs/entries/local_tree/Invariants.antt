use Rattle.std.proofs.Common.{◌≡◌, ◌++◌, drop}
use Rattle.od_reconcile.specs.Entries.{local_tree}
use Rattle.od_reconcile.proofs.entries.local_tree.Given as goal

abbrev pub invariant-loop-entry : goal.invariant-loop-entry
invariant-loop-entry l = l.tree.items ++ local_tree (drop l.entry-index l.local) ≡ local_tree l.local
