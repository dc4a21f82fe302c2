use Rattle.std.proofs.Common.{◌≡◌, ◌++◌, drop}
use Rattle.od_reconcile.specs.Entries.{remote_tree}
use Rattle.od_reconcile.proofs.entries.remote_tree.Given as goal

abbrev pub invariant-loop-entry : goal.invariant-loop-entry
invariant-loop-entry l = l.tree.items ++ remote_tree (drop l.entry-index l.remote) ≡ remote_tree l.remote
