use Rattle.std.proofs.Common.{◌≡◌, ◌++◌, drop}
use Rattle.od_reconcile.specs.Copying.{renamed_entries}
use Rattle.od_reconcile.proofs.places.renamed_entries.Given as goal

abbrev pub invariant-loop-entry : goal.invariant-loop-entry
invariant-loop-entry l =
    l.found.items ++ renamed_entries l.renames (drop l.entry-index l.local) ≡ renamed_entries l.renames l.local
