use Rattle.std.proofs.Common.{◌≡◌, Some, drop}
use Rattle.od_database.specs.Entries.{item_of}
use Rattle.od_database.specs.Writes.{collected, more}
use Rattle.od_database.proofs.tables.items_of.Given as goal

abbrev pub invariant-loop-entry : goal.invariant-loop-entry
invariant-loop-entry l = more (Some l.items.items) (collected item_of (drop l.entry-index l.entries)) ≡ collected item_of l.entries
