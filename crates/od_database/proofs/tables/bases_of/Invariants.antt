use Rattle.std.proofs.Common.{◌≡◌, Some, drop}
use Rattle.od_database.specs.Agreements.{base_of}
use Rattle.od_database.specs.Writes.{collected, more}
use Rattle.od_database.proofs.tables.bases_of.Given as goal

abbrev pub invariant-loop-row : goal.invariant-loop-row
invariant-loop-row l = more (Some l.bases.items) (collected base_of (drop l.row-index l.rows)) ≡ collected base_of l.rows
