use Rattle.std.proofs.Common.{◌≡◌, drop}
use Rattle.od_sync.specs.Planning.{has_file_above}
use Rattle.od_sync.proofs.planning.has_file_above.Given as goal

abbrev pub invariant-loop-entry : goal.invariant-loop-entry
invariant-loop-entry l = has_file_above l.local l.path ≡ has_file_above (drop l.entry-index l.local) l.path
