use Rattle.std.proofs.Common.{◌≡◌, drop}
use Rattle.od_sync.specs.Agreeing.{entry_on}
use Rattle.od_sync.proofs.agreeing.entry_on.Given as goal

abbrev pub invariant-loop-entry : goal.invariant-loop-entry
invariant-loop-entry g l = entry_on l.entries l.path ≡ entry_on (drop l.entry-index l.entries) l.path
