use Rattle.std.proofs.Common.{◌≡◌, drop}
use Rattle.od_sync.specs.Planning.{is_new_below}
use Rattle.od_sync.proofs.planning.is_new_below.Given as goal

abbrev pub invariant-loop-entry : goal.invariant-loop-entry
invariant-loop-entry l = is_new_below l.rows l.local l.remote l.top ≡ is_new_below l.rows l.local (drop l.entry-index l.remote) l.top
