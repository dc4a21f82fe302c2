use Rattle.std.proofs.Common.{◌≡◌, ◌++◌, filter, drop}
use Rattle.od_sync.specs.Planning.{folders_of, is_wanted, planned_folders}
use Rattle.od_sync.proofs.planning.plan_folders.Given as goal

abbrev pub invariant-loop-entry : goal.invariant-loop-entry
invariant-loop-entry l = l.folders ++ folders_of (filter (is_wanted l.rows l.local l.remote) (drop l.entry-index l.remote)) ≡ planned_folders l.rows l.local l.remote
