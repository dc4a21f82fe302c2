use Rattle.std.proofs.Common.{◌≡◌, ◌++◌, filter, drop}
use Rattle.od_sync.specs.Planning.{fetches_of, is_new, planned_fetches}
use Rattle.od_sync.proofs.planning.plan_fetches.Given as goal

abbrev pub invariant-loop-entry : goal.invariant-loop-entry
invariant-loop-entry l = l.fetches ++ fetches_of (filter (is_new l.rows l.local) (drop l.entry-index l.remote)) ≡ planned_fetches l.rows l.local l.remote
