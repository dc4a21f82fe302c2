use Rattle.std.proofs.Common.{◌≡◌, ◌≤◌, count_by, take}
use Rattle.od_cli.specs.Runs.{is_own_of}
use Rattle.od_cli.proofs.counting.count_of.Given as goal

abbrev pub invariant-loop-step : goal.invariant-loop-step
invariant-loop-step l = (l.count ≡ count_by (is_own_of l.kind) (take l.step-index l.steps)) × (l.count ≤ l.step-index)
