use Rattle.std.proofs.Common.{◌≡◌, drop}
use Rattle.od_tree.specs.Tied.{is_stopped}
use Rattle.od_tree.proofs.memory.is_stopped.Given as goal

abbrev pub invariant-loop-call : goal.invariant-loop-call
invariant-loop-call l = is_stopped l.stops l.calls ≡ is_stopped (drop l.call-index l.stops) l.calls
