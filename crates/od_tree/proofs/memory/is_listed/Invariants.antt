use Rattle.std.proofs.Common.{◌≡◌, drop}
use Rattle.od_tree.specs.Tied.{is_listed}
use Rattle.od_tree.proofs.memory.is_listed.Given as goal

abbrev pub invariant-loop-call : goal.invariant-loop-call
invariant-loop-call l = is_listed l.failing l.kind l.number ≡ is_listed (drop l.call-index l.failing) l.kind l.number
