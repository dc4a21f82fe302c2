use Rattle.std.proofs.Common.{◌≡◌, length, is_some}
use Rattle.gd_names.specs.Escapes.{decoded}
use Rattle.gd_names.proofs.escape.has_whole_escapes.Given as goal

abbrev pub invariant-loop-rest : goal.invariant-loop-rest
invariant-loop-rest l = is_some (decoded l.rest) ≡ is_some (decoded l.segment)

abbrev pub decreases-loop-rest : goal.decreases-loop-rest
decreases-loop-rest l = length l.rest
