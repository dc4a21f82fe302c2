use Rattle.std.proofs.Common.{◌≡◌, length, codes}
use Rattle.gd_names.specs.Caseless.{lower_case}
use Rattle.gd_names.specs.Names.{holds_part}
use Rattle.gd_names.proofs.name.holds_vti.Given as goal

abbrev pub invariant-loop-rest : goal.invariant-loop-rest
invariant-loop-rest l = holds_part (codes "_vti_") (lower_case l.rest) ≡ holds_part (codes "_vti_") (lower_case l.name)

abbrev pub decreases-loop-rest : goal.decreases-loop-rest
decreases-loop-rest l = length l.rest
