use Rattle.std.proofs.Common.{◌≡◌, false, length}
use Rattle.gd_json.specs.Bases.{is_authority}
use Rattle.gd_json.proofs.wire.is_authority.Given as goal

abbrev pub invariant-loop-rest : goal.invariant-loop-rest
invariant-loop-rest l = is_authority l.some l.rest ≡ is_authority false l.text

abbrev pub decreases-loop-rest : goal.decreases-loop-rest
decreases-loop-rest l = length l.rest
