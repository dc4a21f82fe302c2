use Rattle.std.proofs.Common.{refl}
use Rattle.std.specs.Fmt.{digits}
use Rattle.drive_tests.proofs.instances.last_number_reached.Goals as goal

pub returns-clause-condition_first : goal.returns-clause-condition_first
unfolding digits
returns-clause-condition_first c = refl
