use Rattle.std.proofs.Common.{refl}
use Rattle.std.specs.Fmt.{digits}
use Rattle.gd_item.proofs.drive_instances.puts_answered.Goals as goal

pub returns-clause-condition_first : goal.returns-clause-condition_first
unfolding digits
returns-clause-condition_first c = refl
