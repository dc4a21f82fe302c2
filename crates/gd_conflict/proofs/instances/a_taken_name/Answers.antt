use Rattle.std.proofs.Common.{refl}
use Rattle.std.specs.Fmt.{digits}
use Rattle.gd_conflict.proofs.instances.a_taken_name.Goals as goal

pub returns-clause-rename : goal.returns-clause-rename
unfolding digits
returns-clause-rename c = refl
