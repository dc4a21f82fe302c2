use Rattle.std.proofs.Common.{refl}
use Rattle.std.specs.Fmt.{digits}
use Rattle.od_gen.proofs.instances.files.Goals as goal

pub returns-clause-plain : goal.returns-clause-plain
unfolding digits
returns-clause-plain c = refl

pub returns-clause-skipped : goal.returns-clause-skipped
unfolding digits
returns-clause-skipped c = refl
