use Rattle.std.proofs.Common.{refl}
use Rattle.std.specs.Fmt.{digits}
use Rattle.od_gen.proofs.instances.folders_and_rules.Goals as goal

pub returns-clause-folder : goal.returns-clause-folder
unfolding digits
returns-clause-folder c = refl

pub returns-clause-rule : goal.returns-clause-rule
unfolding digits
returns-clause-rule c = refl
