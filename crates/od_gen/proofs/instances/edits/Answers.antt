use Rattle.std.proofs.Common.{refl}
use Rattle.std.specs.Fmt.{digits}
use Rattle.od_gen.proofs.instances.edits.Goals as goal

pub returns : goal.returns
unfolding digits
returns c = refl
