use Rattle.std.proofs.Common.{refl}
use Rattle.std.specs.Fmt.{digits}
use Rattle.gd_item.proofs.drive_instances.restored_token_gone.Goals as goal

pub returns : goal.returns
unfolding digits
returns c = refl
