use Rattle.gd_laws.proofs.Every.{every-drive}
use Rattle.gd_laws.proofs.laws.every_drive_keeps_this.Goals as goal

pub returns : goal.returns
returns c = every-drive
