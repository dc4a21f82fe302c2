use Rattle.gd_laws.proofs.Removals.{up-log}
use Rattle.gd_laws.proofs.removal_laws.removals_go_up.Goals as goal

pub returns : goal.returns
returns c = up-log
