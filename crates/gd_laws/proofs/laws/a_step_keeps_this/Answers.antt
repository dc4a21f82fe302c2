use Rattle.gd_laws.proofs.Every.{kept-step}
use Rattle.gd_laws.proofs.laws.a_step_keeps_this.Goals as goal

pub returns : goal.returns
returns c = kept-step
