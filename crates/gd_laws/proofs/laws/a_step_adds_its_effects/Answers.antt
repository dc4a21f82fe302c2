use Rattle.gd_laws.proofs.Logs.{effects-push}
use Rattle.gd_laws.proofs.laws.a_step_adds_its_effects.Goals as goal

pub returns : goal.returns
returns c = effects-push
