use Rattle.gd_names.proofs.Settled.{number-least}
use Rattle.gd_conflict.proofs.laws.the_number_is_the_least.Goals as goal

pub returns : goal.returns
returns c = number-least
