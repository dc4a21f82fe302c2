use Rattle.gd_target.proofs.Again.{read_again}
use Rattle.gd_target.proofs.laws.targets_read_back.Goals as goal

pub returns : goal.returns
returns c = read_again
