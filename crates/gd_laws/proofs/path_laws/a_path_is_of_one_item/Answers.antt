use Rattle.gd_laws.proofs.Leading.{one-log}
use Rattle.gd_laws.proofs.path_laws.a_path_is_of_one_item.Goals as goal

pub returns : goal.returns
returns c = one-log
