use Rattle.gd_names.proofs.ReadBack.{paths_read_back}
use Rattle.gd_names.proofs.laws.paths_read_back.Goals as goal

pub returns : goal.returns
returns c = paths_read_back
