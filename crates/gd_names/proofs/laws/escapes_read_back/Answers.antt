use Rattle.gd_names.proofs.ReadBack.{escapes_read_back}
use Rattle.gd_names.proofs.laws.escapes_read_back.Goals as goal

pub returns : goal.returns
returns c = escapes_read_back
