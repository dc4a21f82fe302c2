use Rattle.od_database.proofs.ReadBack.{base-back}
use Rattle.od_database.proofs.laws.agreements_are_read_back.Goals as goal

pub returns : goal.returns
returns c = base-back
