use Rattle.od_database.proofs.ReadBack.{item-back}
use Rattle.od_database.proofs.laws.items_are_read_back.Goals as goal

pub returns : goal.returns
returns c = item-back
