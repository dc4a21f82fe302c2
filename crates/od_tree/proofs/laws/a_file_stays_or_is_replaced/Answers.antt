use Rattle.od_tree.proofs.Replacing.{stays_or_replaced}
use Rattle.od_tree.proofs.laws.a_file_stays_or_is_replaced.Goals as goal

pub returns : goal.returns
returns c = stays_or_replaced
