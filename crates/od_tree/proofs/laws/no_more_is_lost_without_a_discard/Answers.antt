use Rattle.od_tree.proofs.Lossless.{no_more_lost}
use Rattle.od_tree.proofs.laws.no_more_is_lost_without_a_discard.Goals as goal

pub returns : goal.returns
returns c = no_more_lost
