use Rattle.od_tree.proofs.Lossless.{nothing_lost}
use Rattle.od_tree.proofs.laws.nothing_is_lost_without_a_discard.Goals as goal

pub returns : goal.returns
returns c = nothing_lost
