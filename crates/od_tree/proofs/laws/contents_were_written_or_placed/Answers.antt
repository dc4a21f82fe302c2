use Rattle.od_tree.proofs.Contained.{contents_known}
use Rattle.od_tree.proofs.laws.contents_were_written_or_placed.Goals as goal

pub returns : goal.returns
returns c = contents_known
