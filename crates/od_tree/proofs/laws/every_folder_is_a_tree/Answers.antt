use Rattle.od_tree.proofs.Shaped.{folder_is_tree}
use Rattle.od_tree.proofs.laws.every_folder_is_a_tree.Goals as goal

pub returns : goal.returns
returns c = folder_is_tree
