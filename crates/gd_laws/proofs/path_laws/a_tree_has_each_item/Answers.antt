use Rattle.gd_laws.proofs.Trees.{items-log}
use Rattle.gd_laws.proofs.path_laws.a_tree_has_each_item.Goals as goal

pub returns : goal.returns
returns c = items-log
