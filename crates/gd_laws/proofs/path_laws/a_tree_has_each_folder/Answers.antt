use Rattle.gd_laws.proofs.Trees.{folders-log}
use Rattle.gd_laws.proofs.path_laws.a_tree_has_each_folder.Goals as goal

pub returns : goal.returns
returns c = folders-log
