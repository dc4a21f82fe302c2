use Rattle.gd_item.proofs.Soundness.{sound-folder-log}
use Rattle.gd_item.proofs.tree_laws.made_folder_keeps_tree.Goals as goal

pub returns : goal.returns
returns c = sound-folder-log
