use Rattle.gd_item.proofs.Soundness.{sound-file-log}
use Rattle.gd_item.proofs.tree_laws.new_file_keeps_tree.Goals as goal

pub returns : goal.returns
returns c = sound-file-log
