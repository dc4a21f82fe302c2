use Rattle.gd_item.proofs.Soundness.{sound-over-log}
use Rattle.gd_item.proofs.tree_laws.new_bytes_keep_tree.Goals as goal

pub returns : goal.returns
returns c = sound-over-log
