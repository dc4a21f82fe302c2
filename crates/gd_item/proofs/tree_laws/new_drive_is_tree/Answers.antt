use Rattle.gd_item.proofs.Soundness.{sound-new}
use Rattle.gd_item.proofs.tree_laws.new_drive_is_tree.Goals as goal

pub returns : goal.returns
returns c = sound-new
