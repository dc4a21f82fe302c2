use Rattle.gd_item.proofs.Moving.{sound-moved-log}
use Rattle.gd_item.proofs.tree_laws.moved_item_keeps_tree.Goals as goal

pub returns : goal.returns
returns c = sound-moved-log
