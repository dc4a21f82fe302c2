use Rattle.gd_item.proofs.Removing.{sound-removed-log}
use Rattle.gd_item.proofs.tree_laws.removed_items_keep_tree.Goals as goal

pub returns : goal.returns
returns c = sound-removed-log
