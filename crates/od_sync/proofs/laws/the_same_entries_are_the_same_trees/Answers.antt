use Rattle.od_sync.proofs.SameTrees.{same-as-drive}
use Rattle.od_sync.proofs.laws.the_same_entries_are_the_same_trees.Goals as goal

pub returns : goal.returns
returns c = same-as-drive
