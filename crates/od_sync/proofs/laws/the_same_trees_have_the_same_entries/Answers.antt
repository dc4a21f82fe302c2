use Rattle.od_sync.proofs.SameTrees.{drive-as-same}
use Rattle.od_sync.proofs.laws.the_same_trees_have_the_same_entries.Goals as goal

pub returns : goal.returns
returns c = drive-as-same
