use Rattle.od_merge.proofs.Witness.{are-trees}
use Rattle.od_merge.proofs.instances.a_folder_with_a_file_is_a_tree.Goals as goal

pub returns : goal.returns
returns c = are-trees
