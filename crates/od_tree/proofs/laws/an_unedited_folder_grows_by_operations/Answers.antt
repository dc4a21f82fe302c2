use Rattle.od_tree.proofs.GoingOn.{unedited}
use Rattle.od_tree.proofs.laws.an_unedited_folder_grows_by_operations.Goals as goal

pub returns : goal.returns
returns c before after log none told goes = unedited before after log none told goes
