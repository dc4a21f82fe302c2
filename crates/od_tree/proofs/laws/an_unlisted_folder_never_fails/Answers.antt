use Rattle.od_tree.proofs.GoingOn.{unlisted}
use Rattle.od_tree.proofs.laws.an_unlisted_folder_never_fails.Goals as goal

pub returns : goal.returns
returns c before after none unstopped goes = unlisted before after none unstopped goes
