use Rattle.od_merge.proofs.Copying.{no-conflict}
use Rattle.od_merge.proofs.laws.renames_leave_no_conflict.Goals as goal

pub returns : goal.returns
returns c = no-conflict
