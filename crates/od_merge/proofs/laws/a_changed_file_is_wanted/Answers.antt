use Rattle.od_merge.proofs.Digests.{changed-wanted}
use Rattle.od_merge.proofs.laws.a_changed_file_is_wanted.Goals as goal

pub returns : goal.returns
returns c = changed-wanted
