use Rattle.od_merge.proofs.NotKept.{untouched-here, untouched-there}
use Rattle.od_merge.proofs.laws.what_is_not_kept_stays.Goals as goal

pub returns-clause-here : goal.returns-clause-here
returns-clause-here c = untouched-here

pub returns-clause-there : goal.returns-clause-there
returns-clause-there c = untouched-there
