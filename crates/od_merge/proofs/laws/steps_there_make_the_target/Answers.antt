use Rattle.od_merge.proofs.Doing.{done-there}
use Rattle.od_merge.proofs.laws.steps_there_make_the_target.Goals as goal

pub returns : goal.returns
returns c = done-there
