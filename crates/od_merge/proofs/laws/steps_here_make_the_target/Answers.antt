use Rattle.od_merge.proofs.Doing.{done-here}
use Rattle.od_merge.proofs.laws.steps_here_make_the_target.Goals as goal

pub returns : goal.returns
returns c = done-here
