use Rattle.od_merge.proofs.MergeLaws.{same-sides}
use Rattle.od_merge.proofs.laws.same_sides_are_the_target.Goals as goal

pub returns : goal.returns
returns c = same-sides
