use Rattle.od_merge.proofs.MergeLaws.{nothing-here, nothing-there}
use Rattle.od_merge.proofs.laws.same_sides_have_no_steps.Goals as goal

pub returns-clause-here : goal.returns-clause-here
returns-clause-here c = nothing-here

pub returns-clause-there : goal.returns-clause-there
returns-clause-there c = nothing-there
