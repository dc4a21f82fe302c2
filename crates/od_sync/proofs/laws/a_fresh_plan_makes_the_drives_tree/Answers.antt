use Rattle.od_sync.proofs.FreshPlans.{fresh_plan}
use Rattle.od_pages.proofs.Placing.{paths_below}
use Rattle.od_sync.proofs.laws.a_fresh_plan_makes_the_drives_tree.Goals as goal

pub returns-clause-plan : goal.returns-clause-plan
returns-clause-plan c drive items same = fresh_plan drive items same

pub returns-clause-below : goal.returns-clause-below
returns-clause-below c items = paths_below items
