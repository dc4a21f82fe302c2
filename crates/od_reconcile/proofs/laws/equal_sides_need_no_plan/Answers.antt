use Rattle.od_reconcile.proofs.Equal.{equal-sides}
use Rattle.od_reconcile.proofs.laws.equal_sides_need_no_plan.Goals as goal

pub returns : goal.returns
returns c = equal-sides
