use Rattle.od_pull.proofs.Taking.{pull-ends}
use Rattle.od_pull.proofs.pulling.pull.Goals as goal

pub returns-clause-pulls : goal.returns-clause-pulls
returns-clause-pulls g c = pull-ends c.args.items c.args.token c.pull_over.result (rw c.start.ensures at c.pull_over.ensures.pulls)
