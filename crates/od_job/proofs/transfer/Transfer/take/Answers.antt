use Rattle.od_job.proofs.Standing.{step-going}
use Rattle.od_job.proofs.transfer.Transfer.take.Goals as goal

pub returns-in-Goes-clause-stands : goal.returns-in-Goes-clause-stands
returns-in-Goes-clause-stands c = step-going c.args.job.now c.args.self.now c.args.answered c.in-Goes.next c.requires.going c.in-Goes.ensures
