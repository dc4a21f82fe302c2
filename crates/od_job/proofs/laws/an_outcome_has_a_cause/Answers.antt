use Rattle.od_job.proofs.Causing.{ran-caused}
use Rattle.od_job.proofs.laws.an_outcome_has_a_cause.Goals as goal

pub returns : goal.returns
returns c = λ job exchanges outcome ran. ran-caused job exchanges outcome ran
