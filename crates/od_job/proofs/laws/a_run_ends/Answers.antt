use Rattle.od_job.proofs.Ending.{run-less}
use Rattle.od_job.proofs.laws.a_run_ends.Goals as goal

pub returns : goal.returns
returns c = λ job exchanges to runs. run-less job exchanges to runs
