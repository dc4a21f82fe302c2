use Rattle.std.proofs.Common.{Some}
use Rattle.od_job.proofs.Standing.{begun-stands, leads-stands}
use Rattle.od_job.specs.Turns.{begun}
use Rattle.od_job.specs.declared.transfer.Next.TheVariants.{Goes, Ends}
use Rattle.od_job.proofs.laws.an_outcome_fits.Goals as goal

pub returns : goal.returns
returns c = λ job exchanges outcome ran. leads-stands job (Some (Goes (begun job))) exchanges (Ends outcome) (begun-stands job) ran
