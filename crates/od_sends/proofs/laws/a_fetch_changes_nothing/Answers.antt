use Rattle.std.proofs.Common.{Some}
use Rattle.gd_item.specs.Steps.{state_of}
use Rattle.od_job.specs.Turns.{begun}
use Rattle.od_job.specs.declared.job.Job.TheVariants.{Fetch}
use Rattle.od_job.specs.declared.transfer.Next.TheVariants.{Goes}
use Rattle.od_sends.proofs.Fetching.{fetch-none}
use Rattle.od_sends.proofs.laws.a_fetch_changes_nothing.Goals as goal

pub returns : goal.returns
returns c = λ id digest size old part exchanges next runs told.
    fetch-none id digest size (Some (Goes (begun (Fetch id digest size)))) exchanges next (state_of old) part runs told
