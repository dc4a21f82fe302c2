-- A run, one exchange at a time.
use Rattle.std.proofs.Common.{◌≡◌, List, ◌∷◌, Option, Some, sym, subst}
use Rattle.od_job.specs.Asking.{request_at}
use Rattle.od_job.specs.Runs.{Exchange, Leads, RunsTo}
use Rattle.od_job.specs.Turns.{begun, step_of}
use Rattle.od_job.specs.declared.job.Job.{Job}
use Rattle.od_job.specs.declared.transfer.Next.{Next}
use Rattle.od_job.specs.declared.transfer.Next.TheVariants.{Goes}
use Rattle.od_job.specs.declared.transfer.Transfer.{Transfer}

pub start : (job : Job) (now : Transfer) (exchanges : List Exchange) (to : Next) → begun job ≡ now → Leads job (Some (Goes now)) exchanges to → RunsTo job exchanges to
start job now exchanges to is leads = let From : Transfer → Type 0 = λ t. Leads job (Some (Goes t)) exchanges to in subst From (sym is) leads

pub lead : (job : Job) (now : Transfer) (exchange : Exchange) (exchanges : List Exchange) (next to : Next) → request_at job now.stage ≡ Some exchange.request → step_of job now exchange.answered ≡ Some next
    → Leads job (Some next) exchanges to → Leads job (Some (Goes now)) (exchange ∷ exchanges) to
lead job now exchange exchanges next to asks steps leads = (asks, let From : Option Next → Type 0 = λ from. Leads job from exchanges to in subst From (sym steps) leads)
