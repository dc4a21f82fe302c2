-- The runs of a job: its requests with what came of each, from its beginning to its end.
use Rattle.std.specs.Prelude.{◌≡◌, ℕ, ◌+◌, ◌/◌, List, [], ◌∷◌, length, cond, Option, Some, None}
use Rattle.gd_item.specs.declared.request.Request.{Request}
use Rattle.od_job.specs.Asking.{is_short, request_at}
use Rattle.od_job.specs.Turns.{begun, step_of}
use Rattle.od_job.specs.declared.job.Answered.{Answered}
use Rattle.od_job.specs.declared.job.Job.{Job}
use Rattle.od_job.specs.declared.job.Job.TheVariants.{Fetch, Send}
use Rattle.od_job.specs.declared.job.Outcome.{Outcome}
use Rattle.od_job.specs.declared.transfer.Next.{Next}
use Rattle.od_job.specs.declared.transfer.Next.TheVariants.{Goes, Ends}

-- a request and what came of it
pub record Exchange : Type 0 where
  pub request : Request
  pub answered : Answered

-- exchanges lead from one place to another: each has the request that is asked where the job then stands, and none comes after
-- its end
abbrev pub Leads : Job → Option Next → List Exchange → Next → Type 0
Leads job from [] to = from ≡ Some to
Leads job (Some (Goes now)) (exchange ∷ exchanges) to =
    (request_at job now.stage ≡ Some exchange.request) × Leads job (step_of job now exchange.answered) exchanges to
Leads job (Some (Ends outcome)) (exchange ∷ exchanges) to = ⊥
Leads job None (exchange ∷ exchanges) to = ⊥

-- a run that is not over yet or is, and one that is over
abbrev pub RunsTo : Job → List Exchange → Next → Type 0
RunsTo job exchanges to = Leads job (Some (Goes (begun job))) exchanges to

abbrev pub Ran : Job → List Exchange → Outcome → Type 0
Ran job exchanges outcome = RunsTo job exchanges (Ends outcome)

-- how many fragments so many bytes make
abbrev pub fragments_of : ℕ → ℕ
fragments_of bytes = (bytes + 655359) / 655360

-- how many requests a job makes at most
abbrev pub most_requests : Job → ℕ
most_requests (Fetch id digest size) = 6
most_requests (Send to bytes) = cond (is_short (length bytes)) 1 (fragments_of (length bytes) + 35)
