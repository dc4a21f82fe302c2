-- What may come of a job, and why it did.
use Rattle.std.specs.Prelude.{◌≡◌, ◌⊎◌, ℕ, false, List}
use Rattle.std.specs.List.{Any}
use Rattle.gd_item.specs.Records.{digest_record}
use Rattle.gd_item.specs.declared.digest.Digest.{Digest}
use Rattle.gd_item.specs.declared.reply.Reply.{Reply}
use Rattle.gd_item.specs.declared.reply.Reply.TheVariants as reply
use Rattle.od_job.specs.Runs.{Exchange}
use Rattle.od_job.specs.Turns.{is_digest}
use Rattle.od_job.specs.declared.job.Answered.{Answered}
use Rattle.od_job.specs.declared.job.Answered.TheVariants as heard
use Rattle.od_job.specs.declared.job.Job.{Job}
use Rattle.od_job.specs.declared.job.Job.TheVariants.{Fetch, Send}
use Rattle.od_job.specs.declared.job.Outcome.{Outcome}
use Rattle.od_job.specs.declared.job.Outcome.TheVariants.{Fetched, Changed, Accepted, Refused, Lost, Odd, Bad}

-- what is fetched has the job's digest. That bytes which came are no reply is said where replies are read
abbrev pub FitsFetch : Digest → Outcome → Type 0
FitsFetch digest (Fetched bytes) = digest_record bytes ≡ digest
FitsFetch digest Changed = Unit {0}
FitsFetch digest (Accepted item) = ⊥
FitsFetch digest (Refused code) = Unit {0}
FitsFetch digest Lost = Unit {0}
FitsFetch digest (Odd first) = ⊥
FitsFetch digest (Bad bytes) = Unit {0}

abbrev pub FitsSend : Outcome → Type 0
FitsSend (Fetched bytes) = ⊥
FitsSend Changed = ⊥
FitsSend (Accepted item) = Unit {0}
FitsSend (Refused code) = Unit {0}
FitsSend Lost = Unit {0}
FitsSend (Odd first) = Unit {0}
FitsSend (Bad bytes) = Unit {0}

abbrev pub Fits : Job → Outcome → Type 0
Fits (Fetch id digest size) outcome = FitsFetch digest outcome
Fits (Send to bytes) outcome = FitsSend outcome

-- the bytes are not what was to be fetched
abbrev pub IsOther : Job → List ℕ → Type 0
IsOther (Fetch id digest size) bytes = is_digest (digest_record bytes) digest ≡ false
IsOther (Send to bytes) other = ⊥

-- an answer that is the cause of an outcome
abbrev pub Explains : Job → Outcome → Answered → Type 0
Explains job (Fetched bytes) answered = answered ≡ heard.Got (reply.Content bytes)
Explains job Changed answered = (bytes : List ℕ) × (answered ≡ heard.Got (reply.Content bytes)) × IsOther job bytes
Explains job (Accepted item) answered = (answered ≡ heard.Got (reply.Made item)) ⊎ (answered ≡ heard.Got (reply.Is item))
Explains job (Refused code) answered = (status : ℕ) × (answered ≡ heard.Got (reply.Refused status code))
Explains job Lost answered = answered ≡ heard.Failed
Explains job (Odd first) answered = (reply : Reply) × (answered ≡ heard.Got reply)
Explains job (Bad bytes) answered = answered ≡ heard.Bad bytes

-- a request of the job was answered so
abbrev pub HasCause : Job → List Exchange → Outcome → Type 0
HasCause job exchanges outcome = Any (λ (exchange : Exchange). Explains job outcome exchange.answered) exchanges
