-- What ends a job has its cause among the answers.
use Rattle.std.proofs.Common.{◌≡◌, ◌⊎◌, inl, inr, ⊎_elim, ℕ, suc, ◌+◌, ◌<◌, cond, nat_eq, nat_le, List, [], ◌∷◌, length, Option, Some, None, refl, sym, subst, arith}
use Rattle.std.specs.List.{Any}
use Rattle.std.proofs.lemmas.Bool.{cond_both}
use Rattle.gd_item.specs.Records.{digest_record}
use Rattle.gd_item.specs.declared.digest.Digest.{Digest}
use Rattle.gd_item.specs.declared.fault.ErrorCode.{ErrorCode}
use Rattle.gd_item.specs.declared.id.ItemId.{ItemId}
use Rattle.gd_item.specs.declared.item.Item.{Item}
use Rattle.gd_item.specs.declared.reply.Reply.{Reply}
use Rattle.gd_item.specs.declared.reply.Reply.TheVariants as reply
use Rattle.od_job.specs.Asking.{end_of}
use Rattle.od_job.specs.Fits.{Explains, HasCause}
use Rattle.od_job.specs.Runs.{Exchange, Leads, Ran}
use Rattle.od_job.specs.Turns.{after_failure, after_turn, bad_turn, begun, content_turn, download_turn, failure_turn, fetch_turn, fetched, finish_turn, fragment_turn, is_digest, is_last_failure, open_turn, outcome_of, put_turn, reply_turn, send_turn, sent_to, status_turn, step_of, total_turn}
use Rattle.od_job.specs.declared.job.Answered.{Answered}
use Rattle.od_job.specs.declared.job.Answered.TheVariants as heard
use Rattle.od_job.specs.declared.job.Job.{Job}
use Rattle.od_job.specs.declared.job.Job.TheVariants.{Fetch, Send}
use Rattle.od_job.specs.declared.job.Outcome.{Outcome}
use Rattle.od_job.specs.declared.job.Outcome.TheVariants.{Fetched, Changed, Accepted, Refused, Lost, Odd, Bad}
use Rattle.od_job.specs.declared.stage.Stage.{Stage}
use Rattle.od_job.specs.declared.stage.Stage.TheVariants.{AskContent, AskDownload, Putting, Opening, Opened, AskStatus, Finishing, AskTotal, Cancelling, Ended}
use Rattle.od_job.specs.declared.stage.Turn.{Turn}
use Rattle.od_job.specs.declared.stage.Turn.TheVariants.{To, End}
use Rattle.od_job.specs.declared.stage.Why.TheVariants as why
use Rattle.od_job.specs.declared.transfer.Next.{Next}
use Rattle.od_job.specs.declared.transfer.Next.TheVariants.{Goes, Ends}
use Rattle.od_job.specs.declared.transfer.Transfer.{Transfer}

-- ---- some of a list
here : {X : Type 0} (P : X → Type 0) (x : X) (xs : List X) → P x → Any P (x ∷ xs)
here P x xs so = (0, x, omega arith, refl, so)

there : {X : Type 0} (P : X → Type 0) (x : X) (xs : List X) → Any P xs → Any P (x ∷ xs)
there P x xs any = (suc any.0, any.1, (let below : any.0 < length xs = any.2 in omega (arith, below)), any.3, any.4)

-- ---- what has its cause already
-- where the session is asked how far it has come, a request failed; where it is cancelled, it is known how the job ends
abbrev pub Owes : Stage → Outcome → Type 0
Owes (AskStatus session sent) outcome = outcome ≡ Lost
Owes (AskTotal session) outcome = outcome ≡ Lost
Owes (Cancelling session ended) outcome = outcome ≡ outcome_of ended
Owes stage outcome = ⊥

abbrev pub TurnOwes : Turn → Outcome → Type 0
TurnOwes (To stage) outcome = Owes stage outcome
TurnOwes (End end) outcome = outcome ≡ end

abbrev pub IfTurnOwes : Option Turn → Outcome → Type 0
IfTurnOwes None outcome = ⊥
IfTurnOwes (Some turn) outcome = TurnOwes turn outcome

abbrev pub NextOwes : Option Next → Outcome → Type 0
NextOwes None outcome = ⊥
NextOwes (Some (Goes now)) outcome = Owes now.stage outcome
NextOwes (Some (Ends end)) outcome = outcome ≡ end

abbrev Caused : Job → Answered → Stage → Outcome → Type 0
Caused job answered stage outcome = Explains job outcome answered ⊎ Owes stage outcome

-- an outcome is explained as the one that it is
as_end : (job : Job) (answered : Answered) (stage : Stage) (end outcome : Outcome) → Explains job end answered → outcome ≡ end → Caused job answered stage outcome
as_end job answered stage end outcome so is = inl (let P : Outcome → Type 0 = λ o. Explains job o answered in subst P (sym is) so)

-- ---- a fetch
content-caused : (id : ItemId) (digest : Digest) (size : ℕ) (said : Reply) (outcome : Outcome) → IfTurnOwes (content_turn said) outcome
    → Caused (Fetch id digest size) (heard.Got said) AskContent outcome
content-caused id digest size (reply.Found found version) outcome owes = absurd owes
content-caused id digest size (reply.Refused status code) outcome owes =
    as_end (Fetch id digest size) (heard.Got (reply.Refused status code)) AskContent (Refused code) outcome (status, refl) owes
content-caused id digest size said outcome owes = absurd owes

judged-caused : (id : ItemId) (digest : Digest) (size : ℕ) (bytes : List ℕ) → Explains (Fetch id digest size) (fetched digest bytes) (heard.Got (reply.Content bytes))
judged-caused id digest size bytes =
    cond_both (is_digest (digest_record bytes) digest) (Fetched bytes) Changed (λ outcome. Explains (Fetch id digest size) outcome (heard.Got (reply.Content bytes)))
    (λ same. refl) (λ other. (bytes, refl, other))

download-caused : (id : ItemId) (digest : Digest) (size : ℕ) (found : ItemId) (version : ℕ) (said : Reply) (outcome : Outcome) → IfTurnOwes (download_turn digest said) outcome
    → Caused (Fetch id digest size) (heard.Got said) (AskDownload found version) outcome
download-caused id digest size found version (reply.Content bytes) outcome owes =
    as_end (Fetch id digest size) (heard.Got (reply.Content bytes)) (AskDownload found version) (fetched digest bytes) outcome (judged-caused id digest size bytes) owes
download-caused id digest size found version (reply.Refused status code) outcome owes =
    as_end (Fetch id digest size) (heard.Got (reply.Refused status code)) (AskDownload found version) (Refused code) outcome (status, refl) owes
download-caused id digest size found version said outcome owes = absurd owes

fetch-caused : (id : ItemId) (digest : Digest) (size : ℕ) (stage : Stage) (said : Reply) (outcome : Outcome) → IfTurnOwes (fetch_turn digest stage said) outcome
    → Caused (Fetch id digest size) (heard.Got said) stage outcome
fetch-caused id digest size AskContent said outcome owes = content-caused id digest size said outcome owes
fetch-caused id digest size (AskDownload found version) said outcome owes = download-caused id digest size found version said outcome owes
fetch-caused id digest size stage said outcome owes = absurd owes

-- ---- a send
-- how a job ends for a reply, where the session is cancelled first
odd-caused : (job : Job) (said : Reply) (stage : Stage) (first : ℕ) (outcome : Outcome) → outcome ≡ Odd first → Caused job (heard.Got said) stage outcome
odd-caused job said stage first outcome is = as_end job (heard.Got said) stage (Odd first) outcome (said, refl) is

refused-caused : (job : Job) (status : ℕ) (code : ErrorCode) (stage : Stage) (outcome : Outcome) → outcome ≡ Refused code → Caused job (heard.Got (reply.Refused status code)) stage outcome
refused-caused job status code stage outcome is = as_end job (heard.Got (reply.Refused status code)) stage (Refused code) outcome (status, refl) is

made-caused : (job : Job) (item : Item) (stage : Stage) (outcome : Outcome) → outcome ≡ Accepted item → Caused job (heard.Got (reply.Made item)) stage outcome
made-caused job item stage outcome is = as_end job (heard.Got (reply.Made item)) stage (Accepted item) outcome (inl refl) is

is-caused : (job : Job) (item : Item) (stage : Stage) (outcome : Outcome) → outcome ≡ Accepted item → Caused job (heard.Got (reply.Is item)) stage outcome
is-caused job item stage outcome is = as_end job (heard.Got (reply.Is item)) stage (Accepted item) outcome (inr refl) is

put-caused : (job : Job) (said : Reply) (outcome : Outcome) → IfTurnOwes (put_turn said) outcome → Caused job (heard.Got said) Putting outcome
put-caused job (reply.Made item) outcome owes = made-caused job item Putting outcome owes
put-caused job (reply.Is item) outcome owes = is-caused job item Putting outcome owes
put-caused job (reply.Refused status code) outcome owes = refused-caused job status code Putting outcome owes
put-caused job said outcome owes = absurd owes

open-caused : (job : Job) (said : Reply) (outcome : Outcome) → IfTurnOwes (open_turn said) outcome → Caused job (heard.Got said) Opening outcome
open-caused job (reply.Session session expected) outcome owes =
    cond_both (nat_eq expected 0) (To (Opened session 0)) (To (Cancelling session (why.Odd 0)))
    (λ turn. TurnOwes turn outcome → Caused job (heard.Got (reply.Session session expected)) Opening outcome) (λ first none. absurd none)
    (λ other is. odd-caused job (reply.Session session expected) Opening 0 outcome is) owes
open-caused job (reply.Refused status code) outcome owes = refused-caused job status code Opening outcome owes
open-caused job said outcome owes = absurd owes

sent-owes : (total session sent : ℕ) (outcome : Outcome) → TurnOwes (sent_to total session sent) outcome → ⊥
sent-owes total session sent outcome owes =
    cond_both (nat_eq sent total) (To (Finishing session)) (To (Opened session sent)) (λ turn. TurnOwes turn outcome → ⊥) (λ all none. none) (λ other none. none) owes

fragment-caused : (job : Job) (total session sent : ℕ) (said : Reply) (outcome : Outcome) → IfTurnOwes (fragment_turn total session sent said) outcome
    → Caused job (heard.Got said) (Opened session sent) outcome
fragment-caused job total session sent (reply.More expected) outcome owes =
    cond_both (nat_eq expected (end_of total sent)) (sent_to total session expected) (To (Cancelling session (why.Odd sent)))
    (λ turn. TurnOwes turn outcome → Caused job (heard.Got (reply.More expected)) (Opened session sent) outcome) (λ came none. absurd (sent-owes total session expected outcome none))
    (λ other is. odd-caused job (reply.More expected) (Opened session sent) sent outcome is) owes
fragment-caused job total session sent (reply.Made item) outcome owes = odd-caused job (reply.Made item) (Opened session sent) sent outcome owes
fragment-caused job total session sent (reply.Is item) outcome owes = odd-caused job (reply.Is item) (Opened session sent) sent outcome owes
fragment-caused job total session sent (reply.Refused status code) outcome owes = refused-caused job status code (Opened session sent) outcome owes
fragment-caused job total session sent said outcome owes = absurd owes

status-caused : (job : Job) (total session sent : ℕ) (said : Reply) (outcome : Outcome) → IfTurnOwes (status_turn total session sent said) outcome
    → Caused job (heard.Got said) (AskStatus session sent) outcome
status-caused job total session sent (reply.Status expected) outcome owes =
    cond_both (nat_eq expected sent) (To (Opened session sent)) (cond (nat_eq expected (end_of total sent)) (sent_to total session expected) (To (Cancelling session why.Lost)))
    (λ turn. TurnOwes turn outcome → Caused job (heard.Got (reply.Status expected)) (AskStatus session sent) outcome) (λ before none. absurd none)
    (λ not_before. cond_both (nat_eq expected (end_of total sent)) (sent_to total session expected) (To (Cancelling session why.Lost))
    (λ turn. TurnOwes turn outcome → Caused job (heard.Got (reply.Status expected)) (AskStatus session sent) outcome)
    (λ came none. absurd (sent-owes total session expected outcome none)) (λ other is. inr is)) owes
status-caused job total session sent (reply.Refused status code) outcome owes =
    cond_both (nat_eq status 404) (End Lost) (To (Cancelling session (why.Refused code)))
    (λ turn. TurnOwes turn outcome → Caused job (heard.Got (reply.Refused status code)) (AskStatus session sent) outcome) (λ gone is. inr is)
    (λ other is. refused-caused job status code (AskStatus session sent) outcome is) owes
status-caused job total session sent said outcome owes = absurd owes

finish-caused : (job : Job) (session : ℕ) (said : Reply) (outcome : Outcome) → IfTurnOwes (finish_turn session said) outcome → Caused job (heard.Got said) (Finishing session) outcome
finish-caused job session (reply.Made item) outcome owes = made-caused job item (Finishing session) outcome owes
finish-caused job session (reply.Is item) outcome owes = is-caused job item (Finishing session) outcome owes
finish-caused job session (reply.Refused status code) outcome owes = refused-caused job status code (Finishing session) outcome owes
finish-caused job session said outcome owes = absurd owes

total-caused : (job : Job) (total session : ℕ) (said : Reply) (outcome : Outcome) → IfTurnOwes (total_turn total session said) outcome → Caused job (heard.Got said) (AskTotal session) outcome
total-caused job total session (reply.Status expected) outcome owes =
    cond_both (nat_eq expected total) (To (Finishing session)) (To (Cancelling session why.Lost))
    (λ turn. TurnOwes turn outcome → Caused job (heard.Got (reply.Status expected)) (AskTotal session) outcome) (λ all none. absurd none) (λ other is. inr is) owes
total-caused job total session (reply.Refused status code) outcome owes =
    cond_both (nat_eq status 404) (End Lost) (To (Cancelling session (why.Refused code)))
    (λ turn. TurnOwes turn outcome → Caused job (heard.Got (reply.Refused status code)) (AskTotal session) outcome) (λ gone is. inr is)
    (λ other is. refused-caused job status code (AskTotal session) outcome is) owes
total-caused job total session said outcome owes = absurd owes

send-caused : (job : Job) (total : ℕ) (stage : Stage) (said : Reply) (outcome : Outcome) → IfTurnOwes (send_turn total stage said) outcome → Caused job (heard.Got said) stage outcome
send-caused job total Putting said outcome owes = put-caused job said outcome owes
send-caused job total Opening said outcome owes = open-caused job said outcome owes
send-caused job total (Opened session sent) said outcome owes = fragment-caused job total session sent said outcome owes
send-caused job total (AskStatus session sent) said outcome owes = status-caused job total session sent said outcome owes
send-caused job total (Finishing session) said outcome owes = finish-caused job session said outcome owes
send-caused job total (AskTotal session) said outcome owes = total-caused job total session said outcome owes
send-caused job total (Cancelling session ended) said outcome owes = inr owes
send-caused job total stage said outcome owes = absurd owes

reply-caused : (job : Job) (stage : Stage) (said : Reply) (outcome : Outcome) → IfTurnOwes (reply_turn job stage said) outcome → Caused job (heard.Got said) stage outcome
reply-caused (Fetch id digest size) stage said outcome owes = fetch-caused id digest size stage said outcome owes
reply-caused (Send to bytes) stage said outcome owes = send-caused (Send to bytes) (length bytes) stage said outcome owes

-- ---- failures and bytes that are no reply
lost-caused : (job : Job) (stage : Stage) (outcome : Outcome) → outcome ≡ Lost → Caused job heard.Failed stage outcome
lost-caused job stage outcome is = as_end job heard.Failed stage Lost outcome refl is

failure-caused : (job : Job) (stage : Stage) (outcome : Outcome) → IfTurnOwes (failure_turn stage) outcome → Caused job heard.Failed stage outcome
failure-caused job Putting outcome owes = lost-caused job Putting outcome owes
failure-caused job Opening outcome owes = lost-caused job Opening outcome owes
failure-caused job (Opened session sent) outcome owes = lost-caused job (Opened session sent) outcome owes
failure-caused job (AskStatus session sent) outcome owes = inr owes
failure-caused job (Finishing session) outcome owes = lost-caused job (Finishing session) outcome owes
failure-caused job (AskTotal session) outcome owes = inr owes
failure-caused job (Cancelling session ended) outcome owes = inr owes
failure-caused job AskContent outcome owes = absurd owes
failure-caused job (AskDownload found version) outcome owes = absurd owes
failure-caused job Ended outcome owes = absurd owes

bad-caused : (job : Job) (stage : Stage) (bytes : List ℕ) (outcome : Outcome) → IfTurnOwes (bad_turn stage bytes) outcome → Caused job (heard.Bad bytes) stage outcome
bad-caused job (Cancelling session ended) bytes outcome owes = inr owes
bad-caused job Ended bytes outcome owes = absurd owes
bad-caused job stage bytes outcome owes = as_end job (heard.Bad bytes) stage (Bad bytes) outcome refl owes

-- ---- a step
turned-owes : (turn : Option Turn) (row failures : ℕ) (outcome : Outcome) → NextOwes (after_turn row failures turn) outcome → IfTurnOwes turn outcome
turned-owes None row failures outcome owes = owes
turned-owes (Some (To stage)) row failures outcome owes = owes
turned-owes (Some (End end)) row failures outcome owes = owes

failed-caused : (job : Job) (stage : Stage) (turn : Option Turn) (row failures : ℕ) (outcome : Outcome) → (IfTurnOwes turn outcome → Caused job heard.Failed stage outcome)
    → NextOwes (after_failure row failures turn) outcome → Caused job heard.Failed stage outcome
failed-caused job stage None row failures outcome so owes = absurd owes
failed-caused job stage (Some (To next)) row failures outcome so owes =
    cond_both (is_last_failure row failures) (Ends Lost) (Goes (record { stage = next; row = row; failures = failures }))
    (λ next. NextOwes (Some next) outcome → Caused job heard.Failed stage outcome) (λ last is. lost-caused job stage outcome is) (λ more is. so is) owes
failed-caused job stage (Some (End end)) row failures outcome so owes = so owes

step-caused : (job : Job) (now : Transfer) (answered : Answered) (outcome : Outcome) → NextOwes (step_of job now answered) outcome → Caused job answered now.stage outcome
step-caused job now (heard.Got said) outcome owes = reply-caused job now.stage said outcome (turned-owes (reply_turn job now.stage said) 0 now.failures outcome owes)
step-caused job now heard.Failed outcome owes =
    failed-caused job now.stage (failure_turn now.stage) (now.row + 1) (now.failures + 1) outcome (failure-caused job now.stage outcome) owes
step-caused job now (heard.Bad bytes) outcome owes = bad-caused job now.stage bytes outcome (turned-owes (bad_turn now.stage bytes) 0 now.failures outcome owes)

-- ---- a run
leads-caused : (job : Job) (from : Option Next) (exchanges : List Exchange) (outcome : Outcome) → Leads job from exchanges (Ends outcome) → HasCause job exchanges outcome ⊎ NextOwes from outcome
leads-caused job from [] outcome leads = inr (let P : Option Next → Type 0 = λ next. NextOwes next outcome in subst P (sym leads) refl)
leads-caused job (Some (Goes now)) (exchange ∷ exchanges) outcome leads =
    ⊎_elim (λ later. inl (there (λ (e : Exchange). Explains job outcome e.answered) exchange exchanges later))
    (λ owes. ⊎_elim (λ explains. inl (here (λ (e : Exchange). Explains job outcome e.answered) exchange exchanges explains)) (λ owed. inr owed) (step-caused job now exchange.answered outcome owes))
    (leads-caused job (step_of job now exchange.answered) exchanges outcome leads.1)
leads-caused job (Some (Ends end)) (exchange ∷ exchanges) outcome leads = absurd leads
leads-caused job None (exchange ∷ exchanges) outcome leads = absurd leads

begun-owes : (job : Job) (outcome : Outcome) → Owes (begun job).stage outcome → ⊥
begun-owes (Fetch id digest size) outcome owes = owes
begun-owes (Send to bytes) outcome owes = cond_both (nat_le (length bytes) 327680) Putting Opening (λ stage. Owes stage outcome → ⊥) (λ short none. none) (λ long none. none) owes

pub ran-caused : (job : Job) (exchanges : List Exchange) (outcome : Outcome) → Ran job exchanges outcome → HasCause job exchanges outcome
ran-caused job exchanges outcome ran =
    ⊎_elim (λ has. has) (λ owes. absurd (begun-owes job outcome owes)) (leads-caused job (Some (Goes (begun job))) exchanges outcome ran)
