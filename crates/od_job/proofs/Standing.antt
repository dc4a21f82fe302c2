-- Where a turn leads a job may stand, and what it ends with fits the job.
use Rattle.std.proofs.Common.{◌≡◌, ℕ, ◌+◌, ◌<◌, ◌≤◌, true, cond, nat_eq, nat_le, nat_lt, List, [], ◌∷◌, length, Option, Some, None, refl, ap, sym, subst, lit<, arith}
use Rattle.std.specs.Cmp.Lexicographic.{same_text}
use Rattle.std.proofs.lemmas.Bool.{cond_both, eqb-true, eqb-false, leb-false, lt-ltb, ltb-true, or_parts}
use Rattle.gd_item.specs.Records.{digest_record}
use Rattle.gd_item.specs.declared.digest.Digest.{Digest}
use Rattle.gd_item.specs.declared.id.ItemId.{ItemId}
use Rattle.gd_item.specs.declared.reply.Reply.{Reply}
use Rattle.gd_item.specs.declared.reply.Reply.TheVariants as reply
use Rattle.od_job.specs.Asking.{end_of, is_at, is_send_at, is_short}
use Rattle.od_job.specs.Fits.{Fits, FitsFetch, FitsSend}
use Rattle.od_job.specs.Runs.{Exchange, Leads}
use Rattle.od_job.specs.Turns.{IsGoing, after_failure, after_turn, bad_turn, begun, content_turn, download_turn, failure_turn, fetch_turn, fetched, finish_turn, fragment_turn, is_digest, is_last_failure, open_turn, outcome_of, put_turn, reply_turn, send_turn, sent_to, status_turn, step_of, total_turn}
use Rattle.od_job.specs.declared.job.Answered.{Answered}
use Rattle.od_job.specs.declared.job.Answered.TheVariants as heard
use Rattle.od_job.specs.declared.job.Job.{Job}
use Rattle.od_job.specs.declared.job.Job.TheVariants.{Fetch, Send}
use Rattle.od_job.specs.declared.job.Outcome.TheVariants.{Fetched, Changed, Lost}
use Rattle.od_job.specs.declared.stage.Stage.{Stage}
use Rattle.od_job.specs.declared.stage.Stage.TheVariants.{AskContent, AskDownload, Putting, Opening, Opened, AskStatus, Finishing, AskTotal, Cancelling, Ended}
use Rattle.od_job.specs.declared.stage.Turn.{Turn}
use Rattle.od_job.specs.declared.stage.Turn.TheVariants.{To, End}
use Rattle.od_job.specs.declared.stage.Why.{Why}
use Rattle.od_job.specs.declared.stage.Why.TheVariants as why
use Rattle.od_job.specs.declared.transfer.Next.{Next}
use Rattle.od_job.specs.declared.transfer.Next.TheVariants.{Goes, Ends}
use Rattle.od_job.specs.declared.transfer.Transfer.{Transfer}

-- ---- what a turn may be
abbrev pub TurnStands : Job → Turn → Type 0
TurnStands job (To stage) = is_at job stage ≡ true
TurnStands job (End outcome) = Fits job outcome

abbrev pub IfTurn : Job → Option Turn → Type 0
IfTurn job None = Unit {0}
IfTurn job (Some turn) = TurnStands job turn

abbrev pub NextStands : Job → Next → Type 0
NextStands job (Goes now) = IsGoing job now
NextStands job (Ends outcome) = Fits job outcome

abbrev pub IfNext : Job → Option Next → Type 0
IfNext job None = Unit {0}
IfNext job (Some next) = NextStands job next

-- ---- a fetch
judged : (id : ItemId) (digest : Digest) (size : ℕ) (bytes : List ℕ) → Fits (Fetch id digest size) (fetched digest bytes)
judged id digest size bytes =
    cond_both (is_digest (digest_record bytes) digest) (Fetched bytes) Changed (λ outcome. FitsFetch digest outcome)
    (λ same. ap (λ (list : List ℕ). let found : Digest = record { 0 = list } in found) (same_text (digest_record bytes).0 digest.0 (sym same))) (λ other. tt)

content-stands : (id : ItemId) (digest : Digest) (size : ℕ) (said : Reply) → IfTurn (Fetch id digest size) (content_turn said)
content-stands id digest size (reply.Found found version) = refl
content-stands id digest size (reply.Refused status code) = tt
content-stands id digest size said = tt

download-stands : (id : ItemId) (digest : Digest) (size : ℕ) (said : Reply) → IfTurn (Fetch id digest size) (download_turn digest said)
download-stands id digest size (reply.Content bytes) = judged id digest size bytes
download-stands id digest size (reply.Refused status code) = tt
download-stands id digest size said = tt

fetch-stands : (id : ItemId) (digest : Digest) (size : ℕ) (stage : Stage) (said : Reply) → IfTurn (Fetch id digest size) (fetch_turn digest stage said)
fetch-stands id digest size AskContent said = content-stands id digest size said
fetch-stands id digest size (AskDownload found version) said = download-stands id digest size said
fetch-stands id digest size stage said = tt

-- ---- a send
abbrev pub SendStands : ℕ → Turn → Type 0
SendStands total (To stage) = is_send_at total stage ≡ true
SendStands total (End outcome) = FitsSend outcome

abbrev pub IfSend : ℕ → Option Turn → Type 0
IfSend total None = Unit {0}
IfSend total (Some turn) = SendStands total turn

put-stands : (total : ℕ) (said : Reply) → IfSend total (put_turn said)
put-stands total (reply.Made item) = tt
put-stands total (reply.Is item) = tt
put-stands total (reply.Refused status code) = tt
put-stands total said = tt

open-stands : (total : ℕ) (said : Reply) → 0 < total → IfSend total (open_turn said)
open-stands total (reply.Session session expected) some =
    cond_both (nat_eq expected 0) (To (Opened session 0)) (To (Cancelling session (why.Odd 0))) (λ turn. SendStands total turn) (λ first. lt-ltb 0 total some) (λ other. refl)
open-stands total (reply.Refused status code) some = tt
open-stands total said some = tt

pub sent-stands : (total session sent : ℕ) → sent ≤ total → SendStands total (sent_to total session sent)
sent-stands total session sent within =
    cond_both (nat_eq sent total) (To (Finishing session)) (To (Opened session sent)) (λ turn. SendStands total turn) (λ all. refl)
    (λ other. lt-ltb sent total (let not_all : sent ≡ total → ⊥ = eqb-false sent total other in omega (arith, within, not_all)))

end-within : (total sent : ℕ) → end_of total sent ≤ total
end-within total sent = omega arith

fragment-stands : (total session sent : ℕ) (said : Reply) → IfSend total (fragment_turn total session sent said)
fragment-stands total session sent (reply.More expected) =
    cond_both (nat_eq expected (end_of total sent)) (sent_to total session expected) (To (Cancelling session (why.Odd sent))) (λ turn. SendStands total turn)
    (λ came. sent-stands total session expected (let is : expected ≡ end_of total sent = eqb-true expected (end_of total sent) came in omega (arith, is, end-within total sent))) (λ other. refl)
fragment-stands total session sent (reply.Made item) = refl
fragment-stands total session sent (reply.Is item) = refl
fragment-stands total session sent (reply.Refused status code) = refl
fragment-stands total session sent said = tt

status-stands : (total session sent : ℕ) (said : Reply) → nat_lt sent total ≡ true → IfSend total (status_turn total session sent said)
status-stands total session sent (reply.Status expected) below =
    cond_both (nat_eq expected sent) (To (Opened session sent)) (cond (nat_eq expected (end_of total sent)) (sent_to total session expected) (To (Cancelling session why.Lost))) (λ turn. SendStands total turn)
    (λ before. below)
    (λ not_before. cond_both (nat_eq expected (end_of total sent)) (sent_to total session expected) (To (Cancelling session why.Lost)) (λ turn. SendStands total turn)
    (λ came. sent-stands total session expected (let is : expected ≡ end_of total sent = eqb-true expected (end_of total sent) came in omega (arith, is, end-within total sent))) (λ other. refl))
status-stands total session sent (reply.Refused status code) below =
    cond_both (nat_eq status 404) (End Lost) (To (Cancelling session (why.Refused code))) (λ turn. SendStands total turn) (λ gone. tt) (λ other. refl)
status-stands total session sent said below = tt

finish-stands : (total session : ℕ) (said : Reply) → IfSend total (finish_turn session said)
finish-stands total session (reply.Made item) = tt
finish-stands total session (reply.Is item) = tt
finish-stands total session (reply.Refused status code) = refl
finish-stands total session said = tt

total-stands : (total session : ℕ) (said : Reply) → IfSend total (total_turn total session said)
total-stands total session (reply.Status expected) =
    cond_both (nat_eq expected total) (To (Finishing session)) (To (Cancelling session why.Lost)) (λ turn. SendStands total turn) (λ all. refl) (λ other. refl)
total-stands total session (reply.Refused status code) =
    cond_both (nat_eq status 404) (End Lost) (To (Cancelling session (why.Refused code))) (λ turn. SendStands total turn) (λ gone. tt) (λ other. refl)
total-stands total session said = tt

cancelled-fits : (ended : Why) → FitsSend (outcome_of ended)
cancelled-fits (why.Refused code) = tt
cancelled-fits why.Lost = tt
cancelled-fits (why.Odd first) = tt

send-stands : (total : ℕ) (stage : Stage) (said : Reply) → is_send_at total stage ≡ true → IfSend total (send_turn total stage said)
send-stands total Putting said at = put-stands total said
send-stands total Opening said at = open-stands total said (let long : 327680 < total = ltb-true 327680 total at in omega (arith, long))
send-stands total (Opened session sent) said at = fragment-stands total session sent said
send-stands total (AskStatus session sent) said at = status-stands total session sent said at
send-stands total (Finishing session) said at = finish-stands total session said
send-stands total (AskTotal session) said at = total-stands total session said
send-stands total (Cancelling session ended) said at = cancelled-fits ended
send-stands total AskContent said at = tt
send-stands total (AskDownload found version) said at = tt
send-stands total Ended said at = tt

reply-stands : (job : Job) (stage : Stage) (said : Reply) → is_at job stage ≡ true → IfTurn job (reply_turn job stage said)
reply-stands (Fetch id digest size) stage said at = fetch-stands id digest size stage said
reply-stands (Send to bytes) stage said at = by (send_turn (length bytes) stage said) (send-stands (length bytes) stage said at)
  where
    by : (turn : Option Turn) → IfSend (length bytes) turn → IfTurn (Send to bytes) turn
    by None so = tt
    by (Some (To next)) so = so
    by (Some (End outcome)) so = so

-- ---- failures and bytes that are no reply
failure-stands : (job : Job) (stage : Stage) → is_at job stage ≡ true → IfTurn job (failure_turn stage)
failure-stands (Fetch id digest size) AskContent at = refl
failure-stands (Fetch id digest size) (AskDownload found version) at = refl
failure-stands (Fetch id digest size) stage at = absurd (cc at)
failure-stands (Send to bytes) Putting at = tt
failure-stands (Send to bytes) Opening at = tt
failure-stands (Send to bytes) (Opened session sent) at = at
failure-stands (Send to bytes) (AskStatus session sent) at = at
failure-stands (Send to bytes) (Finishing session) at = refl
failure-stands (Send to bytes) (AskTotal session) at = refl
failure-stands (Send to bytes) (Cancelling session ended) at = cancelled-fits ended
failure-stands (Send to bytes) stage at = absurd (cc at)

bad-stands : (job : Job) (stage : Stage) (bytes : List ℕ) → is_at job stage ≡ true → IfTurn job (bad_turn stage bytes)
bad-stands (Fetch id digest size) AskContent bytes at = tt
bad-stands (Fetch id digest size) (AskDownload found version) bytes at = tt
bad-stands (Fetch id digest size) stage bytes at = absurd (cc at)
bad-stands (Send to sent) (Cancelling session ended) bytes at = cancelled-fits ended
bad-stands (Send to sent) Ended bytes at = tt
bad-stands (Send to sent) stage bytes at = tt

-- ---- a step
lost-fits : (job : Job) → Fits job Lost
lost-fits (Fetch id digest size) = tt
lost-fits (Send to bytes) = tt

turned-stands : (job : Job) (turn : Option Turn) (failures : ℕ) → failures < 16 → IfTurn job turn → IfNext job (after_turn 0 failures turn)
turned-stands job None failures few so = tt
turned-stands job (Some (To stage)) failures few so = record { at = so; row = lit< tt; failures = few }
turned-stands job (Some (End outcome)) failures few so = so

failed-stands : (job : Job) (turn : Option Turn) (row failures : ℕ) → IfTurn job turn → IfNext job (after_failure row failures turn)
failed-stands job None row failures so = tt
failed-stands job (Some (To stage)) row failures so =
    cond_both (is_last_failure row failures) (Ends Lost) (Goes (record { stage = stage; row = row; failures = failures })) (λ next. NextStands job next) (λ last. lost-fits job)
    (λ more. let parts = or_parts (nat_le 3 row) (nat_le 16 failures) more in
    record { at = so; row = leb-false 3 row parts.0; failures = leb-false 16 failures parts.1 })
failed-stands job (Some (End outcome)) row failures so = so

pub step-stands : (job : Job) (now : Transfer) (answered : Answered) → IsGoing job now → IfNext job (step_of job now answered)
step-stands job now (heard.Got said) going = turned-stands job (reply_turn job now.stage said) now.failures going.failures (reply-stands job now.stage said going.at)
step-stands job now heard.Failed going = failed-stands job (failure_turn now.stage) (now.row + 1) (now.failures + 1) (failure-stands job now.stage going.at)
step-stands job now (heard.Bad bytes) going = turned-stands job (bad_turn now.stage bytes) now.failures going.failures (bad-stands job now.stage bytes going.at)

pub begun-stands : (job : Job) → IsGoing job (begun job)
begun-stands (Fetch id digest size) = record { at = refl; row = lit< tt; failures = lit< tt }
begun-stands (Send to bytes) = record {
  at = cond_both (is_short (length bytes)) Putting Opening (λ stage. is_send_at (length bytes) stage ≡ true) (λ short. short)
      (λ long. lt-ltb 327680 (length bytes) (leb-false (length bytes) 327680 long));
  row = lit< tt;
  failures = lit< tt;
}

-- ---- a run
pub leads-stands : (job : Job) (from : Option Next) (exchanges : List Exchange) (to : Next) → IfNext job from → Leads job from exchanges to → NextStands job to
leads-stands job from [] to so leads = let Holds : Option Next → Type 0 = λ next. IfNext job next in subst Holds leads so
leads-stands job (Some (Goes now)) (exchange ∷ exchanges) to so leads =
    leads-stands job (step_of job now exchange.answered) exchanges to (step-stands job now exchange.answered so) leads.1
leads-stands job (Some (Ends outcome)) (exchange ∷ exchanges) to so leads = absurd leads
leads-stands job None (exchange ∷ exchanges) to so leads = absurd leads

-- what goes on stands where its job may
pub step-going : (job : Job) (now : Transfer) (answered : Answered) (next : Transfer) → IsGoing job now → step_of job now answered ≡ Some (Goes next) → IsGoing job next
step-going job now answered next going is =
    let Holds : Option Next → Type 0 = λ next. IfNext job next in subst Holds is (step-stands job now answered going)
