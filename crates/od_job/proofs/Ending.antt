-- Each answer leaves fewer requests to come.
use Rattle.std.proofs.Common.{◌≡◌, ℕ, ◌+◌, ◌-◌, ◌*◌, ◌/◌, ◌<◌, ◌≤◌, Bool, true, false, cond, nat_eq, List, [], ◌∷◌, length, Option, Some, None, refl, ap, sym, subst, ◌∙◌, lit<, lit≤, arith}
use Rattle.std.proofs.lemmas.Bool.{cond_both, eqb-true, eqb-false, ltb-true}
use Rattle.std.proofs.lemmas.Nat.{le-div}
use Rattle.std.proofs.Math.Nat.{add-div_right}
use Rattle.gd_item.specs.declared.digest.Digest.{Digest}
use Rattle.gd_item.specs.declared.id.ItemId.{ItemId}
use Rattle.gd_item.specs.declared.reply.Reply.{Reply}
use Rattle.gd_item.specs.declared.reply.Reply.TheVariants as reply
use Rattle.od_job.proofs.Standing.{IfNext, begun-stands, step-stands}
use Rattle.od_job.specs.Asking.{end_of, is_at, is_send_at, is_short}
use Rattle.od_job.specs.Runs.{Exchange, Leads, RunsTo, fragments_of, most_requests}
use Rattle.od_job.specs.Turns.{IsGoing, after_failure, after_turn, bad_turn, begun, content_turn, download_turn, failure_turn, fetch_turn, finish_turn, fragment_turn, is_last_failure, open_turn, put_turn, reply_turn, send_turn, sent_to, status_turn, step_of, total_turn}
use Rattle.od_job.specs.declared.job.Answered.{Answered}
use Rattle.od_job.specs.declared.job.Answered.TheVariants as heard
use Rattle.od_job.specs.declared.job.Job.{Job}
use Rattle.od_job.specs.declared.job.Job.TheVariants.{Fetch, Send}
use Rattle.od_job.specs.declared.job.Outcome.TheVariants.{Lost}
use Rattle.od_job.specs.declared.stage.Stage.{Stage}
use Rattle.od_job.specs.declared.stage.Stage.TheVariants.{AskContent, AskDownload, Putting, Opening, Opened, AskStatus, Finishing, AskTotal, Cancelling, Ended}
use Rattle.od_job.specs.declared.stage.Turn.{Turn}
use Rattle.od_job.specs.declared.stage.Turn.TheVariants.{To, End}
use Rattle.od_job.specs.declared.stage.Why.TheVariants as why
use Rattle.od_job.specs.declared.transfer.Next.{Next}
use Rattle.od_job.specs.declared.transfer.Next.TheVariants.{Goes, Ends}
use Rattle.od_job.specs.declared.transfer.Transfer.{Transfer}

-- ---- fragments
some-fragment : (bytes : ℕ) → 0 < bytes → 1 ≤ fragments_of bytes
some-fragment bytes some = le-div 1 (bytes + 655359) 655360 (lit< tt) (omega (arith, some))

one-fragment : (more rest : ℕ) → more ≡ rest + 655360 → fragments_of more ≡ fragments_of rest + 1
one-fragment more rest is =
    let same : more + 655359 ≡ (rest + 655359) + 655360 = omega (arith, is) in
    ap (λ n. n / 655360) same ∙ add-div_right (rest + 655359) {k = 655360} (lit< tt)

-- ---- how many requests are left at most
abbrev fetch_left : Stage → ℕ → ℕ
fetch_left AskContent row = 6 - row
fetch_left (AskDownload found version) row = 3 - row
fetch_left stage row = 0

-- each failure brings one request that asks how far the session has come
abbrev send_left : ℕ → Stage → ℕ → ℕ
send_left total Putting failures = 1
send_left total Opening failures = (32 - 2 * failures) + fragments_of total + 3
send_left total (Opened session sent) failures = (32 - 2 * failures) + fragments_of (total - sent) + 2
send_left total (AskStatus session sent) failures = (32 - 2 * failures) + fragments_of (total - sent) + 3
send_left total (Finishing session) failures = (32 - 2 * failures) + 2
send_left total (AskTotal session) failures = (32 - 2 * failures) + 3
send_left total (Cancelling session ended) failures = 1
send_left total stage failures = 0

abbrev left_at : Job → Stage → ℕ → ℕ → ℕ
left_at (Fetch id digest size) stage row failures = fetch_left stage row
left_at (Send to bytes) stage row failures = send_left (length bytes) stage failures

abbrev turn_left : Job → ℕ → ℕ → Turn → ℕ
turn_left job row failures (To stage) = left_at job stage row failures
turn_left job row failures (End outcome) = 0

abbrev opt_turn_left : Job → ℕ → ℕ → Option Turn → ℕ
opt_turn_left job row failures None = 0
opt_turn_left job row failures (Some turn) = turn_left job row failures turn

abbrev next_left : Job → Option Next → ℕ
next_left job None = 0
next_left job (Some (Goes now)) = left_at job now.stage now.row now.failures
next_left job (Some (Ends outcome)) = 0

-- ---- a fetch
content-less : (id : ItemId) (digest : Digest) (size : ℕ) (said : Reply) (row failures : ℕ) → row < 3 → opt_turn_left (Fetch id digest size) 0 failures (content_turn said) < 6 - row
content-less id digest size (reply.Found found version) row failures few = omega (arith, few)
content-less id digest size (reply.Refused status code) row failures few = omega (arith, few)
content-less id digest size said row failures few = omega (arith, few)

download-less : (id : ItemId) (digest : Digest) (size : ℕ) (said : Reply) (row failures : ℕ) → row < 3 → opt_turn_left (Fetch id digest size) 0 failures (download_turn digest said) < 3 - row
download-less id digest size (reply.Content bytes) row failures few = omega (arith, few)
download-less id digest size (reply.Refused status code) row failures few = omega (arith, few)
download-less id digest size said row failures few = omega (arith, few)

fetch-less : (id : ItemId) (digest : Digest) (size : ℕ) (stage : Stage) (said : Reply) (row failures : ℕ) → row < 3 → is_at (Fetch id digest size) stage ≡ true
    → opt_turn_left (Fetch id digest size) 0 failures (fetch_turn digest stage said) < fetch_left stage row
fetch-less id digest size AskContent said row failures few at = content-less id digest size said row failures few
fetch-less id digest size (AskDownload found version) said row failures few at = download-less id digest size said row failures few
fetch-less id digest size stage said row failures few at = absurd (cc at)

-- ---- a send
abbrev send_turn_left : ℕ → ℕ → Turn → ℕ
send_turn_left total failures (To stage) = send_left total stage failures
send_turn_left total failures (End outcome) = 0

abbrev opt_send_left : ℕ → ℕ → Option Turn → ℕ
opt_send_left total failures None = 0
opt_send_left total failures (Some turn) = send_turn_left total failures turn

put-less : (total failures : ℕ) (said : Reply) → opt_send_left total failures (put_turn said) < 1
put-less total failures (reply.Made item) = lit< tt
put-less total failures (reply.Is item) = lit< tt
put-less total failures (reply.Refused status code) = lit< tt
put-less total failures said = lit< tt

open-less : (total failures : ℕ) (said : Reply) → opt_send_left total failures (open_turn said) < (32 - 2 * failures) + fragments_of total + 3
open-less total failures (reply.Session session expected) =
    cond_both (nat_eq expected 0) (To (Opened session 0)) (To (Cancelling session (why.Odd 0))) (λ turn. send_turn_left total failures turn < (32 - 2 * failures) + fragments_of total + 3)
    (λ first. let all : total - 0 ≡ total = omega arith in let same : fragments_of (total - 0) ≡ fragments_of total = ap fragments_of all in
    let goal : (32 - 2 * failures) + fragments_of (total - 0) + 2 < (32 - 2 * failures) + fragments_of total + 3 = rw same (omega arith) in goal)
    (λ other. let goal : 1 < (32 - 2 * failures) + fragments_of total + 3 = omega arith in goal)
open-less total failures (reply.Refused status code) = omega arith
open-less total failures said = omega arith

sent-less : (total session sent failures : ℕ) → sent < total → send_turn_left total failures (sent_to total session (end_of total sent)) < (32 - 2 * failures) + fragments_of (total - sent) + 2
sent-less total session sent failures below =
    cond_both (nat_eq (end_of total sent) total) (To (Finishing session)) (To (Opened session (end_of total sent)))
    (λ turn. send_turn_left total failures turn < (32 - 2 * failures) + fragments_of (total - sent) + 2)
    (λ all. let some : 1 ≤ fragments_of (total - sent) = some-fragment (total - sent) (omega (arith, below)) in
    let goal : (32 - 2 * failures) + 2 < (32 - 2 * failures) + fragments_of (total - sent) + 2 = omega (arith, some) in goal)
    (λ other. let not_all : end_of total sent ≡ total → ⊥ = eqb-false (end_of total sent) total other in
    let one : fragments_of (total - sent) ≡ fragments_of (total - end_of total sent) + 1 = one-fragment (total - sent) (total - end_of total sent) (omega (arith, not_all, below)) in
    let goal : (32 - 2 * failures) + fragments_of (total - end_of total sent) + 2 < (32 - 2 * failures) + fragments_of (total - sent) + 2 = omega (arith, one) in goal)

came-less : (total session sent expected failures : ℕ) → sent < total → nat_eq expected (end_of total sent) ≡ true
    → send_turn_left total failures (sent_to total session expected) < (32 - 2 * failures) + fragments_of (total - sent) + 2
came-less total session sent expected failures below came =
    let is : expected ≡ end_of total sent = eqb-true expected (end_of total sent) came in
    let P : ℕ → Type 0 = λ n. send_turn_left total failures (sent_to total session n) < (32 - 2 * failures) + fragments_of (total - sent) + 2 in
    subst P (sym is) (sent-less total session sent failures below)

fragment-less : (total session sent failures : ℕ) (said : Reply) → sent < total
    → opt_send_left total failures (fragment_turn total session sent said) < (32 - 2 * failures) + fragments_of (total - sent) + 2
fragment-less total session sent failures (reply.More expected) below =
    cond_both (nat_eq expected (end_of total sent)) (sent_to total session expected) (To (Cancelling session (why.Odd sent)))
    (λ turn. send_turn_left total failures turn < (32 - 2 * failures) + fragments_of (total - sent) + 2) (λ came. came-less total session sent expected failures below came)
    (λ other. let goal : 1 < (32 - 2 * failures) + fragments_of (total - sent) + 2 = omega arith in goal)
fragment-less total session sent failures (reply.Made item) below = omega arith
fragment-less total session sent failures (reply.Is item) below = omega arith
fragment-less total session sent failures (reply.Refused status code) below = omega arith
fragment-less total session sent failures said below = omega arith

status-less : (total session sent failures : ℕ) (said : Reply) → sent < total
    → opt_send_left total failures (status_turn total session sent said) < (32 - 2 * failures) + fragments_of (total - sent) + 3
status-less total session sent failures (reply.Status expected) below =
    cond_both (nat_eq expected sent) (To (Opened session sent)) (cond (nat_eq expected (end_of total sent)) (sent_to total session expected) (To (Cancelling session why.Lost)))
    (λ turn. send_turn_left total failures turn < (32 - 2 * failures) + fragments_of (total - sent) + 3)
    (λ before. let goal : (32 - 2 * failures) + fragments_of (total - sent) + 2 < (32 - 2 * failures) + fragments_of (total - sent) + 3 = omega arith in goal)
    (λ not_before. cond_both (nat_eq expected (end_of total sent)) (sent_to total session expected) (To (Cancelling session why.Lost))
    (λ turn. send_turn_left total failures turn < (32 - 2 * failures) + fragments_of (total - sent) + 3)
    (λ came. let less = came-less total session sent expected failures below came in omega (arith, less))
    (λ other. let goal : 1 < (32 - 2 * failures) + fragments_of (total - sent) + 3 = omega arith in goal))
status-less total session sent failures (reply.Refused status code) below =
    cond_both (nat_eq status 404) (End Lost) (To (Cancelling session (why.Refused code))) (λ turn. send_turn_left total failures turn < (32 - 2 * failures) + fragments_of (total - sent) + 3)
    (λ gone. let goal : 0 < (32 - 2 * failures) + fragments_of (total - sent) + 3 = omega arith in goal)
    (λ other. let goal : 1 < (32 - 2 * failures) + fragments_of (total - sent) + 3 = omega arith in goal)
status-less total session sent failures said below = omega arith

finish-less : (total session failures : ℕ) (said : Reply) → opt_send_left total failures (finish_turn session said) < (32 - 2 * failures) + 2
finish-less total session failures (reply.Made item) = omega arith
finish-less total session failures (reply.Is item) = omega arith
finish-less total session failures (reply.Refused status code) = omega arith
finish-less total session failures said = omega arith

total-less : (total session failures : ℕ) (said : Reply) → opt_send_left total failures (total_turn total session said) < (32 - 2 * failures) + 3
total-less total session failures (reply.Status expected) =
    cond_both (nat_eq expected total) (To (Finishing session)) (To (Cancelling session why.Lost)) (λ turn. send_turn_left total failures turn < (32 - 2 * failures) + 3)
    (λ all. let goal : (32 - 2 * failures) + 2 < (32 - 2 * failures) + 3 = omega arith in goal) (λ other. let goal : 1 < (32 - 2 * failures) + 3 = omega arith in goal)
total-less total session failures (reply.Refused status code) =
    cond_both (nat_eq status 404) (End Lost) (To (Cancelling session (why.Refused code))) (λ turn. send_turn_left total failures turn < (32 - 2 * failures) + 3)
    (λ gone. let goal : 0 < (32 - 2 * failures) + 3 = omega arith in goal) (λ other. let goal : 1 < (32 - 2 * failures) + 3 = omega arith in goal)
total-less total session failures said = omega arith

send-less : (total : ℕ) (stage : Stage) (said : Reply) (failures : ℕ) → is_send_at total stage ≡ true → opt_send_left total failures (send_turn total stage said) < send_left total stage failures
send-less total Putting said failures at = put-less total failures said
send-less total Opening said failures at = open-less total failures said
send-less total (Opened session sent) said failures at = fragment-less total session sent failures said (ltb-true sent total at)
send-less total (AskStatus session sent) said failures at = status-less total session sent failures said (ltb-true sent total at)
send-less total (Finishing session) said failures at = finish-less total session failures said
send-less total (AskTotal session) said failures at = total-less total session failures said
send-less total (Cancelling session ended) said failures at = lit< tt
send-less total stage said failures at = absurd (cc at)

reply-less : (job : Job) (stage : Stage) (said : Reply) (row failures : ℕ) → is_at job stage ≡ true → row < 3 → opt_turn_left job 0 failures (reply_turn job stage said) < left_at job stage row failures
reply-less (Fetch id digest size) stage said row failures at few = fetch-less id digest size stage said row failures few at
reply-less (Send to bytes) stage said row failures at few = by (send_turn (length bytes) stage said) (send-less (length bytes) stage said failures at)
  where
    by : (turn : Option Turn) → opt_send_left (length bytes) failures turn < send_left (length bytes) stage failures
        → opt_turn_left (Send to bytes) 0 failures turn < send_left (length bytes) stage failures
    by None less = less
    by (Some (To next)) less = less
    by (Some (End outcome)) less = less

-- ---- failures and bytes that are no reply
pub some-left : (job : Job) (stage : Stage) (row failures : ℕ) → is_at job stage ≡ true → row < 3 → 0 < left_at job stage row failures
some-left (Fetch id digest size) AskContent row failures at few = omega (arith, few)
some-left (Fetch id digest size) (AskDownload found version) row failures at few = omega (arith, few)
some-left (Fetch id digest size) stage row failures at few = absurd (cc at)
some-left (Send to bytes) Putting row failures at few = lit< tt
some-left (Send to bytes) Opening row failures at few = omega arith
some-left (Send to bytes) (Opened session sent) row failures at few = omega arith
some-left (Send to bytes) (AskStatus session sent) row failures at few = omega arith
some-left (Send to bytes) (Finishing session) row failures at few = omega arith
some-left (Send to bytes) (AskTotal session) row failures at few = omega arith
some-left (Send to bytes) (Cancelling session ended) row failures at few = lit< tt
some-left (Send to bytes) stage row failures at few = absurd (cc at)

failure-less : (job : Job) (stage : Stage) (row failures : ℕ) → is_at job stage ≡ true → row < 3 → failures < 16
    → opt_turn_left job (row + 1) (failures + 1) (failure_turn stage) < left_at job stage row failures
failure-less (Fetch id digest size) AskContent row failures at few rare = omega (arith, few)
failure-less (Fetch id digest size) (AskDownload found version) row failures at few rare = omega (arith, few)
failure-less (Fetch id digest size) stage row failures at few rare = absurd (cc at)
failure-less (Send to bytes) Putting row failures at few rare = lit< tt
failure-less (Send to bytes) Opening row failures at few rare = omega arith
failure-less (Send to bytes) (Opened session sent) row failures at few rare = omega (arith, rare)
failure-less (Send to bytes) (AskStatus session sent) row failures at few rare = omega (arith, rare)
failure-less (Send to bytes) (Finishing session) row failures at few rare = omega (arith, rare)
failure-less (Send to bytes) (AskTotal session) row failures at few rare = omega (arith, rare)
failure-less (Send to bytes) (Cancelling session ended) row failures at few rare = lit< tt
failure-less (Send to bytes) stage row failures at few rare = absurd (cc at)

bad-less : (job : Job) (stage : Stage) (bytes : List ℕ) (row failures : ℕ) → is_at job stage ≡ true → row < 3 → opt_turn_left job 0 failures (bad_turn stage bytes) < left_at job stage row failures
bad-less job (Cancelling session ended) bytes row failures at few = some-left job (Cancelling session ended) row failures at few
bad-less job Ended bytes row failures at few = some-left job Ended row failures at few
bad-less job stage bytes row failures at few = some-left job stage row failures at few

-- ---- a step
turned-left : (job : Job) (turn : Option Turn) (row failures : ℕ) → next_left job (after_turn row failures turn) ≡ opt_turn_left job row failures turn
turned-left job None row failures = refl
turned-left job (Some (To stage)) row failures = refl
turned-left job (Some (End outcome)) row failures = refl

failed-left : (job : Job) (turn : Option Turn) (row failures most : ℕ) → opt_turn_left job row failures turn < most → next_left job (after_failure row failures turn) < most
failed-left job None row failures most less = less
failed-left job (Some (To stage)) row failures most less =
    cond_both (is_last_failure row failures) (Ends Lost) (Goes (record { stage = stage; row = row; failures = failures })) (λ next. next_left job (Some next) < most)
    (λ last. omega (arith, less)) (λ more. less)
failed-left job (Some (End outcome)) row failures most less = less

step-less : (job : Job) (now : Transfer) (answered : Answered) → IsGoing job now → next_left job (step_of job now answered) < left_at job now.stage now.row now.failures
step-less job now (heard.Got said) going =
    rw (turned-left job (reply_turn job now.stage said) 0 now.failures) (reply-less job now.stage said now.row now.failures going.at going.row)
step-less job now heard.Failed going =
    failed-left job (failure_turn now.stage) (now.row + 1) (now.failures + 1) (left_at job now.stage now.row now.failures)
    (failure-less job now.stage now.row now.failures going.at going.row going.failures)
step-less job now (heard.Bad bytes) going =
    rw (turned-left job (bad_turn now.stage bytes) 0 now.failures) (bad-less job now.stage bytes now.row now.failures going.at going.row)

-- ---- a run
leads-less : (job : Job) (from : Option Next) (exchanges : List Exchange) (to : Next) → IfNext job from → Leads job from exchanges to → length exchanges ≤ next_left job from
leads-less job from [] to so leads = omega arith
leads-less job (Some (Goes now)) (exchange ∷ exchanges) to so leads =
    let rest : length exchanges ≤ next_left job (step_of job now exchange.answered) =
    leads-less job (step_of job now exchange.answered) exchanges to (step-stands job now exchange.answered so) leads.1 in
    let less : next_left job (step_of job now exchange.answered) < left_at job now.stage now.row now.failures = step-less job now exchange.answered so in
    omega (arith, rest, less)
leads-less job (Some (Ends outcome)) (exchange ∷ exchanges) to so leads = absurd leads
leads-less job None (exchange ∷ exchanges) to so leads = absurd leads

begun-left : (job : Job) → left_at job (begun job).stage 0 0 ≤ most_requests job
begun-left (Fetch id digest size) = lit≤ tt
begun-left (Send to bytes) = by (is_short (length bytes))
  where
    by : (short : Bool) → send_left (length bytes) (cond short Putting Opening) 0 ≤ cond short 1 (fragments_of (length bytes) + 35)
    by true = lit≤ tt
    by false = omega arith

pub run-less : (job : Job) (exchanges : List Exchange) (to : Next) → RunsTo job exchanges to → length exchanges ≤ most_requests job
run-less job exchanges to runs =
    let left : length exchanges ≤ left_at job (begun job).stage 0 0 = leads-less job (Some (Goes (begun job))) exchanges to (begun-stands job) runs in
    let most : left_at job (begun job).stage 0 0 ≤ most_requests job = begun-left job in
    omega (arith, left, most)
