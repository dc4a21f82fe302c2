-- What an answer leads to.
use Rattle.std.specs.Prelude.{◌≡◌, ℕ, ◌+◌, ◌<◌, Bool, true, false, ◌||◌, cond, nat_eq, nat_le, List, length, Option, Some, None}
use Rattle.std.specs.Cmp.Lexicographic.{pointwise}
use Rattle.gd_item.specs.Records.{digest_record}
use Rattle.gd_item.specs.Replies.{is_accepted_reply}
use Rattle.gd_item.specs.Requests.{kind_of}
use Rattle.gd_item.specs.declared.digest.Digest.{Digest}
use Rattle.gd_item.specs.declared.fault.ErrorCode.{ErrorCode}
use Rattle.gd_item.specs.declared.reply.Reply.{Reply}
use Rattle.gd_item.specs.declared.reply.Reply.TheVariants as reply
use Rattle.gd_item.specs.declared.request.Request.{Request}
use Rattle.gd_item.specs.declared.request.RequestKind.{RequestKind}
use Rattle.od_job.specs.Asking.{end_of, first_stage, is_at, request_at}
use Rattle.od_job.specs.declared.job.Answered.{Answered}
use Rattle.od_job.specs.declared.job.Answered.TheVariants as answered
use Rattle.od_job.specs.declared.job.Job.{Job}
use Rattle.od_job.specs.declared.job.Job.TheVariants.{Fetch, Send}
use Rattle.od_job.specs.declared.job.Outcome.{Outcome}
use Rattle.od_job.specs.declared.job.Outcome.TheVariants.{Fetched, Changed, Accepted, Refused, Lost, Odd, Bad}
use Rattle.od_job.specs.declared.stage.Stage.{Stage}
use Rattle.od_job.specs.declared.stage.Stage.TheVariants.{AskContent, AskDownload, Putting, Opening, Opened, AskStatus, Finishing, AskTotal, Cancelling, Ended}
use Rattle.od_job.specs.declared.stage.Turn.{Turn}
use Rattle.od_job.specs.declared.stage.Turn.TheVariants.{To, End}
use Rattle.od_job.specs.declared.stage.Why.{Why}
use Rattle.od_job.specs.declared.stage.Why.TheVariants as why
use Rattle.od_job.specs.declared.transfer.Next.{Next}
use Rattle.od_job.specs.declared.transfer.Next.TheVariants.{Goes, Ends}
use Rattle.od_job.specs.declared.transfer.Step.{Step}
use Rattle.od_job.specs.declared.transfer.Step.TheVariants as step
use Rattle.od_job.specs.declared.transfer.Transfer.{Transfer}

-- ---- a fetch
abbrev pub is_digest : Digest → Digest → Bool
is_digest a b = pointwise nat_eq a.0 b.0

-- the bytes are what was to be fetched, or the file was changed meanwhile
abbrev pub fetched : Digest → List ℕ → Outcome
fetched digest bytes = cond (is_digest (digest_record bytes) digest) (Fetched bytes) Changed

abbrev pub content_turn : Reply → Option Turn
content_turn (reply.Found id version) = Some (To (AskDownload id version))
content_turn (reply.Refused status code) = Some (End (Refused code))
content_turn other = None

abbrev pub download_turn : Digest → Reply → Option Turn
download_turn digest (reply.Content bytes) = Some (End (fetched digest bytes))
download_turn digest (reply.Refused status code) = Some (End (Refused code))
download_turn digest other = None

-- ---- a file that is put at once
abbrev pub put_turn : Reply → Option Turn
put_turn (reply.Made item) = Some (End (Accepted item))
put_turn (reply.Is item) = Some (End (Accepted item))
put_turn (reply.Refused status code) = Some (End (Refused code))
put_turn other = None

-- ---- a file that is sent by a session
-- a session is ended where the job ends before its file is made
abbrev pub cancelled : ℕ → Why → Turn
cancelled session why = To (Cancelling session why)

-- a new session expects the first byte
abbrev pub open_turn : Reply → Option Turn
open_turn (reply.Session session expected) = Some (cond (nat_eq expected 0) (To (Opened session 0)) (cancelled session (why.Odd 0)))
open_turn (reply.Refused status code) = Some (End (Refused code))
open_turn other = None

-- the bytes before this one have come: the next fragment is sent, or after the last one the file is made
abbrev pub sent_to : ℕ → ℕ → ℕ → Turn
sent_to total session sent = cond (nat_eq sent total) (To (Finishing session)) (To (Opened session sent))

-- a fragment has come where the reply expects the byte after it. In a deferred session none makes the file
abbrev pub fragment_turn : ℕ → ℕ → ℕ → Reply → Option Turn
fragment_turn total session sent (reply.More expected) =
    Some (cond (nat_eq expected (end_of total sent)) (sent_to total session expected) (cancelled session (why.Odd sent)))
fragment_turn total session sent (reply.Made item) = Some (cancelled session (why.Odd sent))
fragment_turn total session sent (reply.Is item) = Some (cancelled session (why.Odd sent))
fragment_turn total session sent (reply.Refused status code) = Some (cancelled session (why.Refused code))
fragment_turn total session sent other = None

-- a session that is gone leaves open what became of its file
abbrev pub refused_status : ℕ → ℕ → ErrorCode → Turn
refused_status session status code = cond (nat_eq status 404) (End Lost) (cancelled session (why.Refused code))

-- after a fragment without a reply the session has come as far as before it, or it has the fragment
abbrev pub status_turn : ℕ → ℕ → ℕ → Reply → Option Turn
status_turn total session sent (reply.Status expected) =
    Some (
    cond (nat_eq expected sent) (To (Opened session sent))
    (cond (nat_eq expected (end_of total sent)) (sent_to total session expected) (cancelled session why.Lost)))
status_turn total session sent (reply.Refused status code) = Some (refused_status session status code)
status_turn total session sent other = None

abbrev pub finish_turn : ℕ → Reply → Option Turn
finish_turn session (reply.Made item) = Some (End (Accepted item))
finish_turn session (reply.Is item) = Some (End (Accepted item))
finish_turn session (reply.Refused status code) = Some (cancelled session (why.Refused code))
finish_turn session other = None

-- the file is not made yet where all bytes are there and the session lives
abbrev pub total_turn : ℕ → ℕ → Reply → Option Turn
total_turn total session (reply.Status expected) = Some (cond (nat_eq expected total) (To (Finishing session)) (cancelled session why.Lost))
total_turn total session (reply.Refused status code) = Some (refused_status session status code)
total_turn total session other = None

-- how a job ends whose session was cancelled, whatever came of that
abbrev pub outcome_of : Why → Outcome
outcome_of (why.Refused code) = Refused code
outcome_of why.Lost = Lost
outcome_of (why.Odd first) = Odd first

-- ---- replies
abbrev pub fetch_turn : Digest → Stage → Reply → Option Turn
fetch_turn digest AskContent reply = content_turn reply
fetch_turn digest (AskDownload found version) reply = download_turn digest reply
fetch_turn digest stage reply = None

abbrev pub send_turn : ℕ → Stage → Reply → Option Turn
send_turn total Putting reply = put_turn reply
send_turn total Opening reply = open_turn reply
send_turn total (Opened session sent) reply = fragment_turn total session sent reply
send_turn total (AskStatus session sent) reply = status_turn total session sent reply
send_turn total (Finishing session) reply = finish_turn session reply
send_turn total (AskTotal session) reply = total_turn total session reply
send_turn total (Cancelling session why) reply = Some (End (outcome_of why))
send_turn total stage reply = None

abbrev pub reply_turn : Job → Stage → Reply → Option Turn
reply_turn (Fetch id digest size) stage reply = fetch_turn digest stage reply
reply_turn (Send to bytes) stage reply = send_turn (length bytes) stage reply

-- ---- failures
-- what changes nothing on the drive is asked again, and after a fragment or a finish the session is asked how far it has come;
-- a put and an opening are not sent twice, and a cancel is not either
abbrev pub failure_turn : Stage → Option Turn
failure_turn AskContent = Some (To AskContent)
failure_turn (AskDownload found version) = Some (To (AskDownload found version))
failure_turn Putting = Some (End Lost)
failure_turn Opening = Some (End Lost)
failure_turn (Opened session sent) = Some (To (AskStatus session sent))
failure_turn (AskStatus session sent) = Some (To (AskStatus session sent))
failure_turn (Finishing session) = Some (To (AskTotal session))
failure_turn (AskTotal session) = Some (To (AskTotal session))
failure_turn (Cancelling session why) = Some (End (outcome_of why))
failure_turn Ended = None

-- the third failure in a row, and the sixteenth in all, is the last
abbrev pub is_last_failure : ℕ → ℕ → Bool
is_last_failure row failures = nat_le 3 row || nat_le 16 failures

-- ---- bytes that are no reply
abbrev pub bad_turn : Stage → List ℕ → Option Turn
bad_turn (Cancelling session why) bytes = Some (End (outcome_of why))
bad_turn Ended bytes = None
bad_turn stage bytes = Some (End (Bad bytes))

-- ---- one answer
-- the counts go on from a failure, and an answer ends the row
abbrev pub after_turn : ℕ → ℕ → Option Turn → Option Next
after_turn row failures None = None
after_turn row failures (Some (To stage)) = Some (Goes (record { stage = stage; row = row; failures = failures }))
after_turn row failures (Some (End outcome)) = Some (Ends outcome)

abbrev pub after_failure : ℕ → ℕ → Option Turn → Option Next
after_failure row failures None = None
after_failure row failures (Some (To stage)) =
    Some (cond (is_last_failure row failures) (Ends Lost) (Goes (record { stage = stage; row = row; failures = failures })))
after_failure row failures (Some (End outcome)) = Some (Ends outcome)

-- what an answer leads to; none comes that is no reply to what was asked
abbrev pub step_of : Job → Transfer → Answered → Option Next
step_of job now (answered.Got reply) = after_turn 0 now.failures (reply_turn job now.stage reply)
step_of job now answered.Failed = after_failure (now.row + 1) (now.failures + 1) (failure_turn now.stage)
step_of job now (answered.Bad bytes) = after_turn 0 now.failures (bad_turn now.stage bytes)

-- ---- a transfer
-- one that has just begun
abbrev pub begun : Job → Transfer
begun job = record { stage = first_stage job; row = 0; failures = 0 }

-- it stands where its job may, and has not failed too often
pub record IsGoing (job : Job) (now : Transfer) : Type 0 where
  pub at : is_at job now.stage ≡ true
  pub row : now.row < 3
  pub failures : now.failures < 16

-- a reply to a request is one of its kind, or any refusal
abbrev pub is_refusal : Reply → Bool
is_refusal (reply.Refused status code) = true
is_refusal other = false

abbrev pub may_reply : RequestKind → Reply → Bool
may_reply kind reply = is_accepted_reply kind reply || is_refusal reply

-- an answer may come: a reply is one to what was asked
abbrev pub may_answer_it : Option Request → Reply → Bool
may_answer_it None reply = false
may_answer_it (Some request) reply = may_reply (kind_of request) reply

abbrev pub may_hear : Job → Stage → Answered → Bool
may_hear job stage (answered.Got reply) = may_answer_it (request_at job stage) reply
may_hear job stage answered.Failed = true
may_hear job stage (answered.Bad bytes) = true

-- what a step says of the transfer after it
abbrev pub next_of : Transfer → Step → Next
next_of now step.More = Goes now
next_of now (step.Ended outcome) = Ends outcome

abbrev pub IsStanding : Job → Transfer → Step → Type 0
IsStanding job now step.More = IsGoing job now
IsStanding job now (step.Ended outcome) = now.stage ≡ Ended
