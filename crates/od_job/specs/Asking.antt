-- What a job asks. A file of at most 327,680 bytes is put at once. A longer one is sent by a deferred session, in fragments of
-- 655,360 bytes of which the last may be shorter, and then finished.
use Rattle.std.specs.Prelude.{ℕ, ◌+◌, ◌-◌, Bool, true, false, nat_le, nat_lt, cond, min, List, length, slice_range, Option, Some, None}
use Rattle.gd_names.specs.declared.conflict.Conflict.{Conflict}
use Rattle.gd_names.specs.declared.conflict.Conflict.TheVariants.{Fail, Replace}
use Rattle.gd_item.specs.declared.condition.Condition.{Condition}
use Rattle.gd_item.specs.declared.condition.Condition.TheVariants.{Free, Match}
use Rattle.gd_item.specs.declared.id.ItemId.{ItemId}
use Rattle.gd_item.specs.declared.request.Address.{Address}
use Rattle.gd_item.specs.declared.request.Address.TheVariants.{Id, Child}
use Rattle.gd_item.specs.declared.request.Request.{Request}
use Rattle.gd_item.specs.declared.request.Request.TheVariants.{Put, Content, Download, OpenSession, Fragment, SessionStatus, CancelSession, Finish}
use Rattle.od_job.specs.declared.job.Job.{Job}
use Rattle.od_job.specs.declared.job.Job.TheVariants.{Fetch, Send}
use Rattle.od_job.specs.declared.job.SendTo.{SendTo}
use Rattle.od_job.specs.declared.job.SendTo.TheVariants.{Over, Under}
use Rattle.od_job.specs.declared.stage.Stage.{Stage}
use Rattle.od_job.specs.declared.stage.Stage.TheVariants.{AskContent, AskDownload, Putting, Opening, Opened, AskStatus, Finishing, AskTotal, Cancelling}

-- a file is sent over an item under the condition that it has this tag, and to a name in a folder only where that is free
abbrev pub address_of : SendTo → Address
address_of (Over id tag) = Id id
address_of (Under id name) = Child id name

abbrev pub behaviour_of : SendTo → Conflict
behaviour_of (Over id tag) = Replace
behaviour_of (Under id name) = Fail

abbrev pub condition_of : SendTo → Condition
condition_of (Over id tag) = Match tag.0
condition_of (Under id name) = Free

-- whether so many bytes are put at once
abbrev pub is_short : ℕ → Bool
is_short total = nat_le total 327680

-- where the fragment ends that begins at a byte
abbrev pub end_of : ℕ → ℕ → ℕ
end_of total sent = min total (sent + 655360)

abbrev pub fragment_of : ℕ → ℕ → List ℕ → Request
fragment_of session sent bytes =
    let end = end_of (length bytes) sent in Fragment session sent (end - 1) (length bytes) (slice_range bytes sent end)

-- what is asked next
abbrev pub fetch_request : ItemId → Stage → Option Request
fetch_request id AskContent = Some (Content (Id id))
fetch_request id (AskDownload found version) = Some (Download found version)
fetch_request id stage = None

abbrev pub send_request : SendTo → List ℕ → Stage → Option Request
send_request to bytes Putting = Some (Put (address_of to) bytes (behaviour_of to) (condition_of to))
send_request to bytes Opening = Some (OpenSession (address_of to) None (behaviour_of to) (condition_of to) true)
send_request to bytes (Opened session sent) = Some (fragment_of session sent bytes)
send_request to bytes (AskStatus session sent) = Some (SessionStatus session)
send_request to bytes (Finishing session) = Some (Finish session)
send_request to bytes (AskTotal session) = Some (SessionStatus session)
send_request to bytes (Cancelling session why) = Some (CancelSession session)
send_request to bytes stage = None

abbrev pub request_at : Job → Stage → Option Request
request_at (Fetch id digest size) stage = fetch_request id stage
request_at (Send to bytes) stage = send_request to bytes stage

-- whether a job may stand somewhere and has not ended
abbrev pub is_fetch_at : Stage → Bool
is_fetch_at AskContent = true
is_fetch_at (AskDownload found version) = true
is_fetch_at stage = false

abbrev pub is_send_at : ℕ → Stage → Bool
is_send_at total Putting = is_short total
is_send_at total Opening = nat_lt 327680 total
is_send_at total (Opened session sent) = nat_lt sent total
is_send_at total (AskStatus session sent) = nat_lt sent total
is_send_at total (Finishing session) = true
is_send_at total (AskTotal session) = true
is_send_at total (Cancelling session why) = true
is_send_at total stage = false

abbrev pub is_at : Job → Stage → Bool
is_at (Fetch id digest size) stage = is_fetch_at stage
is_at (Send to bytes) stage = is_send_at (length bytes) stage

-- where a job begins
abbrev pub first_stage : Job → Stage
first_stage (Fetch id digest size) = AskContent
first_stage (Send to bytes) = cond (is_short (length bytes)) Putting Opening
