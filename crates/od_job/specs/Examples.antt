-- Requests of some short runs.
use Rattle.std.specs.Prelude.{ℕ, true, List, codes, None}
use Rattle.gd_names.specs.declared.conflict.Conflict.TheVariants.{Fail}
use Rattle.gd_item.specs.Ids.{item_id}
use Rattle.gd_item.specs.declared.condition.Condition.TheVariants.{Free}
use Rattle.gd_item.specs.declared.id.ItemId.{ItemId}
use Rattle.gd_item.specs.declared.reply.Reply.{Reply}
use Rattle.gd_item.specs.declared.request.Address.TheVariants.{Id, Child}
use Rattle.gd_item.specs.declared.request.Request.{Request}
use Rattle.gd_item.specs.declared.request.Request.TheVariants.{Put, Content, Download, OpenSession, SessionStatus, CancelSession, Finish}
use Rattle.od_job.specs.Asking.{fragment_of}
use Rattle.od_job.specs.Runs.{Exchange}
use Rattle.od_job.specs.declared.job.Answered.TheVariants.{Got, Failed, Bad}
use Rattle.od_job.specs.declared.job.Job.{Job}
use Rattle.od_job.specs.declared.job.Job.TheVariants.{Send}
use Rattle.od_job.specs.declared.job.SendTo.TheVariants.{Under}

-- what came of a request: a reply, nothing, or other bytes
abbrev pub got : Request → Reply → Exchange
got request reply = record { request = request; answered = Got reply }

abbrev pub failed : Request → Exchange
failed request = record { request = request; answered = Failed }

abbrev pub gave : Request → List ℕ → Exchange
gave request bytes = record { request = request; answered = Bad bytes }

-- a file with this number is fetched
abbrev pub file : ItemId
file = item_id 2

abbrev pub content_of : ItemId → Request
content_of id = Content (Id id)

abbrev pub download_of : ItemId → ℕ → Request
download_of id version = Download id version

-- a new file `s` of the root is sent; its session has the number 7
abbrev pub send_new : List ℕ → Job
send_new bytes = Send (Under (item_id 1) (codes "s")) bytes

abbrev pub put_new : List ℕ → Request
put_new bytes = Put (Child (item_id 1) (codes "s")) bytes Fail Free

abbrev pub open_new : Request
open_new = OpenSession (Child (item_id 1) (codes "s")) None Fail Free true

abbrev pub part_at : ℕ → List ℕ → Request
part_at first bytes = fragment_of 7 first bytes

abbrev pub status_asked : Request
status_asked = SessionStatus 7

abbrev pub finished : Request
finished = Finish 7

abbrev pub cancelled : Request
cancelled = CancelSession 7
