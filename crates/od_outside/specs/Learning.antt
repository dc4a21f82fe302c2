-- What is known after each kind of call, from what was known before it.
use Rattle.std.specs.Prelude.{◌≡◌, ◌⊎◌, ℕ, Bool, true, false, List, Option, Some, None, Result, Ok, Err}
use Rattle.gd_item.specs.Answers.{answer_served}
use Rattle.gd_item.specs.Steps.{state_of}
use Rattle.gd_item.specs.Written.{IsWritten}
use Rattle.gd_item.specs.declared.reply.Reply.{Reply}
use Rattle.gd_item.specs.declared.request.Request.{Request}
use Rattle.gd_item.specs.declared.request.Request.TheVariants.{Put, OpenSession, Delta}
use Rattle.gd_item.specs.declared.step.Step.{Step}
use Rattle.od_keeper.specs.Images.{applied}
use Rattle.od_keeper.specs.declared.fault.KeeperFault.{KeeperFault}
use Rattle.od_keeper.specs.declared.image.Change.{Change}
use Rattle.od_keeper.specs.declared.image.Image.{Image}
use Rattle.od_remote.specs.declared.again.ServeFault.{ServeFault}
use Rattle.od_remote.specs.declared.again.ServeFault.TheVariants as serve
use Rattle.od_remote.specs.declared.remote.AskFault.{AskFault}
use Rattle.od_remote.specs.declared.remote.AskFault.TheVariants as ask
use Rattle.od_run.specs.Acting.{MayRequest}
use Rattle.od_run.specs.Knowing.{Known, feed_after, feed_asked, feed_kept, here_after, nothing_there, there_after}
use Rattle.od_tree.specs.Local.{Local, after_op, local_of, op_refusal}
use Rattle.od_tree.specs.declared.fault.TreeFault.{TreeFault}
use Rattle.od_tree.specs.declared.fault.TreeFault.TheVariants.{Taken, Missing, NotEmpty, Failed, Memory}
use Rattle.od_tree.specs.declared.step.LocalStep.{LocalStep}
use Rattle.od_tree.specs.declared.step.TreeOp.{TreeOp}

-- ---- requests
-- a request has a written form, and may be sent
pub record MayBeAsked (request : Request) (k : Known) : Type 0 where
  pub written : IsWritten request
  pub may : MayRequest k request

-- what is known after a request to a drive with this log
abbrev pub after_asking : List Step → ℕ → Request → Bool → Bool → Known → Known
after_asking drive size request served heard k = record k { feed = feed_after drive size k.feed request served heard; there = there_after drive k request served heard }

-- the drive answered, and it was heard
pub record IsAnswered (request : Request) (reply : Reply) (k next : Known) : Type 0 where
  pub drive : List Step
  pub size : ℕ
  pub served : Bool
  pub next_is : next ≡ after_asking drive size request served true k
  pub reply_is : reply ≡ answer_served served (state_of drive) size request

-- the request came to the drive, and no more is known of it
pub record IsUnanswered (request : Request) (heard : Bool) (k next : Known) : Type 0 where
  pub drive : List Step
  pub size : ℕ
  pub served : Bool
  pub next_is : next ≡ after_asking drive size request served heard k

abbrev pub AskedBy : Request → Result Reply AskFault → Known → Known → Type 0
AskedBy request (Ok reply) k next = IsAnswered request reply k next
AskedBy request (Err ask.Failed) k next = (next ≡ k) ⊎ IsUnanswered request false k next
AskedBy request (Err (ask.Bad bytes)) k next = ⊥
AskedBy request (Err ask.Memory) k next = (next ≡ k) ⊎ ((heard : Bool) × IsUnanswered request heard k next)

-- what is known after sends that were not heard, or not served
abbrev pub lost_known : Request → Known → Known
lost_known (Delta token) k = record k { feed = feed_asked k.feed; there = nothing_there }
lost_known request k = k

abbrev pub IsTried : Request → Known → Known → Type 0
IsTried request k mid = (mid ≡ k) ⊎ (mid ≡ lost_known request k)

-- a request that may be sent again: not one by which a file is put
abbrev pub is_steady : Request → Bool
is_steady (Put at bytes behaviour condition) = false
is_steady (OpenSession at name behaviour condition defer) = false
is_steady request = true

pub record TriedThen (request : Request) (result : Result Reply AskFault) (k next : Known) : Type 0 where
  pub mid : Known
  pub tried : IsTried request k mid
  pub asked : AskedBy request result mid next

abbrev pub ServedThen : Request → Result Reply ServeFault → Known → Known → Type 0
ServedThen request (Ok reply) k next = TriedThen request (Ok reply) k next
ServedThen request (Err serve.Failed) k next = IsTried request k next
ServedThen request (Err serve.Unserved) k next = IsTried request k next
ServedThen request (Err (serve.Bad bytes)) k next = ⊥
ServedThen request (Err serve.Memory) k next = TriedThen request (Err ask.Memory) k next

-- ---- the folder
abbrev pub after_working : List LocalStep → TreeOp → Known → Known
after_working local call k = record k { here = here_after local (local_of local) (after_op (local_of local) call) k.here call }

-- it was done in a folder with this log
pub record IsWorkDone (call : TreeOp) (k next : Known) (Holds : Local → Type 0) : Type 0 where
  pub local : List LocalStep
  pub allowed : op_refusal (local_of local) call ≡ None
  pub next_is : next ≡ after_working local call k
  pub holds : Holds (local_of local)

-- it was refused in one
pub record IsWorkRefused (call : TreeOp) (fault : TreeFault) (k next : Known) : Type 0 where
  pub local : List LocalStep
  pub refused : op_refusal (local_of local) call ≡ Some fault
  pub same : next ≡ k

abbrev pub WorkedBy : {T : Type 0} → TreeOp → (Local → T → Type 0) → Result T TreeFault → Known → Known → Type 0
WorkedBy {T} call Value (Ok x) k next = IsWorkDone call k next (λ local. Value local x)
WorkedBy {T} call Value (Err Taken) k next = IsWorkRefused call Taken k next
WorkedBy {T} call Value (Err Missing) k next = IsWorkRefused call Missing k next
WorkedBy {T} call Value (Err NotEmpty) k next = IsWorkRefused call NotEmpty k next
WorkedBy {T} call Value (Err Failed) k next = (next ≡ k) ⊎ IsWorkDone call k next (λ local. Unit {0})
WorkedBy {T} call Value (Err Memory) k next = next ≡ k

-- ---- the keeper
abbrev pub LoadedBy : Result Image KeeperFault → Known → Known → Type 0
LoadedBy (Ok image) k next = (next ≡ k) × (image ≡ k.image)
LoadedBy (Err fault) k next = next ≡ k

abbrev pub after_keeping : Image → Known → Known
after_keeping image k = record k { image = image; feed = feed_kept image k.feed }

abbrev pub CommittedBy : Change → Result (Unit {0}) KeeperFault → Known → Known → Type 0
CommittedBy change (Ok done) k next = next ≡ after_keeping (applied change k.image) k
CommittedBy change (Err fault) k next = next ≡ k
