-- For which log a drive stands, and what a request does to it.
use Rattle.std.specs.Prelude.{◌≡◌, ℕ, ◌≤◌, ◌⊎◌, Bool, true, false, List, [], ◌∷◌, ◌++◌, length}
use Rattle.gd_item.specs.Answers.{answer, unserved}
use Rattle.gd_item.specs.Sessions.{State}
use Rattle.gd_item.specs.Steps.{state_of}
use Rattle.gd_item.specs.declared.reply.Reply.{Reply}
use Rattle.gd_item.specs.declared.reply.Reply.TheVariants as reply
use Rattle.gd_item.specs.declared.request.Request.{Request}
use Rattle.gd_item.specs.declared.request.Request.TheVariants as request
use Rattle.gd_item.specs.declared.step.Step.{Step}
use Rattle.gd_item.specs.declared.step.Step.TheVariants.{Ask}
use Rattle.gd_item.specs.declared.step.Who.{Who}
use Rattle.gd_store.specs.Stands as store
use Rattle.gd_store.specs.Stands.{StoreValue}
use Rattle.gd_upload.specs.Stands as upload
use Rattle.gd_upload.specs.Stands.{SessionsValue}

-- what a drive has: its store, its upload sessions, how many records a list or a page has at most, and whether its
-- replies give neither digests nor content tags
pub record DriveValue : Type 0 where
  pub store : StoreValue
  pub sessions : SessionsValue
  pub size : ℕ
  pub plain : Bool

-- how many records a list or a page may have at most
pub record IsPageSize (size : ℕ) : Type 0 where
  pub some : 1 ≤ size
  pub few : size ≤ 200

-- it has what a drive has come to
pub record Has (drive : DriveValue) (state : State) : Type 0 where
  pub size : IsPageSize drive.size
  pub store : store.Stands drive.store state.effects state.epoch state.floor
  pub sessions : upload.Stands drive.sessions state.sessions (length state.openers)
  pub plain : drive.plain ≡ state.plain

-- it has what a drive has come to whose log this is
abbrev pub Stands : DriveValue → List Step → Type 0
Stands drive log = Has drive (state_of log)

-- the drive gives this reply, or that memory is wanting, which changes nothing; it then stands for the log with this
-- step, whoever asked and whether the reply is heard
pub record Serves (before after : DriveValue) (log : List Step) (request : Request) (reply expected : Reply) : Type 0 where
  pub answered :
      ((reply ≡ expected) × ((who : Who) (heard : Bool) → Stands after (log ++ Ask who request true heard ∷ [])))
      ⊎ ((reply ≡ unserved) × (after ≡ before) × ((who : Who) (heard : Bool) → Stands after (log ++ Ask who request false heard ∷ [])))

-- the reply is the answer of a drive with this log
abbrev pub Handles : DriveValue → DriveValue → List Step → Request → Reply → Type 0
Handles before after log request reply = Serves before after log request reply (answer (state_of log) before.size request)

-- whether a request is answered without memory
abbrev pub takes_no_memory : Request → Bool
takes_no_memory (request.Content at) = true
takes_no_memory (request.SessionStatus session) = true
takes_no_memory (request.CancelSession session) = true
takes_no_memory request = false

-- whether a reply is a refusal
abbrev pub is_refusal : Reply → Bool
is_refusal (reply.Refused status code) = true
is_refusal (reply.Gone resync) = true
is_refusal reply = false
