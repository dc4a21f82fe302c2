-- The world of a replay: a drive with its log, as other clients and this one ask it.
use Rattle.std.specs.Prelude.{◌≡◌, ℕ, ◌+◌, ◌-◌, ◌^◌, min, Bool, true, false, nat_eq, List, [], ◌∷◌, ◌++◌}
use Rattle.gd_item.specs.Answers.{answer}
use Rattle.gd_item.specs.Inventory.{Effect}
use Rattle.gd_item.specs.Sessions.{State}
use Rattle.gd_item.specs.Steps.{state_of}
use Rattle.gd_item.specs.declared.reply.Reply.{Reply}
use Rattle.gd_item.specs.declared.reply.Reply.TheVariants as reply
use Rattle.gd_item.specs.declared.request.Request.{Request}
use Rattle.gd_item.specs.declared.request.Request.TheVariants.{OpenSession, Fragment, SessionStatus, CancelSession, Finish, Delta}
use Rattle.gd_item.specs.declared.step.DriveEvent.{DriveEvent}
use Rattle.gd_item.specs.declared.step.DriveEvent.TheVariants as event
use Rattle.gd_item.specs.declared.step.Step.{Step}
use Rattle.gd_item.specs.declared.step.Step.TheVariants.{Ask}
use Rattle.gd_item.specs.declared.step.Who.TheVariants.{Own, Other}
use Rattle.gd_api.specs.Drives.{DriveValue, Stands}
use Rattle.gd_store.specs.Stands.{StoreValue, Stands as StandsFor}
use Rattle.od_transfer.specs.Asking.{IsPageSize, may_answer}

-- how many items a list of a new drive has at most
abbrev pub page_size : ℕ
page_size = 200

-- the drive's log, how many items a list of it has at most, how often this client had no reply, how often it had one, and how
-- often it had none since
pub record WorldValue : Type 0 where
  pub log : List Step
  pub size : ℕ
  pub faults : ℕ
  pub answers : ℕ
  pub in_row : ℕ

-- the drive stands for the log, and is not plain
pub record IsDriveOf (drive : DriveValue) (log : List Step) : Type 0 where
  pub stands : Stands drive log
  pub plain : (state_of log).plain ≡ false

-- a store stands for these effects, of some epoch and floor
abbrev pub Holds : StoreValue → List Effect → Type 0
Holds store effects = (epoch floor : ℕ) × StandsFor store effects epoch floor

-- whether a request is one about an upload session
abbrev pub is_about_session : Request → Bool
is_about_session (OpenSession at name behaviour condition defer) = true
is_about_session (Fragment session first last total bytes) = true
is_about_session (SessionStatus session) = true
is_about_session (CancelSession session) = true
is_about_session (Finish session) = true
is_about_session request = false

-- whether a drive becomes plain
abbrev pub is_plain_event : DriveEvent → Bool
is_plain_event event.Plain = true
is_plain_event event = false

-- whether a request is one for changes
abbrev pub is_delta : Request → Bool
is_delta (Delta token) = true
is_delta request = false

-- the log with another client's request
abbrev pub with_other : List Step → Request → List Step
with_other log request = log ++ Ask Other request true true ∷ []

-- whether a reply says that memory is wanting
abbrev pub is_want_of_memory : Reply → Bool
is_want_of_memory (reply.Refused status code) = nat_eq status 503
is_want_of_memory reply = false

-- a reply to this client: what the drive answers, which is not plain, with pages of some size
pub record IsOwnReply (state : State) (request : Request) (reply : Reply) : Type 0 where
  pub size : ℕ
  pub fits : IsPageSize request size
  pub plain : state.plain ≡ false
  pub reply_is : reply ≡ answer state size request
  pub kind : may_answer request reply ≡ true

-- the world after a request of this client with a reply, and after one without
abbrev pub heard : WorldValue → Request → WorldValue
heard world request = record {
  log = world.log ++ Ask Own request true true ∷ [];
  size = world.size;
  faults = world.faults;
  answers = min (world.answers + 1) (2 ^ 64 - 1);
  in_row = 0;
}

abbrev pub unheard : WorldValue → WorldValue
unheard world = record world { faults = min (world.faults + 1) (2 ^ 64 - 1); in_row = min (world.in_row + 1) (2 ^ 64 - 1) }
