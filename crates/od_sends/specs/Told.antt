-- How a drive's log, where it is told, grows by the requests of a job: other steps come between, of others and of this client
-- for other jobs.
use Rattle.std.specs.Prelude.{◌≡◌, ◌⊎◌, ℕ, ◌+◌, Bool, true, false, cond, List, [], ◌∷◌, ◌++◌, length, Option, Some, None}
use Rattle.std.specs.List.{AllByRecursion}
use Rattle.gd_item.specs.Answers.{answer_served}
use Rattle.gd_item.specs.Sessions.{State}
use Rattle.gd_item.specs.Steps.{after_step, is_accepted}
use Rattle.gd_item.specs.declared.request.Request.{Request}
use Rattle.gd_item.specs.declared.request.Request.TheVariants.{OpenSession, Fragment, SessionStatus, CancelSession, Finish}
use Rattle.gd_item.specs.declared.step.Step.{Step}
use Rattle.gd_item.specs.declared.step.Step.TheVariants.{Ask, Event}
use Rattle.gd_item.specs.declared.step.Who.TheVariants.{Own, Other}
use Rattle.od_job.specs.Runs.{Exchange}
use Rattle.od_job.specs.declared.job.Answered.TheVariants.{Got, Failed}

-- a step of the log: a request of the job, or another step
pub data Marked : Type 0 where
  Mine : (request : Request) (served heard : Bool) → Marked
  Between : (step : Step) → Marked

abbrev pub step_in : Marked → Step
step_in (Mine request served heard) = Ask Own request served heard
step_in (Between step) = step

abbrev pub steps_in : List Marked → List Step
steps_in [] = []
steps_in (next ∷ part) = step_in next ∷ steps_in part

-- what the drive has come to after such steps
abbrev pub after_marked : State → List Marked → State
after_marked drive [] = drive
after_marked drive (next ∷ part) = after_marked (after_step drive (step_in next)) part

-- no request of the job
abbrev pub IsBetween : Marked → Type 0
IsBetween (Mine request served heard) = ⊥
IsBetween (Between step) = Unit {0}

abbrev pub AreBetween : List Marked → Type 0
AreBetween part = AllByRecursion IsBetween part

-- what a request adds to the log: it is answered as the drive answers it there, which may lack memory; or it fails, and it came
-- to the drive or did not, whether its reply came back, for which memory was wanting here, or not
abbrev pub Comes : State → Exchange → List Marked → Type 0
Comes drive exchange [] = exchange.answered ≡ Failed
Comes drive exchange (Mine request served true ∷ []) =
    (request ≡ exchange.request) × ((exchange.answered ≡ Failed) ⊎ ((size : ℕ) × (exchange.answered ≡ Got (answer_served served drive size request))))
Comes drive exchange (Mine request served false ∷ []) = (request ≡ exchange.request) × (exchange.answered ≡ Failed)
Comes drive exchange part = ⊥

-- the log grows by steps between, by what the first request adds, and then by the rest
pub record Begins (drive : State) (exchange : Exchange) (part : List Marked) : Type 0 where
  pub others : List Marked
  pub between : AreBetween others
  pub own : List Marked
  pub comes : Comes (after_marked drive others) exchange own
  pub rest : List Marked
  pub split : part ≡ others ++ (own ++ rest)

abbrev pub Told : State → List Exchange → List Marked → Type 0
Told drive [] part = AreBetween part
Told drive (exchange ∷ exchanges) part =
    (first : Begins drive exchange part) × Told (after_marked (after_marked drive first.others) first.own) exchanges first.rest

-- ---- the job's sessions are its own
-- the session that a request names
abbrev pub session_named : Request → Option ℕ
session_named (Fragment session first last total bytes) = Some session
session_named (SessionStatus session) = Some session
session_named (CancelSession session) = Some session
session_named (Finish session) = Some session
session_named request = None

abbrev pub NamesNot : Step → ℕ → Type 0
NamesNot (Ask who request served heard) session = session_named request ≡ Some session → ⊥
NamesNot (Event event) session = Unit {0}

-- the session that a request opens
abbrev pub opened_by : State → Request → Bool → List ℕ
opened_by drive (OpenSession at name behaviour condition defer) served =
    cond (is_accepted drive (OpenSession at name behaviour condition defer) served) ((length drive.openers + 1) ∷ []) []
opened_by drive request served = []

-- no step between names a session that the job opened, where these are the first ones
abbrev pub KeepsOff : State → List ℕ → List Marked → Type 0
KeepsOff drive sessions [] = Unit {0}
KeepsOff drive sessions (Mine request served heard ∷ part) =
    KeepsOff (after_step drive (Ask Own request served heard)) (opened_by drive request served ++ sessions) part
KeepsOff drive sessions (Between step ∷ part) = AllByRecursion (NamesNot step) sessions × KeepsOff (after_step drive step) sessions part

-- the steps between are of others
abbrev pub IsOfOthers : Marked → Type 0
IsOfOthers (Mine request served heard) = Unit {0}
IsOfOthers (Between (Ask Own request served heard)) = ⊥
IsOfOthers (Between (Ask Other request served heard)) = Unit {0}
IsOfOthers (Between (Event event)) = Unit {0}
