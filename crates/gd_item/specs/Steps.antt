-- The log of a drive: its steps since it had the root alone. What the drive has come to is read off the log. A request
-- has its effects where it is served and not refused, whether its reply was heard or not.
use Rattle.std.specs.Prelude.{ℕ, ◌+◌, ◌-◌, ◌^◌, Bool, true, false, not, ◌&&◌, cond, List, [], ◌∷◌, ◌++◌, length, max, min, is_none, nat_eq, slice_get, Option, Some, None}
use Rattle.gd_names.specs.declared.conflict.Conflict.{Conflict}
use Rattle.gd_item.specs.Inventory.{Effect, Inventory, inventory_at}
use Rattle.gd_item.specs.Moves.{patch_effect, remove_effects}
use Rattle.gd_item.specs.Refusals.{make_folder_effect, put_effect}
use Rattle.gd_item.specs.Refused.{refusal, id_number}
use Rattle.gd_item.specs.Sessions.{State, Session, new_state, held, session_at, is_completed, completes_file, without_session, with_fragment}
use Rattle.gd_item.specs.Targets.{target_of, place_of}
use Rattle.gd_item.specs.Versions.{accepted}
use Rattle.gd_item.specs.declared.condition.Condition.{Condition}
use Rattle.gd_item.specs.declared.live.Place.{Place}
use Rattle.gd_item.specs.declared.live.Version.{Version}
use Rattle.gd_item.specs.declared.request.Request.{Request}
use Rattle.gd_item.specs.declared.request.Request.TheVariants.{Get, Children, MakeFolder, Put, Patch, Delete, Content, Download, OpenSession, Fragment, SessionStatus, CancelSession, Finish, Delta}
use Rattle.gd_item.specs.declared.step.DriveEvent.{DriveEvent}
use Rattle.gd_item.specs.declared.step.DriveEvent.TheVariants.{Expire, Restore, EndSession, Plain}
use Rattle.gd_item.specs.declared.step.Step.{Step}
use Rattle.gd_item.specs.declared.step.Step.TheVariants.{Ask, Event}
use Rattle.gd_item.specs.declared.step.Who.{Who}
use Rattle.gd_item.specs.declared.step.Who.TheVariants.{Own, Other}

-- the effects at a number, or a place, that is there
abbrev pub effects_at : {X : Type 0} → (X → List Effect) → Option X → List Effect
effects_at effects None = []
effects_at effects (Some target) = effects target

-- the effect of making a session's file of these bytes
abbrev pub commit_effect : State → Session → List ℕ → Effect
commit_effect state session bytes = put_effect (held state) session.place bytes session.behaviour

-- the effect of a fragment, where it completes the file, and of finishing a session
abbrev pub fragment_effects : State → ℕ → ℕ → List ℕ → Session → List Effect
fragment_effects state last total bytes session =
    cond (completes_file session last total) (commit_effect state session (session.filled ++ bytes) ∷ []) []

abbrev pub finish_effects : State → Session → List Effect
finish_effects state session = commit_effect state session session.filled ∷ []

-- the effects of a request that is not refused
abbrev pub effects_of : State → Request → List Effect
effects_of state (Get at) = []
effects_of state (Children at after) = []
effects_of state (MakeFolder at name behaviour) =
    effects_at (λ parent. make_folder_effect (held state) parent name behaviour ∷ []) (target_of (held state) at)
effects_of state (Put at bytes behaviour condition) =
    effects_at (λ place. put_effect (held state) place bytes behaviour ∷ []) (place_of (held state) at)
effects_of state (Patch at name parent condition) =
    effects_at (λ number. patch_effect (held state) number name (id_number parent) ∷ []) (target_of (held state) at)
effects_of state (Delete at condition) = effects_at (remove_effects (held state)) (target_of (held state) at)
effects_of state (Content at) = []
effects_of state (Download id version) = []
effects_of state (OpenSession at name behaviour condition defer) = []
effects_of state (Fragment session first last total bytes) =
    effects_at (fragment_effects state last total bytes) (session_at session state.sessions)
effects_of state (SessionStatus session) = []
effects_of state (CancelSession session) = []
effects_of state (Finish session) = effects_at (finish_effects state) (session_at session state.sessions)
effects_of state (Delta token) = []

-- the sessions with one more, where its place is known
abbrev pub opened : ℕ → Option Place → Conflict → Condition → Bool → List Session → List Session
opened number None behaviour condition defer sessions = sessions
opened number (Some place) behaviour condition defer sessions =
    sessions ++ record { number = number; place = place; behaviour = behaviour; condition = condition; defer = defer; total = None; filled = [] } ∷ []

-- the sessions after a request that is not refused
abbrev pub sessions_of : State → Request → List Session
sessions_of state (Get at) = state.sessions
sessions_of state (Children at after) = state.sessions
sessions_of state (MakeFolder at name behaviour) = state.sessions
sessions_of state (Put at bytes behaviour condition) = state.sessions
sessions_of state (Patch at name parent condition) = state.sessions
sessions_of state (Delete at condition) = state.sessions
sessions_of state (Content at) = state.sessions
sessions_of state (Download id version) = state.sessions
sessions_of state (OpenSession at name behaviour condition defer) =
    opened (length state.openers + 1) (place_of (held state) at) behaviour condition defer state.sessions
sessions_of state (Fragment session first last total bytes) =
    cond (is_completed (session_at session state.sessions) last total) (without_session session state.sessions) (with_fragment session total bytes state.sessions)
sessions_of state (SessionStatus session) = state.sessions
sessions_of state (CancelSession session) = without_session session state.sessions
sessions_of state (Finish session) = without_session session state.sessions
sessions_of state (Delta token) = state.sessions

-- who opened the sessions, after a request that is not refused
abbrev pub openers_of : State → Who → Request → List Who
openers_of state who (OpenSession at name behaviour condition defer) = state.openers ++ who ∷ []
openers_of state who request = state.openers

-- what the drive has come to after a request that is not refused
abbrev pub after_request : State → Who → Request → State
after_request state who request =
    record state { effects = state.effects ++ effects_of state request; sessions = sessions_of state request; openers = openers_of state who request }

abbrev pub after_event : State → DriveEvent → State
after_event state (Expire number) = record state { floor = max state.floor (min number (held state).number) }
after_event state Restore = record state { epoch = min (state.epoch + 1) (2 ^ 64 - 1) }
after_event state (EndSession session) = record state { sessions = without_session session state.sessions }
after_event state Plain = record state { plain = true }

-- whether a request is accepted: it is served and not refused
abbrev pub is_accepted : State → Request → Bool → Bool
is_accepted state request served = served && is_none (refusal state request)

-- the effects of one step
abbrev pub effects_by : State → Step → List Effect
effects_by state (Ask who request served heard) = cond (is_accepted state request served) (effects_of state request) []
effects_by state (Event event) = []

-- what the drive has come to after one more step
abbrev pub after_step : State → Step → State
after_step state (Ask who request served heard) = cond (is_accepted state request served) (after_request state who request) state
after_step state (Event event) = after_event state event

abbrev pub after_steps : State → List Step → State
after_steps state [] = state
after_steps state (step ∷ steps) = after_steps (after_step state step) steps

-- what a drive has come to whose log this is
abbrev pub state_of : List Step → State
state_of log = after_steps new_state log

-- what it holds, its number, and what it held when its number was another
abbrev pub held_by : List Step → Inventory
held_by log = held (state_of log)

abbrev pub number_of : List Step → ℕ
number_of log = (held_by log).number

abbrev pub held_at : ℕ → List Step → Inventory
held_at number log = inventory_at number (state_of log).effects

-- the versions that it accepted
abbrev pub accepted_by : List Step → List Version
accepted_by log = accepted (state_of log).effects

-- whether a session is one that this client opened; the first session is that of the first opener
abbrev pub is_own : Option Who → Bool
is_own None = false
is_own (Some Own) = true
is_own (Some Other) = false

abbrev pub opener_of : ℕ → List Who → Option Who
opener_of session openers = cond (nat_eq session 0) None (slice_get openers (session - 1))

-- whether a request names a session that this client opened
abbrev pub names_own_session : State → Request → Bool
names_own_session state (Fragment session first last total bytes) = is_own (opener_of session state.openers)
names_own_session state (SessionStatus session) = is_own (opener_of session state.openers)
names_own_session state (CancelSession session) = is_own (opener_of session state.openers)
names_own_session state (Finish session) = is_own (opener_of session state.openers)
names_own_session state request = false

-- an upload session is known to its opener alone: no other's step names one that this client opened
abbrev pub is_fair_step : State → Step → Bool
is_fair_step state (Ask Own request served heard) = true
is_fair_step state (Ask Other request served heard) = not (names_own_session state request)
is_fair_step state (Event event) = true

abbrev pub is_fair_after : State → List Step → Bool
is_fair_after state [] = true
is_fair_after state (step ∷ steps) = is_fair_step state step && is_fair_after (after_step state step) steps

abbrev pub is_fair : List Step → Bool
is_fair log = is_fair_after new_state log
