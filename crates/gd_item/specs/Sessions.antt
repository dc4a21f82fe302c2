-- Upload sessions: a file that comes in fragments, in order, each but the last a multiple of 327,680 bytes
-- (createUploadSession of Microsoft Graph). The last fragment makes the file, or in a deferred session a request of its
-- own. What a drive has come to is the effects of its accepted requests, the sessions that live, who opened each session,
-- its epoch, its floor, and whether it is plain: its replies then give neither digests nor content tags.
use Rattle.std.specs.Prelude.{ℕ, ◌+◌, ◌-◌, ◌%◌, Bool, false, not, ◌&&◌, ◌||◌, cond, List, [], ◌∷◌, ◌++◌, length, find, filter, map, sum_by, nat_eq, nat_lt, nat_le, Option, Some, None}
use Rattle.gd_names.specs.Causes.{first_cause}
use Rattle.gd_names.specs.declared.conflict.Conflict.{Conflict}
use Rattle.gd_item.specs.Inventory.{Effect, Inventory, inventory}
use Rattle.gd_item.specs.declared.condition.Condition.{Condition}
use Rattle.gd_item.specs.declared.fault.SessionFault.{SessionFault}
use Rattle.gd_item.specs.declared.fault.SessionFault.TheVariants.{NoSession, Total, Form, TooLarge, Range, Multiple, Quota}
use Rattle.gd_item.specs.declared.live.Place.{Place}
use Rattle.gd_item.specs.declared.step.Who.{Who}

-- a session that lives: its number, where its file is put and how, whether it is deferred, the whole length that the
-- first fragment said, and the bytes that came
pub record Session : Type 0 where
  pub number : ℕ
  pub place : Place
  pub behaviour : Conflict
  pub condition : Condition
  pub defer : Bool
  pub total : Option ℕ
  pub filled : List ℕ

pub record State : Type 0 where
  pub effects : List Effect
  pub sessions : List Session
  pub openers : List Who
  pub epoch : ℕ
  pub floor : ℕ
  pub plain : Bool

-- a drive at its beginning
abbrev pub new_state : State
new_state = record { effects = []; sessions = []; openers = []; epoch = 1; floor = 0; plain = false }

-- what it holds
abbrev pub held : State → Inventory
held state = inventory state.effects

-- the session of a number, if it lives
abbrev pub session_at : ℕ → List Session → Option Session
session_at number sessions = find (λ session. nat_eq session.number number) sessions

-- the sessions without that of a number
abbrev pub without_session : ℕ → List Session → List Session
without_session number sessions = filter (λ session. not (nat_eq session.number number)) sessions

-- the session with one more fragment
abbrev pub with_fragment : ℕ → ℕ → List ℕ → List Session → List Session
with_fragment number total bytes sessions =
    map (λ session. cond (nat_eq session.number number) (record session { total = Some total; filled = session.filled ++ bytes }) session) sessions

-- how many bytes all living sessions hold
abbrev pub held_bytes : List Session → ℕ
held_bytes sessions = sum_by (λ session. length session.filled) sessions

-- whether a fragment is the last one of its file, whose bytes are counted from 0
abbrev pub is_last : ℕ → ℕ → Bool
is_last last total = nat_eq (last + 1) total

-- whether a fragment completes the file: it is the last one, and the session is not deferred
abbrev pub completes_file : Session → ℕ → ℕ → Bool
completes_file session last total = is_last last total && not session.defer

-- the same of a session that may live
abbrev pub is_completed : Option Session → ℕ → ℕ → Bool
is_completed None last total = false
is_completed (Some session) last total = completes_file session last total

-- whether the first fragment said another whole length
abbrev pub is_other_total : Option ℕ → ℕ → Bool
is_other_total None total = false
is_other_total (Some first) total = not (nat_eq first total)

-- why a fragment is refused for itself, over the bytes that the drive keeps and those of its sessions
abbrev pub session_fragment_fault : ℕ → List Session → Session → ℕ → ℕ → ℕ → List ℕ → Option SessionFault
session_fragment_fault kept sessions session first last total bytes =
    first_cause (
    (is_other_total session.total total, Total)
    ∷ (nat_lt last first || nat_le total last || not (nat_eq (last - first + 1) (length bytes)), Form)
    ∷ (nat_le 62914560 (length bytes) || nat_lt 67108864 total, TooLarge)
    ∷ (not (nat_eq first (length session.filled)), Range (length session.filled))
    ∷ (not (is_last last total) && not (nat_eq (length bytes % 327680) 0), Multiple)
    ∷ (nat_lt 536870912 (kept + held_bytes sessions + length bytes), Quota)
    ∷ [])

abbrev pub fragment_fault : ℕ → List Session → Option Session → ℕ → ℕ → ℕ → List ℕ → Option SessionFault
fragment_fault kept sessions None first last total bytes = Some NoSession
fragment_fault kept sessions (Some session) first last total bytes = session_fragment_fault kept sessions session first last total bytes

-- whether all bytes came
abbrev pub is_filled : Option ℕ → ℕ → Bool
is_filled None count = false
is_filled (Some total) count = nat_eq count total

-- why a session is not finished: it is not deferred, or bytes are still expected
abbrev pub finish_fault : Option Session → Option SessionFault
finish_fault None = Some NoSession
finish_fault (Some session) = first_cause ((not session.defer || not (is_filled session.total (length session.filled)), Form) ∷ [])
