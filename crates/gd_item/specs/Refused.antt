-- Why a drive refuses a request: the first cause that holds, in the order of the kinds of requests. A drive takes at
-- most 1,000 sessions at a time, files put at once of at most 4,194,304 bytes, and kept bytes, those of its sessions
-- among them, of at most 536,870,912.
use Rattle.std.specs.Prelude.{ℕ, ◌+◌, ◌-◌, ◌^◌, Bool, true, false, not, ◌&&◌, ◌||◌, cond, List, [], ◌++◌, length, is_none, nat_eq, nat_lt, nat_le, Option, Some, None}
use Rattle.std.specs.Cmp.Lexicographic.{pointwise}
use Rattle.std.specs.Option.{option_map}
use Rattle.gd_names.specs.declared.conflict.Conflict.{Conflict}
use Rattle.gd_item.specs.Faults.{status_of, code_of, session_status_of, session_code_of}
use Rattle.gd_item.specs.Moves.{patch_refusal, remove_refusal}
use Rattle.gd_item.specs.Pages.{asked, is_bad}
use Rattle.gd_item.specs.Records.{record_at}
use Rattle.gd_item.specs.Refusals.{missing, folder_refusal, file_refusal, make_folder_refusal, put_refusal}
use Rattle.gd_item.specs.Sessions.{State, Session, held, held_bytes, session_at, completes_file, fragment_fault, finish_fault}
use Rattle.gd_item.specs.Targets.{target_of, place_of, name_in}
use Rattle.gd_item.specs.Versions.{version_at}
use Rattle.gd_item.specs.declared.condition.Condition.{Condition}
use Rattle.gd_item.specs.declared.fault.ErrorCode.{ErrorCode}
use Rattle.gd_item.specs.declared.fault.ErrorCode.TheVariants.{InvalidRequest, QuotaLimitReached}
use Rattle.gd_item.specs.declared.fault.SessionFault.{SessionFault}
use Rattle.gd_item.specs.declared.fault.SessionFault.TheVariants as session_fault
use Rattle.gd_item.specs.declared.fault.StoreFault.{StoreFault}
use Rattle.gd_item.specs.declared.fault.StoreFault.TheVariants.{NotFound, Quota}
use Rattle.gd_item.specs.declared.id.ItemId.{ItemId}
use Rattle.gd_item.specs.declared.request.Address.{Address}
use Rattle.gd_item.specs.declared.request.Request.{Request}
use Rattle.gd_item.specs.declared.request.Request.TheVariants.{Get, Children, MakeFolder, Put, Patch, Delete, Content, Download, OpenSession, Fragment, SessionStatus, CancelSession, Finish, Delta}

-- the status and the code of an error reply
pub record Refusal : Type 0 where
  pub status : ℕ
  pub code : ErrorCode

abbrev pub refuse : ℕ → ErrorCode → Refusal
refuse status code = record { status = status; code = code }

-- what the store, and what a session refuses
abbrev pub by_store : Option StoreFault → Option Refusal
by_store fault = option_map (λ f. refuse (status_of f) (code_of f)) fault

abbrev pub by_session : Option SessionFault → Option Refusal
by_session fault = option_map (λ f. refuse (session_status_of f) (session_code_of f)) fault

-- the first of two refusals
abbrev pub or_else : {X : Type 0} → Option X → Option X → Option X
or_else None second = second
or_else (Some first) second = Some first

-- why what an address names is refused, where it names anything
abbrev pub at_target : {X : Type 0} → (X → Option StoreFault) → Option X → Option StoreFault
at_target fault None = Some NotFound
at_target fault (Some target) = fault target

-- a refusal of the store, or that the kept bytes and those of the sessions pass the limit
abbrev pub with_sessions : State → Option StoreFault → Option StoreFault
with_sessions state fault = or_else fault (cond (nat_lt 536870912 ((held state).kept + held_bytes state.sessions)) (Some Quota) None)

-- a refusal of the store for another cause than its limits
abbrev pub but_quota : Option StoreFault → Option StoreFault
but_quota None = None
but_quota (Some Quota) = None
but_quota (Some fault) = Some fault

-- a number that an item's id has, if it is given
abbrev pub id_number : Option ItemId → Option ℕ
id_number id = option_map (λ (i : ItemId). i.0) id

-- whether a name is given unlike the one that the address spells
abbrev pub is_unlike : Option (List ℕ) → Option (List ℕ) → Bool
is_unlike None spelt = false
is_unlike (Some name) None = false
is_unlike (Some name) (Some spelt) = not (pointwise nat_eq name spelt)

-- why a session's file is not made of these bytes: as the put of the whole file, whose session then lives no more
abbrev pub commit_refusal : State → Session → List ℕ → Option StoreFault
commit_refusal state session bytes =
    put_refusal (held state) session.place bytes session.behaviour session.condition (held_bytes state.sessions - length session.filled)

-- why the fragment that completes a file is refused, and why a session is not finished
abbrev pub last_refusal : State → Option Session → ℕ → ℕ → List ℕ → Option StoreFault
last_refusal state None last total bytes = None
last_refusal state (Some session) last total bytes =
    cond (completes_file session last total) (commit_refusal state session (session.filled ++ bytes)) None

abbrev pub finish_refusal : State → Option Session → Option StoreFault
finish_refusal state None = None
finish_refusal state (Some session) = commit_refusal state session session.filled

-- why no session is opened: its name is another, the put would be refused, or there are too many
abbrev pub open_refusal : State → Address → Option (List ℕ) → Conflict → Condition → Option Refusal
open_refusal state at name behaviour condition =
    cond (is_unlike name (name_in at)) (Some (refuse 400 InvalidRequest))
    (or_else (by_store (at_target (λ place. but_quota (put_refusal (held state) place [] behaviour condition 0)) (place_of (held state) at)))
    (cond (nat_le 1000 (length state.sessions) || nat_le (2 ^ 64 - 1) (length state.openers)) (Some (refuse 507 QuotaLimitReached)) None))

-- whether a session does not live
abbrev pub not_living : Option Session → Option SessionFault
not_living None = Some session_fault.NoSession
not_living (Some session) = None

-- why a request is refused
abbrev pub refusal : State → Request → Option Refusal
refusal state (Get at) = by_store (at_target (λ number. missing (record_at number true (held state))) (target_of (held state) at))
refusal state (Children at after) = by_store (at_target (folder_refusal (held state)) (target_of (held state) at))
refusal state (MakeFolder at name behaviour) =
    by_store (with_sessions state (at_target (λ parent. make_folder_refusal (held state) parent name behaviour) (target_of (held state) at)))
refusal state (Put at bytes behaviour condition) =
    cond (nat_lt 4194304 (length bytes)) (Some (refuse 413 InvalidRequest))
    (by_store (at_target (λ place. put_refusal (held state) place bytes behaviour condition (held_bytes state.sessions)) (place_of (held state) at)))
refusal state (Patch at name parent condition) =
    cond (is_none name && is_none parent) (Some (refuse 400 InvalidRequest))
    (by_store (with_sessions state (at_target (λ number. patch_refusal (held state) number name (id_number parent) condition) (target_of (held state) at))))
refusal state (Delete at condition) =
    by_store (with_sessions state (at_target (λ number. remove_refusal (held state) number condition) (target_of (held state) at)))
refusal state (Content at) = by_store (at_target (file_refusal (held state)) (target_of (held state) at))
refusal state (Download id version) = by_store (missing (version_at id.0 version (held state)))
refusal state (OpenSession at name behaviour condition defer) = open_refusal state at name behaviour condition
refusal state (Fragment session first last total bytes) =
    or_else (by_session (fragment_fault (held state).kept state.sessions (session_at session state.sessions) first last total bytes))
    (by_store (last_refusal state (session_at session state.sessions) last total bytes))
refusal state (SessionStatus session) = by_session (not_living (session_at session state.sessions))
refusal state (CancelSession session) = by_session (not_living (session_at session state.sessions))
refusal state (Finish session) =
    or_else (by_session (finish_fault (session_at session state.sessions))) (by_store (finish_refusal state (session_at session state.sessions)))
refusal state (Delta token) = cond (is_bad (asked state token)) (Some (refuse 400 InvalidRequest)) None
