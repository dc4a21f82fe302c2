-- What is counted of a drive that is asked, and what is exchanged with it. The counts stand still at the last value of a u64.
use Rattle.std.specs.Prelude.{◌≡◌, ◌⊎◌, ℕ, ◌+◌, ◌-◌, ◌^◌, ◌≤◌, min, true, List, [], ◌∷◌, ◌++◌, Option, Some, None, Result, Ok, Err}
use Rattle.gd_names.specs.Streams.{Rose}
use Rattle.gd_item.specs.Replies.{may_answer}
use Rattle.gd_item.specs.Requests.{kind_of}
use Rattle.gd_item.specs.declared.reply.Reply.{Reply}
use Rattle.gd_item.specs.declared.request.Request.{Request}
use Rattle.gd_item.specs.declared.request.RequestKind.{RequestKind}
use Rattle.od_remote.specs.declared.remote.AskFault.{AskFault}
use Rattle.od_remote.specs.declared.remote.AskFault.TheVariants.{Failed, Bad, Memory}

-- a request that was sent, and the bytes that came, if any did
pub record Exchange : Type 0 where
  pub request : Request
  pub answer : Option (List ℕ)

-- how often no reply came, how often bytes came, how often none came since the last ones, and what was exchanged, where told
pub record AskCounts : Type 0 where
  pub faults : ℕ
  pub answers : ℕ
  pub in_row : ℕ
  pub exchanges : Option (List Exchange)

abbrev pub RoseBy : ℕ → ℕ → ℕ → Type 0
RoseBy by before now = min (before + by) (2 ^ 64 - 1) ≤ now

-- a row is longer by so many
abbrev pub IsLongerBy : ℕ → ℕ → ℕ → Type 0
IsLongerBy by before now = now ≡ min (before + by) (2 ^ 64 - 1)

-- where the exchanges are told, these are more
abbrev pub Adds : List Exchange → Option (List Exchange) → Option (List Exchange) → Type 0
Adds more before after = (old : List Exchange) → before ≡ Some old → after ≡ Some (old ++ more)

-- a later moment: neither count fell, and what was exchanged stays
pub record Later (before now : AskCounts) : Type 0 where
  pub faults : before.faults ≤ now.faults
  pub answers : before.answers ≤ now.answers
  pub exchanges : (old : List Exchange) → before.exchanges ≡ Some old → (more : List Exchange) × (now.exchanges ≡ Some (old ++ more))

-- how bytes are read: of a request's kind, which are which reply
abbrev pub Reading : Type 1
Reading = RequestKind → List ℕ → Reply → Type 0

-- bytes are read in the same way
pub record AreSame (Before Now : Reading) : Type 0 where
  pub still : (kind : RequestKind) (bytes : List ℕ) (reply : Reply) → Before kind bytes reply → Now kind bytes reply
  pub back : (kind : RequestKind) (bytes : List ℕ) (reply : Reply) → Now kind bytes reply → Before kind bytes reply

-- bytes came, and nothing else was exchanged
pub record CameBack (request : Request) (bytes : List ℕ) (before now : AskCounts) : Type 0 where
  pub answers : Rose before.answers now.answers
  pub in_row : now.in_row ≡ 0
  pub exchanged : Adds (record { request = request; answer = Some bytes } ∷ []) before.exchanges now.exchanges

-- a reply of the request's kind came, by bytes that are read as it
pub record Replied (Reads : Reading) (request : Request) (reply : Reply) (before now : AskCounts) : Type 0 where
  pub kind : may_answer (kind_of request) reply ≡ true
  pub bytes : List ℕ
  pub read : Reads (kind_of request) bytes reply
  pub came : CameBack request bytes before now

-- bytes came that are no reply of the request's kind
pub record Misread (Reads : Reading) (request : Request) (bytes : List ℕ) (before now : AskCounts) : Type 0 where
  pub unread : (reply : Reply) → Reads (kind_of request) bytes reply → ⊥
  pub came : CameBack request bytes before now

-- nothing came
pub record Unreplied (request : Request) (before now : AskCounts) : Type 0 where
  pub faults : Rose before.faults now.faults
  pub in_row : IsLongerBy 1 before.in_row now.in_row
  pub exchanged : Adds (record { request = request; answer = None } ∷ []) before.exchanges now.exchanges

-- memory was wanting: it was sent once, or not at all
abbrev pub MayAdd : Request → Option (List Exchange) → Option (List Exchange) → Type 0
MayAdd request before after =
    (old : List Exchange) → before ≡ Some old
    → (after ≡ Some old) ⊎ ((answer : Option (List ℕ)) × (after ≡ Some (old ++ record { request = request; answer = answer } ∷ [])))

-- each end of a call has its cause
abbrev pub HasAskCause : Reading → Request → Result Reply AskFault → AskCounts → AskCounts → Type 0
HasAskCause Reads request (Ok reply) before now = Replied Reads request reply before now
HasAskCause Reads request (Err Failed) before now = Unreplied request before now
HasAskCause Reads request (Err (Bad bytes)) before now = Misread Reads request bytes before now
HasAskCause Reads request (Err Memory) before now = MayAdd request before.exchanges now.exchanges
