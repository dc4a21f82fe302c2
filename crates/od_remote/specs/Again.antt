-- Requests that are sent again: sends that brought nothing, and then one more.
use Rattle.std.specs.Prelude.{◌≡◌, ℕ, zero, suc, ◌+◌, ◌-◌, ◌<◌, ◌≤◌, Bool, true, false, count_by, is_some, nat_eq, List, [], ◌∷◌, ◌++◌, length, Option, Some, None, Result, Ok, Err}
use Rattle.std.specs.List.{AllByRecursion}
use Rattle.gd_item.specs.Requests.{kind_of}
use Rattle.gd_item.specs.Written.{IsWritten}
use Rattle.gd_item.specs.declared.reply.Reply.{Reply}
use Rattle.gd_item.specs.declared.reply.Reply.TheVariants as reply
use Rattle.gd_item.specs.declared.request.Request.{Request}
use Rattle.gd_item.specs.declared.step.Step.{Step}
use Rattle.gd_item.specs.declared.step.Step.TheVariants.{Ask}
use Rattle.gd_item.specs.declared.step.Who.TheVariants.{Own}
use Rattle.od_remote.specs.Asking.{Asked, IsSentAs, OwnAre, own_requests}
use Rattle.od_remote.specs.Counting.{Adds, AskCounts, Exchange, HasAskCause, Reading, RoseBy}
use Rattle.od_remote.specs.declared.again.ServeFault.{ServeFault}
use Rattle.od_remote.specs.declared.again.ServeFault.TheVariants as serve
use Rattle.od_remote.specs.declared.remote.AskFault.{AskFault}
use Rattle.od_remote.specs.declared.remote.AskFault.TheVariants.{Failed, Bad, Memory}

-- ---- the log, where it is told: others' steps with such requests, so many of them at most
pub record Tried (Such : Request → Bool → Bool → Type 0) (most : ℕ) (old : List Step) (after : Option (List Step)) : Type 0 where
  pub part : List Step
  pub such : OwnAre Such part
  pub few : own_requests part ≤ most
  pub grown : after ≡ Some (old ++ part)

-- and then one request more
pub record AskedThen (Such : Request → Bool → Bool → Type 0) (most : ℕ) (request : Request) (result : Result Reply AskFault) (old : List Step) (after : Option (List Step)) : Type 0 where
  pub part : List Step
  pub such : OwnAre Such part
  pub few : own_requests part ≤ most
  pub last : Asked request result (old ++ part) after

-- ---- sends without a reply
abbrev pub IsUnheard : Request → Request → Bool → Bool → Type 0
IsUnheard request sent served heard = IsSentAs request sent × (heard ≡ false)

pub record AsksAgain (request : Request) (result : Result Reply AskFault) (before after : Option (List Step)) : Type 0 where
  pub told : (old : List Step) → before ≡ Some old → AskedThen (IsUnheard request) 2 request result old after

-- so many exchanges without an answer
abbrev pub lost_sends : ℕ → Request → List Exchange
lost_sends zero request = []
lost_sends (suc n) request = record { request = request; answer = None } ∷ lost_sends n request

pub record Lost (sends : ℕ) (request : Request) (before now : AskCounts) : Type 0 where
  pub faults : RoseBy sends before.faults now.faults
  pub in_row : RoseBy sends before.in_row now.in_row
  pub exchanged : Adds (lost_sends sends request) before.exchanges now.exchanges

-- where the last send fails, all of them did
abbrev pub IsAllWhereFailed : Result Reply AskFault → Bool → Type 0
IsAllWhereFailed (Ok reply) all = Unit {0}
IsAllWhereFailed (Err Failed) all = all ≡ true
IsAllWhereFailed (Err (Bad bytes)) all = Unit {0}
IsAllWhereFailed (Err Memory) all = Unit {0}

-- two sends at most without a reply, and then one more; where that one has none either, they are three in all
pub record HasAgainCause (Reads : Reading) (request : Request) (result : Result Reply AskFault) (before now : AskCounts) : Type 0 where
  pub sends : ℕ
  pub few : sends ≤ 2
  pub all : IsAllWhereFailed result (nat_eq sends 2)
  pub counts : AskCounts
  pub lost : Lost sends request before counts
  pub cause : HasAskCause Reads request result counts now

-- ---- sends without a reply but that the drive lacks memory
abbrev pub is_unserved : Reply → Bool
is_unserved (reply.Refused status code) = nat_eq status 503
is_unserved reply = false

abbrev pub IsSpent : Request → Request → Bool → Bool → Type 0
IsSpent request sent served heard = IsSentAs request sent × (heard ≡ true → IsWritten request → served ≡ false)

-- the last request of this client that was heard was not served
pub record EndsUnserved (request : Request) (part : List Step) : Type 0 where
  pub first : List Step
  pub sent : Request
  pub served : Bool
  pub rest : List Step
  pub split : part ≡ first ++ Ask Own sent served true ∷ rest
  pub spent : IsSpent request sent served true
  pub unheard : OwnAre (IsUnheard request) rest

-- so many sends at most, to which there were so many replies
pub record SpentTries (request : Request) (sends replies : ℕ) (old : List Step) (after : Option (List Step)) : Type 0 where
  pub part : List Step
  pub such : OwnAre (IsSpent request) part
  pub few : own_requests part ≤ sends
  pub unheard : replies ≡ 0 → OwnAre (IsUnheard request) part
  pub last : 0 < replies → EndsUnserved request part
  pub grown : after ≡ Some (old ++ part)

pub record TriedUnserved (request : Request) (old : List Step) (after : Option (List Step)) : Type 0 where
  pub part : List Step
  pub such : OwnAre (IsSpent request) part
  pub few : own_requests part ≤ 3
  pub last : EndsUnserved request part
  pub grown : after ≡ Some (old ++ part)

abbrev pub ServedBy : Request → Result Reply ServeFault → List Step → Option (List Step) → Type 0
ServedBy request (Ok reply) old after = AskedThen (IsSpent request) 2 request (Ok reply) old after
ServedBy request (Err serve.Failed) old after = Tried (IsUnheard request) 3 old after
ServedBy request (Err serve.Unserved) old after = TriedUnserved request old after
ServedBy request (Err (serve.Bad bytes)) old after = AskedThen (IsSpent request) 2 request (Err (Bad bytes)) old after
ServedBy request (Err serve.Memory) old after = AskedThen (IsSpent request) 2 request (Err Memory) old after

pub record AsksServed (request : Request) (result : Result Reply ServeFault) (before after : Option (List Step)) : Type 0 where
  pub told : (old : List Step) → before ≡ Some old → ServedBy request result old after

-- ---- what is counted of such sends: no bytes came, or those of the reply that the drive lacks memory
pub record IsUnservedBy (Reads : Reading) (request : Request) (bytes : List ℕ) : Type 0 where
  pub said : Reply
  pub read : Reads (kind_of request) bytes said
  pub unserved : is_unserved said ≡ true

abbrev pub IsSpentAnswer : Reading → Request → Option (List ℕ) → Type 0
IsSpentAnswer Reads request None = Unit {0}
IsSpentAnswer Reads request (Some bytes) = IsUnservedBy Reads request bytes

abbrev pub IsSpentSend : Reading → Request → Exchange → Type 0
IsSpentSend Reads request exchange = (exchange.request ≡ request) × IsSpentAnswer Reads request exchange.answer

abbrev pub is_answered : Exchange → Bool
is_answered exchange = is_some exchange.answer

-- so many such exchanges, of which so many had an answer
pub record SpentMore (Reads : Reading) (request : Request) (sends replies : ℕ) (old : List Exchange) (after : Option (List Exchange)) : Type 0 where
  pub more : List Exchange
  pub such : AllByRecursion (IsSpentSend Reads request) more
  pub all : length more ≡ sends
  pub answered : count_by is_answered more ≡ replies
  pub grown : after ≡ Some (old ++ more)

pub record Spent (Reads : Reading) (sends replies : ℕ) (request : Request) (before now : AskCounts) : Type 0 where
  pub within : replies ≤ sends
  pub faults : RoseBy (sends - replies) before.faults now.faults
  pub answers : RoseBy replies before.answers now.answers
  pub in_row : replies ≡ 0 → RoseBy sends before.in_row now.in_row
  pub exchanged : (old : List Exchange) → before.exchanges ≡ Some old → SpentMore Reads request sends replies old now.exchanges

-- two such sends at most, and then one more
pub record SpentThen (Reads : Reading) (request : Request) (result : Result Reply AskFault) (before now : AskCounts) : Type 0 where
  pub sends : ℕ
  pub few : sends ≤ 2
  pub replies : ℕ
  pub counts : AskCounts
  pub spent : Spent Reads sends replies request before counts
  pub cause : HasAskCause Reads request result counts now

-- three, of which the drive answered some
pub record ThriceUnserved (Reads : Reading) (request : Request) (before now : AskCounts) : Type 0 where
  pub replies : ℕ
  pub some : 0 < replies
  pub spent : Spent Reads 3 replies request before now

abbrev pub HasServeCause : Reading → Request → Result Reply ServeFault → AskCounts → AskCounts → Type 0
HasServeCause Reads request (Ok reply) before now = SpentThen Reads request (Ok reply) before now × (is_unserved reply ≡ false)
HasServeCause Reads request (Err serve.Failed) before now = Spent Reads 3 0 request before now
HasServeCause Reads request (Err serve.Unserved) before now = ThriceUnserved Reads request before now
HasServeCause Reads request (Err (serve.Bad bytes)) before now = SpentThen Reads request (Err (Bad bytes)) before now
HasServeCause Reads request (Err serve.Memory) before now = SpentThen Reads request (Err Memory) before now

-- ---- one such send: a reply that counts, or as many others as came, or an end
abbrev pub SentBy : Request → Result (Result Reply ℕ) AskFault → List Step → Option (List Step) → Type 0
SentBy request (Ok (Ok reply)) old after = Asked request (Ok reply) old after
SentBy request (Ok (Err replies)) old after = SpentTries request 1 replies old after
SentBy request (Err fault) old after = Asked request (Err fault) old after

pub record Sends (request : Request) (result : Result (Result Reply ℕ) AskFault) (before after : Option (List Step)) : Type 0 where
  pub told : (old : List Step) → before ≡ Some old → SentBy request result old after

abbrev pub HasSendCause : Reading → Request → Result (Result Reply ℕ) AskFault → AskCounts → AskCounts → Type 0
HasSendCause Reads request (Ok (Ok reply)) before now = HasAskCause Reads request (Ok reply) before now × (is_unserved reply ≡ false)
HasSendCause Reads request (Ok (Err replies)) before now = Spent Reads 1 replies request before now
HasSendCause Reads request (Err Failed) before now = ⊥
HasSendCause Reads request (Err (Bad bytes)) before now = HasAskCause Reads request (Err (Bad bytes)) before now
HasSendCause Reads request (Err Memory) before now = HasAskCause Reads request (Err Memory) before now
