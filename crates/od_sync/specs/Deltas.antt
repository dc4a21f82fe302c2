-- A request for changes is sent up to three times: again after a failure, and where the drive lacks memory.
use Rattle.std.specs.Prelude.{◌≡◌, ◌⊎◌, ℕ, ◌-◌, ◌<◌, ◌≤◌, Bool, true, false, ◌&&◌, List, [], ◌∷◌, ◌++◌, count_by, length, nat_lt, Option, Some, None, Result, Ok, Err, IfOk, OnOk, OnErr, IsErrOf}
use Rattle.std.specs.List.{list_all}
use Rattle.gd_names.specs.Streams.{Rose}
use Rattle.gd_item.specs.Answers.{answer_of}
use Rattle.gd_item.specs.Steps.{state_of}
use Rattle.gd_item.specs.Written.{is_token_byte}
use Rattle.gd_item.specs.declared.reply.Page.{Page}
use Rattle.gd_item.specs.declared.reply.Reply.{Reply}
use Rattle.gd_item.specs.declared.reply.Reply.TheVariants as reply
use Rattle.gd_item.specs.declared.request.Request.{Request}
use Rattle.gd_item.specs.declared.request.Request.TheVariants.{Delta}
use Rattle.gd_item.specs.declared.step.Step.{Step}
use Rattle.gd_item.specs.declared.step.Step.TheVariants.{Ask, Event}
use Rattle.gd_item.specs.declared.step.Who.TheVariants.{Own, Other}
use Rattle.od_transfer.specs.Asking.{OwnAre, RoseBy, is_last_link}
use Rattle.od_sync.specs.Chains.{Chained}
use Rattle.od_sync.specs.declared.delta.DeltaFault.{DeltaFault}
use Rattle.od_sync.specs.declared.delta.DeltaFault.TheVariants.{LinkFault, Unserved, Memory}

-- whether a request asks for changes
abbrev pub is_delta : Request → Bool
is_delta (Delta token) = true
is_delta request = false

-- whether a request for changes can carry a token
abbrev pub is_written_token : Option (List ℕ) → Bool
is_written_token None = true
is_written_token (Some text) = nat_lt 0 (length text) && list_all is_token_byte text

-- whether a step is a request of this client for changes, and whether it was answered
abbrev pub is_own_delta : Step → Bool
is_own_delta (Ask Own request served heard) = is_delta request
is_own_delta (Ask Other request served heard) = false
is_own_delta (Event event) = false

abbrev pub is_answered_delta : Step → Bool
is_answered_delta (Ask Own request true true) = is_delta request
is_answered_delta step = false

-- the page of a reply, where the reply is one to such a request
abbrev pub page_in : Reply → Option (Option Page)
page_in (reply.Page page) = Some (Some page)
page_in (reply.Refused status code) = Some None
page_in reply = None

-- the last request of this client that was heard, after an earlier one
abbrev pub heard_step : Option Step → Step → Option Step
heard_step last (Ask Own request served true) = Some (Ask Own request served true)
heard_step last (Ask Own request served false) = last
heard_step last (Ask Other request served heard) = last
heard_step last (Event event) = last

abbrev pub last_heard_after : Option Step → List Step → Option Step
last_heard_after last [] = last
last_heard_after last (step ∷ steps) = last_heard_after (heard_step last step) steps

-- a send without a page: it was not heard, or the drive lacked memory
abbrev pub IsSpent : Request → Request → Bool → Bool → Type 0
IsSpent request sent served heard = (sent ≡ request) × (heard ≡ true → served ≡ false)

-- so many sends at most without a page, to which there were so many replies
pub record Spent (request : Request) (sends replies : ℕ) (old : List Step) (after : Option (List Step)) : Type 0 where
  pub part : List Step
  pub such : OwnAre (IsSpent request) part
  pub sent : count_by is_own_delta part ≤ sends
  pub grown : after ≡ Some (old ++ part)
  pub last : 0 < replies → (before : Option Step) → last_heard_after before part ≡ Some (Ask Own request false true)
  pub none : replies ≡ 0 → (before : Option Step) → last_heard_after before part ≡ before

-- a page, after so many such sends at most: what the drive answered there
pub record PageHeard (sends : ℕ) (request : Request) (old : List Step) (after : Option (List Step)) (page : Page) : Type 0 where
  pub part : List Step
  pub such : OwnAre (IsSpent request) part
  pub sent : count_by is_own_delta part ≤ sends
  pub size : ℕ
  pub grown : after ≡ Some ((old ++ part) ++ Ask Own request true true ∷ [])
  pub plain : (state_of (old ++ part)).plain ≡ false
  pub page_is : reply.Page page ≡ answer_of (old ++ part) size request

-- the log where sends ended in no page because the drive lacked memory
pub record EndsUnserved (request : Request) (old : List Step) (after : Option (List Step)) : Type 0 where
  pub part : List Step
  pub grown : after ≡ Some (old ++ part)
  pub last : (before : Option Step) → last_heard_after before part ≡ Some (Ask Own request false true)

-- so many sends at most without a page that was taken: such sends, and then, where one may be lost, perhaps one that was answered
pub record Untaken (MayBeLost : Type 0) (request : Request) (sends : ℕ) (old : List Step) (after : Option (List Step)) : Type 0 where
  pub part : List Step
  pub such : OwnAre (IsSpent request) part
  pub lost : List Step
  pub lost_is : (lost ≡ []) ⊎ (MayBeLost × (lost ≡ Ask Own request true true ∷ []))
  pub sent : count_by is_own_delta (part ++ lost) ≤ sends
  pub grown : after ≡ Some (old ++ (part ++ lost))

pub record DeltaAsks (request : Request) (before after : Option (List Step)) (result : Result Page DeltaFault) : Type 0 where
  pub last_page : IfOk result (λ page. is_last_link page.link ≡ true)
  pub ok : IfOk result (λ page. (old : List Step) → before ≡ Some old → PageHeard 2 request old after page)
  pub unserved : IsErrOf result Unserved → (old : List Step) → before ≡ Some old → EndsUnserved request old after
  pub err : OnErr result ((old : List Step) → before ≡ Some old → Untaken (IsErrOf result Memory) request 3 old after)

-- the counts never fall, and each end has its cause
pub record HasDeltaCause (faults_before faults_now answers_before answers_now row_now : ℕ) (result : Result Page DeltaFault) : Type 0 where
  pub faults_later : faults_before ≤ faults_now
  pub answers_later : answers_before ≤ answers_now
  pub answered : OnOk result (Rose answers_before answers_now)
  pub failed : IsErrOf result LinkFault → RoseBy 3 faults_before faults_now
  pub in_row : IsErrOf result LinkFault → 3 ≤ row_now
  pub unserved : IsErrOf result Unserved → Rose answers_before answers_now
  pub together : IsErrOf result Unserved → (replies : ℕ) × (replies ≤ 3) × RoseBy replies answers_before answers_now × RoseBy (3 - replies) faults_before faults_now

-- one send
abbrev pub Sent : Request → List Step → Option (List Step) → Result Page ℕ → Type 0
Sent request old after (Ok page) = PageHeard 0 request old after page
Sent request old after (Err replies) = Spent request 1 replies old after

abbrev pub is_last_page : Result Page ℕ → Type 0
is_last_page (Ok page) = is_last_link page.link ≡ true
is_last_page (Err replies) = replies ≤ 1

-- an error is want of memory alone
pub record SendsOnce (request : Request) (before after : Option (List Step)) {E : Type 0} (result : Result (Result Page ℕ) E) : Type 0 where
  pub last_page : IfOk result is_last_page
  pub ok : IfOk result (λ sent. (old : List Step) → before ≡ Some old → Sent request old after sent)
  pub err : OnErr result ((old : List Step) → before ≡ Some old → Untaken (Unit {0}) request 1 old after)

-- so many sends without a page, with so many replies
pub record HasNoPage (sends replies faults_before faults_now answers_before answers_now row_before row_now : ℕ) : Type 0 where
  pub within : replies ≤ sends
  pub faults : RoseBy (sends - replies) faults_before faults_now
  pub answers : RoseBy replies answers_before answers_now
  pub in_row : replies ≡ 0 → RoseBy sends row_before row_now

abbrev pub SentCause : ℕ → ℕ → ℕ → ℕ → ℕ → ℕ → Result Page ℕ → Type 0
SentCause faults_before faults_now answers_before answers_now row_before row_now (Ok page) = Rose answers_before answers_now
SentCause faults_before faults_now answers_before answers_now row_before row_now (Err replies) =
    HasNoPage 1 replies faults_before faults_now answers_before answers_now row_before row_now

pub record HasSendCause (faults_before faults_now answers_before answers_now row_before row_now : ℕ) {E : Type 0} (result : Result (Result Page ℕ) E) : Type 0 where
  pub faults_later : faults_before ≤ faults_now
  pub answers_later : answers_before ≤ answers_now
  pub sent : IfOk result (SentCause faults_before faults_now answers_before answers_now row_before row_now)

-- requests for changes since a token, or for everything: three at most, of which one at most is answered; its answer is taken,
-- unless it may be lost
abbrev pub IsAskedWith : Option (List ℕ) → Request → Bool → Bool → Type 0
IsAskedWith token request served heard = request ≡ Delta token

pub record AskedDelta (MayBeLost : Type 0) (token : Option (List ℕ)) (old : List Step) (after : Option (List Step)) : Type 0 where
  pub part : List Step
  pub such : OwnAre (IsAskedWith token) part
  pub sent : count_by is_own_delta part ≤ 3
  pub answered : count_by is_answered_delta part ≤ 1
  pub chained : Chained MayBeLost token old part
  pub grown : after ≡ Some (old ++ part)

pub record AsksDelta (MayBeLost : Type 0) (token : Option (List ℕ)) (before after : Option (List Step)) : Type 0 where
  pub told : (old : List Step) → before ≡ Some old → AskedDelta MayBeLost token old after
