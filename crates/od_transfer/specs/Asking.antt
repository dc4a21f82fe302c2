-- What a request does to the log of the drive that it is sent to, where that is told: others come before it, and then the
-- drive answers it, or it is lost on its way there or back.
use Rattle.std.specs.Prelude.{◌≡◌, ◌⊎◌, ℕ, ◌+◌, ◌-◌, ◌^◌, ◌≤◌, min, Bool, true, false, ◌&&◌, ◌||◌, nat_eq, count_by, List, [], ◌∷◌, ◌++◌, Option, Some, Result, IfOk, OnOk, IsErrOf}
use Rattle.std.specs.List.{AllByRecursion}
use Rattle.gd_names.specs.Streams.{Rose}
use Rattle.gd_item.specs.Answers.{answer_served}
use Rattle.gd_item.specs.Replies.{has_status}
use Rattle.gd_item.specs.Steps.{state_of}
use Rattle.gd_item.specs.Written.{IsWritten}
use Rattle.gd_item.specs.declared.reply.PageLink.{PageLink}
use Rattle.gd_item.specs.declared.reply.PageLink.TheVariants as link
use Rattle.gd_item.specs.declared.reply.Reply.{Reply}
use Rattle.gd_item.specs.declared.reply.Reply.TheVariants as reply
use Rattle.gd_item.specs.declared.request.Request.{Request}
use Rattle.gd_item.specs.declared.request.Request.TheVariants.{Content, Download, Delta}
use Rattle.gd_item.specs.declared.step.Step.{Step}
use Rattle.gd_item.specs.declared.step.Step.TheVariants.{Ask, Event}
use Rattle.gd_item.specs.declared.step.Who.TheVariants.{Own, Other}
use Rattle.od_transfer.specs.declared.remote.AskFault.{AskFault}
use Rattle.od_transfer.specs.declared.remote.AskFault.TheVariants.{Failed, Memory}

-- whether requests of this client are such, of what is said of the request, whether it was served, and whether it was heard
abbrev pub IsSuch : (Request → Bool → Bool → Type 0) → Step → Type 0
IsSuch Such (Ask Own request served heard) = Such request served heard
IsSuch Such (Ask Other request served heard) = Unit {0}
IsSuch Such (Event event) = Unit {0}

abbrev pub OwnAre : (Request → Bool → Bool → Type 0) → List Step → Type 0
OwnAre Such steps = AllByRecursion (IsSuch Such) steps

-- no request is one of this client
abbrev pub Never : Request → Bool → Bool → Type 0
Never request served heard = ⊥

abbrev pub ByOthers : List Step → Type 0
ByOthers steps = OwnAre Never steps

-- how many requests of this client there are
abbrev pub is_own_request : Step → Bool
is_own_request (Ask Own request served heard) = true
is_own_request (Ask Other request served heard) = false
is_own_request (Event event) = false

abbrev pub own_requests : List Step → ℕ
own_requests steps = count_by is_own_request steps

-- the log grows by steps of others, and by requests of this client that are such
pub record Grown (Such : Request → Bool → Bool → Type 0) (old : List Step) (after : Option (List Step)) : Type 0 where
  pub part : List Step
  pub such : OwnAre Such part
  pub grown : after ≡ Some (old ++ part)

pub record Grows (Such : Request → Bool → Bool → Type 0) (before after : Option (List Step)) : Type 0 where
  pub told : (old : List Step) → before ≡ Some old → Grown Such old after

-- a request comes to the drive as itself where it has a written form, and may else come as another
abbrev pub IsSentAs : Request → Request → Type 0
IsSentAs request sent = IsWritten request → sent ≡ request

-- what a drive answers that may lack memory
abbrev pub given : Bool → List Step → ℕ → Request → Reply
given served log size request = answer_served served (state_of log) size request

-- how many items a reply has at most: from 1 to 200. In this stage changes come in one page, however many there are
abbrev pub IsPageSize : Request → ℕ → Type 0
IsPageSize (Delta token) size = 1 ≤ size
IsPageSize request size = (1 ≤ size) × (size ≤ 200)

-- a reply is the drive's, at a log, to what a request came as. The drive is not plain: no told drive is made so as long as
-- clients learn no digests
pub record Answers (request sent : Request) (served : Bool) (log : List Step) (reply : Reply) : Type 0 where
  pub sent_as : IsSentAs request sent
  pub size : ℕ
  pub page_size : IsPageSize sent size
  pub not_plain : (state_of log).plain ≡ false
  pub reply_is : reply ≡ given served log size sent

-- a request that was heard, after such steps: what the drive answered there
pub record Heard (Before : List Step → Type 0) (request : Request) (old : List Step) (after : Option (List Step)) (reply : Reply) : Type 0 where
  pub part : List Step
  pub such : Before part
  pub sent : Request
  pub served : Bool
  pub grown : after ≡ Some ((old ++ part) ++ Ask Own sent served true ∷ [])
  pub answers : Answers request sent served (old ++ part) reply

-- a request stands last in the log
pub record StandsLast (request : Request) (heard : Bool) (log : List Step) (after : Option (List Step)) : Type 0 where
  pub sent : Request
  pub sent_as : IsSentAs request sent
  pub served : Bool
  pub grown : after ≡ Some (log ++ Ask Own sent served heard ∷ [])

-- a request that was not heard stands in the log or does not
pub record Unheard (request : Request) (old : List Step) (after : Option (List Step)) : Type 0 where
  pub others : List Step
  pub by_others : ByOthers others
  pub grown : (after ≡ Some (old ++ others)) ⊎ StandsLast request false (old ++ others) after

-- memory was wanting: after such steps the request stands in the log, heard or not, or does not
pub record Abandoned (Before : List Step → Type 0) (request : Request) (old : List Step) (after : Option (List Step)) : Type 0 where
  pub part : List Step
  pub such : Before part
  pub grown : (after ≡ Some (old ++ part)) ⊎ ((heard : Bool) × StandsLast request heard (old ++ part) after)

-- what a request does to the log where it is told
pub record Asks (request : Request) (before after : Option (List Step)) (result : Result Reply AskFault) : Type 0 where
  pub ok : IfOk result (λ reply. (old : List Step) → before ≡ Some old → Heard ByOthers request old after reply)
  pub failed : IsErrOf result Failed → (old : List Step) → before ≡ Some old → Unheard request old after
  pub memory : IsErrOf result Memory → (old : List Step) → before ≡ Some old → Abandoned ByOthers request old after

-- steps of others, and so many sends at most of a request that was not heard
abbrev pub IsUnheard : Request → Request → Bool → Bool → Type 0
IsUnheard request sent served heard = IsSentAs request sent × (heard ≡ false)

pub record Tries (most : ℕ) (request : Request) (part : List Step) : Type 0 where
  pub such : OwnAre (IsUnheard request) part
  pub few : own_requests part ≤ most

pub record Tried (most : ℕ) (request : Request) (old : List Step) (after : Option (List Step)) : Type 0 where
  pub part : List Step
  pub tries : Tries most request part
  pub grown : after ≡ Some (old ++ part)

-- the same of a request that is sent again as long as it is not heard, so many times at most
pub record AsksAgain (again : ℕ) (request : Request) (before after : Option (List Step)) (result : Result Reply AskFault) : Type 0 where
  pub ok : IfOk result (λ reply. (old : List Step) → before ≡ Some old → Heard (Tries again request) request old after reply)
  pub failed : IsErrOf result Failed → (old : List Step) → before ≡ Some old → Tried (again + 1) request old after
  pub memory : IsErrOf result Memory → (old : List Step) → before ≡ Some old → Abandoned (Tries again request) request old after

-- whether a page is the last one
abbrev pub is_last_link : PageLink → Bool
is_last_link (link.Next token) = false
is_last_link (link.Delta token) = true

-- whether a reply may come to a Delta: a last page, or that the drive lacks memory
abbrev pub may_answer_delta : Reply → Bool
may_answer_delta (reply.Page page) = is_last_link page.link
may_answer_delta (reply.Refused status code) = nat_eq status 503 && has_status code status
may_answer_delta reply = false

-- whether a reply may come to a Content: where the bytes are to be had, or a refusal
abbrev pub may_answer_content : Reply → Bool
may_answer_content (reply.Found id version) = true
may_answer_content (reply.Refused status code) = has_status code status
may_answer_content reply = false

-- whether a reply may come to a Download: the bytes, or a refusal
abbrev pub may_answer_download : Reply → Bool
may_answer_download (reply.Content bytes) = true
may_answer_download (reply.Refused status code) = has_status code status
may_answer_download reply = false

-- whether a reply may come to a request, of which one of another kind than these three may have any
abbrev pub may_answer : Request → Reply → Bool
may_answer (Content at) reply = may_answer_content reply
may_answer (Download id version) reply = may_answer_download reply
may_answer (Delta token) reply = may_answer_delta reply
may_answer request reply = true

-- a count has risen by so many, or stands at the last value of a u64
abbrev pub RoseBy : ℕ → ℕ → ℕ → Type 0
RoseBy by before now = min (before + by) (2 ^ 64 - 1) ≤ now

-- the counts never fall. A failure raises that of faults and the row, and a reply that of answers, and ends the row
pub record HasAskCause (faults_before faults_now answers_before answers_now row_before row_now : ℕ) (result : Result Reply AskFault) : Type 0 where
  pub faults_later : faults_before ≤ faults_now
  pub answers_later : answers_before ≤ answers_now
  pub failed : IsErrOf result Failed → Rose faults_before faults_now
  pub answered : OnOk result (Rose answers_before answers_now)
  pub row_ended : OnOk result (row_now ≡ 0)
  pub row_rose : IsErrOf result Failed → row_now ≡ min (row_before + 1) (2 ^ 64 - 1)

-- the same of a request that was sent up to so many times, as long as no reply came
pub record HasCauseBy (times faults_before faults_now answers_before answers_now row_before row_now : ℕ) (result : Result Reply AskFault) : Type 0 where
  pub faults_later : faults_before ≤ faults_now
  pub answers_later : answers_before ≤ answers_now
  pub failed : IsErrOf result Failed → RoseBy times faults_before faults_now
  pub answered : OnOk result (Rose answers_before answers_now)
  pub row_rose : IsErrOf result Failed → RoseBy times row_before row_now
