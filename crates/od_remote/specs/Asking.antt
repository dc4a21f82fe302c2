-- What a request does to the log of the drive that it is sent to, where that is told: others come before it, and then the
-- drive answers it, or it is lost on its way there or back.
use Rattle.std.specs.Prelude.{◌≡◌, ℕ, ◌≤◌, Bool, true, false, List, [], ◌∷◌, ◌++◌, count_by, Option, Some, None, Result, Ok, Err}
use Rattle.std.specs.List.{AllByRecursion}
use Rattle.gd_item.specs.Answers.{answer_served}
use Rattle.gd_item.specs.Steps.{state_of}
use Rattle.gd_item.specs.Written.{IsWritten}
use Rattle.gd_item.specs.declared.reply.Reply.{Reply}
use Rattle.gd_item.specs.declared.request.Request.{Request}
use Rattle.gd_item.specs.declared.step.Step.{Step}
use Rattle.gd_item.specs.declared.step.Step.TheVariants.{Ask, Event}
use Rattle.gd_item.specs.declared.step.Who.TheVariants.{Own, Other}
use Rattle.od_remote.specs.declared.remote.AskFault.{AskFault}
use Rattle.od_remote.specs.declared.remote.AskFault.TheVariants.{Failed, Bad, Memory}

-- whether requests of this client are such, of what is said of the request, whether it was served, and whether it was heard
abbrev pub IsSuch : (Request → Bool → Bool → Type 0) → Step → Type 0
IsSuch Such (Ask Own request served heard) = Such request served heard
IsSuch Such (Ask Other request served heard) = Unit {0}
IsSuch Such (Event event) = Unit {0}

abbrev pub OwnAre : (Request → Bool → Bool → Type 0) → List Step → Type 0
OwnAre Such steps = AllByRecursion (IsSuch Such) steps

-- no request is one of this client
abbrev pub Never : Request → Bool → Bool → Type 0
Never request served heard = ⊥

abbrev pub ByOthers : List Step → Type 0
ByOthers steps = OwnAre Never steps

-- how many requests of this client there are
abbrev pub is_own_request : Step → Bool
is_own_request (Ask Own request served heard) = true
is_own_request (Ask Other request served heard) = false
is_own_request (Event event) = false

abbrev pub own_requests : List Step → ℕ
own_requests steps = count_by is_own_request steps

-- a request comes to the drive as itself where it has a written form, and may else come as another
abbrev pub IsSentAs : Request → Request → Type 0
IsSentAs request sent = IsWritten request → sent ≡ request

-- a request as it came to the drive, and how many items a reply has there at most
pub record Sent : Type 0 where
  pub size : ℕ
  pub request : Request
  pub served : Bool
  pub heard : Bool

abbrev pub sent_steps : Option Sent → List Step
sent_steps None = []
sent_steps (Some sent) = Ask Own sent.request sent.served sent.heard ∷ []

pub record IsSend (request : Request) (sent : Sent) : Type 0 where
  pub sent_as : IsSentAs request sent.request
  pub least : 1 ≤ sent.size
  pub most : sent.size ≤ 200

-- it was heard, and the reply is what the drive answers after this log
pub record Answers (request : Request) (sent : Sent) (log : List Step) (reply : Reply) : Type 0 where
  pub send : IsSend request sent
  pub heard : sent.heard ≡ true
  pub reply_is : reply ≡ answer_served sent.served (state_of log) sent.size sent.request

-- it was not heard
pub record Unheard (request : Request) (sent : Sent) : Type 0 where
  pub send : IsSend request sent
  pub heard : sent.heard ≡ false

-- bytes came that are no reply of its kind: it came as another
pub record Mistaken (request : Request) (sent : Sent) : Type 0 where
  pub send : IsSend request sent
  pub heard : sent.heard ≡ true
  pub unwritten : IsWritten request → ⊥

-- a request after a log, by cases on what comes of it and whether it came to the drive
abbrev pub DoesAsk : Request → Result Reply AskFault → List Step → Option Sent → Type 0
DoesAsk request (Ok reply) log None = ⊥
DoesAsk request (Ok reply) log (Some sent) = Answers request sent log reply
DoesAsk request (Err Failed) log None = Unit {0}
DoesAsk request (Err Failed) log (Some sent) = Unheard request sent
DoesAsk request (Err (Bad bytes)) log None = ⊥
DoesAsk request (Err (Bad bytes)) log (Some sent) = Mistaken request sent
DoesAsk request (Err Memory) log None = Unit {0}
DoesAsk request (Err Memory) log (Some sent) = IsSend request sent

-- what a request does to a log
pub record Asked (request : Request) (result : Result Reply AskFault) (old : List Step) (after : Option (List Step)) : Type 0 where
  pub others : List Step
  pub by_others : ByOthers others
  pub own : Option Sent
  pub grown : after ≡ Some ((old ++ others) ++ sent_steps own)
  pub does : DoesAsk request result (old ++ others) own

pub record Asks (request : Request) (result : Result Reply AskFault) (before after : Option (List Step)) : Type 0 where
  pub told : (old : List Step) → before ≡ Some old → Asked request result old after
