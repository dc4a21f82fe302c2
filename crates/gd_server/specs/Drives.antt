-- How a drive, its log, and a drive that many share go on by requests.
use Rattle.std.specs.Prelude.{◌≡◌, ℕ, Bool, List, [], ◌∷◌, ◌++◌}
use Rattle.gd_api.specs.Drives.{DriveValue, IsPageSize, Stands, Handles}
use Rattle.gd_item.specs.Answers.{answer_served}
use Rattle.gd_item.specs.Steps.{state_of}
use Rattle.gd_item.specs.declared.reply.Reply.{Reply}
use Rattle.gd_item.specs.declared.request.Request.{Request}
use Rattle.gd_item.specs.declared.step.Step.{Step}
use Rattle.gd_item.specs.declared.step.Step.TheVariants.{Ask}
use Rattle.gd_item.specs.declared.step.Who.{Who}

-- A log has one step more, and the reply is that of a drive with this log, or that memory is wanting. Who asks, and which
-- replies are heard, is free: heard tells it of the reply to a step behind each log.
pub record Logs (who : Who) (heard : List Step → Bool) (size : ℕ) (before after : List Step) (request : Request) (reply : Reply) : Type 0 where
  pub served : Bool
  pub step : after ≡ before ++ Ask who request served (heard before) ∷ []
  pub replied : reply ≡ answer_served served (state_of before) size request

-- a drive answered a request
pub record Asks (before after : DriveValue) (request : Request) (reply : Reply) : Type 0 where
  pub size : after.size ≡ before.size
  pub handles : (log : List Step) → Stands before log → Handles before after log request reply

-- there is a log that the drive stands for
pub record HasLog (drive : DriveValue) : Type 0 where
  pub log : List Step
  pub stands : Stands drive log

-- the reply is that of a drive at the end of some log
pub record IsAnswer (request : Request) (reply : Reply) : Type 0 where
  pub log : List Step
  pub size : ℕ
  pub fits : IsPageSize size
  pub served : Bool
  pub replied : reply ≡ answer_served served (state_of log) size request

-- Of a drive that others ask as well nothing is said of its state: each reply is that of a drive at some moment.
abbrev pub Shares : Unit {0} → Unit {0} → Request → Reply → Type 0
Shares before after request reply = ∥ IsAnswer request reply ∥₁
