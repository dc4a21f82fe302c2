-- Requests in the world.
use Rattle.std.specs.Prelude.{◌≡◌, ℕ, ◌≤◌, Bool, List, Option, Some, None, Result, Ok, Err, IsErrOf}
use Rattle.std.specs.List.{AllByRecursion}
use Rattle.std.specs.Option.{option_map}
use Rattle.gd_item.specs.declared.reply.Reply.{Reply}
use Rattle.gd_item.specs.declared.request.Request.{Request}
use Rattle.gd_item.specs.declared.step.Step.TheVariants as step
use Rattle.gd_item.specs.declared.step.Who.TheVariants.{Own}
use Rattle.od_outside.specs.Seeing.{Counts}
use Rattle.od_remote.specs.Again.{EndsUnserved, HasAgainCause, HasServeCause, IsSpent, IsUnheard}
use Rattle.od_remote.specs.Asking.{DoesAsk, IsSuch, Sent, own_requests}
use Rattle.od_remote.specs.Counting.{HasAskCause, Reading}
use Rattle.od_remote.specs.declared.again.ServeFault.{ServeFault}
use Rattle.od_remote.specs.declared.again.ServeFault.TheVariants as serve
use Rattle.od_remote.specs.declared.remote.AskFault.{AskFault}
use Rattle.od_remote.specs.declared.remote.AskFault.TheVariants.{Failed, Bad, Memory}
use Rattle.od_run.specs.Worlds.{World, Event, Asked, Worked, Kept, steps_in}
use Rattle.od_tree.specs.declared.step.LocalStep.TheVariants.{User, Op}

-- a request as an event, with the page size that the drive had then
abbrev pub sent_event : Sent → Event
sent_event sent = Asked sent.size (step.Ask Own sent.request sent.served sent.heard)

pub record DoesAsked (request : Request) (result : Result Reply AskFault) (w : World) (own : Option Event) : Type 0 where
  pub sent : Option Sent
  pub own_is : own ≡ option_map sent_event sent
  pub does : DoesAsk request result w.drive sent

-- events of others, and requests of this client that are such
abbrev pub IsSuchEvent : (Request → Bool → Bool → Type 0) → Event → Type 0
IsSuchEvent Such (Asked size step) = (1 ≤ size) × (size ≤ 200) × IsSuch Such step
IsSuchEvent Such (Worked (User edit)) = Unit {0}
IsSuchEvent Such (Worked (Op call)) = ⊥
IsSuchEvent Such (Kept image) = ⊥

abbrev pub AreSuch : (Request → Bool → Bool → Type 0) → List Event → Type 0
AreSuch Such events = AllByRecursion (IsSuchEvent Such) events

-- two sends at most that were not heard
pub record AreUnheard (request : Request) (events : List Event) : Type 0 where
  pub such : AreSuch (IsUnheard request) events
  pub few : own_requests (steps_in events) ≤ 2

-- sends to which the drive answered that it lacks memory, or that were not heard: three at most, and two where one more follows
abbrev pub most_spent : Result Reply ServeFault → ℕ
most_spent (Ok reply) = 2
most_spent (Err serve.Failed) = 3
most_spent (Err serve.Unserved) = 3
most_spent (Err (serve.Bad bytes)) = 2
most_spent (Err serve.Memory) = 2

pub record AreSpent (request : Request) (result : Result Reply ServeFault) (events : List Event) : Type 0 where
  pub such : AreSuch (IsSpent request) events
  pub few : own_requests (steps_in events) ≤ most_spent result
  pub last : IsErrOf result serve.Unserved → EndsUnserved request (steps_in events)

abbrev pub DoesServeBy : Request → Result Reply ServeFault → World → Option Event → Type 0
DoesServeBy request (Ok reply) w own = DoesAsked request (Ok reply) w own
DoesServeBy request (Err serve.Failed) w own = own ≡ None
DoesServeBy request (Err serve.Unserved) w own = own ≡ None
DoesServeBy request (Err (serve.Bad bytes)) w own = DoesAsked request (Err (Bad bytes)) w own
DoesServeBy request (Err serve.Memory) w own = DoesAsked request (Err Memory) w own

pub record DoesServed (request : Request) (result : Result Reply ServeFault) (w : World) (own : Option Event) : Type 0 where
  pub is : DoesServeBy request result w own

-- what is counted then
abbrev pub AskCause : Request → Result Reply AskFault → Reading → Counts → Counts → Type 0
AskCause request result reads before now = HasAskCause reads request result before.link now.link

abbrev pub AgainCause : Request → Result Reply AskFault → Reading → Counts → Counts → Type 0
AgainCause request result reads before now = HasAgainCause reads request result before.link now.link

abbrev pub ServeCause : Request → Result Reply ServeFault → Reading → Counts → Counts → Type 0
ServeCause request result reads before now = HasServeCause reads request result before.link now.link
