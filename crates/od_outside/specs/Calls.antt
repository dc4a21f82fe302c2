-- What a call brings about, where the world is told: others' events come first, and then the call's own event, if it has one.
use Rattle.std.specs.Prelude.{◌≡◌, List, [], ◌∷◌, ◌++◌, Option, Some, None}
use Rattle.std.specs.List.{AllByRecursion}
use Rattle.od_outside.specs.Seeing.{Counts, Seen}
use Rattle.od_remote.specs.Counting.{Reading}
use Rattle.od_run.specs.Worlds.{World, Event, IsOther, now}

abbrev pub AreOthers : List Event → Type 0
AreOthers events = AllByRecursion IsOther events

abbrev pub own_events : Option Event → List Event
own_events None = []
own_events (Some event) = event ∷ []

-- a first part of the events is such, and then comes the call's own event or none, of which this is said in the world there
pub record Happened (IsPart : List Event → Type 0) (Does : World → Option Event → Type 0) (w : World) (after : Option World) : Type 0 where
  pub part : List Event
  pub is_part : IsPart part
  pub own : Option Event
  pub at : after ≡ Some (now w (part ++ own_events own))
  pub does : Does (now w part) own

-- a call: the outside goes on, its end has its cause, and the world, where it is told, has more at its ends
pub record Calls {S : Type 0} (o : Seen S) (IsPart : List Event → Type 0) (Does : World → Option Event → Type 0) (Cause : Reading → Counts → Counts → Type 0) (old new : S) : Type 0 where
  pub goes_on : o.goes old new
  pub cause : Cause (o.reads old) (o.counts old) (o.counts new)
  pub told : (w : World) → o.world old ≡ Some w → Happened IsPart Does w (o.world new)
