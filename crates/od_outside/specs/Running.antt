-- One clause for each function over an outside.
use Rattle.std.specs.Prelude.{◌≡◌, List, Option, Some}
use Rattle.od_keeper.specs.Keeping.{last_image}
use Rattle.od_outside.specs.Seeing.{Counts, Seen}
use Rattle.od_remote.specs.Counting.{Reading}
use Rattle.od_run.specs.Acting.{LegalFrom}
use Rattle.od_run.specs.Good.{Good}
use Rattle.od_run.specs.Knowing.{Known, learned}
use Rattle.od_run.specs.Worlds.{World, Event, now}

-- what the client knows in a world is good, and its image is the one that was committed last
pub record IsKnown (w : World) (k : Known) : Type 0 where
  pub good : Good w k
  pub last : k.image ≡ last_image w.images

-- a run from a world and what is known there: legal events, after which this is known, and of which this is a fact there
pub record Ran (w : World) (k : Known) (After : Known → Known → Type 0) (Fact : World → Known → List Event → Type 0) (after : Option World) : Type 0 where
  pub more : List Event
  pub at : after ≡ Some (now w more)
  pub legal : LegalFrom w k more
  pub knows : After k (learned w k more)
  pub fact : Fact w k more

-- the outside goes on, its end has its cause, and where the world is told and this is known before, there is a run
pub record Runs {S : Type 0} (o : Seen S) (Before : Known → Type 0) (After : Known → Known → Type 0) (Fact : World → Known → List Event → Type 0) (Cause : Reading → Counts → Counts → Type 0) (old new : S) : Type 0 where
  pub goes_on : o.goes old new
  pub cause : Cause (o.reads old) (o.counts old) (o.counts new)
  pub told : (w : World) (k : Known) → o.world old ≡ Some w → IsKnown w k → Before k → Ran w k After Fact (o.world new)

-- what is known stays
abbrev pub Stays : Known → Known → Type 0
Stays k next = next ≡ k

-- this is known then
abbrev pub To : (Known → Type 0) → Known → Known → Type 0
To P k next = P next

-- nothing is said of the events, and nothing of the counts
abbrev pub Any : World → Known → List Event → Type 0
Any w k events = Unit {0}

abbrev pub Free : Reading → Counts → Counts → Type 0
Free reads before now = Unit {0}
