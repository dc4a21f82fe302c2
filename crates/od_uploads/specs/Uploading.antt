-- What the client puts on the drive.
use Rattle.std.specs.Prelude.{ℕ, List, [], ◌∷◌, ◌++◌}
use Rattle.std.specs.List.{AllByRecursion, Contains}
use Rattle.gd_item.specs.Inventory.{Effect, MadeFolder, PutNew, PutOver, Moved, Removed}
use Rattle.gd_item.specs.Steps.{effects_by, state_of}
use Rattle.gd_item.specs.declared.request.Address.{Address}
use Rattle.gd_item.specs.declared.request.Request.TheVariants.{Put, OpenSession, Delta}
use Rattle.gd_item.specs.declared.step.Step.{Step}
use Rattle.gd_item.specs.declared.step.Step.TheVariants as step
use Rattle.gd_item.specs.declared.step.Who.TheVariants.{Own, Other}
use Rattle.od_run.specs.Knowing.{Path}

-- bytes that were read at a path
abbrev pub IsReading : List (Path × List ℕ) → List ℕ → Type 0
IsReading readings bytes = (path : Path) × Contains readings (path, bytes)

-- a put has the bytes of a reading
abbrev pub PutsReading : List (Path × List ℕ) → Effect → Type 0
PutsReading readings (MadeFolder parent name) = Unit {0}
PutsReading readings (PutNew parent name bytes) = IsReading readings bytes
PutsReading readings (PutOver number bytes) = IsReading readings bytes
PutsReading readings (Moved number parent name) = Unit {0}
PutsReading readings (Removed number) = Unit {0}

-- each put of this client does, in the steps after a drive's log
abbrev pub OwnPutsReading : List (Path × List ℕ) → List Step → Step → Type 0
OwnPutsReading readings drive (step.Ask Own request served is_heard) = AllByRecursion (PutsReading readings) (effects_by (state_of drive) (step.Ask Own request served is_heard))
OwnPutsReading readings drive (step.Ask Other request served is_heard) = Unit {0}
OwnPutsReading readings drive (step.Event event) = Unit {0}

abbrev pub UploadsReadings : List (Path × List ℕ) → List Step → List Step → Type 0
UploadsReadings readings drive [] = Unit {0}
UploadsReadings readings drive (step ∷ steps) = OwnPutsReading readings drive step × UploadsReadings readings (drive ++ step ∷ []) steps

-- where this client sends files, since it asked for changes last: to an item, or to a name in a folder
abbrev pub sent_to : List Address → Step → List Address
sent_to places (step.Ask Own (Put at bytes behaviour condition) served is_heard) = at ∷ places
sent_to places (step.Ask Own (OpenSession at name behaviour condition defer) served is_heard) = at ∷ places
sent_to places (step.Ask Own (Delta token) served is_heard) = []
sent_to places other = places

-- it has not sent one there yet
abbrev pub IsSentOnce : List Address → Step → Type 0
IsSentOnce places (step.Ask Own (Put at bytes behaviour condition) served is_heard) = Contains places at → ⊥
IsSentOnce places (step.Ask Own (OpenSession at name behaviour condition defer) served is_heard) = Contains places at → ⊥
IsSentOnce places other = Unit {0}

abbrev pub SendsOnce : List Address → List Step → Type 0
SendsOnce places [] = Unit {0}
SendsOnce places (step ∷ steps) = IsSentOnce places step × SendsOnce (sent_to places step) steps
