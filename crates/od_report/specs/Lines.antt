-- The lines that tell events to people: what was done and where, the drive's part marked as such.
use Rattle.std.specs.Prelude.{◌≡◌, ℕ, Bool, true, false, List, ◌++◌, take, codes, Option, Some, Result, OnOk, OnErr}
use Rattle.gd_names.specs.Paths.{path_text}
use Rattle.gd_names.specs.Streams.{Rose}
use Rattle.gd_names.specs.declared.memory.NoMemory.{NoMemory}
use Rattle.od_report.specs.declared.event.Event.{Event}
use Rattle.od_report.specs.declared.event.Event.TheVariants.{MadeHere, RemovedHere, PlacedHere, CopiedHere, BackHere, MadeThere, RemovedThere, SentThere}

abbrev pub line_of : Event → List ℕ
line_of (MadeHere path) = codes "made " ++ path_text path ++ codes "\n"
line_of (RemovedHere path) = codes "removed " ++ path_text path ++ codes "\n"
line_of (PlacedHere path) = codes "placed " ++ path_text path ++ codes "\n"
line_of (CopiedHere from to) = codes "copied " ++ path_text from ++ codes " " ++ path_text to ++ codes "\n"
line_of (BackHere path) = codes "back " ++ path_text path ++ codes "\n"
line_of (MadeThere path) = codes "made on drive " ++ path_text path ++ codes "\n"
line_of (RemovedThere path) = codes "removed on drive " ++ path_text path ++ codes "\n"
line_of (SentThere path) = codes "sent " ++ path_text path ++ codes "\n"

-- what a write of a line does: where it was not refused the whole line went out; a refusal makes silent, a first part of
-- the line went out, and it is told only where memory was wanting, else the sink failed
pub record Writes (line : List ℕ) (silent : Bool) (before after : Option (List ℕ)) (faults_before faults_after : ℕ) (result : Result (Unit {0}) NoMemory) : Type 0 where
  pub whole : silent ≡ false → OnOk result ((old : List ℕ) → before ≡ Some old → after ≡ Some (old ++ line))
  pub part : silent ≡ true → (old : List ℕ) → before ≡ Some old → (n : ℕ) × (after ≡ Some (old ++ take n line))
  pub failed : silent ≡ true → OnOk result (Rose faults_before faults_after)
  pub wanting : OnErr result (silent ≡ true)

-- what an event does to what was written: its line goes out as above; for want of memory for the line nothing does; and
-- once silent nothing goes out any more
pub record Shows (line : List ℕ) (was is : Bool) (before after : Option (List ℕ)) (faults_before faults_after : ℕ) (result : Result (Unit {0}) NoMemory) : Type 0 where
  pub whole : was ≡ false → is ≡ false → OnOk result ((old : List ℕ) → before ≡ Some old → after ≡ Some (old ++ line))
  pub wanting : was ≡ false → is ≡ false → OnErr result (after ≡ before)
  pub part : was ≡ false → is ≡ true → (old : List ℕ) → before ≡ Some old → (n : ℕ) × (after ≡ Some (old ++ take n line))
  pub failed : was ≡ false → is ≡ true → OnOk result (Rose faults_before faults_after)
  pub silent : was ≡ true → (is ≡ true) × (after ≡ before)
