use Rattle.std.proofs.Common.{◌≤◌, length}
use Rattle.od_mirror.specs.Places.{ArePlacesFrom}
use Rattle.od_mirror.proofs.places.places_of.Given as goal

abbrev pub invariant-loop-at : goal.invariant-loop-at
invariant-loop-at l = record { low : l.at ≤ length l.items; places : ArePlacesFrom l.at l.items l.places.entries }

abbrev pub decreases-loop-at : goal.decreases-loop-at
decreases-loop-at l = l.at
