use Rattle.std.proofs.Common.{◌≤◌, length}
use Rattle.od_mirror.specs.Places.{AreFirstsFrom}
use Rattle.od_mirror.proofs.places.firsts_of.Given as goal

abbrev pub invariant-loop-at : goal.invariant-loop-at
invariant-loop-at l = record { low : l.at ≤ length l.items; firsts : AreFirstsFrom l.at l.items l.firsts.entries }

abbrev pub decreases-loop-at : goal.decreases-loop-at
decreases-loop-at l = l.at
