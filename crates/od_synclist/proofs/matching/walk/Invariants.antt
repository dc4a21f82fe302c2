use Rattle.std.proofs.Common.{length}
use Rattle.od_synclist.specs.Walked.{Walks}
use Rattle.od_synclist.proofs.matching.walk.Given as goal

abbrev pub invariant-loop-part : goal.invariant-loop-part
invariant-loop-part g l = Walks g.P.Part.is_run g.P.Part.takes l.parts l.items l.part l.left

abbrev pub decreases-loop-part : goal.decreases-loop-part
decreases-loop-part g l = length l.part
