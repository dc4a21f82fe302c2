use Rattle.od_outside.specs.Running.{Runs}
use Rattle.od_pull.specs.Parts.{AsksNext, IsUnderway, Underway}
use Rattle.od_pull.proofs.Taking.{Answered}
use Rattle.od_pull.proofs.pulling.take_answers.Given as goal

-- as many answers as were taken in have come
abbrev pub invariant-loop-taken : goal.invariant-loop-taken
invariant-loop-taken g l = Runs g.O.Outside.seen (AsksNext l.fn.mirror.token) (IsUnderway l.mirror) (Underway l.fn.mirror l.mirror) (Answered l._taken) l.fn.outside l.outside
