use Rattle.od_outside.specs.Running.{Free, Runs, Stays}
use Rattle.od_pull.specs.Digests.{AreLearned, HaveNumbers}
use Rattle.od_pull.proofs.learning.learn_digests.Given as goal

-- what was learned so far is right
abbrev pub invariant-loop-file : goal.invariant-loop-file
invariant-loop-file g l = Runs g.O.Outside.seen (HaveNumbers l.fn.bare) Stays (AreLearned l.fn.bare l.learned) Free l.fn.outside l.outside
