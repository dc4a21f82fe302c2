use Rattle.std.proofs.Common.{length}
use Rattle.od_synclist.proofs.Bad.{NoneBad}
use Rattle.od_synclist.proofs.rules.first_bad.Given as goal

abbrev pub invariant-loop-rest : goal.invariant-loop-rest
invariant-loop-rest l = NoneBad l.bytes l.rest l.number l.rules

abbrev pub decreases-loop-rest : goal.decreases-loop-rest
decreases-loop-rest l = length l.rest
