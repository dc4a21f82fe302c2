use Rattle.std.proofs.Common.{arith}
use Rattle.od_remote.proofs.Repeats.{asked-then, lost-more, tried-more}
use Rattle.od_remote.proofs.again.ask_again.Goals as goal

pub loop-sent-preserved : goal.loop-sent-preserved
loop-sent-preserved g c = record {
  goes = g.met.R.Remote.goes_trans _ _ _ c.loop-sent.invariant.goes c.in-Err-Failed.ensures.goes;
  lost = lost-more c.loop-sent.invariant.lost (rw c.in-Err-Failed.field-0-is at c.in-Err-Failed.ensures.cause);
  log = λ old is. tried-more _ _ old _ _ (c.loop-sent.invariant.log old is) (λ now told. (rw c.in-Err-Failed.field-0-is at c.in-Err-Failed.ensures.log).told now told);
}

pub returns-in-Ok-clause-log : goal.returns-in-Ok-clause-log
returns-in-Ok-clause-log g c = asked-then c.loop-sent.invariant.log c.in-Ok.ensures.log (omega arith)

pub returns-in-Err-Bad-clause-log : goal.returns-in-Err-Bad-clause-log
returns-in-Err-Bad-clause-log g c = asked-then c.loop-sent.invariant.log (rw c.in-Err-Bad.field-0-is at c.in-Err-Bad.ensures.log) (omega arith)

pub returns-in-Err-Memory-clause-log : goal.returns-in-Err-Memory-clause-log
returns-in-Err-Memory-clause-log g c = asked-then c.loop-sent.invariant.log (rw c.in-Err-Memory.field-0-is at c.in-Err-Memory.ensures.log) (omega arith)

pub returns-clause-log : goal.returns-clause-log
returns-clause-log g c = asked-then c.loop-sent.invariant.log c.ask-2.ensures.log (omega arith)
