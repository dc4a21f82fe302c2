use Rattle.std.proofs.Common.{arith}
use Rattle.od_remote.proofs.Unserved.{all-failed, all-unserved, spent-as, spent-more, spent-no-tries, spent-none, spent-then, then-asked, tries-more}
use Rattle.od_remote.proofs.again.ask_until_served.Goals as goal

pub loop-sent-init : goal.loop-sent-init
loop-sent-init g c = record { goes = g.met.R.Remote.goes_refl _; spent = spent-none; log = λ old is. spent-no-tries is }

pub loop-sent-preserved : goal.loop-sent-preserved
loop-sent-preserved g c =
    let same = g.met.R.Remote.goes_reads _ _ c.loop-sent.invariant.goes in
    let one = spent-as same (rw c.in-Ok-Err.field-0-is at c.in-Ok-Err.ensures.cause) in
    record {
      goes = g.met.R.Remote.goes_trans _ _ _ c.loop-sent.invariant.goes c.in-Ok-Err.ensures.goes;
      spent = spent-more c.loop-sent.invariant.spent one;
      log = λ old is. tries-more (c.loop-sent.invariant.log old is) (λ now told. (rw c.in-Ok-Err.field-0-is at c.in-Ok-Err.ensures.log).told now told) one.within;
    }

pub returns-in-Ok-Ok-clause-log : goal.returns-in-Ok-Ok-clause-log
returns-in-Ok-Ok-clause-log g c = record {
  told = λ old is. then-asked (c.loop-sent.invariant.log old is) (λ now told. (rw c.in-Ok-Ok.field-0-is at c.in-Ok-Ok.ensures.log).told now told) (omega arith);
}

pub returns-in-Err-Failed : goal.returns-in-Err-Failed
returns-in-Err-Failed g c = absurd (rw c.in-Err-Failed.field-0-is at c.in-Err-Failed.ensures.cause)

pub returns-in-Err-Bad-clause-log : goal.returns-in-Err-Bad-clause-log
returns-in-Err-Bad-clause-log g c = rw c.in-Err-Bad.bytes-is (record {
  told = λ old is. then-asked (c.loop-sent.invariant.log old is) (λ now told. (rw c.in-Err-Bad.field-0-is at c.in-Err-Bad.ensures.log).told now told) (omega arith);
})

pub returns-in-Err-Memory-clause-log : goal.returns-in-Err-Memory-clause-log
returns-in-Err-Memory-clause-log g c = record {
  told = λ old is. then-asked (c.loop-sent.invariant.log old is) (λ now told. (rw c.in-Err-Memory.field-0-is at c.in-Err-Memory.ensures.log).told now told) (omega arith);
}

pub returns-then-replies-eq0-clause-log : goal.returns-then-replies-eq0-clause-log
returns-then-replies-eq0-clause-log g c = record { told = λ old is. all-failed (c.loop-sent.invariant.log old is) (omega arith) (grind arith) }

pub returns-else-replies-eq0-clause-log : goal.returns-else-replies-eq0-clause-log
returns-else-replies-eq0-clause-log g c = record { told = λ old is. all-unserved (c.loop-sent.invariant.log old is) (omega arith) (grind arith) }
