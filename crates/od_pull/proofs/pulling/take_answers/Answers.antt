use Rattle.std.proofs.Common.{◌+◌, arith}
use Rattle.od_pull.proofs.Ends.{fails}
use Rattle.od_pull.proofs.Taking.{endless, stopped-on, taken-all, taken-on, underway-none, underway-on}
use Rattle.od_pull.proofs.pulling.take_answers.Goals as goal

pub loop-taken-init : goal.loop-taken-init
loop-taken-init g c = underway-none g.met.O.Outside.laws c.args.mirror.now

pub loop-taken-preserved : goal.loop-taken-preserved
loop-taken-preserved g c =
    underway-on (c.loop-taken._taken + 1) c.args.mirror.now c.take_answer.new.mirror c.in_ok-take_answer.field-0
    (taken-on g.met.O.Outside.laws c.loop-taken._taken c.args.mirror.now c.loop-taken.mirror c.take_answer.new.mirror c.in_ok-take_answer.field-0 c.loop-taken.invariant c.in_ok-take_answer.ensures.takes)

pub returns-in-Last-clause-takes : goal.returns-in-Last-clause-takes
returns-in-Last-clause-takes g c =
    taken-all c.loop-taken._taken c.args.mirror.now c.take_answer.new.mirror
    (taken-on g.met.O.Outside.laws c.loop-taken._taken c.args.mirror.now c.loop-taken.mirror c.take_answer.new.mirror _ c.loop-taken.invariant (rw c.in-Last.is at c.in_ok-take_answer.ensures.takes))

pub returns-in_err-take_answer-clause-takes : goal.returns-in_err-take_answer-clause-takes
returns-in_err-take_answer-clause-takes g c = rw (fails c.from_residual.ensures)
    (stopped-on g.met.O.Outside.laws c.loop-taken._taken c.args.mirror.now c.loop-taken.mirror c.in_err-take_answer.field-0.0 c.loop-taken.invariant c.in_err-take_answer.ensures.takes)

pub returns-clause-takes : goal.returns-clause-takes
returns-clause-takes g c = endless c.loop-taken._taken c.args.mirror.now c.loop-taken.mirror (omega (arith, c.loop-taken-test.false)) c.loop-taken.invariant
