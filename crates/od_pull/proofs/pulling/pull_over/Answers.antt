use Rattle.od_pull.proofs.Ends.{fails}
use Rattle.od_pull.proofs.Taking.{over-fails, over-view}
use Rattle.od_pull.proofs.pulling.pull_over.Goals as goal

pub returns-in_err-take_answers-clause-pulls : goal.returns-in_err-take_answers-clause-pulls
returns-in_err-take_answers-clause-pulls g c = rw (fails c.from_residual.ensures) c.in_err-take_answers.ensures.takes

pub returns-in_err-view-clause-pulls : goal.returns-in_err-view-clause-pulls
returns-in_err-view-clause-pulls g c = rw (fails c.from_residual-in_err-view.ensures)
    (over-fails c.args.mirror c.take_answers.new.mirror c.in_err-view.field-0.0 (λ n is. c.in_err-view.ensures.bad n is) c.in_ok-take_answers.ensures.takes)

pub returns-clause-pulls : goal.returns-clause-pulls
returns-clause-pulls g c = over-view c.args.mirror c.take_answers.new.mirror c.in_ok-view.view c.in_ok-view.ensures.ok c.in_ok-take_answers.ensures.takes
