use Rattle.std.proofs.Common.{◌∙◌, ap, sym, subst}
use Rattle.od_mirror.specs.Climbs.{Rise}
use Rattle.od_mirror.specs.Pulled.{AllFit, nodes}
use Rattle.od_pull.proofs.Ends.{fails}
use Rattle.od_pull.proofs.Taking.{pull-says, pull-stops, pull-views}
use Rattle.od_pull.proofs.Whole.{goes-on, goes-with, learning-ends, nodes-with, second-ends, second-views, view-memory}
use Rattle.od_pull.proofs.learning.pull_with_digests.Goals as goal

pub returns-in_err-view-clause-pulls : goal.returns-in_err-view-clause-pulls
returns-in_err-view-clause-pulls g c = rw (fails c.from_residual.ensures) (pull-stops c.args.items c.args.token c.in_err-view.field-0.0 (rw c.start.ensures at c.in_err-view.ensures.pulls))

pub returns-in_err-bare-clause-pulls : goal.returns-in_err-bare-clause-pulls
returns-in_err-bare-clause-pulls g c = rw (fails c.from_residual-in_err-bare.ensures)
    (view-memory c.args.items c.args.token c.in_ok-view.view (goes-on c.args.items c.args.token c.in_ok-view.view (pull-views c.args.items c.args.token c.in_ok-view.view (rw c.start.ensures at c.in_ok-view.ensures.pulls))))

pub returns-then-is_empty-clause-pulls : goal.returns-then-is_empty-clause-pulls
returns-then-is_empty-clause-pulls g c = pull-says c.args.items c.args.token c.in_ok-view.view (pull-views c.args.items c.args.token c.in_ok-view.view (rw c.start.ensures at c.in_ok-view.ensures.pulls))

pub returns-in_err-learned-clause-pulls : goal.returns-in_err-learned-clause-pulls
returns-in_err-learned-clause-pulls g c = rw (fails c.from_residual-in_err-learned.ensures)
    (learning-ends g.met.O.Outside.laws c.args.items c.args.token c.in_ok-view.view c.in_err-learned.field-0.0
    (goes-on c.args.items c.args.token c.in_ok-view.view (pull-views c.args.items c.args.token c.in_ok-view.view (rw c.start.ensures at c.in_ok-view.ensures.pulls)))
    (rw c.in_ok-bare.ensures at rw c.as_slice-2.ensures at c.in_err-learned.ensures))

pub returns-in_err-view-2-clause-pulls : goal.returns-in_err-view-2-clause-pulls
returns-in_err-view-2-clause-pulls g c = rw (fails c.from_residual-in_err-view-2.ensures)
    (second-ends g.met.O.Outside.laws c.args.items c.args.token c.in_ok-view.view c.in_ok-learned.learned c.in_err-view-2.field-0.0
    (goes-with g.met.O.Outside.laws c.args.items c.args.token c.in_ok-view.view c.in_ok-learned.learned
    (goes-on c.args.items c.args.token c.in_ok-view.view (pull-views c.args.items c.args.token c.in_ok-view.view (rw c.start.ensures at c.in_ok-view.ensures.pulls)))
    (rw c.in_ok-bare.ensures at rw c.as_slice-2.ensures at c.in_ok-learned.ensures))
    (rw c.resume.ensures at c.in_err-view-2.ensures.pulls))

pub returns-clause-pulls : goal.returns-clause-pulls
returns-clause-pulls g c =
    pull-says c.args.items c.args.token c.take_learned.new.view
    (second-views g.met.O.Outside.laws c.args.items c.args.token c.in_ok-view.view c.in_ok-view-2.view c.take_learned.new.view c.in_ok-learned.learned
    (rw c.as_slice-3.ensures at c.take_learned.ensures.items) c.take_learned.ensures.token
    (goes-with g.met.O.Outside.laws c.args.items c.args.token c.in_ok-view.view c.in_ok-learned.learned
    (goes-on c.args.items c.args.token c.in_ok-view.view (pull-views c.args.items c.args.token c.in_ok-view.view (rw c.start.ensures at c.in_ok-view.ensures.pulls)))
    (rw c.in_ok-bare.ensures at rw c.as_slice-2.ensures at c.in_ok-learned.ensures))
    (rw c.resume.ensures at c.in_ok-view-2.ensures.pulls))

pub returns-clause-fit : goal.returns-clause-fit
returns-clause-fit g c = subst AllFit (sym (ap nodes c.take_learned.ensures.items ∙ nodes-with c.as_slice-3.result.now c.in_ok-view-2.view.items)) c.in_ok-view-2.ensures.fit

pub returns-clause-rise : goal.returns-clause-rise
returns-clause-rise g c = subst Rise (sym (ap nodes c.take_learned.ensures.items ∙ nodes-with c.as_slice-3.result.now c.in_ok-view-2.view.items)) c.in_ok-view-2.ensures.rise
