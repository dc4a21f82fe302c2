use Rattle.std.proofs.Common.{subst}
use Rattle.od_reconcile.specs.Queues.{PopsAt, Slot}
use Rattle.od_reconcile.proofs.Queueing.{first-any, first-own}
use Rattle.od_reconcile.proofs.queues.pop_first.Goals as goal

pub returns-then-own_comes_first : goal.returns-then-own_comes_first
returns-then-own_comes_first c =
    let old = c.args.queues.now.entries in
    subst (λ (s : Slot). PopsAt s old c.pop_at.new.queues.entries c.in_ok-taken.taken)
    (first-own c.args.own c.args.any old c.own_comes_first.result c.own_comes_first.ensures c.if-own_comes_first.true) c.in_ok-taken.ensures

pub returns : goal.returns
returns c =
    let old = c.args.queues.now.entries in
    subst (λ (s : Slot). PopsAt s old c.pop_at-2.new.queues.entries c.in_ok-taken-2.taken)
    (first-any c.args.own c.args.any old c.own_comes_first.result c.own_comes_first.ensures c.if-own_comes_first.false) c.in_ok-taken-2.ensures
