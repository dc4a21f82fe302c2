use Rattle.od_mirror.proofs.Climbing.{names-on, names-end, names-lost}
use Rattle.od_mirror.proofs.climb.path_up.Goals as goal

pub returns-in-None : goal.returns-in-None
returns-in-None c =
    names-lost c.args.items.now c.args.number c.loop.at c.loop.index c.loop.names.items c.loop-test.true c.if-at-eq1.false c.in-None.ensures c.loop.invariant

pub loop-preserved : goal.loop-preserved
loop-preserved c =
    rw (c.in_ok-push-in-Some.ensures.items, c.in_ok-clone-in-Some.ensures.cases)
    (names-on c.args.items.now c.args.number c.loop.at c.loop.index c.in-Some.parent c.in-Some.name.now c.loop.names.items c.loop-test.true c.if-at-eq1.false
    c.in-Some.ensures c.loop.invariant)

pub returns-then-at-eq1 : goal.returns-then-at-eq1
returns-then-at-eq1 c =
    names-end c.args.items.now c.args.number c.loop.at c.loop.index c.loop.names.items c.path_down.result c.if-at-eq1.true c.path_down.ensures c.loop.invariant
