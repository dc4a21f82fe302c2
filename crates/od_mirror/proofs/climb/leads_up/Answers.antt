use Rattle.od_mirror.proofs.Climbing.{leads-on}
use Rattle.od_mirror.proofs.climb.leads_up.Goals as goal

pub loop-preserved : goal.loop-preserved
loop-preserved c =
    leads-on c.args.items.now c.args.number c.loop.at c.loop.index c.in-Some.parent _ c.loop-test.true c.if-at-eq1.false c.in-Some.ensures c.loop.invariant
