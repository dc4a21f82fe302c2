use Rattle.std.proofs.Common.{sym}
use Rattle.od_synclist.proofs.Walking.{one_step}
use Rattle.od_synclist.proofs.matching.walk.Goals as goal

pub loop-part-preserved : goal.loop-part-preserved
loop-part-preserved g c =
    one_step g.P.Part.is_run g.P.Part.takes c.args.parts.now c.loop-part.part.now c.args.items.now c.loop-part.left.now c.first-item.result c.item-item.result
    c.loop-part.invariant c.in-len1-up.len_at_least c.first-item.is c.in-len1-up-left.len_at_least c.item-item.is (sym c.if-is_run.ensures) (sym c.if-not-takes.ensures)
