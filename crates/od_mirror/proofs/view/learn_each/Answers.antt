use Rattle.std.proofs.Common.{ap, ◌∙◌, set}
use Rattle.od_mirror.proofs.Learned.{learned-one}
use Rattle.od_mirror.proofs.view.learn_each.Goals as goal

pub loop-item-preserved : goal.loop-item-preserved
loop-item-preserved c =
    ap (set c.loop-item.items c.loop-item.item-index) c.learn_one.ensures
    ∙ learned-one c.args.id c.args.etag.now c.args.digest c.args.items.now c.loop-item.items c.loop-item.item-index c.item-item.result c.loop-item.invariant c.loop-item-test.true
