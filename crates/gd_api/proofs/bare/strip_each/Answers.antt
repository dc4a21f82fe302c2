use Rattle.std.proofs.Common.{ap, ◌∙◌, set}
use Rattle.gd_api.proofs.Stripping.{stripped}
use Rattle.gd_api.proofs.bare.strip_each.Goals as goal

pub loop-item-preserved : goal.loop-item-preserved
loop-item-preserved c =
    ap (set c.loop-item.items c.loop-item.item-index) c.strip.ensures
    ∙ stripped c.args.items.now c.loop-item.items c.loop-item.item-index c.item-item.result c.loop-item.invariant c.loop-item-test.true
