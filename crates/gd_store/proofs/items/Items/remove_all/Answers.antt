use Rattle.std.proofs.Common.{◌+◌}
use Rattle.gd_store.proofs.Kept.{kept-gone}
use Rattle.gd_store.proofs.Removals.{removed-fields}
use Rattle.gd_store.proofs.items.Items.remove_all.Goals as goal

pub returns-clause-ok : goal.returns-clause-ok
returns-clause-ok c =
    removed-fields c.args.self.now c.self.inside.number (c.self.inside.last + 1) c.self.inside.kept c.self.inside.index c.remove_each.new.items c.self.inside.removed.items c.reserve.new.self.items
    c.remove_each.new.removed.items c.self.inside.replaced.items c.args.order.now c.self.view_is c.remove_each.ensures.items c.in_ok-reserve.ensures.items c.remove_each.ensures.removed

pub invariant_of-self-2 : goal.invariant_of-self-2
invariant_of-self-2 c =
    kept-gone c.args.self.now _ c.args.order.now c.remove_each.new.items c.remove_each.new.removed.items c.reserve.new.self.items c.self.view_is c.self.invariant c.requires.map c.remove_each.ensures.items
    c.in_ok-reserve.ensures.items c.remove_each.ensures.removed
