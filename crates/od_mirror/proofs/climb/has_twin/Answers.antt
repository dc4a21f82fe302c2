use Rattle.std.proofs.Common.{ap, sym, ◌∙◌}
use Rattle.std.specs.Option.{option_map}
use Rattle.gd_item.specs.Nodes.{item_node}
use Rattle.gd_item.specs.declared.id.ItemId.{ItemId}
use Rattle.od_mirror.specs.Pulled.{nodes}
use Rattle.od_mirror.proofs.Lookups.{is_below, loose-alone, root-alone, twin-first}
use Rattle.od_mirror.proofs.climb.has_twin.Goals as goal

pub returns-then-item-eq1 : goal.returns-then-item-eq1
returns-then-item-eq1 c = sym (root-alone (nodes c.args.items.now) (item_node c.args.item.now) c.if-item-eq1.true)

pub returns-in-Some-2 : goal.returns-in-Some-2
returns-in-Some-2 c =
    sym
    (twin-first (item_node c.args.item.now) c.in-Some.parent.0 c.if-item-eq1.false (ap (option_map (λ (id : ItemId). id.0)) c.in-Some.is) (nodes c.args.items.now) c.requires.rise
    ∙ ap (is_below c.args.item.now.id.0) (sym c.in_ok-first-in-Some.ensures ∙ c.in-Some-2.is))

pub returns-in-None-2 : goal.returns-in-None-2
returns-in-None-2 c =
    sym
    (twin-first (item_node c.args.item.now) c.in-Some.parent.0 c.if-item-eq1.false (ap (option_map (λ (id : ItemId). id.0)) c.in-Some.is) (nodes c.args.items.now) c.requires.rise
    ∙ ap (is_below c.args.item.now.id.0) (sym c.in_ok-first-in-Some.ensures ∙ c.in-None-2.is))

pub returns-in-None : goal.returns-in-None
returns-in-None c = sym (loose-alone (nodes c.args.items.now) (item_node c.args.item.now) (ap (option_map (λ (id : ItemId). id.0)) c.in-None.is))
