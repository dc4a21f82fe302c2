use Rattle.std.proofs.Common.{◌≡◌, drop, not, filter, nat_eq}
use Rattle.gd_names.specs.Ordered.{in_order_from}
use Rattle.gd_item.specs.declared.item.Item.{Item}
use Rattle.gd_item.specs.Trees.{placed}
use Rattle.od_mirror.specs.Pulled.{nodes, paths_of}
use Rattle.od_mirror.proofs.view.place_all.Given as goal

abbrev pub invariant-loop-item : goal.invariant-loop-item
invariant-loop-item l =
    in_order_from l.placed.entries (placed (λ (item : Item). item.id.0) (nodes l.items) (filter (λ item. not (nat_eq item.id.0 1)) (drop l.item-index l.items)))
    ≡ paths_of l.items
