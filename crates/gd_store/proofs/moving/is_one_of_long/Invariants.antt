use Rattle.std.proofs.Common.{◌≡◌, map, drop}
use Rattle.std.specs.List.{list_any}
use Rattle.gd_item.specs.Inventory.{changed, with_place}
use Rattle.gd_item.specs.Nodes.{live_node, path_of}
use Rattle.gd_item.specs.Refusals.{is_too_long}
use Rattle.gd_store.proofs.moving.is_one_of_long.Given as goal

abbrev pub invariant-loop-number : goal.invariant-loop-number
invariant-loop-number l =
    list_any (λ n. is_too_long (path_of (map live_node (changed l.moved (with_place 0 l.parent l.name) l.items)) n)) l.numbers
    ≡ list_any (λ n. is_too_long (path_of (map live_node (changed l.moved (with_place 0 l.parent l.name) l.items)) n)) (drop l.number-index l.numbers)
