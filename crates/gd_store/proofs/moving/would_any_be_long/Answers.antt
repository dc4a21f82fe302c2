use Rattle.std.proofs.Common.{map, ap, ◌∙◌}
use Rattle.std.specs.List.{list_any}
use Rattle.gd_item.specs.Inventory.{changed, with_place}
use Rattle.gd_item.specs.Nodes.{live_node, path_of}
use Rattle.gd_item.specs.Refusals.{is_too_long}
use Rattle.gd_store.proofs.Moves.{any-long}
use Rattle.gd_store.proofs.moving.would_any_be_long.Goals as goal

pub returns : goal.returns
returns c =
    c.in_ok-long.ensures
    ∙ ap (list_any (λ n. is_too_long (path_of (map live_node (changed c.args.number (with_place 0 c.args.parent c.args.name.now) c.args.items.now)) n))) (c.as_slice.ensures.value ∙ c.in_ok-numbers.ensures)
    ∙ any-long c.args.number c.args.parent c.args.name.now c.args.items.now
