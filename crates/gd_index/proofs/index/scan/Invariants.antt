use Rattle.std.proofs.Common.{◌≡◌, map}
use Rattle.gd_item.specs.Nodes.{live_node, child_at}
use Rattle.gd_index.specs.declared.row.Row.{Row}
use Rattle.gd_index.specs.Indexed.{items_in}
use Rattle.gd_index.proofs.index.scan.Given as goal

abbrev pub invariant-loop-row : goal.invariant-loop-row
invariant-loop-row l =
    child_at l.parent l.name (map (λ (row : Row). live_node row.item) l.row-iterator) ≡ child_at l.parent l.name (map live_node (items_in l.rows.entries))
