use Rattle.std.proofs.Common.{ap, ◌∙◌}
use Rattle.gd_index.specs.declared.row.Row.{Row}
use Rattle.gd_item.specs.Nodes.{live_node, child_at}
use Rattle.std.proofs.Common.{map}
use Rattle.gd_index.proofs.Finding.{nodes-of-rows}
use Rattle.gd_index.proofs.index.scan.Goals as goal

pub loop-row-init : goal.loop-row-init
loop-row-init c =
    ap (λ rows. child_at c.args.parent c.args.name.now (map (λ (row : Row). live_node row.item) rows)) (c.into_iter-row-iterator.ensures.into_iter_gives ∙ c.values-row-items.ensures.rest)
    ∙ ap (λ nodes. child_at c.args.parent c.args.name.now nodes) (nodes-of-rows c.args.rows.now.entries)
