use Rattle.std.proofs.Common.{map, ◌∙◌}
use denote.Bor.{Bor}
use Rattle.gd_item.specs.declared.live.LiveItem.{LiveItem}
use Rattle.gd_index.proofs.Ranging.{changed-first}
use Rattle.gd_index.proofs.index.Index.changed_after.Goals as goal

pub returns : goal.returns
returns c =
    changed-first c.self.inside.rows.entries c.self.inside.names.entries c.self.inside.changes.entries c.args.position c.args.most c.args.self.now (map (λ (item : Bor LiveItem). item.now) c.in_ok-items.items.items) c.as_slice.result.now
    c.self.invariant.maps c.in_ok-numbers.ensures.ordered c.self.view_is c.in_ok-items.ensures (c.as_slice.ensures.value ∙ c.in_ok-numbers.ensures.numbers)
