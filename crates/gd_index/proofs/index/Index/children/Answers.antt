use Rattle.std.proofs.Common.{List, ℕ, Bor, map, take, ap, ◌∙◌}
use Rattle.std.specs.Map.{values_of}
use Rattle.std.specs.Option.{option_copied}
use Rattle.std.specs.declared.ops.Bound.{Bound}
use Rattle.std.specs.declared.ops.Bound.TheVariants.{Unbounded}
use Rattle.std.specs.BTreeMap.Range.{entries_between}
use Rattle.gd_item.specs.declared.live.LiveItem.{LiveItem}
use Rattle.gd_index.specs.Indexed.{spot_cmp, while_in}
use Rattle.gd_index.proofs.Ranging.{children-first}
use Rattle.gd_index.proofs.index.Index.children.Goals as goal

pub returns : goal.returns
returns c =
    children-first c.args.parent (option_copied c.args.earlier) c.self.inside.rows.entries c.self.inside.names.entries c.self.inside.changes.entries c.args.most c.args.self.now
    (map (λ (item : Bor LiveItem). item.now) c.in_ok-items.items.items) c.as_slice.result.now c.self.invariant.maps c.in_ok-numbers.ensures.ordered c.self.view_is c.in_ok-items.ensures
    (c.as_slice.ensures.value ∙ c.in_ok-numbers.ensures.numbers
    ∙ ap (λ (start : Bound (ℕ × List ℕ)). take c.args.most (values_of (while_in c.args.parent (entries_between spot_cmp start Unbounded c.self.inside.names.entries)))) c.in_ok-start.ensures)
