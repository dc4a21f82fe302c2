use Rattle.std.proofs.Common.{ℕ, List, ap, sym, ◌∙◌}
use Rattle.std.specs.Ordering.{nat_cmp}
use Rattle.gd_item.specs.Inventory.{with_place}
use Rattle.gd_item.specs.declared.live.LiveItem.{LiveItem}
use Rattle.gd_index.specs.Indexed.{at, spot_cmp, items_in}
use Rattle.gd_index.proofs.Counting.{not-there, placed-count}
use Rattle.gd_index.proofs.Finding.{own-spot, fresh-change}
use Rattle.gd_index.proofs.index.Index.place.Goals as goal

pub move_row-requires-clause-fresh : goal.move_row-requires-clause-fresh
move_row-requires-clause-fresh c =
    fresh-change c.self.inside.rows.entries c.args.self.now (at nat_cmp c.self.inside.changes.entries) c.args.change c.self.invariant.maps.by_change c.self.view_is c.requires.fresh

pub move_row-requires-clause-free : goal.move_row-requires-clause-free
move_row-requires-clause-free c = λ n there.
    own-spot c.self.inside.rows.entries c.args.self.now (at spot_cmp c.self.inside.names.entries) c.args.number c.args.parent c.args.name c.self.invariant.maps.lined c.self.invariant.maps.by_name c.self.view_is c.requires.free
    n (ap (at spot_cmp c.self.inside.names.entries) (sym c.in_ok-spot.ensures) ∙ there)

pub returns-in_default-clause-ok : goal.returns-in_default-clause-ok
returns-in_default-clause-ok c = not-there (λ (item : LiveItem). item.parent) c.args.number (with_place c.args.change c.args.parent c.args.name) c.args.self.now c.in_default.ensures

pub invariant_of-self-in-Ok : goal.invariant_of-self-in-Ok
invariant_of-self-in-Ok c = record {
  maps = c.move_row.ensures.indexed;
  counted =
      placed-count c.self.inside.counts.entries c.count_more.new.counts.entries c.count_less.new.counts.entries (items_in c.self.inside.rows.entries) c.args.self.now (items_in c.move_row.new.rows.entries)
      c.args.number c.in-Some.from c.args.parent (with_place c.args.change c.in_ok-spot.spot.0 c.args.name) c.self.invariant.counted c.self.view_is c.in-Some.ensures (λ x. ap (λ (s : ℕ × List ℕ). s.0) c.in_ok-spot.ensures)
      c.in_ok-count_more.ensures.ok c.count_less.ensures c.in-Ok.ensures.ok;
}
