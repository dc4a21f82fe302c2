use Rattle.std.proofs.Common.{refl, ap, ◌∙◌}
use Rattle.std.specs.Ordering.{nat_cmp}
use Rattle.gd_index.specs.Indexed.{at, items_in, filled_row}
use Rattle.gd_item.specs.Inventory.{changed, with_bytes}
use Rattle.gd_index.proofs.Counting.{refilled-count}
use Rattle.gd_index.proofs.Lines.{rewritten-items}
use Rattle.gd_index.proofs.Steps.{filled-by}
use Rattle.gd_index.proofs.Finding.{fresh-change}
use Rattle.gd_index.proofs.index.Index.overwrite.Goals as goal

pub fill_row-requires-clause-fresh : goal.fill_row-requires-clause-fresh
fill_row-requires-clause-fresh c =
    fresh-change c.self.inside.rows.entries c.args.self.now (at nat_cmp c.self.inside.changes.entries) c.args.change c.self.invariant.maps.by_change c.self.view_is c.requires.fresh

pub invariant_of-self-2 : goal.invariant_of-self-2
invariant_of-self-2 c = record {
  maps =
      filled-by (at nat_cmp c.self.inside.rows.entries c.args.number) c.self.inside.rows.entries c.fill_row.new.rows.entries c.self.inside.names.entries c.self.inside.changes.entries c.fill_row.new.changes.entries
      c.args.number c.args.change c.args.bytes c.self.invariant.maps refl c.in_ok-version.ensures.rows
      (fresh-change c.self.inside.rows.entries c.args.self.now (at nat_cmp c.self.inside.changes.entries) c.args.change c.self.invariant.maps.by_change c.self.view_is c.requires.fresh)
      c.in_ok-version.ensures.row c.in_ok-version.ensures.none;
  counted =
      refilled-count c.self.inside.counts.entries (items_in c.self.inside.rows.entries) (items_in c.fill_row.new.rows.entries) c.args.number (with_bytes c.args.change c.args.bytes) (λ x. refl) c.self.invariant.counted
      (ap items_in c.in_ok-version.ensures.rows
      ∙ rewritten-items c.args.number (filled_row c.args.change c.args.bytes) (with_bytes c.args.change c.args.bytes) (λ row. refl) c.self.inside.rows.entries c.self.invariant.maps.lined);
}

pub returns-clause-ok : goal.returns-clause-ok
returns-clause-ok c =
    ap items_in c.in_ok-version.ensures.rows
    ∙ rewritten-items c.args.number (filled_row c.args.change c.args.bytes) (with_bytes c.args.change c.args.bytes) (λ row. refl) c.self.inside.rows.entries c.self.invariant.maps.lined
    ∙ ap (changed c.args.number (with_bytes c.args.change c.args.bytes)) c.self.view_is
