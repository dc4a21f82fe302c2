use Rattle.std.proofs.Common.{ap, sym, ◌∙◌}
use Rattle.std.specs.Ordering.{nat_cmp}
use Rattle.gd_index.specs.Indexed.{at, spot_cmp, spot_of, number_at_spot}
use Rattle.gd_index.proofs.Finding.{at-spot, child-spot, fresh-change}
use Rattle.gd_index.proofs.index.Index.push.Goals as goal

pub insert_row-requires-clause-fresh : goal.insert_row-requires-clause-fresh
insert_row-requires-clause-fresh c =
    fresh-change c.self.inside.rows.entries c.args.self.now (at nat_cmp c.self.inside.changes.entries) c.args.item.change c.self.invariant.maps.by_change c.self.view_is c.requires.fresh

pub insert_row-requires-clause-free : goal.insert_row-requires-clause-free
insert_row-requires-clause-free c =
    at-spot c.self.inside.rows.entries c.self.invariant.maps.lined c.self.invariant.maps.rises (at spot_cmp c.self.inside.names.entries) c.self.invariant.maps.by_name (spot_of c.args.item)
    ∙ ap (number_at_spot (spot_of c.args.item)) c.self.view_is ∙ sym (child-spot c.args.item.parent c.args.item.name c.args.self.now) ∙ c.requires.free
