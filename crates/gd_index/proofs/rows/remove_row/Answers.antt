use Rattle.std.proofs.Common.{None, Some, ap, sym, refl, ◌∙◌}
use Rattle.gd_index.specs.Indexed.{items_in}
use Rattle.gd_index.proofs.Lines.{got, none-removed, removed-items}
use Rattle.gd_index.proofs.Steps.{removed}
use Rattle.gd_index.proofs.rows.remove_row.Goals as goal

pub returns-in-None-clause-item : goal.returns-in-None-clause-item
returns-in-None-clause-item c = got c.args.number c.args.rows.now.entries (items_in c.args.rows.now.entries) None c.requires.indexed.lined refl c.in-None.ensures.value

pub returns-in-None-clause-others : goal.returns-in-None-clause-others
returns-in-None-clause-others c = ap items_in c.in-None.ensures.unchanged ∙ sym (none-removed c.args.number c.args.rows.now.entries c.requires.indexed.lined (sym c.in-None.ensures.value))

pub returns-in-Some-clause-indexed : goal.returns-in-Some-clause-indexed
returns-in-Some-clause-indexed c =
    removed c.args.rows.now.entries c.remove.new.self.entries c.args.names.now.entries c.drop_keys.new.names.entries c.args.changes.now.entries c.drop_keys.new.changes.entries c.args.number c.in-Some.row
    c.requires.indexed (sym c.in-Some.ensures.value) c.in-Some.ensures.entries (record { here = c.in-Some.ensures.updates.1; each = c.in-Some.ensures.updates.0 }) c.in-Some.ensures.ordered
    c.drop_keys.ensures.names c.drop_keys.ensures.changes

pub returns-in-Some-clause-item : goal.returns-in-Some-clause-item
returns-in-Some-clause-item c = got c.args.number c.args.rows.now.entries (items_in c.args.rows.now.entries) (Some c.in-Some.row) c.requires.indexed.lined refl c.in-Some.ensures.value

pub returns-in-Some-clause-others : goal.returns-in-Some-clause-others
returns-in-Some-clause-others c = ap items_in c.in-Some.ensures.entries ∙ removed-items c.args.number c.args.rows.now.entries c.requires.indexed.lined c.requires.indexed.rises
