use Rattle.std.proofs.Common.{None, ap, sym, refl}
use Rattle.gd_item.specs.Inventory.{version_of}
use Rattle.gd_index.specs.Indexed.{items_in, filled_row}
use Rattle.gd_index.proofs.Lines.{got, none-rewritten}
use Rattle.gd_index.proofs.rows.fill_row.Goals as goal

pub returns-in_default-clause-rows : goal.returns-in_default-clause-rows
returns-in_default-clause-rows c = sym (none-rewritten c.args.number (filled_row c.args.change c.args.bytes) c.args.rows.now.entries (sym c.in_default.ensures.value))

pub returns-in_default-clause-version : goal.returns-in_default-clause-version
returns-in_default-clause-version c = ap version_of (got c.args.number c.args.rows.now.entries (items_in c.args.rows.now.entries) None c.requires.lined refl c.in_default.ensures.value)
