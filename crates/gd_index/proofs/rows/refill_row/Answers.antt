use Rattle.std.proofs.Common.{None, Some, ap, sym, refl, ◌∙◌}
use Rattle.gd_item.specs.Inventory.{version_of}
use Rattle.gd_index.specs.Indexed.{items_in, filled_row}
use Rattle.gd_index.proofs.Lines.{got, none-rewritten, set-rewritten}
use Rattle.gd_index.proofs.rows.refill_row.Goals as goal

pub returns-in-None-clause-rows : goal.returns-in-None-clause-rows
returns-in-None-clause-rows c =
    rw c.get_mut.follows.holds-at-none (sym (none-rewritten c.args.number (filled_row c.args.change c.args.bytes) c.args.rows.now.entries (sym c.in-None.ensures.value)))

pub returns-in-None-clause-version : goal.returns-in-None-clause-version
returns-in-None-clause-version c = ap version_of (got c.args.number c.args.rows.now.entries (items_in c.args.rows.now.entries) None c.requires.lined refl c.in-None.ensures.value)

pub returns-in-Some-clause-rows : goal.returns-in-Some-clause-rows
returns-in-Some-clause-rows c =
    (c.get_mut.follows.holds c.refill.new.row).0
    ∙ set-rewritten c.args.number (filled_row c.args.change c.args.bytes) c.in-Some.row.now c.refill.new.row c.args.rows.now.entries c.refill.ensures.row (sym c.in-Some.ensures.value)

pub returns-in-Some-clause-version : goal.returns-in-Some-clause-version
returns-in-Some-clause-version c =
    c.refill.ensures.version ∙ ap version_of (got c.args.number c.args.rows.now.entries (items_in c.args.rows.now.entries) (Some c.in-Some.row.now) c.requires.lined refl c.in-Some.ensures.value)
