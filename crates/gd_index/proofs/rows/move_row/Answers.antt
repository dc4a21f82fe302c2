use Rattle.std.proofs.Common.{◌≡◌, ℕ, List, refl, ap, sym, subst, ◌∙◌}
use Rattle.gd_names.specs.Caseless.{lower_case}
use Rattle.gd_item.specs.Inventory.{with_place}
use Rattle.gd_index.specs.Indexed.{at, spot_cmp, Moves, items_in, placed_row}
use Rattle.gd_index.proofs.Lines.{rewritten-items, none-rewritten}
use Rattle.gd_index.proofs.Steps.{moved}
use Rattle.gd_index.proofs.rows.move_row.Goals as goal

pub returns-in_default-clause-ok : goal.returns-in_default-clause-ok
returns-in_default-clause-ok c =
    ap items_in (sym (none-rewritten c.args.number (placed_row c.args.change c.args.spot.0 c.args.name) c.args.rows.now.entries (sym c.in_default.ensures.value)))
    ∙ rewritten-items c.args.number (placed_row c.args.change c.args.spot.0 c.args.name) (with_place c.args.change c.args.spot.0 c.args.name) (λ row. refl) c.args.rows.now.entries c.requires.indexed.lined

pub returns-clause-indexed : goal.returns-clause-indexed
returns-clause-indexed c =
    let spot : c.args.spot ≡ (c.args.spot.0, lower_case c.args.name) = ap (λ (t : List ℕ). (c.args.spot.0, t)) c.requires.spot in
    moved c.args.rows.now.entries c.place_row.new.rows.entries c.args.names.now.entries c.change_keys.new.names.entries c.args.changes.now.entries c.change_keys.new.changes.entries
    c.args.number c.args.change c.args.spot.0 c.args.name c.in-Some.row.now c.requires.indexed (sym c.in-Some.ensures.value) c.place_row.ensures.rows (c.place_row.ensures.row c.in-Some.row.now (sym c.in-Some.ensures.value))
    (λ n there. c.requires.free n (ap (at spot_cmp c.args.names.now.entries) spot ∙ there)) c.requires.fresh
    (subst (λ (s : ℕ × List ℕ). Moves spot_cmp c.args.number c.in-Some.row.now.spot s c.args.names.now.entries c.change_keys.new.names.entries) (c.requires.key ∙ spot) c.in_ok-change_keys.ensures.names)
    c.in_ok-change_keys.ensures.changes

pub returns-clause-ok : goal.returns-clause-ok
returns-clause-ok c =
    ap items_in c.place_row.ensures.rows
    ∙ rewritten-items c.args.number (placed_row c.args.change c.args.spot.0 c.args.name) (with_place c.args.change c.args.spot.0 c.args.name) (λ row. refl) c.args.rows.now.entries c.requires.indexed.lined
