use Rattle.std.proofs.Common.{◌≡◌, ℕ, List, ap, sym, ◌∙◌}
use Rattle.gd_names.specs.Caseless.{lower_case}
use Rattle.gd_item.specs.Inventory.{with_place}
use Rattle.gd_index.specs.declared.row.Row.{Row}
use Rattle.gd_index.specs.Indexed.{placed_row}
use Rattle.gd_index.proofs.Lines.{none-rewritten, set-rewritten}
use Rattle.gd_index.proofs.rows.place_row.Goals as goal

pub returns-in-None-clause-rows : goal.returns-in-None-clause-rows
returns-in-None-clause-rows c =
    rw c.get_mut.follows.holds-at-none
    (sym (none-rewritten c.args.number (placed_row c.args.change c.args.spot.0 c.args.name) c.args.rows.now.entries (sym c.in-None.ensures.value)))

pub returns-in-Some-clause-rows : goal.returns-in-Some-clause-rows
returns-in-Some-clause-rows c =
    let written : ℕ × List ℕ → Row = λ (s : ℕ × List ℕ). record { item = with_place c.args.change c.args.spot.0 c.args.name c.in-Some.row.now.item; spot = s; digest = c.in-Some.row.now.digest } in
    let spot : c.args.spot ≡ (c.args.spot.0, lower_case c.args.name) = ap (λ (t : List ℕ). (c.args.spot.0, t)) c.requires in
    (c.get_mut.follows.holds (written c.args.spot)).0
    ∙ set-rewritten c.args.number (placed_row c.args.change c.args.spot.0 c.args.name) c.in-Some.row.now (written c.args.spot) c.args.rows.now.entries (ap written spot) (sym c.in-Some.ensures.value)
