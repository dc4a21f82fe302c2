use Rattle.std.proofs.Common.{Some, ap, sym, ◌∙◌}
use Rattle.gd_store.proofs.Moves.{moved-path}
use Rattle.gd_store.proofs.moving.moved_path.Goals as goal

pub returns-in-None : goal.returns-in-None
returns-in-None c = moved-path c.args.moved c.args.parent c.args.name.now c.args.items.now _ c.len.result c.args.number c.len.ensures (sym c.in-None.is ∙ c.in_ok-moved_names.ensures)

pub returns-in-Some : goal.returns-in-Some
returns-in-Some c =
    moved-path c.args.moved c.args.parent c.args.name.now c.args.items.now _ c.len.result c.args.number c.len.ensures (ap Some c.from_names.ensures ∙ sym c.in-Some.is ∙ c.in_ok-moved_names.ensures)
