use Rattle.std.proofs.Common.{ap, sym, ◌∙◌}
use Rattle.std.specs.Option.{option_copied}
use Rattle.gd_store.proofs.Moves.{place-none, place-own, place-other}
use Rattle.gd_store.proofs.moving.moved_place.Goals as goal

pub returns-in_default : goal.returns-in_default
returns-in_default c = place-none c.args.moved c.args.parent c.args.name.now c.args.items.now c.args.number (sym (ap option_copied c.in_default.is) ∙ c.get.ensures)

pub returns-then-number-moved : goal.returns-then-number-moved
returns-then-number-moved c =
    place-own c.args.moved c.args.parent c.args.name.now c.args.items.now c.args.number c.in-Some.item.now c.if-number-moved.true (sym (ap option_copied c.in-Some.is) ∙ c.get.ensures)

pub returns-else-number-moved : goal.returns-else-number-moved
returns-else-number-moved c =
    place-other c.args.moved c.args.parent c.args.name.now c.args.items.now c.args.number c.in-Some.item.now c.if-number-moved.false (sym (ap option_copied c.in-Some.is) ∙ c.get.ensures)
