use Rattle.std.proofs.Common.{ap, sym, ◌∙◌}
use Rattle.std.specs.Option.{option_copied}
use Rattle.gd_store.proofs.Insides.{nothing-in, up-in}
use Rattle.gd_store.proofs.moving.+is_within.Goals as goal

pub returns-in-None : goal.returns-in-None
returns-in-None t c = nothing-in c.args.steps c.args.items.now c.args.top c.args.number c.if-number-top.false c.if-steps-eq0.false (sym (ap option_copied c.in-None.is) ∙ c.get.ensures)

pub returns-in-Some : goal.returns-in-Some
returns-in-Some t c =
    up-in c.args.steps c.args.items.now c.args.top c.args.number c.in-Some.item.now c.is_within.result c.if-number-top.false c.if-steps-eq0.false (sym (ap option_copied c.in-Some.is) ∙ c.get.ensures) c.is_within.ensures
