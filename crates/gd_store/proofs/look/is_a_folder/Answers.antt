use Rattle.std.proofs.Common.{ap, sym, ◌∙◌}
use Rattle.std.specs.Option.{option_copied}
use Rattle.gd_store.proofs.There.{folder-none, folder-some, none-told}
use Rattle.gd_store.proofs.look.is_a_folder.Goals as goal

pub returns-in-None : goal.returns-in-None
returns-in-None c = folder-none c.args.number c.args.items.now c.if-number-eq1.false (sym (ap option_copied c.in-None.is) ∙ c.get.ensures)

pub returns-in-Some : goal.returns-in-Some
returns-in-Some c = folder-some c.args.number c.args.items.now c.in-Some.item.now c.is_none.result c.if-number-eq1.false (sym (ap option_copied c.in-Some.is) ∙ c.get.ensures) (none-told c.in-Some.item.now.bytes c.is_none.result c.is_none.ensures)
