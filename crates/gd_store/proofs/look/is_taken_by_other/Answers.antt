use Rattle.std.proofs.Common.{sym, ◌∙◌}
use Rattle.gd_store.proofs.Siblings.{taken-none, taken-some}
use Rattle.gd_store.proofs.look.is_taken_by_other.Goals as goal

pub returns-in-None : goal.returns-in-None
returns-in-None c = taken-none c.args.number c.args.parent c.args.name.now c.args.items.now c.requires (sym c.in-None.is ∙ c.child.ensures)

pub returns-in-Some : goal.returns-in-Some
returns-in-Some c = taken-some c.args.number c.args.parent c.args.name.now c.args.items.now c.requires c.in-Some.other (sym c.in-Some.is ∙ c.child.ensures)
