use Rattle.gd_store.proofs.There.{known}
use Rattle.gd_store.proofs.look.is_known.Goals as goal

pub returns-else-number-eq1 : goal.returns-else-number-eq1
returns-else-number-eq1 c = known c.args.number c.args.items.now c.get.result c.is_some.result c.if-number-eq1.false c.get.ensures c.is_some.ensures
