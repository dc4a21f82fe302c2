use Rattle.std.proofs.Common.{subst}
use Rattle.gd_store.proofs.There.{over-there}
use Rattle.gd_store.specs.Kept.{IsKept}
use Rattle.gd_store.proofs.Kept.{over-map}
use Rattle.gd_store.proofs.items.Items.put_over_and_get.Goals as goal

pub put_bytes_and_get-requires-clause-there : goal.put_bytes_and_get-requires-clause-there
put_bytes_and_get-requires-clause-there c = over-there c.args.self.now c.args.number c.args.bytes.now c.args.condition.now c.args.others c.in_ok-allow_over.ensures.ok

pub put_bytes_and_get-requires-clause-map : goal.put_bytes_and_get-requires-clause-map
put_bytes_and_get-requires-clause-map c = over-map c.args.self.now c.args.number c.args.bytes.now c.args.condition.now c.args.others (subst IsKept c.self.view_is c.self.invariant) c.in_ok-allow_over.ensures.ok c.in_ok-copy.copy
