use Rattle.std.proofs.Common.{subst}
use Rattle.gd_store.specs.Kept.{IsKept}
use Rattle.gd_store.proofs.Kept.{over-map}
use Rattle.gd_store.proofs.items.Items.put_over.Goals as goal

pub put_bytes-requires-clause-map : goal.put_bytes-requires-clause-map
put_bytes-requires-clause-map c = over-map c.args.self.now c.args.number c.args.bytes.now c.args.condition.now c.args.others (subst IsKept c.self.view_is c.self.invariant) c.in_ok-allow_over.ensures.ok c.in_ok-copy.copy
