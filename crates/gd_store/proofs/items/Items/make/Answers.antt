use Rattle.std.proofs.Common.{sym, subst}
use Rattle.gd_laws.proofs.Allowed.{room-to-make, number-to-make}
use Rattle.gd_store.specs.Kept.{IsKept}
use Rattle.gd_store.proofs.Kept.{make-map}
use Rattle.gd_store.proofs.items.Items.make.Goals as goal

pub add_folder-requires-clause-room : goal.add_folder-requires-clause-room
add_folder-requires-clause-room c = room-to-make c.args.self.now c.args.parent c.args.name.now c.in_ok-free.free c.args.behaviour c.in_ok-free.ensures.ok.1 (sym c.in_ok-free.ensures.ok.0)

pub add_folder-requires-clause-number : goal.add_folder-requires-clause-number
add_folder-requires-clause-number c = number-to-make c.args.self.now c.args.parent c.args.name.now c.args.behaviour (sym c.in_ok-free.ensures.ok.0)

pub add_folder-requires-clause-map : goal.add_folder-requires-clause-map
add_folder-requires-clause-map c = make-map c.args.self.now c.args.parent c.args.name.now c.in_ok-free.free c.args.behaviour (subst IsKept c.self.view_is c.self.invariant) c.in_ok-free.ensures.ok.1 (sym c.in_ok-free.ensures.ok.0)
