use Rattle.std.proofs.Common.{sym, subst}
use Rattle.std.specs.Option.{option_copied}
use Rattle.gd_item.specs.Refused.{id_number}
use Rattle.gd_laws.proofs.Sounds.{may-move}
use Rattle.gd_store.specs.Kept.{IsKept}
use Rattle.gd_store.proofs.Kept.{may-place}
use Rattle.gd_store.proofs.items.Items.relocate.Goals as goal

pub move_to-requires-clause-number : goal.move_to-requires-clause-number
move_to-requires-clause-number c = may-move c.args.self.now c.args.number (option_copied c.args.name) (id_number c.args.parent) c.args.condition.now (sym c.in_ok-target.ensures.ok.0)

pub move_to-requires-clause-free : goal.move_to-requires-clause-free
move_to-requires-clause-free c =
    (may-place c.args.self.now c.args.number (option_copied c.args.name) (id_number c.args.parent) c.args.condition.now c.in_ok-target.target.0 c.in_ok-target.target.1
    (subst IsKept c.self.view_is c.self.invariant) c.in_ok-target.ensures.ok.0 c.in_ok-target.ensures.ok.1.0 c.in_ok-target.ensures.ok.1.1).free

pub move_to-requires-clause-map : goal.move_to-requires-clause-map
move_to-requires-clause-map c =
    (may-place c.args.self.now c.args.number (option_copied c.args.name) (id_number c.args.parent) c.args.condition.now c.in_ok-target.target.0 c.in_ok-target.target.1
    (subst IsKept c.self.view_is c.self.invariant) c.in_ok-target.ensures.ok.0 c.in_ok-target.ensures.ok.1.0 c.in_ok-target.ensures.ok.1.1).map
