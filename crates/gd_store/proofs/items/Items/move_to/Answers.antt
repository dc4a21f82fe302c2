use Rattle.gd_store.proofs.Kept.{kept-moved}
use Rattle.gd_store.proofs.items.Items.move_to.Goals as goal

pub invariant_of-self-2 : goal.invariant_of-self-2
invariant_of-self-2 c = kept-moved c.args.self.now _ c.args.number c.args.parent c.args.name c.place.new.self c.self.view_is c.self.invariant c.requires.map c.in_ok-place.ensures.ok
