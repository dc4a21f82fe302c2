use Rattle.gd_store.proofs.Kept.{kept-over}
use Rattle.gd_store.proofs.items.Items.put_bytes.Goals as goal

pub invariant_of-self-2 : goal.invariant_of-self-2
invariant_of-self-2 c = kept-over c.args.self.now _ c.args.number c.args.bytes c.overwrite.new.self _ _ c.self.view_is c.self.invariant c.requires.map c.in_ok-version.ensures.ok
