use Rattle.std.proofs.Common.{◌+◌, sym, ap}
use Rattle.gd_item.specs.Inventory.{Inventory, PutNew, after, made_file}
use Rattle.gd_store.proofs.Kept.{may-push, kept-file}
use Rattle.gd_store.proofs.items.Items.add_file_and_get.Goals as goal

pub push_and_get-requires-clause-free : goal.push_and_get-requires-clause-free
push_and_get-requires-clause-free c =
    (may-push (after c.args.self.now (PutNew c.args.parent c.args.name c.args.bytes)) c.self.inside.index (made_file (c.self.inside.number + 1) (c.self.inside.last + 1) c.args.parent c.args.name c.args.bytes)
    (ap (λ (held : Inventory). (after held (PutNew c.args.parent c.args.name c.args.bytes)).items) (sym c.self.view_is)) c.requires.map).free

pub invariant_of-self-2 : goal.invariant_of-self-2
invariant_of-self-2 c =
    kept-file c.args.self.now _ c.args.parent c.args.name c.args.bytes c.push_and_get.new.items _ c.self.view_is c.self.invariant c.requires.room c.requires.map c.in_ok-made.ensures.ok.1
