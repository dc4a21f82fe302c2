use Rattle.std.proofs.Common.{◌+◌, sym, ap}
use Rattle.gd_item.specs.Inventory.{Inventory, PutNew, after, made_file}
use Rattle.gd_store.proofs.Kept.{may-push}
use Rattle.gd_store.proofs.items.Items.add_file.Goals as goal

pub push-requires-clause-free : goal.push-requires-clause-free
push-requires-clause-free c =
    (may-push (after c.args.self.now (PutNew c.args.parent c.args.name c.args.bytes)) c.self.inside.index (made_file (c.self.inside.number + 1) (c.self.inside.last + 1) c.args.parent c.args.name c.args.bytes)
    (ap (λ (held : Inventory). (after held (PutNew c.args.parent c.args.name c.args.bytes)).items) (sym c.self.view_is)) c.requires.map).free
