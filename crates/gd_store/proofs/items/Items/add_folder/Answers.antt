use Rattle.std.proofs.Common.{◌+◌, sym, ap}
use Rattle.gd_item.specs.Inventory.{Inventory, MadeFolder, after, made_folder}
use Rattle.gd_store.proofs.Kept.{may-push}
use Rattle.gd_store.proofs.items.Items.add_folder.Goals as goal

pub push-requires-clause-free : goal.push-requires-clause-free
push-requires-clause-free c =
    (may-push (after c.args.self.now (MadeFolder c.args.parent c.args.name)) c.self.inside.index (made_folder (c.self.inside.number + 1) (c.self.inside.last + 1) c.args.parent c.args.name)
    (ap (λ (held : Inventory). (after held (MadeFolder c.args.parent c.args.name)).items) (sym c.self.view_is)) c.requires.map).free
