use Rattle.std.proofs.Common.{ap}
use Rattle.gd_item.specs.Inventory.{Inventory}
use Rattle.gd_store.proofs.Insides.{long-moved}
use Rattle.gd_store.proofs.items.Items.is_long_once_moved.Goals as goal

pub returns : goal.returns
returns c =
    λ outside.
    long-moved c.args.self.now c.args.number 0 c.args.parent c.args.name.now c.self.inside.index c.in_ok-long.long (ap (λ (held : Inventory). held.items) c.self.view_is) c.in_ok-long.ensures
