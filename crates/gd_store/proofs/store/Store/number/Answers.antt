use Rattle.std.proofs.Common.{ap, ◌∙◌}
use Rattle.gd_item.specs.Inventory.{Inventory}
use Rattle.gd_store.specs.Stands.{StoreValue}
use Rattle.gd_item.proofs.Effects.{number-inventory}
use Rattle.gd_store.proofs.store.Store.number.Goals as goal

pub returns : goal.returns
returns c =
    λ log epoch floor stands.
    c.number.ensures ∙ ap (λ (store : StoreValue). store.held.number) c.self.view_is ∙ ap (λ (held : Inventory). held.number) stands.held ∙ number-inventory log
