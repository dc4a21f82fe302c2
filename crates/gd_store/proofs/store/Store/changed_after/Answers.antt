use Rattle.std.proofs.Common.{ap, ◌∙◌}
use Rattle.gd_item.specs.Inventory.{Inventory, inventory}
use Rattle.gd_store.specs.Stands.{StoreValue}
use Rattle.gd_item.specs.Records.{feed, first_of, last_of}
use Rattle.gd_store.proofs.Pruning.{feed-pruned}
use Rattle.gd_store.proofs.store.Store.changed_after.Goals as goal

pub returns-clause-complete : goal.returns-clause-complete
returns-clause-complete c =
    λ log epoch floor stands le.
    let same =
    ap (λ (store : StoreValue). feed store.held c.args.position c.args.removed_after) c.self.view_is ∙ ap (λ (held : Inventory). feed held c.args.position c.args.removed_after) stands.held
    ∙ feed-pruned floor (inventory log) c.args.position c.args.removed_after le in
    (c.in_ok-found.ensures.found.0 ∙ ap (first_of c.args.most) same, c.in_ok-found.ensures.found.1 ∙ ap (last_of c.args.most) same)
