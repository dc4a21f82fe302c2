use Rattle.std.proofs.Common.{refl, sym, ap, ◌∙◌, subst}
use Rattle.gd_store.specs.Stands.{StoreValue, Stands}
use Rattle.std.specs.Option.{option_copied}
use Rattle.gd_item.specs.Children.{first_children, has_more_children}
use Rattle.gd_item.specs.Refusals.{folder_refusal}
use Rattle.gd_store.proofs.Steps.{told}
use Rattle.gd_store.proofs.store.Store.children.Goals as goal

pub returns : goal.returns
returns c =
    λ log epoch floor stands.
    let store : StoreValue = record { held = c.self.inside.items; epoch = c.self.inside.epoch; floor = c.self.inside.floor } in
    let standing : Stands store log epoch floor = subst (λ s. Stands s log epoch floor) (sym c.self.view_is) stands in
    told store log epoch floor standing (λ held. folder_refusal held c.args.id.0) _ _ c.list_children.result c.list_children.ensures refl
    (λ x allowed did. (did.0 ∙ ap (first_children c.args.id.0 (option_copied c.args.after) c.args.most) standing.held, did.1 ∙ ap (has_more_children c.args.id.0 (option_copied c.args.after) c.args.most) standing.held))
