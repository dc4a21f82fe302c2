use Rattle.std.proofs.Common.{[], ◌∷◌, refl, sym, ap, ◌∙◌, subst}
use Rattle.gd_item.specs.Ids.{item_id}
use Rattle.gd_item.specs.Inventory.{Inventory}
use Rattle.gd_item.specs.Refusals.{make_folder_refusal, make_folder_effect}
use Rattle.gd_store.specs.Stands.{StoreValue, Stands}
use Rattle.gd_store.proofs.Sounds.{make-sound}
use Rattle.gd_store.proofs.Steps.{stepped, begun}
use Rattle.gd_store.proofs.store.Store.make_folder.Goals as goal

pub returns-clause-answer : goal.returns-clause-answer
returns-clause-answer c =
    λ log epoch floor stands.
    let store : StoreValue = record { held = c.self.inside.items; epoch = c.self.inside.epoch; floor = c.self.inside.floor } in
    let standing : Stands store log epoch floor = subst (λ s. Stands s log epoch floor) (sym c.self.view_is) stands in
    stepped store log epoch floor standing c.make.new.self (λ held. make_folder_refusal held c.args.parent.0 c.args.name.now c.args.behaviour) (λ held. make_folder_effect held c.args.parent.0 c.args.name.now c.args.behaviour ∷ [])
    _ _ c.make.result c.make.ensures.answer refl refl (make-sound store.held c.make.new.self c.args.parent.0 c.args.name.now c.args.behaviour (begun store log epoch floor standing))
    (λ x did. did.1) (λ x did now. (did.0 ∙ ap (λ (held : Inventory). item_id held.next) standing.held, now))
