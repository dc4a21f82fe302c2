use Rattle.std.proofs.Common.{[], ◌∷◌, refl, sym, subst}
use Rattle.gd_item.specs.Refusals.{make_folder_refusal, make_folder_effect}
use Rattle.gd_store.specs.Stands.{StoreValue, Stands}
use Rattle.gd_store.proofs.Sounds.{make-sound}
use Rattle.gd_store.proofs.Steps.{stepped, begun, recorded-after}
use Rattle.gd_store.proofs.store.Store.make_folder_and_get.Goals as goal

pub returns-clause-answer : goal.returns-clause-answer
returns-clause-answer c =
    λ log epoch floor stands.
    let store : StoreValue = record { held = c.self.inside.items; epoch = c.self.inside.epoch; floor = c.self.inside.floor } in
    let standing : Stands store log epoch floor = subst (λ s. Stands s log epoch floor) (sym c.self.view_is) stands in
    stepped store log epoch floor standing c.make_and_get.new.self (λ held. make_folder_refusal held c.args.parent.0 c.args.name.now c.args.behaviour) (λ held. make_folder_effect held c.args.parent.0 c.args.name.now c.args.behaviour ∷ [])
    _ _ c.make_and_get.result c.make_and_get.ensures.answer refl refl (make-sound store.held c.make_and_get.new.self c.args.parent.0 c.args.name.now c.args.behaviour (begun store log epoch floor standing))
    (λ x did. did.1) (λ x did now. (recorded-after store log epoch floor standing (λ held. make_folder_effect held c.args.parent.0 c.args.name.now c.args.behaviour) x refl did.0, now))
