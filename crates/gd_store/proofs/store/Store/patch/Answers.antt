use Rattle.std.proofs.Common.{[], ◌∷◌, refl, sym, subst}
use Rattle.std.specs.Option.{option_copied}
use Rattle.gd_item.specs.Moves.{patch_refusal, patch_effect}
use Rattle.gd_item.specs.Refused.{id_number}
use Rattle.gd_store.specs.Stands.{StoreValue, Stands}
use Rattle.gd_store.proofs.Sounds.{moved-sound}
use Rattle.gd_store.proofs.Steps.{stepped, begun}
use Rattle.gd_store.proofs.store.Store.patch.Goals as goal

pub returns-clause-answer : goal.returns-clause-answer
returns-clause-answer c =
    λ log epoch floor stands.
    let store : StoreValue = record { held = c.self.inside.items; epoch = c.self.inside.epoch; floor = c.self.inside.floor } in
    let standing : Stands store log epoch floor = subst (λ s. Stands s log epoch floor) (sym c.self.view_is) stands in
    stepped store log epoch floor standing c.relocate.new.self (λ held. patch_refusal held c.args.id.0 (option_copied c.args.name) (id_number c.args.parent) c.args.condition.now) (λ held. patch_effect held c.args.id.0 (option_copied c.args.name) (id_number c.args.parent) ∷ [])
    _ _ c.relocate.result c.relocate.ensures.answer refl refl (moved-sound store.held c.relocate.new.self c.args.id.0 (option_copied c.args.name) (id_number c.args.parent) c.args.condition.now (begun store log epoch floor standing))
    (λ x did. did) (λ x did now. now)
