use Rattle.std.proofs.Common.{refl, sym, subst}
use Rattle.gd_item.specs.Moves.{remove_refusal, remove_effects}
use Rattle.gd_store.specs.Stands.{StoreValue, Stands}
use Rattle.gd_store.proofs.Sounds.{removed-sound}
use Rattle.gd_store.proofs.Steps.{stepped, begun}
use Rattle.gd_store.proofs.store.Store.remove.Goals as goal

pub returns-clause-answer : goal.returns-clause-answer
returns-clause-answer c =
    λ log epoch floor stands.
    let store : StoreValue = record { held = c.self.inside.items; epoch = c.self.inside.epoch; floor = c.self.inside.floor } in
    let standing : Stands store log epoch floor = subst (λ s. Stands s log epoch floor) (sym c.self.view_is) stands in
    stepped store log epoch floor standing c.take_out.new.self (λ held. remove_refusal held c.args.id.0 c.args.condition.now) (λ held. remove_effects held c.args.id.0)
    _ _ c.take_out.result c.take_out.ensures.answer refl refl (removed-sound store.held c.take_out.new.self c.args.id.0 c.args.condition.now (begun store log epoch floor standing))
    (λ x did. did) (λ x did now. now)
