use Rattle.std.proofs.Common.{◌≡◌, Bool, false, Some, [], ◌∷◌, ◌++◌, refl, sym, ap, ◌∙◌, subst}
use Rattle.gd_item.specs.Inventory.{PutOver, inventory}
use Rattle.gd_item.specs.Refusals.{is_made, settled_in, file_effect, put_over_refusal, put_under_refusal, put_refusal, put_effect}
use Rattle.gd_item.specs.declared.item.Item.{Item}
use Rattle.gd_item.specs.declared.live.Place.{Place}
use Rattle.gd_store.specs.Stands.{StoreValue, Stands, Answers, record_after}
use Rattle.gd_store.proofs.Sounds.{put-over-sound, put-under-sound}
use Rattle.gd_store.proofs.Steps.{stepped, begun, recorded-after, holding}
use Rattle.gd_store.proofs.store.Store.put_and_get.Goals as goal

pub returns-in-Over-clause-answer : goal.returns-in-Over-clause-answer
returns-in-Over-clause-answer c =
    λ log epoch floor stands.
    let store : StoreValue = record { held = c.self.inside.items; epoch = c.self.inside.epoch; floor = c.self.inside.floor } in
    let standing : Stands store log epoch floor = subst (λ s. Stands s log epoch floor) (sym c.self.view_is) stands in
    let P : Place → Type 0 = λ place. Answers (put_refusal (inventory log) place c.args.bytes.now c.args.behaviour c.args.condition.now c.args.session_bytes) c.put_over_and_get.result
    (λ (put : Item × Bool). (record_after (inventory log) (put_effect (inventory log) place c.args.bytes.now c.args.behaviour) ≡ Some put.0) × (put.1 ≡ is_made (put_effect (inventory log) place c.args.bytes.now c.args.behaviour)) × Stands (holding store c.put_over_and_get.new.self) (log ++ put_effect (inventory log) place c.args.bytes.now c.args.behaviour ∷ []) epoch floor) in
    subst P (sym c.in-Over.is)
    (stepped store log epoch floor standing c.put_over_and_get.new.self (λ held. put_over_refusal held c.in-Over.id.0 c.args.bytes.now c.args.condition.now c.args.session_bytes) (λ held. PutOver c.in-Over.id.0 c.args.bytes.now ∷ [])
    _ _ c.put_over_and_get.result c.put_over_and_get.ensures.answer refl refl (put-over-sound store.held c.put_over_and_get.new.self c.in-Over.id.0 c.args.bytes.now c.args.condition.now c.args.session_bytes (begun store log epoch floor standing))
    (λ x did. did.1) (λ x did now. (recorded-after store log epoch floor standing (λ held. PutOver c.in-Over.id.0 c.args.bytes.now) x.0 refl did.0.0, did.0.1, now)))

pub returns-in-Under-clause-answer : goal.returns-in-Under-clause-answer
returns-in-Under-clause-answer c =
    λ log epoch floor stands.
    let store : StoreValue = record { held = c.self.inside.items; epoch = c.self.inside.epoch; floor = c.self.inside.floor } in
    let standing : Stands store log epoch floor = subst (λ s. Stands s log epoch floor) (sym c.self.view_is) stands in
    let P : Place → Type 0 = λ place. Answers (put_refusal (inventory log) place c.args.bytes.now c.args.behaviour c.args.condition.now c.args.session_bytes) c.put_under_and_get.result
    (λ (put : Item × Bool). (record_after (inventory log) (put_effect (inventory log) place c.args.bytes.now c.args.behaviour) ≡ Some put.0) × (put.1 ≡ is_made (put_effect (inventory log) place c.args.bytes.now c.args.behaviour)) × Stands (holding store c.put_under_and_get.new.self) (log ++ put_effect (inventory log) place c.args.bytes.now c.args.behaviour ∷ []) epoch floor) in
    subst P (sym c.in-Under.is)
    (stepped store log epoch floor standing c.put_under_and_get.new.self (λ held. put_under_refusal held c.in-Under.id.0 c.in-Under.name c.args.bytes.now c.args.behaviour c.args.condition.now c.args.session_bytes) (λ held. file_effect c.in-Under.id.0 c.in-Under.name c.args.bytes.now (settled_in held c.in-Under.id.0 c.in-Under.name c.args.behaviour false) ∷ [])
    _ _ c.put_under_and_get.result c.put_under_and_get.ensures.answer refl refl (put-under-sound store.held c.put_under_and_get.new.self c.in-Under.id.0 c.in-Under.name c.args.bytes.now c.args.behaviour c.args.condition.now c.args.session_bytes (begun store log epoch floor standing))
    (λ x did. did.1) (λ x did now. (recorded-after store log epoch floor standing (λ held. file_effect c.in-Under.id.0 c.in-Under.name c.args.bytes.now (settled_in held c.in-Under.id.0 c.in-Under.name c.args.behaviour false)) x.0 refl did.0.0, did.0.1 ∙ ap (λ held. is_made (file_effect c.in-Under.id.0 c.in-Under.name c.args.bytes.now (settled_in held c.in-Under.id.0 c.in-Under.name c.args.behaviour false))) standing.held, now)))
