use Rattle.std.proofs.Common.{[], refl, sym, subst}
use Rattle.gd_item.specs.Inventory.{inventory}
use Rattle.gd_item.specs.Refusals.{put_refusal, put_under_refusal}
use Rattle.gd_item.specs.Refused.{but_quota}
use Rattle.gd_item.specs.declared.live.Place.{Place}
use Rattle.gd_store.specs.Stands.{StoreValue, Stands, Answers}
use Rattle.gd_store.proofs.Steps.{told}
use Rattle.gd_store.proofs.store.Store.may_put.Goals as goal

pub returns-in-Under : goal.returns-in-Under
returns-in-Under c =
    λ log epoch floor stands.
    let store : StoreValue = record { held = c.self.inside.items; epoch = c.self.inside.epoch; floor = c.self.inside.floor } in
    let standing : Stands store log epoch floor = subst (λ s. Stands s log epoch floor) (sym c.self.view_is) stands in
    let P : Place → Type 0 = λ place. Answers (but_quota (put_refusal (inventory log) place [] c.args.behaviour c.args.condition.now 0)) c.may_put_under.result (λ _. Unit {0}) in
    subst P (sym c.in-Under.is)
    (told store log epoch floor standing (λ held. but_quota (put_under_refusal held c.in-Under.id.0 c.in-Under.name [] c.args.behaviour c.args.condition.now 0)) _ _ c.may_put_under.result c.may_put_under.ensures refl (λ x allowed did. did))
