use Rattle.std.proofs.Common.{max, min, sym, ap, ◌∙◌, subst}
use Rattle.gd_store.specs.Stands.{StoreValue, Stands}
use Rattle.gd_store.proofs.Steps.{expired}
use Rattle.gd_store.proofs.store.Store.expire.Goals as goal

pub returns : goal.returns
returns c =
    λ log epoch floor stands.
    let store : StoreValue = record { held = c.self.inside.items; epoch = c.self.inside.epoch; floor = c.self.inside.floor } in
    let standing : Stands store log epoch floor = subst (λ s. Stands s log epoch floor) (sym c.self.view_is) stands in
    expired store log epoch floor standing c.forget.new.self c.args.number c.max-floor.result
    (c.max-floor.ensures ∙ ap (max c.self.inside.floor) (c.min.ensures ∙ ap (min c.args.number) c.number.ensures)) c.forget.ensures
