use Rattle.std.proofs.Common.{refl, sym, ◌∙◌, subst}
use Rattle.gd_item.specs.Refusals.{file_refusal}
use Rattle.gd_item.specs.Steps.{state_of}
use Rattle.gd_store.specs.Stands.{StoreValue, Stands}
use Rattle.gd_store.proofs.Steps.{told}
use Rattle.gd_store.proofs.AllVersions.{all-versions}
use Rattle.gd_store.proofs.store.Store.versions.Goals as goal

pub returns : goal.returns
returns c =
    λ log epoch floor stands.
    let store : StoreValue = record { held = c.self.inside.items; epoch = c.self.inside.epoch; floor = c.self.inside.floor } in
    let standing : Stands store (state_of log).effects epoch floor = subst (λ s. Stands s (state_of log).effects epoch floor) (sym c.self.view_is) stands in
    told store (state_of log).effects epoch floor standing (λ held. file_refusal held c.args.id.0) _ _ c.list_versions.result c.list_versions.ensures refl (λ x allowed did. did ∙ all-versions log store.held epoch floor c.args.id.0 standing.held allowed)
