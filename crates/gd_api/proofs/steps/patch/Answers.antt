use Rattle.std.proofs.Common.{rules, ℕ, [], ◌∷◌, Option, sym, ◌∙◌, subst}
use Rattle.std.specs.Option.{option_copied}
use Rattle.gd_item.specs.Inventory.{inventory}
use Rattle.gd_item.specs.Moves.{patch_refusal, patch_effect}
use Rattle.gd_item.specs.Refused.{at_target, id_number}
use Rattle.gd_item.specs.Steps.{effects_at}
use Rattle.gd_item.specs.Targets.{target_of}
use Rattle.gd_store.specs.Stands.{Answers}
use Rattle.gd_api.specs.Replies.{Steps}
use Rattle.gd_api.proofs.Calls.{id-found}
use Rattle.gd_api.proofs.steps.patch.Goals as goal

pub returns-in-Some-clause-answer : goal.returns-in-Some-clause-answer
returns-in-Some-clause-answer c =
    λ log epoch floor stands.
    let P : Option ℕ → Type 0 = λ o. Answers (at_target (λ number. patch_refusal (inventory log) number (option_copied c.args.name) (id_number c.args.parent) c.args.condition.now) o) c.patch_at.result
    (Steps c.patch_at.new.store epoch floor log (effects_at (λ number. patch_effect (inventory log) number (option_copied c.args.name) (id_number c.args.parent) ∷ []) o)) in
    subst P (sym (id-found (target_of (inventory log) c.args.at.now) c.in-Some.id (sym (c.find_target.ensures log epoch floor stands) ∙ c.in-Some.is))) (c.patch_at.ensures.answer log epoch floor stands)

pub returns-in-None-clause-answer : goal.returns-in-None-clause-answer
returns-in-None-clause-answer c = λ log epoch floor stands. let found = c.find_target.ensures log epoch floor stands in search (rules, found, c.in-None.is)
