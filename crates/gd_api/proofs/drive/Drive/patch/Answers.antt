use Rattle.std.proofs.Common.{ℕ, List, [], ◌∷◌, Option, refl, sym, subst}
use Rattle.gd_item.specs.Moves.{patch_refusal, patch_effect}
use Rattle.gd_item.specs.Refused.{refuse, at_target, id_number}
use Rattle.gd_item.specs.Sessions.{held}
use Rattle.gd_item.specs.Steps.{state_of, effects_at}
use Rattle.gd_item.specs.Targets.{target_of}
use Rattle.gd_item.specs.declared.fault.ErrorCode.TheVariants.{InvalidRequest}
use Rattle.gd_item.specs.declared.request.Request.TheVariants.{Patch}
use Rattle.gd_store.specs.Stands.{Answers}
use Rattle.gd_api.specs.Replies.{Steps}
use Rattle.gd_api.proofs.Causes.{patch-cause, patch-empty}
use Rattle.gd_api.proofs.Handling.{stepped, within, answers-so, refused-so}
use Rattle.gd_api.proofs.drive.Drive.patch.Goals as goal

pub returns-then-is_empty_patch-clause-answer : goal.returns-then-is_empty_patch-clause-answer
returns-then-is_empty_patch-clause-answer c =
    λ log stands.
    refused-so c.args.self.now log (Patch c.args.at.now c.args.name.now c.args.parent c.args.condition.now) _ (refuse 400 InvalidRequest) stands
    (patch-empty (state_of log) c.args.at.now c.args.name.now c.args.parent c.args.condition.now (sym c.if-is_empty_patch.ensures)) refl

pub returns-clause-answer : goal.returns-clause-answer
returns-clause-answer c =
    λ log stands.
    let state = state_of log in
    let before = held (state_of log) in
    let target = target_of before c.args.at.now in
    let request = Patch c.args.at.now c.args.name.now c.args.parent c.args.condition.now in
    let fault = at_target (λ number. patch_refusal before number c.args.name.now (id_number c.args.parent) c.args.condition.now) target in
    let P : Option (List ℕ) → Type 0 = λ name. Answers (at_target (λ number. patch_refusal before number name (id_number c.args.parent) c.args.condition.now) target) c.patch.result
    (Steps c.patch.new.store state.epoch state.floor state.effects (effects_at (λ number. patch_effect before number name (id_number c.args.parent) ∷ []) target)) in
    within c.args.self.now _ _ log request c.make_reply.result c.self.view_is
    (λ has.
    let answer = subst P c.as_ref.ensures.value (c.patch.ensures.answer state.effects state.epoch state.floor has.store) in
    stepped _ c.patch.new.store log request fault c.patch.result c.make_reply.result c.make_reply.ensures has
    (patch-cause log c.args.at.now c.args.name.now c.args.parent c.args.condition.now (sym c.if-is_empty_patch.ensures)) refl (λ who. refl)
    (answers-so fault c.patch.result (λ reply steps. (steps.replied, steps.stands)) answer) c.patch.ensures.kept) stands
