use Rattle.std.proofs.Common.{ℕ, ◌<◌, ◌≤◌, List, [], ◌∷◌, length, refl, subst}
use Rattle.gd_item.specs.Refused.{refuse, at_target}
use Rattle.gd_item.specs.Refusals.{put_refusal, put_effect}
use Rattle.gd_item.specs.Sessions.{held, held_bytes}
use Rattle.gd_item.specs.Steps.{state_of, effects_at}
use Rattle.gd_item.specs.Targets.{place_of}
use Rattle.gd_item.specs.declared.fault.ErrorCode.TheVariants.{InvalidRequest}
use Rattle.gd_item.specs.declared.request.Request.TheVariants.{Put}
use Rattle.gd_store.specs.Stands.{Answers}
use Rattle.gd_api.specs.Replies.{Steps}
use Rattle.gd_api.proofs.Causes.{put-cause, put-too-long}
use Rattle.gd_api.proofs.Handling.{stepped, within, answers-so, refused-so}
use Rattle.gd_api.proofs.drive.Drive.put.Goals as goal

pub returns-then-len-gt-MOST_PUT-clause-answer : goal.returns-then-len-gt-MOST_PUT-clause-answer
returns-then-len-gt-MOST_PUT-clause-answer c =
    λ log stands.
    refused-so c.args.self.now log (Put c.args.at.now c.args.bytes.now c.args.behaviour c.args.condition.now) _ (refuse 413 InvalidRequest) stands
    (put-too-long (state_of log) c.args.at.now c.args.bytes.now c.args.behaviour c.args.condition.now (subst (λ n. 4194304 < n) c.len.ensures c.if-len-gt-MOST_PUT.true)) refl

pub returns-clause-answer : goal.returns-clause-answer
returns-clause-answer c =
    λ log stands.
    let state = state_of log in
    let before = held (state_of log) in
    let place = place_of before c.args.at.now in
    let request = Put c.args.at.now c.args.bytes.now c.args.behaviour c.args.condition.now in
    let fault = at_target (λ place. put_refusal before place c.args.bytes.now c.args.behaviour c.args.condition.now (held_bytes state.sessions)) place in
    let P : List ℕ → ℕ → Type 0 = λ bytes others. Answers (at_target (λ place. put_refusal before place bytes c.args.behaviour c.args.condition.now others) place) c.put.result
    (Steps c.put.new.store state.epoch state.floor state.effects (effects_at (λ place. put_effect before place bytes c.args.behaviour ∷ []) place)) in
    within c.args.self.now _ _ log request c.make_reply.result c.self.view_is
    (λ has.
    let told = c.put.ensures.answer state.effects state.epoch state.floor has.store in
    let answer = subst (λ n. P c.args.bytes.now n) (c.held_bytes.ensures state.sessions (length state.openers) has.sessions) (subst (λ bytes. P bytes c.held_bytes.result) c.as_slice.ensures told) in
    stepped _ c.put.new.store log request fault c.put.result c.make_reply.result c.make_reply.ensures has
    (put-cause state c.args.at.now c.args.bytes.now c.args.behaviour c.args.condition.now (subst (λ n. n ≤ 4194304) c.len.ensures c.if-len-gt-MOST_PUT.false)) refl (λ who. refl)
    (answers-so fault c.put.result (λ reply steps. (steps.replied, steps.stands)) answer) c.put.ensures.kept) stands
