-- Why a request is refused.
use Rattle.std.proofs.Common.{◌≡◌, ℕ, ◌<◌, ◌≤◌, true, false, ◌&&◌, cond, nat_lt, List, length, Option, Some, ap, ◌∙◌, arith}
use Rattle.std.specs.Prelude.{is_none}
use Rattle.std.proofs.lemmas.Bool.Decides.{nat_tests}
use Rattle.gd_names.specs.declared.conflict.Conflict.{Conflict}
use Rattle.gd_item.specs.Moves.{patch_refusal}
use Rattle.gd_item.specs.Refusals.{put_refusal}
use Rattle.gd_item.specs.Refused.{refuse, refusal, by_store, at_target, with_sessions, id_number}
use Rattle.gd_item.specs.Sessions.{State, held, held_bytes}
use Rattle.gd_item.specs.Steps.{state_of}
use Rattle.gd_item.specs.Targets.{target_of, place_of}
use Rattle.gd_item.specs.declared.condition.Condition.{Condition}
use Rattle.gd_item.specs.declared.fault.ErrorCode.TheVariants.{InvalidRequest}
use Rattle.gd_item.specs.declared.id.ItemId.{ItemId}
use Rattle.gd_item.specs.declared.request.Address.{Address}
use Rattle.gd_item.specs.declared.request.Request.TheVariants.{Put, Patch}
use Rattle.gd_item.specs.declared.step.Step.{Step}
use Rattle.gd_api.proofs.Handling.{not-above, within-limit}

above : (a b : ℕ) → b < a → nat_lt b a ≡ true
above a b lt = grind (arith, nat_tests)

-- a file of fitting length, and a longer one
pub put-cause : (state : State) (at : Address) (bytes : List ℕ) (behaviour : Conflict) (condition : Condition) → length bytes ≤ 4194304
    → refusal state (Put at bytes behaviour condition) ≡ by_store (at_target (λ place. put_refusal (held state) place bytes behaviour condition (held_bytes state.sessions)) (place_of (held state) at))
put-cause state at bytes behaviour condition fits =
    let cause = by_store (at_target (λ place. put_refusal (held state) place bytes behaviour condition (held_bytes state.sessions)) (place_of (held state) at)) in
    ap (λ b. cond b (Some (refuse 413 InvalidRequest)) cause) (not-above (length bytes) 4194304 fits)

pub put-too-long : (state : State) (at : Address) (bytes : List ℕ) (behaviour : Conflict) (condition : Condition) → 4194304 < length bytes → refusal state (Put at bytes behaviour condition) ≡ Some (refuse 413 InvalidRequest)
put-too-long state at bytes behaviour condition long =
    let cause = by_store (at_target (λ place. put_refusal (held state) place bytes behaviour condition (held_bytes state.sessions)) (place_of (held state) at)) in
    ap (λ b. cond b (Some (refuse 413 InvalidRequest)) cause) (above (length bytes) 4194304 long)

-- a move that names something, and one that names nothing
pub patch-cause : (log : List Step) (at : Address) (name : Option (List ℕ)) (parent : Option ItemId) (condition : Condition) → (is_none name && is_none parent) ≡ false
    → refusal (state_of log) (Patch at name parent condition) ≡ by_store (at_target (λ number. patch_refusal (held (state_of log)) number name (id_number parent) condition) (target_of (held (state_of log)) at))
patch-cause log at name parent condition some =
    let state = state_of log in
    let fault = at_target (λ number. patch_refusal (held state) number name (id_number parent) condition) (target_of (held state) at) in
    ap (λ b. cond b (Some (refuse 400 InvalidRequest)) (by_store (with_sessions state fault))) some ∙ ap by_store (within-limit log fault)

pub patch-empty : (state : State) (at : Address) (name : Option (List ℕ)) (parent : Option ItemId) (condition : Condition) → (is_none name && is_none parent) ≡ true → refusal state (Patch at name parent condition) ≡ Some (refuse 400 InvalidRequest)
patch-empty state at name parent condition none =
    let cause = by_store (with_sessions state (at_target (λ number. patch_refusal (held state) number name (id_number parent) condition) (target_of (held state) at))) in
    ap (λ b. cond b (Some (refuse 400 InvalidRequest)) cause) none
