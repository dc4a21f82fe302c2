-- Single facts of every drive, and the effects of a log, one step after the other.
use Rattle.std.proofs.Common.{◌≡◌, ◌^◌, ◌<◌, ◌≤◌, true, false, cond, List, [], ◌∷◌, ◌++◌, refl, sym, ap, ◌∙◌}
use Rattle.std.specs.List.{All}
use Rattle.std.proofs.lemmas.List.{append-nil}
use Rattle.gd_item.specs.Records.{size_of}
use Rattle.gd_item.specs.Sessions.{State, new_state}
use Rattle.gd_item.specs.Sound.{IsItemMap}
use Rattle.gd_item.specs.Steps.{effects_of, effects_by, is_accepted, after_request, after_step, state_of, held_by, number_of}
use Rattle.gd_item.specs.declared.live.LiveItem.{LiveItem}
use Rattle.gd_item.specs.declared.step.DriveEvent.TheVariants.{Expire, Restore, EndSession, Plain}
use Rattle.gd_item.specs.declared.step.Step.{Step}
use Rattle.gd_item.specs.declared.step.Step.TheVariants.{Ask, Event}
use Rattle.gd_item.proofs.LogsGrow.{after_steps-append}
use Rattle.gd_laws.proofs.Every.{every-drive}

pub sound-log : (log : List Step) → IsItemMap (held_by log)
sound-log log = (every-drive log).tree

pub number-fits : (log : List Step) → number_of log < 2 ^ 64
number-fits log = (every-drive log).number

pub epoch-fits : (log : List Step) → (state_of log).epoch < 2 ^ 64
epoch-fits log = (every-drive log).epoch

pub floor-low : (log : List Step) → (state_of log).floor ≤ number_of log
floor-low log = (every-drive log).floor

pub file_sizes : (log : List Step) → All (λ (item : LiveItem). size_of item.bytes ≤ 67108864) (held_by log).items
file_sizes log = (every-drive log).sizes

-- the effects of one step
effects-step : (state : State) (step : Step) → (after_step state step).effects ≡ state.effects ++ effects_by state step
effects-step state (Ask who request served heard) =
    elim (is_accepted state request served) as (λ b. (cond b (after_request state who request) state).effects ≡ state.effects ++ cond b (effects_of state request) [])
    [ true ↦ refl | false ↦ sym (append-nil state.effects) ]
effects-step state (Event (Expire number)) = sym (append-nil state.effects)
effects-step state (Event Restore) = sym (append-nil state.effects)
effects-step state (Event (EndSession session)) = sym (append-nil state.effects)
effects-step state (Event Plain) = sym (append-nil state.effects)

pub effects-push : (log : List Step) (step : Step) → (state_of (log ++ step ∷ [])).effects ≡ (state_of log).effects ++ effects_by (state_of log) step
effects-push log step = ap (λ (state : State). state.effects) (after_steps-append new_state log (step ∷ [])) ∙ effects-step (state_of log) step
