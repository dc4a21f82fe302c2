-- What more steps do to what a drive has come to.
use Rattle.std.proofs.Common.{◌≡◌, ◌-◌, ◌^◌, ◌≤◌, Bool, true, false, cond, List, [], ◌∷◌, ◌++◌, length, refl, sym, ap, ◌∙◌, subst, arith}
use Rattle.std.proofs.lemmas.List.{append-nil, append_assoc, length-append}
use Rattle.gd_item.specs.Inventory.{Effect, Inventory, new_drive, after, after_all, inventory}
use Rattle.gd_item.specs.Sessions.{State, new_state, held}
use Rattle.gd_item.specs.Steps.{effects_of, after_request, after_event, is_accepted, after_step, after_steps, state_of, number_of, accepted_by}
use Rattle.gd_item.specs.Versions.{put_by, accepted_after, accepted}
use Rattle.gd_item.specs.declared.live.Version.{Version}
use Rattle.gd_item.specs.declared.request.Request.{Request}
use Rattle.gd_item.specs.declared.step.DriveEvent.{DriveEvent}
use Rattle.gd_item.specs.declared.step.DriveEvent.TheVariants.{Expire, Restore, EndSession, Plain}
use Rattle.gd_item.specs.declared.step.Step.{Step}
use Rattle.gd_item.specs.declared.step.Step.TheVariants.{Ask, Event}
use Rattle.gd_item.specs.declared.step.Who.{Who}
use Rattle.gd_item.proofs.Effects.{number-inventory}

pub after_steps-append : (state : State) (steps more : List Step) → after_steps state (steps ++ more) ≡ after_steps (after_steps state steps) more
after_steps-append state [] more = refl
after_steps-append state (step ∷ steps) more = after_steps-append (after_step state step) steps more

-- what a drive has come to later
pub record IsLater (old new : State) : Type 0 where
  pub effects : (more : List Effect) × (new.effects ≡ old.effects ++ more)
  pub epoch : old.epoch ≤ 2 ^ 64 - 1 → (old.epoch ≤ new.epoch) × (new.epoch ≤ 2 ^ 64 - 1)
  pub floor : old.floor ≤ new.floor
  pub plain : old.plain ≡ true → new.plain ≡ true

later-same : (state : State) → IsLater state state
later-same state = record {
  effects = ([], sym (append-nil state.effects));
  epoch = λ low. (omega arith, low);
  floor = omega arith;
  plain = λ is. is;
}

later-request : (state : State) (who : Who) (request : Request) → IsLater state (after_request state who request)
later-request state who request = record {
  effects = (effects_of state request, refl);
  epoch = λ low. (omega arith, low);
  floor = omega arith;
  plain = λ is. is;
}

later-event : (state : State) (event : DriveEvent) → IsLater state (after_event state event)
later-event state (Expire number) = record {
  effects = ([], sym (append-nil state.effects));
  epoch = λ low. (omega arith, low);
  floor = omega arith;
  plain = λ is. is;
}
later-event state Restore = record {
  effects = ([], sym (append-nil state.effects));
  epoch = λ low. (omega (arith, low), omega arith);
  floor = omega arith;
  plain = λ is. is;
}
later-event state (EndSession session) = record {
  effects = ([], sym (append-nil state.effects));
  epoch = λ low. (omega arith, low);
  floor = omega arith;
  plain = λ is. is;
}
later-event state Plain = record {
  effects = ([], sym (append-nil state.effects));
  epoch = λ low. (omega arith, low);
  floor = omega arith;
  plain = λ is. refl;
}

later-if : (state : State) (who : Who) (request : Request) (accepted : Bool) → IsLater state (cond accepted (after_request state who request) state)
later-if state who request true = later-request state who request
later-if state who request false = later-same state

later-step : (state : State) (step : Step) → IsLater state (after_step state step)
later-step state (Ask who request served heard) = later-if state who request (is_accepted state request served)
later-step state (Event event) = later-event state event

later-then : (a b c : State) → IsLater a b → IsLater b c → IsLater a c
later-then a b c first second = record {
  effects = (
    first.effects.0 ++ second.effects.0,
    second.effects.1 ∙ ap (λ es. es ++ second.effects.0) first.effects.1 ∙ append_assoc a.effects first.effects.0 second.effects.0,
  );
  epoch = λ low. let ab = first.epoch low in let bc = second.epoch ab.1 in (omega (arith, ab.0, bc.0), bc.1);
  floor = omega (arith, first.floor, second.floor);
  plain = λ is. second.plain (first.plain is);
}

pub later-steps : (state : State) (steps : List Step) → IsLater state (after_steps state steps)
later-steps state [] = later-same state
later-steps state (step ∷ steps) =
    later-then state (after_step state step) (after_steps (after_step state step) steps) (later-step state step) (later-steps (after_step state step) steps)

-- a log with more steps
pub later-log : (log more : List Step) → IsLater (state_of log) (state_of (log ++ more))
later-log log more = subst (IsLater (state_of log)) (sym (after_steps-append new_state log more)) (later-steps (state_of log) more)

number-later : (old new : State) → IsLater old new → (held old).number ≤ (held new).number
number-later old new later =
    omega (arith, number-inventory old.effects, number-inventory new.effects, ap length later.effects.1, length-append old.effects later.effects.0)

pub number-log : (log more : List Step) → number_of log ≤ number_of (log ++ more)
number-log log more = number-later (state_of log) (state_of (log ++ more)) (later-log log more)

pub epoch-log : (log more : List Step) → (state_of log).epoch ≤ (state_of (log ++ more)).epoch
epoch-log log more = ((later-log log more).epoch ((later-steps new_state log).epoch (omega arith)).1).0

pub floor-log : (log more : List Step) → (state_of log).floor ≤ (state_of (log ++ more)).floor
floor-log log more = (later-log log more).floor

pub plain-log : (log more : List Step) → (state_of log).plain ≡ true → (state_of (log ++ more)).plain ≡ true
plain-log log more = (later-log log more).plain

-- the versions that more effects put come after those of before
pub accepted-append : (held : Inventory) (effects more : List Effect) → accepted_after held (effects ++ more) ≡ accepted_after held effects ++ accepted_after (after_all held effects) more
accepted-append held [] more = refl
accepted-append held (effect ∷ effects) more =
    ap (λ versions. put_by held effect ++ versions) (accepted-append (after held effect) effects more)
    ∙ sym (append_assoc (put_by held effect) (accepted_after (after held effect) effects) (accepted_after (after_all (after held effect) effects) more))

accepted-later : (old new : State) → IsLater old new → (later : List Version) × (accepted new.effects ≡ accepted old.effects ++ later)
accepted-later old new later =
    (accepted_after (inventory old.effects) later.effects.0, ap accepted later.effects.1 ∙ accepted-append new_drive old.effects later.effects.0)

pub accepted-log : (log more : List Step) → (later : List Version) × (accepted_by (log ++ more) ≡ accepted_by log ++ later)
accepted-log log more = accepted-later (state_of log) (state_of (log ++ more)) (later-log log more)
