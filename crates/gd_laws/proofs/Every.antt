-- What holds of every drive holds at the beginning and over each step, so whatever the log.
use Rattle.std.proofs.Common.{◌≡◌, ℕ, ◌+◌, ◌^◌, ◌<◌, ◌≤◌, Bool, true, false, cond, List, [], ◌∷◌, ◌++◌, length, is_none, Option, Some, None, refl, sym, ap, ◌∙◌, subst, arith}
use Rattle.std.specs.List.{All}
use Rattle.std.proofs.lemmas.Bool.{and_parts}
use Rattle.std.proofs.lemmas.List.{length-append}
use Rattle.std.proofs.lemmas.List.Elements.{All-nil, All-append, All-contains, All-weaker}
use Rattle.gd_names.proofs.Small.{none-from}
use Rattle.gd_item.specs.Inventory.{Inventory, Effect, new_drive, after_all, inventory}
use Rattle.gd_item.specs.Records.{size_of}
use Rattle.gd_item.specs.Refused.{refusal}
use Rattle.gd_item.specs.Sessions.{State, Session, new_state, held, held_bytes}
use Rattle.gd_item.specs.Steps.{effects_of, sessions_of, openers_of, is_accepted, after_request, after_event, after_step, after_steps, state_of}
use Rattle.gd_item.specs.Versions.{accepted, accepted_after}
use Rattle.gd_item.specs.declared.live.LiveItem.{LiveItem}
use Rattle.gd_item.specs.declared.live.Version.{Version}
use Rattle.gd_item.specs.declared.request.Request.{Request}
use Rattle.gd_item.specs.declared.step.DriveEvent.{DriveEvent}
use Rattle.gd_item.specs.declared.step.DriveEvent.TheVariants.{Expire, Restore, EndSession, Plain}
use Rattle.gd_item.specs.declared.step.Step.{Step}
use Rattle.gd_item.specs.declared.step.Step.TheVariants.{Ask, Event}
use Rattle.gd_item.specs.declared.step.Who.{Who}
use Rattle.gd_item.proofs.Effects.{inventory-append, number-inventory}
use Rattle.gd_item.proofs.LogsGrow.{accepted-append}
use Rattle.gd_item.proofs.LogsVersions.{IsKnown, known-inventory}
use Rattle.gd_laws.specs.EveryDrive.{EveryDrive}
use Rattle.gd_laws.proofs.Marks.{IsMarked, is-marked, gone-each, gone-once}
use Rattle.gd_laws.proofs.Orderly.{IsOrderly, orderly-new, orderly-all, small-puts, brought_by, kept-all}
use Rattle.gd_laws.proofs.Requests.{Follows, follows}
use Rattle.gd_laws.proofs.Serving.{IsServing, serving-none, serving-without, bytes-without}

-- ---- the record from its parts
abbrev IsSmall : Version → Type 0
IsSmall version = length version.bytes ≤ 67108864

-- a file that stands is a version that was accepted
small-item : (versions : List Version) (item : LiveItem) (bytes : Option (List ℕ)) → item.bytes ≡ bytes → All IsSmall versions → IsKnown versions item → size_of bytes ≤ 67108864
small-item versions item None is small known = omega arith
small-item versions item (Some bytes) is small known = All-contains IsSmall versions (record { item = item.number; content = item.content; bytes = bytes }) small (known bytes is)

record HasParts (state : State) : Type 0 where
  order : IsOrderly (held state)
  versions : All IsSmall (accepted state.effects)
  light : (held state).kept + held_bytes state.sessions ≤ 536870912
  epoch_begun : 1 ≤ state.epoch
  epoch : state.epoch < 2 ^ 64
  floor : state.floor ≤ (held state).number
  serving : IsServing (length state.openers) state.sessions

from-parts : (state : State) → HasParts state → EveryDrive state
from-parts state parts =
    let marked : IsMarked (held state) = is-marked state.effects in
    record {
      tree = parts.order.tree;
      few = parts.order.few;
      names = parts.order.names;
      paths = parts.order.paths;
      sizes = All-weaker (IsKnown (accepted state.effects)) (λ (item : LiveItem). size_of item.bytes ≤ 67108864)
          (λ item known. small-item (accepted state.effects) item item.bytes refl parts.versions known) (held state).items (known-inventory state.effects).living;
      versions = parts.versions;
      light = parts.light;
      begun = parts.order.begun;
      number = parts.order.number;
      next_begun = parts.order.next;
      next = marked.given;
      gone = gone-each (held state) marked;
      gone_once = gone-once (held state).removed marked.differ;
      gone_in_order = marked.in_order;
      epoch_begun = parts.epoch_begun;
      epoch = parts.epoch;
      floor = parts.floor;
      sessions = parts.serving.each;
      session_numbers = parts.serving.rising;
      few_sessions = parts.serving.few;
      openers = parts.serving.fits;
    }

parts-of : (state : State) → EveryDrive state → HasParts state
parts-of state every = record {
  order = record {
    tree = every.tree;
    few = every.few;
    names = every.names;
    paths = every.paths;
    begun = every.begun;
    next = every.next_begun;
    number = every.number;
  };
  versions = every.versions;
  light = every.light;
  epoch_begun = every.epoch_begun;
  epoch = every.epoch;
  floor = every.floor;
  serving = record { each = every.sessions; rising = every.session_numbers; few = every.few_sessions; fits = every.openers };
}

-- ---- a request
pub number-rises : (effects more : List Effect) → (inventory effects).number ≤ (inventory (effects ++ more)).number
number-rises effects more = omega (arith, number-inventory effects, number-inventory (effects ++ more), length-append effects more)

parts-more : (state : State) (effects : List Effect) (sessions : List Session) (openers : List Who) → HasParts state → Follows (held state) effects (length openers) sessions
    → HasParts (record state { effects = state.effects ++ effects; sessions = sessions; openers = openers })
parts-more state effects sessions openers parts follow =
    let more : inventory (state.effects ++ effects) ≡ after_all (held state) effects = inventory-append state.effects effects in
    let kept : (inventory (state.effects ++ effects)).kept ≡ (held state).kept + brought_by effects = ap (λ (store : Inventory). store.kept) more ∙ kept-all (held state) effects in
    let low : state.floor ≤ (held state).number = parts.floor in
    record {
      order = subst IsOrderly (sym more) (orderly-all (held state) effects parts.order follow.finds);
      versions = subst (All IsSmall) (sym (accepted-append new_drive state.effects effects))
          (All-append IsSmall (accepted state.effects) (accepted_after (held state) effects) parts.versions (small-puts (held state) effects follow.finds));
      light = omega (arith, kept, follow.light);
      epoch_begun = parts.epoch_begun;
      epoch = parts.epoch;
      floor = omega (arith, low, number-rises state.effects effects);
      serving = follow.serving;
    }

parts-request : (state : State) (who : Who) (request : Request) (served : Bool) → HasParts state → is_accepted state request served ≡ true → HasParts (after_request state who request)
parts-request state who request served parts accepted =
    parts-more state (effects_of state request) (sessions_of state request) (openers_of state who request) parts
    (follows state parts.order parts.serving parts.light who request (none-from (refusal state request) (and_parts served (is_none (refusal state request)) accepted).1))

-- ---- an event
parts-event : (state : State) (event : DriveEvent) → HasParts state → HasParts (after_event state event)
parts-event state (Expire number) parts = record {
  order = parts.order;
  versions = parts.versions;
  light = parts.light;
  epoch_begun = parts.epoch_begun;
  epoch = parts.epoch;
  floor = (let low : state.floor ≤ (held state).number = parts.floor in omega (arith, low));
  serving = parts.serving;
}
parts-event state Restore parts = record {
  order = parts.order;
  versions = parts.versions;
  light = parts.light;
  epoch_begun = (let begun : 1 ≤ state.epoch = parts.epoch_begun in omega (arith, begun));
  epoch = omega arith;
  floor = parts.floor;
  serving = parts.serving;
}
parts-event state (EndSession session) parts = record {
  order = parts.order;
  versions = parts.versions;
  light = (let low : (held state).kept + held_bytes state.sessions ≤ 536870912 = parts.light in omega (arith, low, bytes-without session state.sessions));
  epoch_begun = parts.epoch_begun;
  epoch = parts.epoch;
  floor = parts.floor;
  serving = serving-without (length state.openers) session state.sessions parts.serving;
}
parts-event state Plain parts = record {
  order = parts.order;
  versions = parts.versions;
  light = parts.light;
  epoch_begun = parts.epoch_begun;
  epoch = parts.epoch;
  floor = parts.floor;
  serving = parts.serving;
}

-- ---- a step, and a log
parts-step : (state : State) (step : Step) → HasParts state → HasParts (after_step state step)
parts-step state (Ask who request served heard) parts =
    (elim (is_accepted state request served) as (λ b. is_accepted state request served ≡ b → HasParts (cond b (after_request state who request) state)) [
      | true ↦ λ accepted. parts-request state who request served parts accepted
      | false ↦ λ refused. parts
    ]) refl
parts-step state (Event event) parts = parts-event state event parts

pub kept-step : (state : State) (step : Step) → EveryDrive state → EveryDrive (after_step state step)
kept-step state step every = from-parts (after_step state step) (parts-step state step (parts-of state every))

parts-new : HasParts new_state
parts-new = record {
  order = orderly-new;
  versions = All-nil IsSmall;
  light = omega arith;
  epoch_begun = omega arith;
  epoch = omega arith;
  floor = omega arith;
  serving = serving-none;
}

parts-steps : (state : State) (steps : List Step) → HasParts state → HasParts (after_steps state steps)
parts-steps state [] parts = parts
parts-steps state (step ∷ steps) parts = parts-steps (after_step state step) steps (parts-step state step parts)

pub every-drive : (log : List Step) → EveryDrive (state_of log)
every-drive log = from-parts (state_of log) (parts-steps new_state log parts-new)
