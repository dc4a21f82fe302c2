-- Bytes that are read piece by piece, until a message is whole.
use Rattle.std.proofs.Common.{◌≡◌, ℕ, ◌+◌, ◌-◌, ◌^◌, ◌<◌, ◌≤◌, min, Bool, true, false, List, [], ◌++◌, ◌⊎◌, length, take, drop, Option, Some, Ok, inr, refl, sym, ap, subst, ◌∙◌, arith, append_assoc, append-nil, length-append}
use Rattle.std.specs.Prelude.{slice_range}
use Rattle.std.proofs.lemmas.List.{drop-take, drop-drop, length-take, length-take-le, length-drop, take-append-drop, nil_from_length}
use Rattle.gd_frame.specs.Syntax.{requests}
use Rattle.gd_frame.specs.Messages.{HasNoMessage, HasCause, Awaits}
use Rattle.gd_frame.specs.declared.step.ReadState.TheVariants.{Open}
use Rattle.gd_frame.specs.declared.step.ReadStep.TheVariants.{Need, Done, Bad}
use Rattle.gd_frame.specs.declared.message.MessageCause.{MessageCause}
use Rattle.gd_http.specs.Hearing.{Hearing, RequestBytes, RequestCloses, Hears}
use Rattle.gd_http.specs.declared.incoming.Incoming.{Incoming}
use Rattle.gd_server.specs.Inboxes.{unread, pending, IsReady, Fills, Takes, Heard, Silent}
use Rattle.gd_server.specs.Messages.{IsMessage, IsPart, IsAll}
use Rattle.gd_server.specs.Serving.{Gave}
use Rattle.gd_server.specs.declared.inbox.Inbox.{Inbox}
use Rattle.gd_server.specs.declared.inbox.Message.{Message}
use Rattle.gd_server.specs.declared.end.ServeEnd.TheVariants.{BadMessage, Memory}

-- ---- what a source gave

pub gave_none : (left : Option (List ℕ)) → Gave left left []
gave_none left = record { told = λ bytes at. (bytes, at, refl) }

pub gave_more : (l0 l1 l2 : Option (List ℕ)) (xs ys : List ℕ) → Gave l0 l1 xs → Gave l1 l2 ys → Gave l0 l2 (xs ++ ys)
gave_more l0 l1 l2 xs ys one two = record {
  told = λ bytes at.
      let a = one.told bytes at in
      let b = two.told a.0 a.1 in
      (b.0, b.1, a.2 ∙ (ap (λ (l : List ℕ). xs ++ l) b.2 ∙ sym (append_assoc xs ys b.0)));
}

pub all_more : (l0 l1 : Option (List ℕ)) (xs ys : List ℕ) → Gave l0 l1 xs → IsAll l1 ys → IsAll l0 (xs ++ ys)
all_more l0 l1 xs ys gave all = λ bytes at. let a = gave.told bytes at in a.2 ∙ ap (λ (l : List ℕ). xs ++ l) (all a.0 a.1)

-- ---- the room of an inbox

used_within : (xs : List ℕ) (from to used : ℕ) → from ≤ to → used ≤ length (slice_range xs from to) → from + used ≤ to
used_within xs from to used within few = omega (arith, length-take (to - from) (drop from xs))

-- the part of the room that was used, and what is behind it
used_parts : (xs : List ℕ) (from to used : ℕ) → from + used ≤ to → slice_range xs from to ≡ take used (slice_range xs from to) ++ slice_range xs (from + used) to
used_parts xs from to used within =
    let rest = to - (from + used) in
    let count : to - from ≡ used + rest = omega arith in
    let behind : drop used (slice_range xs from to) ≡ slice_range xs (from + used) to =
    ap (λ (n : ℕ). drop used (take n (drop from xs))) count ∙ (drop-take used rest (drop from xs) ∙ ap (take rest) (drop-drop used from xs)) in
    sym (take-append-drop used (slice_range xs from to)) ∙ ap (λ (l : List ℕ). take used (slice_range xs from to) ++ l) behind

nothing_unread : (xs : List ℕ) (from to : ℕ) → to ≤ from → slice_range xs from to ≡ []
nothing_unread xs from to within =
    let none : to - from ≡ 0 = omega arith in
    ap (λ (n : ℕ). take n (drop from xs)) none

some_unread : (xs : List ℕ) (from to : ℕ) → from < to → to ≤ length xs → ¬ (slice_range xs from to ≡ [])
some_unread xs from to within filled = λ none.
    absurd (omega (arith, ap length none, length-take (to - from) (drop from xs), length-drop from xs))

front_unread : (xs : List ℕ) (to : ℕ) → slice_range xs 0 to ≡ take to xs
front_unread xs to =
    let all : to - 0 ≡ to = omega arith in
    ap (λ (n : ℕ). take n xs) all

pub still_filled : (left : Option (List ℕ)) (inbox : Inbox) → inbox.from < inbox.to → inbox.to ≤ length inbox.room → Fills left left inbox inbox true
still_filled left inbox some filled = record {
  read = [];
  gave = gave_none left;
  unread_is = sym (append-nil (unread inbox));
  reader = refl;
  filled = λ is. some_unread inbox.room inbox.from inbox.to some filled;
  over = λ is. absurd cc;
}

pub filled : (l0 l1 : Option (List ℕ)) (old new : Inbox) → new.reader ≡ old.reader → old.to ≤ old.from → new.from ≡ 0 → 0 < new.to → new.to ≤ length new.room
    → ((left : List ℕ) → l0 ≡ Some left → (rest : List ℕ) × (l1 ≡ Some rest) × (left ≡ take new.to new.room ++ rest)) → Fills l0 l1 old new true
filled l0 l1 old new reader nothing from some within told =
    let front : unread new ≡ take new.to new.room = ap (λ (n : ℕ). slice_range new.room n new.to) from ∙ front_unread new.room new.to in
    record {
      read = unread new;
      gave = record { told = subst (λ (l : List ℕ). (left : List ℕ) → l0 ≡ Some left → (rest : List ℕ) × (l1 ≡ Some rest) × (left ≡ l ++ rest)) (sym front) told };
      unread_is = ap (λ (l : List ℕ). l ++ unread new) (sym (nothing_unread old.room old.from old.to nothing));
      reader = reader;
      filled = λ is. some_unread new.room new.from new.to (omega arith) within;
      over = λ is. absurd cc;
    }

pub over : (l0 l1 : Option (List ℕ)) (old new : Inbox) (count : ℕ) → new.reader ≡ old.reader → old.to ≤ old.from → new.to ≤ new.from → count ≡ 0
    → ((left : List ℕ) → l0 ≡ Some left → (rest : List ℕ) × (l1 ≡ Some rest) × (left ≡ take count new.room ++ rest)) → IsAll l0 [] → Fills l0 l1 old new false
over l0 l1 old new count reader nothing still none told all =
    let unread_old = nothing_unread old.room old.from old.to nothing in
    let unread_new = nothing_unread new.room new.from new.to still in
    record {
      read = [];
      gave = record { told = subst (λ (n : ℕ). (left : List ℕ) → l0 ≡ Some left → (rest : List ℕ) × (l1 ≡ Some rest) × (left ≡ take n new.room ++ rest)) none told };
      unread_is = unread_new ∙ ap (λ (l : List ℕ). l ++ []) (sym unread_old);
      reader = reader;
      filled = λ is. absurd cc;
      over = λ is. (unread_new, refl, all);
    }

-- ---- what the reader takes

pub took_need : (old : Inbox) (reader : Hearing) (piece : List ℕ) → piece ≡ unread old → Hears RequestBytes old.reader piece (Ok Need) reader
    → (reader.held ++ slice_range old.room old.to old.to ≡ pending old) × (slice_range old.room old.to old.to ≡ []) × HasNoMessage requests (pending old) × Awaits requests (pending old)
    × (reader.state ≡ Open) × (reader.place ≡ old.reader.place)
took_need old reader piece is hears =
    let nothing = nothing_unread old.room old.to old.to (omega arith) in
    let all : old.reader.held ++ piece ≡ pending old = ap (λ (l : List ℕ). old.reader.held ++ l) is in (
      ap (λ (l : List ℕ). reader.held ++ l) nothing ∙ append-nil reader.held ∙ hears.bytes.2 ∙ all,
      nothing,
      subst (λ (l : List ℕ). HasNoMessage requests l) all hears.bytes.0,
      subst (λ (l : List ℕ). Awaits requests l) all hears.bytes.1,
      hears.state,
      hears.place,
    )

pub took_done : (old : Inbox) (reader : Hearing) (piece : List ℕ) (asks : Incoming) (closes : Bool) (used : ℕ) → piece ≡ unread old → old.from ≤ old.to → closes ≡ reader.closes
    → Hears RequestBytes old.reader piece (Ok (Done asks used)) reader
    → (first : List ℕ) × (pending old ≡ first ++ slice_range old.room (old.from + used) old.to) × IsMessage first (record { asks = asks; closes = closes }) × IsReady reader
    × (reader.place ≡ min (old.reader.place + length first) (2 ^ 64 - 1))
took_done old reader piece asks closes used is ordered closing hears =
    let within : used ≤ length piece = hears.bytes.0 in
    let fits : old.from + used ≤ old.to = used_within old.room old.from old.to used ordered (omega (arith, ap length is)) in
    let behind = slice_range old.room (old.from + used) old.to in
    let parts : piece ≡ take used piece ++ behind =
    is ∙ used_parts old.room old.from old.to used fits ∙ ap (λ (l : List ℕ). take used l ++ behind) (sym is) in
    let first = old.reader.held ++ take used piece in
    let count : length first ≡ length old.reader.held + used = omega (arith, length-append old.reader.held (take used piece), length-take-le used piece within) in (
      first,
      ap (λ (l : List ℕ). old.reader.held ++ l) (sym is ∙ parts) ∙ sym (append_assoc old.reader.held (take used piece) behind),
      (hears.bytes.1, subst (λ (b : Bool). RequestCloses first b) (sym closing) hears.closes),
      record { state = hears.state; held = hears.bytes.2 },
      hears.place ∙ ap (λ (n : ℕ). min (old.reader.place + n) (2 ^ 64 - 1)) (sym count),
    )

-- ---- until a message is whole

-- No message was whole so far: these bytes were read since the last one, and the reader holds the first of them.
pub record Waits (left left_now : Option (List ℕ)) (old now : Inbox) : Type 0 where
  pub read : List ℕ
  pub gave : Gave left left_now read
  pub parts : unread old ++ read ≡ pending now
  pub part : (now.reader.held ≡ []) ⊎ IsPart now.reader.held
  pub state : now.reader.state ≡ Open
  pub place : now.reader.place ≡ old.reader.place

filled_parts : (l0 l1 l2 : Option (List ℕ)) (old now new : Inbox) (some : Bool) (waits : Waits l0 l1 old now) (fills : Fills l1 l2 now new some) → unread old ++ (waits.read ++ fills.read) ≡ pending new
filled_parts l0 l1 l2 old now new some waits fills =
    sym (append_assoc (unread old) waits.read fills.read)
    ∙ ap (λ (l : List ℕ). l ++ fills.read) waits.parts
    ∙ append_assoc now.reader.held (unread now) fills.read
    ∙ ap (λ (l : List ℕ). now.reader.held ++ l) (sym fills.unread_is)
    ∙ ap (λ r. r.held ++ unread new) (sym fills.reader)

filled_held : (l0 l1 l2 : Option (List ℕ)) (old now new : Inbox) (some : Bool) → Waits l0 l1 old now → Fills l1 l2 now new some → (new.reader.held ≡ []) ⊎ IsPart new.reader.held
filled_held l0 l1 l2 old now new some waits fills = subst (λ r. (r.held ≡ []) ⊎ IsPart r.held) (sym fills.reader) waits.part

pub waits_filled : (l0 l1 l2 : Option (List ℕ)) (old now new : Inbox) (some : Bool) → Waits l0 l1 old now → Fills l1 l2 now new some → Waits l0 l2 old new
waits_filled l0 l1 l2 old now new some waits fills = record {
  read = waits.read ++ fills.read;
  gave = gave_more l0 l1 l2 waits.read fills.read waits.gave fills.gave;
  parts = filled_parts l0 l1 l2 old now new some waits fills;
  part = filled_held l0 l1 l2 old now new some waits fills;
  state = ap (λ r. r.state) fills.reader ∙ waits.state;
  place = ap (λ r. r.place) fills.reader ∙ waits.place;
}

-- all that is pending is held
held_all : (inbox : Inbox) → unread inbox ≡ [] → pending inbox ≡ inbox.reader.held
held_all inbox nothing = ap (λ (l : List ℕ). inbox.reader.held ++ l) nothing ∙ append-nil inbox.reader.held

nothing_behind : (xs ys : List ℕ) → xs ++ ys ≡ [] → ys ≡ []
nothing_behind xs ys none = nil_from_length ys (omega (arith, ap length none, length-append xs ys))

pub waits_needed : (l0 l1 : Option (List ℕ)) (old now new : Inbox) → Waits l0 l1 old now → ¬ (unread now ≡ []) → Takes now (Ok Need) new → Waits l0 l1 old new
waits_needed l0 l1 old now new waits some took =
    let held : pending now ≡ new.reader.held = sym took.0 ∙ held_all new took.1 in
    record {
      read = waits.read;
      gave = waits.gave;
      parts = waits.parts ∙ sym took.0;
      part = inr (record {
        some = λ none. some (nothing_behind now.reader.held (unread now) (held ∙ none));
        none = subst (λ (h : List ℕ). HasNoMessage requests h) held took.2;
        awaits = subst (λ (h : List ℕ). Awaits requests h) held took.3;
      });
      state = took.4;
      place = took.5 ∙ waits.place;
    }

pub heard_done : (l0 l1 : Option (List ℕ)) (old now new : Inbox) (message : Message) (used : ℕ) → Waits l0 l1 old now → Takes now (Ok (Done message used)) new → Heard l0 l1 old new message
heard_done l0 l1 old now new message used waits took = record {
  read = waits.read;
  gave = waits.gave;
  first = took.0;
  parts = waits.parts ∙ took.1;
  is = took.2;
  ready = took.3;
  place = took.4 ∙ ap (λ (n : ℕ). min (n + length took.0) (2 ^ 64 - 1)) waits.place;
}

pub silent_bad : (l0 l1 : Option (List ℕ)) (old now new : Inbox) (at : ℕ) (cause : MessageCause) → Waits l0 l1 old now → Takes now (Ok (Bad at cause)) new → Silent l0 l1 old (BadMessage at cause)
silent_bad l0 l1 old now new at cause waits took = record {
  read = waits.read;
  gave = waits.gave;
  behind = (took.0 ∙ waits.place, subst (λ (l : List ℕ). HasCause requests cause l) (sym waits.parts) took.1);
}

pub silent_memory : (l0 l1 : Option (List ℕ)) (old now : Inbox) → Waits l0 l1 old now → Silent l0 l1 old Memory
silent_memory l0 l1 old now waits = record { read = waits.read; gave = waits.gave; behind = tt }
