-- Between two requests for changes the puts of this client fall once on a place.
use Rattle.std.proofs.Common.{◌≡◌, ◌⊎◌, inl, inr, ⊎_elim, ℕ, ◌+◌, ◌≤◌, Bool, true, false, cond, nat_eq, is_none, map, List, [], ◌∷◌, ◌++◌, length, Option, Some, None, refl, ap, sym, subst, ◌∙◌, arith}
use Rattle.std.specs.List.{AllByRecursion, Contains, flat_map}
use Rattle.std.proofs.lemmas.Bool.{eqb-true, eq-eqb}
use Rattle.std.proofs.lemmas.List.{length-append, length_push}
use Rattle.std.proofs.lemmas.List.Elements.{Contains-append_cases, Contains-append_left, Contains-append_right, Contains-push_cases}
use Rattle.gd_names.proofs.Each.{each, each-so}
use Rattle.gd_names.specs.Settling.{settled_at, sibling_named}
use Rattle.gd_names.specs.declared.conflict.Conflict.{Conflict}
use Rattle.gd_names.specs.declared.conflict.Conflict.TheVariants.{Fail}
use Rattle.gd_names.specs.declared.conflict.Settle.{Settle}
use Rattle.gd_names.specs.declared.conflict.Settle.TheVariants as settle
use Rattle.gd_names.specs.declared.conflict.Sibling.{Sibling}
use Rattle.gd_item.specs.Ids.{item_id}
use Rattle.gd_item.specs.Inventory.{Effect, Removed, Inventory}
use Rattle.gd_item.specs.Moves.{patch_effect, remove_effects, removal_order}
use Rattle.gd_item.specs.Refusals.{file_effect, folder_effect, make_folder_effect, put_effect, settled_in, siblings_in}
use Rattle.gd_item.specs.Refused.{Refusal, id_number, refusal}
use Rattle.gd_item.specs.Sessions.{State, Session, completes_file, held, is_completed, session_at, with_fragment, without_session}
use Rattle.gd_item.specs.Steps.{after_request, after_step, commit_effect, effects_at, effects_by, effects_of, finish_effects, fragment_effects, is_accepted, opened, openers_of, sessions_of, state_of}
use Rattle.gd_item.specs.Targets.{place_of, target_of}
use Rattle.gd_item.specs.declared.condition.Condition.{Condition}
use Rattle.gd_item.specs.declared.live.Place.{Place}
use Rattle.gd_item.specs.declared.live.Place.TheVariants.{Over, Under}
use Rattle.gd_item.specs.declared.request.Address.{Address}
use Rattle.gd_item.specs.declared.request.Address.TheVariants.{Id, ByPath, Child}
use Rattle.gd_item.specs.declared.request.Request.{Request}
use Rattle.gd_item.specs.declared.request.Request.TheVariants.{MakeFolder, Put, Patch, Delete, OpenSession, Fragment, CancelSession, Finish, Delta}
use Rattle.gd_item.specs.declared.step.DriveEvent.TheVariants.{Expire, Restore, EndSession, Plain}
use Rattle.gd_item.specs.declared.step.Step.{Step}
use Rattle.gd_item.specs.declared.step.Step.TheVariants as step
use Rattle.gd_item.specs.declared.step.Who.{Who}
use Rattle.gd_item.specs.declared.step.Who.TheVariants.{Own, Other}
use Rattle.gd_laws.proofs.Every.{every-drive}
use Rattle.gd_laws.specs.EveryDrive.{IsOpen}
use Rattle.od_tree.specs.declared.step.LocalStep.TheVariants.{User, Op}
use Rattle.od_run.specs.Acting.{IsSentTo, LegalFrom, MayRequest, MaySend}
use Rattle.od_uploads.specs.Falling.{FallOnce, FallsApart, puts_at, puts_since}
use Rattle.od_run.specs.Knowing.{Known, Sending, There, after_effects, begins, learn, reading_for, sending_of, sent_as, there_after, there_asked, there_brought, there_heard}
use Rattle.od_run.specs.Worlds.{World, Event, Asked, Worked, Kept, happens, steps_in}
use Rattle.od_run.proofs.Among.{among-head, of-each}
use Rattle.od_sends.proofs.Sessions.{at-gone, at-last, at-other, at-same, at-without, grown_at, new-at, none-at, number-apart, openers-grow}
use Rattle.od_uploads.proofs.Uploading.{state-next}

-- ---- the place that an address names
abbrev place_named : Address → List Place
place_named (Id id) = Over id ∷ []
place_named (Child id name) = Under id name ∷ []
place_named (ByPath path) = []

abbrev named : List Address → List Place
named put = flat_map place_named put

one-in : (a b : Place) → Contains (a ∷ []) b → a ≡ b
one-in a b there = ⊎_elim (λ (none : Contains [] b). absurd (omega (arith, none.1))) (λ same. same) (Contains-push_cases [] a b there)

-- two addresses of one place are one
same-address : (a b : Address) (at : Place) → Contains (place_named b) at → Contains (place_named a) at → a ≡ b
same-address (Id i) (Id j) at first second = let same : Over i ≡ Over j = one-in (Over i) at second ∙ sym (one-in (Over j) at first) in cc same
same-address (Id i) (Child j name) at first second = let same : Over i ≡ Under j name = one-in (Over i) at second ∙ sym (one-in (Under j name) at first) in absurd (cc same)
same-address (Id i) (ByPath path) at first second = absurd (omega (arith, first.1))
same-address (Child i name) (Id j) at first second = let same : Under i name ≡ Over j = one-in (Under i name) at second ∙ sym (one-in (Over j) at first) in absurd (cc same)
same-address (Child i name) (Child j other) at first second =
    let same : Under i name ≡ Under j other = one-in (Under i name) at second ∙ sym (one-in (Under j other) at first) in cc same
same-address (Child i name) (ByPath path) at first second = absurd (omega (arith, first.1))
same-address (ByPath path) b at first second = absurd (omega (arith, second.1))

address-in : (put : List Address) (a : Address) (at : Place) → Contains (place_named a) at → Contains (named put) at → Contains put a
address-in [] a at here there = absurd (omega (arith, there.1))
address-in (b ∷ put) a at here there =
    ⊎_elim (λ first. subst (λ c. Contains (b ∷ put) c) (same-address b a at here first) (among-head b put))
    (λ later. Contains-append_right (b ∷ []) put a (address-in put a at here later)) (Contains-append_cases (place_named b) (named put) at there)

-- ---- where a session comes from
abbrev Found : (Session → Type 0) → Option Session → Type 0
Found P None = Unit {0}
Found P (Some session) = P session

-- it has the place and the behaviour of what stood at its number before
abbrev ComesFrom : Option Session → Session → Type 0
ComesFrom before session = (old : Session) × (before ≡ Some old) × (session.place ≡ old.place) × (session.behaviour ≡ old.behaviour)

comes-itself : (found : Option Session) → Found (ComesFrom found) found
comes-itself None = tt
comes-itself (Some session) = (session, refl, refl, refl)

comes-without : (number session : ℕ) (sessions : List Session) → Found (ComesFrom (session_at session sessions)) (session_at session (without_session number sessions))
comes-without number session sessions = by (nat_eq number session) refl
  where
    by : (b : Bool) → nat_eq number session ≡ b → Found (ComesFrom (session_at session sessions)) (session_at session (without_session number sessions))
    by true is =
        let same : number ≡ session = eqb-true number session is in
        subst (Found (ComesFrom (session_at session sessions))) (sym (ap (λ n. session_at session (without_session n sessions)) same ∙ at-gone session sessions)) tt
    by false is = subst (Found (ComesFrom (session_at session sessions))) (sym (at-without number session sessions is)) (comes-itself (session_at session sessions))

comes-grown : (total : ℕ) (bytes : List ℕ) (found : Option Session) → Found (ComesFrom found) (grown_at total bytes found)
comes-grown total bytes None = tt
comes-grown total bytes (Some session) = (session, refl, refl, refl)

comes-with : (number session total : ℕ) (bytes : List ℕ) (sessions : List Session) → Found (ComesFrom (session_at session sessions)) (session_at session (with_fragment number total bytes sessions))
comes-with number session total bytes sessions = by (nat_eq number session) refl
  where
    by : (b : Bool) → nat_eq number session ≡ b → Found (ComesFrom (session_at session sessions)) (session_at session (with_fragment number total bytes sessions))
    by true is =
        let same : number ≡ session = eqb-true number session is in
        subst (Found (ComesFrom (session_at session sessions))) (sym (ap (λ n. session_at session (with_fragment n total bytes sessions)) same ∙ at-same session total bytes sessions))
        (comes-grown total bytes (session_at session sessions))
    by false is = subst (Found (ComesFrom (session_at session sessions))) (sym (at-other number session total bytes sessions is)) (comes-itself (session_at session sessions))

comes-last : (completed : Bool) (number session total : ℕ) (bytes : List ℕ) (sessions : List Session)
    → Found (ComesFrom (session_at session sessions)) (session_at session (cond completed (without_session number sessions) (with_fragment number total bytes sessions)))
comes-last true number session total bytes sessions = comes-without number session sessions
comes-last false number session total bytes sessions = comes-with number session total bytes sessions

comes-opened : (count session : ℕ) (found : Option Place) (behaviour : Conflict) (condition : Condition) (defer : Bool) (sessions : List Session) → session ≤ count
    → Found (ComesFrom (session_at session sessions)) (session_at session (opened (count + 1) found behaviour condition defer sessions))
comes-opened count session None behaviour condition defer sessions low = comes-itself (session_at session sessions)
comes-opened count session (Some at) behaviour condition defer sessions low =
    subst (Found (ComesFrom (session_at session sessions)))
    (sym (at-last session sessions (record { number = count + 1; place = at; behaviour = behaviour; condition = condition; defer = defer; total = None; filled = [] }) (number-apart count session low)))
    (comes-itself (session_at session sessions))

comes-request : (state : State) (request : Request) (session : ℕ) → session ≤ length state.openers → Found (ComesFrom (session_at session state.sessions)) (session_at session (sessions_of state request))
comes-request state (OpenSession at name behaviour condition defer) session low =
    comes-opened (length state.openers) session (place_of (held state) at) behaviour condition defer state.sessions low
comes-request state (Fragment number first last total bytes) session low = comes-last (is_completed (session_at number state.sessions) last total) number session total bytes state.sessions
comes-request state (CancelSession number) session low = comes-without number session state.sessions
comes-request state (Finish number) session low = comes-without number session state.sessions
comes-request state request session low = comes-itself (session_at session state.sessions)

comes-if : (accepted : Bool) (state : State) (who : Who) (request : Request) (session : ℕ) → session ≤ length state.openers
    → Found (ComesFrom (session_at session state.sessions)) (session_at session (cond accepted (after_request state who request) state).sessions)
comes-if true state who request session low = comes-request state request session low
comes-if false state who request session low = comes-itself (session_at session state.sessions)

comes-step : (state : State) (next : Step) (session : ℕ) → session ≤ length state.openers → Found (ComesFrom (session_at session state.sessions)) (session_at session (after_step state next).sessions)
comes-step state (step.Ask who request served heard) session low = comes-if (is_accepted state request served) state who request session low
comes-step state (step.Event (Expire number)) session low = comes-itself (session_at session state.sessions)
comes-step state (step.Event Restore) session low = comes-itself (session_at session state.sessions)
comes-step state (step.Event (EndSession number)) session low = comes-without number session state.sessions
comes-step state (step.Event Plain) session low = comes-itself (session_at session state.sessions)

low-if : (accepted : Bool) (state : State) (who : Who) (request : Request) → length state.openers ≤ length (cond accepted (after_request state who request) state).openers
low-if true state who request =
    let more = openers-grow state who request in
    let longer : length (openers_of state who request) ≡ length state.openers + length more.0 = ap (λ (openers : List Who). length openers) more.1 ∙ length-append state.openers more.0 in
    omega (arith, longer)
low-if false state who request = omega arith

low-step : (state : State) (next : Step) → length state.openers ≤ length (after_step state next).openers
low-step state (step.Ask who request served heard) = low-if (is_accepted state request served) state who request
low-step state (step.Event (Expire number)) = omega arith
low-step state (step.Event Restore) = omega arith
low-step state (step.Event (EndSession number)) = omega arith
low-step state (step.Event Plain) = omega arith

-- ---- what is so of places
abbrev IsFail : Place → Conflict → Type 0
IsFail (Over id) behaviour = Unit {0}
IsFail (Under id name) behaviour = behaviour ≡ Fail

-- a session waits for a place that was named, and at which no put fell
pub record IsWaiting (put : List Address) (places : List Place) (session : Session) : Type 0 where
  pub is_named : Contains (named put) session.place
  pub fails : IsFail session.place session.behaviour
  pub free : Contains places session.place → ⊥

abbrev Differ : State → List Sending → Type 0
Differ state sending =
    (a b : ℕ) (x y : List ℕ) → sent_as sending a ≡ Some x → sent_as sending b ≡ Some y → nat_eq a b ≡ false
    → (s t : Session) → session_at a state.sessions ≡ Some s → session_at b state.sessions ≡ Some t → s.place ≡ t.place → ⊥

pub record Falls (places : List Place) (state : State) (put : List Address) (sending : List Sending) : Type 0 where
  pub done : AllByRecursion (Contains (named put)) places
  pub low : (session : ℕ) (bytes : List ℕ) → sent_as sending session ≡ Some bytes → session ≤ length state.openers
  pub to : (session : ℕ) (bytes : List ℕ) → sent_as sending session ≡ Some bytes → Found (IsWaiting put places) (session_at session state.sessions)
  pub apart : Differ state sending

-- any step leaves it
waiting-from : (put : List Address) (places : List Place) (before after : Option Session) → Found (ComesFrom before) after → Found (IsWaiting put places) before → Found (IsWaiting put places) after
waiting-from put places before None comes waits = tt
waiting-from put places before (Some session) comes waits =
    let old : IsWaiting put places comes.0 = subst (Found (IsWaiting put places)) comes.1 waits in
    record {
      is_named = subst (Contains (named put)) (sym comes.2) old.is_named;
      fails = subst (λ at. IsFail at session.behaviour) (sym comes.2) (subst (λ b. IsFail (comes.0).place b) (sym comes.3) old.fails);
      free = λ there. old.free (subst (Contains places) comes.2 there);
    }

pub record Came (before : Option Session) (session : Session) : Type 0 where
  pub old : Session
  pub was : before ≡ Some old
  pub place : session.place ≡ old.place

came : (before after : Option Session) (session : Session) → Found (ComesFrom before) after → after ≡ Some session → Came before session
came before None session comes is = absurd (cc is)
came before (Some now) session comes is =
    let same : now ≡ session = cc is in
    subst (Came before) same (record { old = comes.0; was = comes.1; place = comes.2 })

-- a state whose sessions come from those of another one
pub record Follows (state after : State) : Type 0 where
  pub comes : (session : ℕ) → session ≤ length state.openers → Found (ComesFrom (session_at session state.sessions)) (session_at session after.sessions)
  pub longer : length state.openers ≤ length after.openers

follows-step : (state : State) (next : Step) → Follows state (after_step state next)
follows-step state next = record { comes = comes-step state next; longer = low-step state next }

follows-request : (state : State) (request : Request) → Follows state (after_request state Own request)
follows-request state request = record { comes = comes-request state request; longer = low-if true state Own request }

falls-still : (places : List Place) (state after : State) (put : List Address) (sending : List Sending) → Follows state after → Falls places state put sending → Falls places after put sending
falls-still places state after put sending follows falls = record {
  done = falls.done;
  low = λ session bytes is. let low = falls.low session bytes is in omega (arith, low, follows.longer);
  to = λ session bytes is.
      waiting-from put places (session_at session state.sessions) (session_at session after.sessions) (follows.comes session (falls.low session bytes is)) (falls.to session bytes is);
  apart = λ a b x y is_a is_b other s t at_a at_b same.
      let one = came (session_at a state.sessions) (session_at a after.sessions) s (follows.comes a (falls.low a x is_a)) at_a in
      let two = came (session_at b state.sessions) (session_at b after.sessions) t (follows.comes b (falls.low b y is_b)) at_b in
      falls.apart a b x y is_a is_b other one.old two.old one.was two.was (sym one.place ∙ (same ∙ two.place));
}

-- one more address is named
more-named : (a : Address) (put : List Address) (at : Place) → Contains (named put) at → Contains (named (a ∷ put)) at
more-named a put at there = Contains-append_right (place_named a) (named put) at there

waiting-more : (a : Address) (put : List Address) (places : List Place) (found : Option Session) → Found (IsWaiting put places) found → Found (IsWaiting (a ∷ put) places) found
waiting-more a put places None waits = tt
waiting-more a put places (Some session) waits = record { is_named = more-named a put session.place waits.is_named; fails = waits.fails; free = waits.free }

falls-named : (a : Address) (places : List Place) (state : State) (put : List Address) (sending : List Sending) → Falls places state put sending → Falls places state (a ∷ put) sending
falls-named a places state put sending falls = record {
  done = each-so (Contains (named put)) (Contains (named (a ∷ put))) (λ at there. more-named a put at there) places falls.done;
  low = falls.low;
  to = λ session bytes is. waiting-more a put places (session_at session state.sessions) (falls.to session bytes is);
  apart = falls.apart;
}

-- a put falls on a place for which no session waits
waiting-fallen : (put : List Address) (places : List Place) (at : Place) (found : Option Session) → ((session : Session) → found ≡ Some session → session.place ≡ at → ⊥) → Found (IsWaiting put places) found
    → Found (IsWaiting put (at ∷ places)) found
waiting-fallen put places at None other waits = tt
waiting-fallen put places at (Some session) other waits = record {
  is_named = waits.is_named;
  fails = waits.fails;
  free = λ there. ⊎_elim (λ first. other session refl (sym (one-in at session.place first))) waits.free (Contains-append_cases (at ∷ []) places session.place there);
}

falls-fallen : (at : Place) (places : List Place) (state : State) (put : List Address) (sending : List Sending) → Contains (named put) at
    → ((session : ℕ) (bytes : List ℕ) → sent_as sending session ≡ Some bytes → (found : Session) → session_at session state.sessions ≡ Some found → found.place ≡ at → ⊥)
    → Falls places state put sending → Falls (at ∷ places) state put sending
falls-fallen at places state put sending there other falls = record {
  done = (there, falls.done);
  low = falls.low;
  to = λ session bytes is. waiting-fallen put places at (session_at session state.sessions) (other session bytes is) (falls.to session bytes is);
  apart = falls.apart;
}

-- ---- what a put falls on
under-place : (parent : ℕ) (name bytes : List ℕ) (found : Option Sibling) (siblings : List Sibling) → puts_at (file_effect parent name bytes (settled_at found Fail siblings name false)) ≡ Under (item_id parent) name ∷ []
under-place parent name bytes None siblings = refl
under-place parent name bytes (Some other) siblings = refl

put-place : (held : Inventory) (at : Place) (bytes : List ℕ) (behaviour : Conflict) → IsFail at behaviour → puts_at (put_effect held at bytes behaviour) ≡ at ∷ []
put-place held (Over id) bytes behaviour fails = refl
put-place held (Under id name) bytes behaviour fails =
    subst (λ b. puts_at (file_effect id.0 name bytes (settled_in held id.0 name b false)) ≡ Under id name ∷ []) (sym fails)
    (under-place id.0 name bytes (sibling_named name (siblings_in id.0 held.items)) (siblings_in id.0 held.items))

folder-none : (parent : ℕ) (name : List ℕ) (found : Settle) → puts_at (folder_effect parent name found) ≡ []
folder-none parent name (settle.Free free) = refl
folder-none parent name (settle.Over number) = refl
folder-none parent name settle.Refuse = refl

removed-none : (numbers : List ℕ) → flat_map puts_at (map Removed numbers) ≡ []
removed-none [] = refl
removed-none (number ∷ numbers) = removed-none numbers

none-at-target : {X : Type 0} (effects : X → List Effect) (found : Option X) → ((x : X) → flat_map puts_at (effects x) ≡ []) → flat_map puts_at (effects_at effects found) ≡ []
none-at-target effects None so = refl
none-at-target effects (Some x) so = so x

abbrev Fresh : List Place → List Place → Type 0
Fresh places new = AllByRecursion (λ (at : Place). Contains places at → ⊥) new

-- the places of a request's puts are fresh, and afterwards all is so with them
pub record Fell (places new : List Place) (after : State) (put : List Address) (sending : List Sending) : Type 0 where
  pub fresh : Fresh places new
  pub falls : Falls (new ++ places) after put sending

fell-none : (places new : List Place) (after : State) (put : List Address) (sending : List Sending) → new ≡ [] → Falls places after put sending → Fell places new after put sending
fell-none places new after put sending none falls = subst (λ some. Fell places some after put sending) (sym none) (record { fresh = tt; falls = falls })

fell-one : (places new : List Place) (at : Place) (after : State) (put : List Address) (sending : List Sending) → new ≡ at ∷ [] → (Contains places at → ⊥) → Falls (at ∷ places) after put sending → Fell places new after put sending
fell-one places new at after put sending one free falls = subst (λ some. Fell places some after put sending) (sym one) (record { fresh = (free, tt); falls = falls })

-- of a file that is put at once
place-in : (k : Known) (held : Inventory) (at : Address) (behaviour : Conflict) (condition : Condition) (found : Place) → IsSentTo k at behaviour condition → place_of held at ≡ Some found
    → Contains (place_named at) found × IsFail found behaviour
place-in k held (Id id) behaviour condition found to is =
    let same : Over id ≡ found = cc is in (subst (Contains (Over id ∷ [])) same (among-head (Over id) []), subst (λ p. IsFail p behaviour) same tt)
place-in k held (Child id name) behaviour condition found to is =
    let same : Under id name ≡ found = cc is in (subst (Contains (Under id name ∷ [])) same (among-head (Under id name) []), subst (λ p. IsFail p behaviour) same to.0)
place-in k held (ByPath path) behaviour condition found to is = absurd to

-- no session waits for a place that was not named
unnamed : (put : List Address) (places : List Place) (at : Place) (found : Option Session) → (Contains (named put) at → ⊥) → Found (IsWaiting put places) found → (session : Session) → found ≡ Some session → session.place ≡ at → ⊥
unnamed put places at found fresh waits session is same =
    let here : IsWaiting put places session = subst (Found (IsWaiting put places)) is waits in
    fresh (subst (Contains (named put)) same here.is_named)

fell-put : (k : Known) (state after : State) (places new : List Place) (at : Address) (behaviour : Conflict) (condition : Condition) (bytes : List ℕ) (found : Option Place) → place_of (held state) at ≡ found
    → new ≡ flat_map puts_at (effects_at (λ place. put_effect (held state) place bytes behaviour ∷ []) found) → MaySend k at behaviour condition bytes → Follows state after
    → Falls places state k.there.put k.there.sending → Fell places new after (at ∷ k.there.put) k.there.sending
fell-put k state after places new at behaviour condition bytes None is are may follows falls =
    fell-none places new after (at ∷ k.there.put) k.there.sending are
    (falls-named at places after k.there.put k.there.sending (falls-still places state after k.there.put k.there.sending follows falls))
fell-put k state after places new at behaviour condition bytes (Some place) is are may follows falls =
    let put : List Address = k.there.put in
    let sending : List Sending = k.there.sending in
    let here = place-in k (held state) at behaviour condition place may.to is in
    let still : Falls places after put sending = falls-still places state after put sending follows falls in
    let fresh : Contains (named put) place → ⊥ = λ there. may.once (address-in put at place here.0 there) in
    fell-one places new place after (at ∷ put) sending (are ∙ (ap (λ some. some ++ []) (put-place (held state) place bytes behaviour here.1)))
    (λ there. fresh (of-each (Contains (named put)) places place falls.done there))
    (falls-fallen place places after (at ∷ put) sending (Contains-append_left (place_named at) (named put) place here.0)
    (λ session whole sent. unnamed put places place (session_at session after.sessions) fresh (still.to session whole sent))
    (falls-named at places after put sending still))

-- of a session that is completed
fell-session : (state after : State) (places new : List Place) (put : List Address) (sending : List Sending) (number : ℕ) (whole bytes : List ℕ) (session : Session) → sent_as sending number ≡ Some whole
    → session_at number state.sessions ≡ Some session → session_at number after.sessions ≡ None → new ≡ flat_map puts_at (commit_effect state session bytes ∷ []) → Follows state after
    → Falls places state put sending → Fell places new after put sending
fell-session state after places new put sending number whole bytes session sent there gone are follows falls =
    let waits : IsWaiting put places session = subst (Found (IsWaiting put places)) there (falls.to number whole sent) in
    let still : Falls places after put sending = falls-still places state after put sending follows falls in
    fell-one places new session.place after put sending (are ∙ ap (λ some. some ++ []) (put-place (held state) session.place bytes session.behaviour waits.fails)) waits.free
    (falls-fallen session.place places after put sending waits.is_named
    (λ other bytes_of is found at same. by other bytes_of is found at same (nat_eq number other) refl) still)
  where
    by : (other : ℕ) (bytes_of : List ℕ) → sent_as sending other ≡ Some bytes_of → (found : Session) → session_at other after.sessions ≡ Some found → found.place ≡ session.place → (b : Bool) → nat_eq number other ≡ b → ⊥
    by other bytes_of is found at same true equal =
        let one : number ≡ other = eqb-true number other equal in
        let none : session_at other after.sessions ≡ None = ap (λ n. session_at n after.sessions) (sym one) ∙ gone in
        cc (at, none)
    by other bytes_of is found at same false unequal =
        let old = came (session_at other state.sessions) (session_at other after.sessions) found (follows.comes other (falls.low other bytes_of is)) at in
        falls.apart number other whole bytes_of sent is unequal session old.old there old.was (sym same ∙ old.place)

fell-fragment : (completes : Bool) (state after : State) (places new : List Place) (put : List Address) (sending : List Sending) (number : ℕ) (whole bytes : List ℕ) (session : Session) → sent_as sending number ≡ Some whole
    → session_at number state.sessions ≡ Some session → (completes ≡ true → session_at number after.sessions ≡ None) → new ≡ flat_map puts_at (cond completes (commit_effect state session bytes ∷ []) []) → Follows state after
    → Falls places state put sending → Fell places new after put sending
fell-fragment true state after places new put sending number whole bytes session sent there gone are follows falls =
    fell-session state after places new put sending number whole bytes session sent there (gone refl) are follows falls
fell-fragment false state after places new put sending number whole bytes session sent there gone are follows falls =
    fell-none places new after put sending are (falls-still places state after put sending follows falls)

fragment-found : (state : State) (places : List Place) (put : List Address) (sending : List Sending) (number first last total : ℕ) (whole bytes : List ℕ) (found : Option Session) → sent_as sending number ≡ Some whole
    → session_at number state.sessions ≡ found → Falls places state put sending
    → Fell places (flat_map puts_at (effects_at (fragment_effects state last total bytes) found)) (after_request state Own (Fragment number first last total bytes)) put sending
fragment-found state places put sending number first last total whole bytes None sent is falls =
    fell-none places [] (after_request state Own (Fragment number first last total bytes)) put sending refl
    (falls-still places state (after_request state Own (Fragment number first last total bytes)) put sending (follows-request state (Fragment number first last total bytes)) falls)
fragment-found state places put sending number first last total whole bytes (Some session) sent is falls =
    fell-fragment (completes_file session last total) state (after_request state Own (Fragment number first last total bytes)) places
    (flat_map puts_at (cond (completes_file session last total) (commit_effect state session (session.filled ++ bytes) ∷ []) [])) put sending number whole (session.filled ++ bytes) session sent is
    (λ completes.
    let ends : is_completed (session_at number state.sessions) last total ≡ true = ap (λ found. is_completed found last total) is ∙ completes in
    ap (λ b. session_at number (cond b (without_session number state.sessions) (with_fragment number total bytes state.sessions))) ends ∙ at-gone number state.sessions) refl
    (follows-request state (Fragment number first last total bytes)) falls

finish-found : (state : State) (places : List Place) (put : List Address) (sending : List Sending) (number : ℕ) (whole : List ℕ) (found : Option Session) → sent_as sending number ≡ Some whole
    → session_at number state.sessions ≡ found → Falls places state put sending
    → Fell places (flat_map puts_at (effects_at (finish_effects state) found)) (after_request state Own (Finish number)) put sending
finish-found state places put sending number whole None sent is falls =
    fell-none places [] (after_request state Own (Finish number)) put sending refl
    (falls-still places state (after_request state Own (Finish number)) put sending (follows-request state (Finish number)) falls)
finish-found state places put sending number whole (Some session) sent is falls =
    fell-session state (after_request state Own (Finish number)) places (flat_map puts_at (commit_effect state session session.filled ∷ [])) put sending number whole session.filled session sent is
    (at-gone number state.sessions) refl (follows-request state (Finish number)) falls

-- ---- a request that is accepted
module _ (k : Known) (state : State) (places : List Place) (falls : Falls places state k.there.put k.there.sending) where
  still : (request : Request) → Falls places (after_request state Own request) k.there.put k.there.sending
  still request = falls-still places state (after_request state Own request) k.there.put k.there.sending (follows-request state request) falls

  nothing : (request : Request) → flat_map puts_at (effects_of state request) ≡ [] → Fell places (flat_map puts_at (effects_of state request)) (after_request state Own request) k.there.put k.there.sending
  nothing request none = fell-none places (flat_map puts_at (effects_of state request)) (after_request state Own request) k.there.put k.there.sending none (still request)

  accepted : (request : Request) → MayRequest k request → Fell places (flat_map puts_at (effects_of state request)) (after_request state Own request) (there_asked request k.there).put k.there.sending
  accepted (Put at bytes behaviour condition) may =
      fell-put k state (after_request state Own (Put at bytes behaviour condition)) places (flat_map puts_at (effects_of state (Put at bytes behaviour condition))) at behaviour condition bytes (place_of (held state) at)
      refl refl may (follows-request state (Put at bytes behaviour condition)) falls
  accepted (OpenSession at name behaviour condition defer) may =
      fell-none places [] (after_request state Own (OpenSession at name behaviour condition defer)) (at ∷ k.there.put) k.there.sending refl
      (falls-named at places (after_request state Own (OpenSession at name behaviour condition defer)) k.there.put k.there.sending (still (OpenSession at name behaviour condition defer)))
  accepted (Fragment number first last total bytes) may =
      fragment-found state places k.there.put k.there.sending number first last total may.0 bytes (session_at number state.sessions) may.1 refl falls
  accepted (Finish number) may = finish-found state places k.there.put k.there.sending number may.0 (session_at number state.sessions) may.1 refl falls
  accepted (MakeFolder at name behaviour) may =
      nothing (MakeFolder at name behaviour)
      (none-at-target (λ parent. make_folder_effect (held state) parent name behaviour ∷ []) (target_of (held state) at)
      (λ parent. ap (λ some. some ++ []) (folder-none parent name (settled_in (held state) parent name behaviour true))))
  accepted (Patch at name parent condition) may =
      nothing (Patch at name parent condition)
      (none-at-target (λ number. patch_effect (held state) number name (id_number parent) ∷ []) (target_of (held state) at) (λ number. refl))
  accepted (Delete at condition) may =
      nothing (Delete at condition) (none-at-target (remove_effects (held state)) (target_of (held state) at) (λ number. removed-none (removal_order (held state) number)))
  accepted request may = nothing request refl

-- ---- a session that is opened
module _ (places : List Place) (after : State) (put : List Address) (sending : List Sending) (new : ℕ) (bytes : List ℕ) (falls : Falls places after put sending) (low : new ≤ length after.openers)
    (waits : Found (IsWaiting put places) (session_at new after.sessions))
    (other : (session : ℕ) (whole : List ℕ) → sent_as sending session ≡ Some whole → (s t : Session) → session_at new after.sessions ≡ Some s → session_at session after.sessions ≡ Some t → s.place ≡ t.place → ⊥) where
  abbrev Sent : ℕ → List ℕ → Type 0
  Sent session whole = sent_as (record { session = new; bytes = bytes } ∷ sending) session ≡ Some whole

  -- it is the new one, or one of before
  which : (session : ℕ) (whole : List ℕ) → Sent session whole → (new ≡ session) ⊎ (sent_as sending session ≡ Some whole)
  which session whole is = by (nat_eq new session) refl is
    where
      by : (b : Bool) → nat_eq new session ≡ b → cond b (Some bytes) (sent_as sending session) ≡ Some whole → (new ≡ session) ⊎ (sent_as sending session ≡ Some whole)
      by true same sent = inl (eqb-true new session same)
      by false unlike sent = inr sent

  added-low : (session : ℕ) (whole : List ℕ) → Sent session whole → session ≤ length after.openers
  added-low session whole is = ⊎_elim (λ (same : new ≡ session). omega (arith, same, low)) (λ sent. falls.low session whole sent) (which session whole is)

  added-to : (session : ℕ) (whole : List ℕ) → Sent session whole → Found (IsWaiting put places) (session_at session after.sessions)
  added-to session whole is =
      ⊎_elim (λ (same : new ≡ session). subst (λ n. Found (IsWaiting put places) (session_at n after.sessions)) same waits) (λ sent. falls.to session whole sent) (which session whole is)

  added-apart : Differ after (record { session = new; bytes = bytes } ∷ sending)
  added-apart a b x y is_a is_b unlike s t at_a at_b same =
      ⊎_elim
      (λ (first : new ≡ a). ⊎_elim
      (λ (second : new ≡ b). let equal : nat_eq a b ≡ true = eq-eqb a b (sym first ∙ second) in cc (equal, unlike))
      (λ sent. other b y sent s t (subst (λ n. session_at n after.sessions ≡ Some s) (sym first) at_a) at_b same) (which b y is_b))
      (λ sent. ⊎_elim
      (λ (second : new ≡ b). other a x sent t s (subst (λ n. session_at n after.sessions ≡ Some t) (sym second) at_b) at_a (sym same))
      (λ also. falls.apart a b x y sent also unlike s t at_a at_b same) (which b y is_b)) (which a x is_a)

  added : Falls places after put (record { session = new; bytes = bytes } ∷ sending)
  added = record { done = falls.done; low = added-low; to = added-to; apart = added-apart }

falls-added : (places : List Place) (after : State) (put : List Address) (sending : List Sending) (new : ℕ) (found : Option (List ℕ)) → Falls places after put sending → new ≤ length after.openers
    → Found (IsWaiting put places) (session_at new after.sessions)
    → ((session : ℕ) (whole : List ℕ) → sent_as sending session ≡ Some whole → (s t : Session) → session_at new after.sessions ≡ Some s → session_at session after.sessions ≡ Some t → s.place ≡ t.place → ⊥)
    → Falls places after put (sending_of new found ++ sending)
falls-added places after put sending new None falls low waits other = falls
falls-added places after put sending new (Some bytes) falls low waits other = added places after put sending new bytes falls low waits other

-- the new session waits for the place that was named
new-waits : (k : Known) (state : State) (places : List Place) (at : Address) (behaviour : Conflict) (condition : Condition) (bytes : List ℕ) (defer : Bool) (found : Option Place) → AllByRecursion (IsOpen (length state.openers)) state.sessions
    → place_of (held state) at ≡ found → MaySend k at behaviour condition bytes → AllByRecursion (Contains (named k.there.put)) places
    → Found (IsWaiting (at ∷ k.there.put) places) (session_at (length state.openers + 1) (opened (length state.openers + 1) found behaviour condition defer state.sessions))
new-waits k state places at behaviour condition bytes defer None all is may done =
    subst (Found (IsWaiting (at ∷ k.there.put) places)) (sym (none-at (length state.openers) state.sessions all)) tt
new-waits k state places at behaviour condition bytes defer (Some place) all is may done =
    let last : Session = record { number = length state.openers + 1; place = place; behaviour = behaviour; condition = condition; defer = defer; total = None; filled = [] } in
    let here = place-in k (held state) at behaviour condition place may.to is in
    subst (Found (IsWaiting (at ∷ k.there.put) places)) (sym (new-at (length state.openers + 1) state.sessions last refl (none-at (length state.openers) state.sessions all)))
    (record {
      is_named = Contains-append_left (place_named at) (named k.there.put) place here.0;
      fails = here.1;
      free = λ there. may.once (address-in k.there.put at place here.0 (of-each (Contains (named k.there.put)) places place done there));
    })

new-place : (k : Known) (state : State) (at : Address) (behaviour : Conflict) (condition : Condition) (bytes : List ℕ) (defer : Bool) (found : Option Place) → AllByRecursion (IsOpen (length state.openers)) state.sessions
    → place_of (held state) at ≡ found → MaySend k at behaviour condition bytes → (session : Session)
    → session_at (length state.openers + 1) (opened (length state.openers + 1) found behaviour condition defer state.sessions) ≡ Some session → Contains (named k.there.put) session.place → ⊥
new-place k state at behaviour condition bytes defer None all is may session there = λ in_put.
    absurd (let none : session_at (length state.openers + 1) state.sessions ≡ None = none-at (length state.openers) state.sessions all in cc (none, there))
new-place k state at behaviour condition bytes defer (Some place) all is may session there = λ in_put.
    let last : Session = record { number = length state.openers + 1; place = place; behaviour = behaviour; condition = condition; defer = defer; total = None; filled = [] } in
    let one : Some last ≡ Some session = sym (new-at (length state.openers + 1) state.sessions last refl (none-at (length state.openers) state.sessions all)) ∙ there in
    let same : last ≡ session = cc one in
    let here = place-in k (held state) at behaviour condition place may.to is in
    may.once (address-in k.there.put at place here.0 (subst (Contains (named k.there.put)) (sym (ap (λ (s : Session). s.place) same)) in_put))

opened-falls : (k : Known) (state : State) (places : List Place) (at : Address) (name : Option (List ℕ)) (behaviour : Conflict) (condition : Condition) (defer : Bool) (bytes : List ℕ)
    → AllByRecursion (IsOpen (length state.openers)) state.sessions → MaySend k at behaviour condition bytes → Falls places state k.there.put k.there.sending
    → Falls places (after_request state Own (OpenSession at name behaviour condition defer)) (at ∷ k.there.put) (sending_of (length state.openers + 1) (reading_for k at) ++ k.there.sending)
opened-falls k state places at name behaviour condition defer bytes all may falls =
    let after : State = after_request state Own (OpenSession at name behaviour condition defer) in
    let before : Falls places after k.there.put k.there.sending =
    falls-still places state after k.there.put k.there.sending (follows-request state (OpenSession at name behaviour condition defer)) falls in
    let longer : length (state.openers ++ Own ∷ []) ≡ length state.openers + 1 = length_push state.openers Own in
    falls-added places after (at ∷ k.there.put) k.there.sending (length state.openers + 1) (reading_for k at)
    (falls-named at places after k.there.put k.there.sending before) (omega (arith, longer))
    (new-waits k state places at behaviour condition bytes defer (place_of (held state) at) all refl may falls.done)
    (λ session whole sent s t at_new at_old same.
    let waits : IsWaiting k.there.put places t = subst (Found (IsWaiting k.there.put places)) at_old (before.to session whole sent) in
    new-place k state at behaviour condition bytes defer (place_of (held state) at) all refl may s at_new (subst (Contains (named k.there.put)) (sym same) waits.is_named))

-- ---- what is known after a request
effects-both : (k : Known) (held : Inventory) (effects : List Effect) (there : There) → ((after_effects k held effects there).put ≡ there.put) × ((after_effects k held effects there).sending ≡ there.sending)
effects-both k held [] there = (refl, refl)
effects-both k held (effect ∷ effects) there = (refl, refl)

abbrev FallsIn : List Place → State → There → Type 0
FallsIn places state there = Falls places state there.put there.sending

falls-same : (places : List Place) (state : State) (there next : There) → (next.put ≡ there.put) × (next.sending ≡ there.sending) → FallsIn places state there → FallsIn places state next
falls-same places state there next same falls = subst (λ put. Falls places state put next.sending) (sym same.0) (subst (λ sending. Falls places state there.put sending) (sym same.1) falls)

brought-falls : (drive : List Step) (k : Known) (places : List Place) (request : Request) → MayRequest k request → Falls places (state_of drive) k.there.put k.there.sending
    → FallsIn (flat_map puts_at (effects_of (state_of drive) request) ++ places) (after_request (state_of drive) Own request) (there_asked request k.there)
    → FallsIn (flat_map puts_at (effects_of (state_of drive) request) ++ places) (after_request (state_of drive) Own request) (there_brought (state_of drive) k request (there_asked request k.there))
brought-falls drive k places (OpenSession at name behaviour condition defer) may before falls =
    opened-falls k (state_of drive) places at name behaviour condition defer may.0 (each (IsOpen (length (state_of drive).openers)) (state_of drive).sessions (every-drive drive).sessions) may.1 before
brought-falls drive k places request may before falls =
    falls-same (flat_map puts_at (effects_of (state_of drive) request) ++ places) (after_request (state_of drive) Own request) (there_asked request k.there)
    (there_brought (state_of drive) k request (there_asked request k.there)) (effects-both k (held (state_of drive)) (effects_of (state_of drive) request) (there_asked request k.there)) falls

asked-falls : (k : Known) (places : List Place) (state : State) (request : Request) → Falls places state k.there.put k.there.sending → FallsIn places state (there_asked request k.there)
asked-falls k places state (Put at bytes behaviour condition) falls = falls-named at places state k.there.put k.there.sending falls
asked-falls k places state (OpenSession at name behaviour condition defer) falls = falls-named at places state k.there.put k.there.sending falls
asked-falls k places state request falls = falls

asked-sending : (request : Request) (there : There) → (there_asked request there).sending ≡ there.sending
asked-sending (Put at bytes behaviour condition) there = refl
asked-sending (OpenSession at name behaviour condition defer) there = refl
asked-sending request there = refl

-- the request's puts and what is known then, by whether it is accepted
pub record Told (places new : List Place) (after : State) (there : There) : Type 0 where
  pub fresh : Fresh places new
  pub falls : FallsIn (new ++ places) after there

told-refused : (k : Known) (places : List Place) (state : State) (request : Request) → Falls places state k.there.put k.there.sending → Told places [] state (there_asked request k.there)
told-refused k places state request falls = record { fresh = tt; falls = asked-falls k places state request falls }

told-accepted : (drive : List Step) (k : Known) (places : List Place) (request : Request) (brings : Bool) → MayRequest k request → Falls places (state_of drive) k.there.put k.there.sending
    → Told places (flat_map puts_at (effects_of (state_of drive) request)) (after_request (state_of drive) Own request) (cond brings (there_brought (state_of drive) k request (there_asked request k.there)) (there_asked request k.there))
told-accepted drive k places request brings may falls =
    let fell = accepted k (state_of drive) places falls request may in
    let new : List Place = flat_map puts_at (effects_of (state_of drive) request) ++ places in
    let after : State = after_request (state_of drive) Own request in
    let asked : FallsIn new after (there_asked request k.there) = subst (λ sending. Falls new after (there_asked request k.there).put sending) (sym (asked-sending request k.there)) fell.falls in
    record { fresh = fell.fresh; falls = by brings asked (brought-falls drive k places request may falls asked) }
  where
    by : (b : Bool) → FallsIn (flat_map puts_at (effects_of (state_of drive) request) ++ places) (after_request (state_of drive) Own request) (there_asked request k.there)
        → FallsIn (flat_map puts_at (effects_of (state_of drive) request) ++ places) (after_request (state_of drive) Own request) (there_brought (state_of drive) k request (there_asked request k.there))
        → FallsIn (flat_map puts_at (effects_of (state_of drive) request) ++ places) (after_request (state_of drive) Own request) (cond b (there_brought (state_of drive) k request (there_asked request k.there)) (there_asked request k.there))
    by true asked brought = brought
    by false asked brought = asked

abbrev ToldBy : List Step → Known → List Place → Request → Bool → Bool → Type 0
ToldBy drive k places request served heard =
    Told places (flat_map puts_at (effects_by (state_of drive) (step.Ask Own request served heard))) (after_step (state_of drive) (step.Ask Own request served heard))
    (there_heard (state_of drive) k request served heard (there_asked request k.there))

served-told : (drive : List Step) (k : Known) (places : List Place) (request : Request) (heard : Bool) (refused : Option Refusal) → refusal (state_of drive) request ≡ refused → MayRequest k request
    → Falls places (state_of drive) k.there.put k.there.sending
    → Told places (flat_map puts_at (cond (is_none refused) (effects_of (state_of drive) request) [])) (cond (is_none refused) (after_request (state_of drive) Own request) (state_of drive))
    (cond heard (cond (is_none refused) (there_brought (state_of drive) k request (there_asked request k.there)) (there_asked request k.there)) (there_asked request k.there))
served-told drive k places request true None is may falls = told-accepted drive k places request true may falls
served-told drive k places request false None is may falls = told-accepted drive k places request false may falls
served-told drive k places request true (Some why) is may falls = told-refused k places (state_of drive) request falls
served-told drive k places request false (Some why) is may falls = told-refused k places (state_of drive) request falls

told : (drive : List Step) (k : Known) (places : List Place) (request : Request) (served heard : Bool) → MayRequest k request → Falls places (state_of drive) k.there.put k.there.sending → ToldBy drive k places request served heard
told drive k places request true true may falls = served-told drive k places request true (refusal (state_of drive) request) refl may falls
told drive k places request true false may falls = served-told drive k places request false (refusal (state_of drive) request) refl may falls
told drive k places request false heard may falls = told-refused k places (state_of drive) request falls

-- ---- the history
abbrev FallsNow : World → Known → List Place → Type 0
FallsNow w k places = FallsIn places (state_of w.drive) k.there

nothing-known : (state : State) → Falls [] state [] []
nothing-known state = record {
  done = tt;
  low = λ session bytes is. absurd (cc is);
  to = λ session bytes is. absurd (cc is);
  apart = λ a b x y is_a is_b other s t at_a at_b same. cc is_a;
}

no-puts : (accepted : Bool) (places : List Place) → Fresh places (flat_map puts_at (cond accepted [] []))
no-puts true places = tt
no-puts false places = tt

own-apart : (w : World) (k : Known) (places : List Place) (request : Request) (served heard : Bool) → MayRequest k request → FallsNow w k places → FallsApart (state_of w.drive) places (step.Ask Own request served heard)
own-apart w k places (Delta token) served heard may falls = no-puts (is_accepted (state_of w.drive) (Delta token) served) places
own-apart w k places request served heard may falls = (told w.drive k places request served heard may falls).fresh

own-next : (w : World) (k : Known) (size : ℕ) (places : List Place) (request : Request) (served heard : Bool) → MayRequest k request → FallsNow w k places
    → FallsNow (happens w (Asked size (step.Ask Own request served heard))) (learn w k (Asked size (step.Ask Own request served heard))) (puts_since (state_of w.drive) places (step.Ask Own request served heard))
own-next w k size places (Delta token) served heard may falls = nothing-known (state_of (w.drive ++ step.Ask Own (Delta token) served heard ∷ []))
own-next w k size places request served heard may falls =
    subst (λ state. FallsIn (flat_map puts_at (effects_by (state_of w.drive) (step.Ask Own request served heard)) ++ places) state (there_after w.drive k request served heard))
    (sym (state-next w.drive (step.Ask Own request served heard))) (told w.drive k places request served heard may falls).falls

other-next : (w : World) (k : Known) (places : List Place) (next : Step) → FallsNow w k places → FallsIn places (state_of (w.drive ++ next ∷ [])) k.there
other-next w k places next falls =
    subst (λ state. FallsIn places state k.there) (sym (state-next w.drive next))
    (falls-still places (state_of w.drive) (after_step (state_of w.drive) next) k.there.put k.there.sending (follows-step (state_of w.drive) next) falls)

once : (w : World) (k : Known) (events : List Event) (places : List Place) → LegalFrom w k events → FallsNow w k places → FallOnce w.drive places (steps_in events)
once w k [] places legal falls = tt
once w k (Asked size (step.Ask Own request served heard) ∷ events) places legal falls = (
  own-apart w k places request served heard legal.0.2 falls,
  once (happens w (Asked size (step.Ask Own request served heard))) (learn w k (Asked size (step.Ask Own request served heard))) events
      (puts_since (state_of w.drive) places (step.Ask Own request served heard)) legal.1 (own-next w k size places request served heard legal.0.2 falls),
)
once w k (Asked size (step.Ask Other request served heard) ∷ events) places legal falls =
    (tt, once (happens w (Asked size (step.Ask Other request served heard))) k events places legal.1 (other-next w k places (step.Ask Other request served heard) falls))
once w k (Asked size (step.Event event) ∷ events) places legal falls =
    (tt, once (happens w (Asked size (step.Event event))) k events places legal.1 (other-next w k places (step.Event event) falls))
once w k (Worked (User edit) ∷ events) places legal falls = once (happens w (Worked (User edit))) k events places legal.1 falls
once w k (Worked (Op call) ∷ events) places legal falls = once (happens w (Worked (Op call))) (learn w k (Worked (Op call))) events places legal.1 falls
once w k (Kept image ∷ events) places legal falls = once (happens w (Kept image)) (learn w k (Kept image)) events places legal.1 falls

pub fall-once : (w : World) (events : List Event) → LegalFrom w (begins w) events → FallOnce w.drive [] (steps_in events)
fall-once w events legal = once w (begins w) events [] legal (nothing-known (state_of w.drive))
