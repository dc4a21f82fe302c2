-- What this client puts on the drive was read.
use Rattle.std.proofs.Common.{◌≡◌, ℕ, zero, suc, ◌+◌, ◌-◌, ◌≤◌, Bool, true, false, not, cond, nat_eq, is_none, map, List, [], ◌∷◌, ◌++◌, length, slice_get, Option, Some, None, refl, ap, sym, subst, ◌∙◌, arith}
use Rattle.std.specs.List.{AllByRecursion, Contains}
use Rattle.std.proofs.lemmas.Bool.{and_parts, eqb-true, eq-eqb, ne_eqb}
use Rattle.std.proofs.lemmas.List.{append-nil, length-append, length_push}
use Rattle.gd_names.proofs.Each.{each}
use Rattle.gd_names.specs.declared.conflict.Conflict.{Conflict}
use Rattle.gd_names.specs.declared.conflict.Settle.{Settle}
use Rattle.gd_names.specs.declared.conflict.Settle.TheVariants as settle
use Rattle.gd_item.specs.Inventory.{Effect, MadeFolder, PutNew, PutOver, Moved, Removed, Inventory}
use Rattle.gd_item.specs.Moves.{patch_effect, remove_effects, removal_order}
use Rattle.gd_item.specs.Refusals.{file_effect, folder_effect, make_folder_effect, put_effect, settled_in}
use Rattle.gd_item.specs.Refused.{Refusal, by_session, by_store, finish_refusal, id_number, last_refusal, or_else, refusal}
use Rattle.gd_item.specs.Sessions.{State, Session, completes_file, finish_fault, fragment_fault, held, is_completed, is_last, session_at, with_fragment, without_session}
use Rattle.gd_item.specs.Steps.{after_event, after_request, after_step, commit_effect, effects_at, effects_by, effects_of, finish_effects, fragment_effects, is_accepted, is_fair_after, is_fair_step, is_own, names_own_session, opened, opener_of, openers_of, sessions_of, state_of}
use Rattle.gd_item.specs.Targets.{place_of, target_of}
use Rattle.gd_item.specs.declared.condition.Condition.{Condition}
use Rattle.gd_item.specs.declared.live.Place.{Place}
use Rattle.gd_item.specs.declared.live.Place.TheVariants as place
use Rattle.gd_item.specs.declared.request.Address.{Address}
use Rattle.gd_item.specs.declared.request.Request.{Request}
use Rattle.gd_item.specs.declared.request.Request.TheVariants.{MakeFolder, Put, Patch, Delete, OpenSession, Fragment, CancelSession, Finish, Delta}
use Rattle.gd_item.specs.declared.step.DriveEvent.{DriveEvent}
use Rattle.gd_item.specs.declared.step.DriveEvent.TheVariants.{Expire, Restore, EndSession, Plain}
use Rattle.gd_item.specs.declared.step.Step.{Step}
use Rattle.gd_item.specs.declared.step.Step.TheVariants as step
use Rattle.gd_item.specs.declared.step.Who.{Who}
use Rattle.gd_item.specs.declared.step.Who.TheVariants.{Own, Other}
use Rattle.gd_item.proofs.LogsGrow.{after_steps-append}
use Rattle.gd_laws.proofs.Every.{every-drive}
use Rattle.gd_laws.specs.EveryDrive.{IsOpen}
use Rattle.od_tree.specs.Local.{is_path}
use Rattle.od_tree.specs.Loss.{readings}
use Rattle.od_tree.specs.declared.step.LocalStep.TheVariants.{User, Op}
use Rattle.od_run.specs.Acting.{IsPart, LegalFrom, May, MayRequest}
use Rattle.od_run.specs.Knowing.{Known, Path, Sending, There, address_path, after_effects, begins, last_read, learn, reading_at_path, reading_for, sending_of, sent_as, there_after, there_asked, there_brought, there_heard}
use Rattle.od_uploads.specs.Uploading.{IsReading, OwnPutsReading, PutsReading, UploadsReadings}
use Rattle.od_run.specs.Worlds.{World, Event, Asked, Worked, Kept, happens, now, steps_in}
use Rattle.od_uploads.proofs.Parts.{IsFilledBy, Live, grown-filled, whole-at-finish, whole-at-last}
use Rattle.od_run.proofs.Truths.{all-read, here-read, reading-later}
use Rattle.od_sends.proofs.Sending.{first-is}
use Rattle.od_sends.proofs.Sessions.{at-gone, at-last, at-other, at-same, at-without, grown_at, new-at, none-at, number-apart, opener-later, opener-new, openers-grow}

abbrev Readings : Type 0
Readings = List (Path × List ℕ)

-- a session of this client, and the reading that it sends
pub record IsSent (state : State) (known : Readings) (session : ℕ) (bytes : List ℕ) : Type 0 where
  pub reading : IsReading known bytes
  pub low : session ≤ length state.openers
  pub own : opener_of session state.openers ≡ Some Own
  pub live : Live bytes (session_at session state.sessions)

abbrev Sends : State → Readings → List Sending → Type 0
Sends state known sending = (session : ℕ) (bytes : List ℕ) → sent_as sending session ≡ Some bytes → IsSent state known session bytes

-- ---- a session after a request
-- a fragment of the session is a part of its reading
abbrev Fits : ℕ → List ℕ → Request → Type 0
Fits session whole (Fragment number first last total bytes) = number ≡ session → IsPart whole first last total bytes
Fits session whole request = Unit {0}

live-opened : (count session : ℕ) (whole : List ℕ) (found : Option Place) (behaviour : Conflict) (condition : Condition) (defer : Bool) (sessions : List Session) → session ≤ count
    → Live whole (session_at session sessions) → Live whole (session_at session (opened (count + 1) found behaviour condition defer sessions))
live-opened count session whole None behaviour condition defer sessions low live = live
live-opened count session whole (Some at) behaviour condition defer sessions low live =
    subst (Live whole)
    (sym (at-last session sessions (record { number = count + 1; place = at; behaviour = behaviour; condition = condition; defer = defer; total = None; filled = [] }) (number-apart count session low))) live

live-without : (number session : ℕ) (whole : List ℕ) (sessions : List Session) → Live whole (session_at session sessions) → Live whole (session_at session (without_session number sessions))
live-without number session whole sessions live = by (nat_eq number session) refl
  where
    by : (b : Bool) → nat_eq number session ≡ b → Live whole (session_at session (without_session number sessions))
    by true is =
        let same : number ≡ session = eqb-true number session is in
        subst (Live whole) (sym (ap (λ n. session_at session (without_session n sessions)) same ∙ at-gone session sessions)) tt
    by false is = subst (Live whole) (sym (at-without number session sessions is)) live

-- whether a fragment is accepted, of the session that lives
abbrev is_taken : ℕ → List Session → Option Session → ℕ → ℕ → ℕ → List ℕ → Option Refusal → Bool
is_taken kept sessions found first last total bytes store = is_none (or_else (by_session (fragment_fault kept sessions found first last total bytes)) store)

live-grown : (kept session : ℕ) (whole : List ℕ) (first last total : ℕ) (bytes : List ℕ) (store : Option Refusal) (sessions : List Session) (found : Option Session)
    → is_taken kept sessions found first last total bytes store ≡ true → IsPart whole first last total bytes → Live whole found → Live whole (grown_at total bytes found)
live-grown kept session whole first last total bytes store sessions None taken part live = tt
live-grown kept session whole first last total bytes store sessions (Some found) taken part live =
    grown-filled whole found bytes first last total live (first-is kept sessions found first last total bytes store taken) part

live-with : (kept number session : ℕ) (whole : List ℕ) (first last total : ℕ) (bytes : List ℕ) (store : Option Refusal) (sessions : List Session)
    → is_taken kept sessions (session_at number sessions) first last total bytes store ≡ true → (number ≡ session → IsPart whole first last total bytes) → Live whole (session_at session sessions)
    → Live whole (session_at session (with_fragment number total bytes sessions))
live-with kept number session whole first last total bytes store sessions taken fits live = by (nat_eq number session) refl
  where
    by : (b : Bool) → nat_eq number session ≡ b → Live whole (session_at session (with_fragment number total bytes sessions))
    by true is =
        let same : number ≡ session = eqb-true number session is in
        let here : is_taken kept sessions (session_at session sessions) first last total bytes store ≡ true =
        subst (λ n. is_taken kept sessions (session_at n sessions) first last total bytes store ≡ true) same taken in
        subst (Live whole) (sym (ap (λ n. session_at session (with_fragment n total bytes sessions)) same ∙ at-same session total bytes sessions))
        (live-grown kept session whole first last total bytes store sessions (session_at session sessions) here (fits same) live)
    by false is = subst (Live whole) (sym (at-other number session total bytes sessions is)) live

live-last : (completed : Bool) (kept number session : ℕ) (whole : List ℕ) (first last total : ℕ) (bytes : List ℕ) (store : Option Refusal) (sessions : List Session)
    → is_taken kept sessions (session_at number sessions) first last total bytes store ≡ true → (number ≡ session → IsPart whole first last total bytes) → Live whole (session_at session sessions)
    → Live whole (session_at session (cond completed (without_session number sessions) (with_fragment number total bytes sessions)))
live-last true kept number session whole first last total bytes store sessions taken fits live = live-without number session whole sessions live
live-last false kept number session whole first last total bytes store sessions taken fits live = live-with kept number session whole first last total bytes store sessions taken fits live

live-request : (state : State) (request : Request) (session : ℕ) (whole : List ℕ) → session ≤ length state.openers → is_none (refusal state request) ≡ true → Fits session whole request
    → Live whole (session_at session state.sessions) → Live whole (session_at session (sessions_of state request))
live-request state (OpenSession at name behaviour condition defer) session whole low accepted fits live =
    live-opened (length state.openers) session whole (place_of (held state) at) behaviour condition defer state.sessions low live
live-request state (Fragment number first last total bytes) session whole low accepted fits live =
    live-last (is_completed (session_at number state.sessions) last total) (held state).kept number session whole first last total bytes
    (by_store (last_refusal state (session_at number state.sessions) last total bytes)) state.sessions accepted fits live
live-request state (CancelSession number) session whole low accepted fits live = live-without number session whole state.sessions live
live-request state (Finish number) session whole low accepted fits live = live-without number session whole state.sessions live
live-request state request session whole low accepted fits live = live

-- ---- who opened it

-- ---- what is sent stays so
sent-request : (state : State) (who : Who) (request : Request) (known : Readings) (session : ℕ) (whole : List ℕ) → is_none (refusal state request) ≡ true → Fits session whole request
    → IsSent state known session whole → IsSent (after_request state who request) known session whole
sent-request state who request known session whole accepted fits is =
    let more = openers-grow state who request in
    let longer : length (openers_of state who request) ≡ length state.openers + length more.0 = ap (λ (openers : List Who). length openers) more.1 ∙ length-append state.openers more.0 in
    record {
      reading = is.reading;
      low = omega (arith, is.low, longer);
      own = subst (λ openers. opener_of session openers ≡ Some Own) (sym more.1) (opener-later session state.openers more.0 is.own);
      live = live-request state request session whole is.low accepted fits is.live;
    }

sent-if : (accepted : Bool) (state : State) (who : Who) (request : Request) (known : Readings) (session : ℕ) (whole : List ℕ) → (accepted ≡ true → is_none (refusal state request) ≡ true) → Fits session whole request
    → IsSent state known session whole → IsSent (cond accepted (after_request state who request) state) known session whole
sent-if true state who request known session whole accepted fits is = sent-request state who request known session whole (accepted refl) fits is
sent-if false state who request known session whole accepted fits is = is

sent-asked : (state : State) (who : Who) (request : Request) (served heard : Bool) (known : Readings) (session : ℕ) (whole : List ℕ) → Fits session whole request → IsSent state known session whole
    → IsSent (after_step state (step.Ask who request served heard)) known session whole
sent-asked state who request served heard known session whole fits is =
    sent-if (is_accepted state request served) state who request known session whole (λ accepted. (and_parts served (is_none (refusal state request)) accepted).1) fits is

sent-event : (state : State) (event : DriveEvent) (known : Readings) (session : ℕ) (whole : List ℕ) → IsSent state known session whole → IsSent (after_event state event) known session whole
sent-event state (Expire number) known session whole is = record { reading = is.reading; low = is.low; own = is.own; live = is.live }
sent-event state Restore known session whole is = record { reading = is.reading; low = is.low; own = is.own; live = is.live }
sent-event state (EndSession number) known session whole is =
    record { reading = is.reading; low = is.low; own = is.own; live = live-without number session whole state.sessions is.live }
sent-event state Plain known session whole is = record { reading = is.reading; low = is.low; own = is.own; live = is.live }

-- no other's request names it
other-fits : (state : State) (request : Request) (session : ℕ) (whole : List ℕ) → not (names_own_session state request) ≡ true → opener_of session state.openers ≡ Some Own → Fits session whole request
other-fits state (Fragment number first last total bytes) session whole fair own = λ same.
    absurd (let named : is_own (opener_of number state.openers) ≡ true = ap (λ n. is_own (opener_of n state.openers)) same ∙ ap is_own own in
    let wrong : not true ≡ true = sym (ap not named) ∙ fair in
    cc wrong)
other-fits state request session whole fair own = tt

-- ---- a request of this client
own-fits : (k : Known) (request : Request) (session : ℕ) (whole : List ℕ) → MayRequest k request → sent_as k.there.sending session ≡ Some whole → Fits session whole request
own-fits k (Fragment number first last total bytes) session whole may is = λ same.
    let one : Some may.0 ≡ Some whole = sym may.1 ∙ (ap (sent_as k.there.sending) same ∙ is) in
    let bytes_are : may.0 ≡ whole = cc one in
    subst (λ w. IsPart w first last total bytes) bytes_are may.2
own-fits k request session whole may is = tt

-- what was read last was read
read-if : (b : Bool) (known : Readings) (reading : Path × List ℕ) (bytes : List ℕ) (rest : Option (List ℕ)) → Contains known reading → (rest ≡ Some bytes → IsReading known bytes)
    → cond b (Some reading.1) rest ≡ Some bytes → IsReading known bytes
read-if true known reading bytes rest there then is = let same : reading.1 ≡ bytes = cc is in (reading.0, subst (λ b. Contains known (reading.0, b)) same there)
read-if false known reading bytes rest there then is = then is

read-at : (known some : Readings) (path : Path) (bytes : List ℕ) → AllByRecursion (Contains known) some → last_read some path ≡ Some bytes → IsReading known bytes
read-at known [] path bytes all is = absurd (cc is)
read-at known (reading ∷ some) path bytes all is = read-if (is_path reading.0 path) known reading bytes (last_read some path) all.0 (read-at known some path bytes all.1) is

read-for : (known some : Readings) (path : Option Path) (bytes : List ℕ) → AllByRecursion (Contains known) some → reading_at_path some path ≡ Some bytes → IsReading known bytes
read-for known some None bytes all is = absurd (cc is)
read-for known some (Some path) bytes all is = read-at known some path bytes all is

-- a session that is opened

new-after : (b : Bool) (n : ℕ) (first last : Session) (rest later : Option Session) → cond b (Some first) rest ≡ None → (rest ≡ None → later ≡ Some last) → cond b (Some first) later ≡ Some last
new-after true n first last rest later none then = absurd (cc none)
new-after false n first last rest later none then = then none

live-new : (count : ℕ) (whole : List ℕ) (found : Option Place) (behaviour : Conflict) (condition : Condition) (defer : Bool) (sessions : List Session) → AllByRecursion (IsOpen count) sessions
    → Live whole (session_at (count + 1) (opened (count + 1) found behaviour condition defer sessions))
live-new count whole None behaviour condition defer sessions all = subst (Live whole) (sym (none-at count sessions all)) tt
live-new count whole (Some at) behaviour condition defer sessions all =
    let last : Session = record { number = count + 1; place = at; behaviour = behaviour; condition = condition; defer = defer; total = None; filled = [] } in
    subst (Live whole) (sym (new-at (count + 1) sessions last refl (none-at count sessions all))) (record { part = refl; total = tt })

sent-new : (drive : List Step) (at : Address) (name : Option (List ℕ)) (behaviour : Conflict) (condition : Condition) (defer : Bool) (known : Readings) (bytes : List ℕ) → IsReading known bytes
    → IsSent (after_request (state_of drive) Own (OpenSession at name behaviour condition defer)) known (length (state_of drive).openers + 1) bytes
sent-new drive at name behaviour condition defer known bytes reading =
    let state : State = state_of drive in
    let longer : length (state.openers ++ Own ∷ []) ≡ length state.openers + 1 = length_push state.openers Own in
    record {
      reading = reading;
      low = omega (arith, longer);
      own = opener-new state.openers;
      live = live-new (length state.openers) bytes (place_of (held state) at) behaviour condition defer state.sessions
          (each (IsOpen (length state.openers)) state.sessions (every-drive drive).sessions);
    }

added-if : (b : Bool) (state : State) (known : Readings) (new session : ℕ) (found bytes : List ℕ) (rest : Option (List ℕ)) → nat_eq new session ≡ b → IsSent state known new found
    → (rest ≡ Some bytes → IsSent state known session bytes) → cond b (Some found) rest ≡ Some bytes → IsSent state known session bytes
added-if true state known new session found bytes rest same sent then is =
    let number : new ≡ session = eqb-true new session same in
    let one : found ≡ bytes = cc is in
    subst (λ b. IsSent state known session b) one (subst (λ n. IsSent state known n found) number sent)
added-if false state known new session found bytes rest other sent then is = then is

sends-added : (state : State) (known : Readings) (sending : List Sending) (new : ℕ) (found : Option (List ℕ)) → Sends state known sending → ((bytes : List ℕ) → found ≡ Some bytes → IsSent state known new bytes)
    → Sends state known (sending_of new found ++ sending)
sends-added state known sending new None so sent = so
sends-added state known sending new (Some found) so sent = λ session bytes is.
    added-if (nat_eq new session) state known new session found bytes (sent_as sending session) refl (sent found refl) (so session bytes) is

pub effects-sending : (k : Known) (held : Inventory) (effects : List Effect) (there : There) → (after_effects k held effects there).sending ≡ there.sending
effects-sending k held [] there = refl
effects-sending k held (effect ∷ effects) there = refl

sends-brought : (drive : List Step) (k : Known) (request : Request) (there : There) (known : Readings) → AllByRecursion (Contains known) k.here.read
    → Sends (after_request (state_of drive) Own request) known there.sending → Sends (after_request (state_of drive) Own request) known (there_brought (state_of drive) k request there).sending
sends-brought drive k (OpenSession at name behaviour condition defer) there known read so =
    sends-added (after_request (state_of drive) Own (OpenSession at name behaviour condition defer)) known there.sending (length (state_of drive).openers + 1) (reading_for k at) so
    (λ bytes is. sent-new drive at name behaviour condition defer known bytes (read-for known k.here.read (address_path k at) bytes read is))
sends-brought drive k request there known read so =
    subst (Sends (after_request (state_of drive) Own request) known) (sym (effects-sending k (held (state_of drive)) (effects_of (state_of drive) request) there)) so

sends-asked : (state : State) (known : Readings) (request : Request) (there : There) → Sends state known there.sending → Sends state known (there_asked request there).sending
sends-asked state known (Put at bytes behaviour condition) there so = so
sends-asked state known (OpenSession at name behaviour condition defer) there so = so
sends-asked state known request there so = so

abbrev After : List Step → Request → Bool → Bool → State
After drive request served heard = after_step (state_of drive) (step.Ask Own request served heard)

unless-refused : (drive : List Step) (k : Known) (request : Request) (there : There) (known : Readings) (refused : Option Refusal) → refusal (state_of drive) request ≡ refused → AllByRecursion (Contains known) k.here.read
    → Sends (After drive request true true) known there.sending → Sends (After drive request true true) known (cond (is_none refused) (there_brought (state_of drive) k request there) there).sending
unless-refused drive k request there known (Some why) is read so = so
unless-refused drive k request there known None is read so =
    let state : State = state_of drive in
    let done : After drive request true true ≡ after_request state Own request = ap (λ why. cond (is_none why) (after_request state Own request) state) is in
    subst (λ s. Sends s known (there_brought state k request there).sending) (sym done)
    (sends-brought drive k request there known read (subst (λ s. Sends s known there.sending) done so))

sends-heard : (drive : List Step) (k : Known) (request : Request) (served heard : Bool) (there : There) (known : Readings) → AllByRecursion (Contains known) k.here.read
    → Sends (After drive request served heard) known there.sending → Sends (After drive request served heard) known (there_heard (state_of drive) k request served heard there).sending
sends-heard drive k request true true there known read so = unless-refused drive k request there known (refusal (state_of drive) request) refl read so
sends-heard drive k request true false there known read so = so
sends-heard drive k request false heard there known read so = so

sends-after : (drive : List Step) (k : Known) (request : Request) (served heard : Bool) (known : Readings) → MayRequest k request → AllByRecursion (Contains known) k.here.read → Sends (state_of drive) known k.there.sending
    → Sends (After drive request served heard) known (there_heard (state_of drive) k request served heard (there_asked request k.there)).sending
sends-after drive k request served heard known may read so =
    sends-heard drive k request served heard (there_asked request k.there) known read
    (sends-asked (After drive request served heard) known request k.there
    (λ session bytes is. sent-asked (state_of drive) Own request served heard known session bytes (own-fits k request session bytes may is) (so session bytes is)))

sends-own : (drive : List Step) (k : Known) (request : Request) (served heard : Bool) (known : Readings) → MayRequest k request → AllByRecursion (Contains known) k.here.read → Sends (state_of drive) known k.there.sending
    → Sends (After drive request served heard) known (there_after drive k request served heard).sending
sends-own drive k (Delta token) served heard known may read so = λ session bytes is. absurd (cc is)
sends-own drive k request served heard known may read so = sends-after drive k request served heard known may read so

-- ---- what it puts
put-reading : (known : Readings) (held : Inventory) (at : Place) (bytes : List ℕ) (behaviour : Conflict) → IsReading known bytes → PutsReading known (put_effect held at bytes behaviour)
put-reading known held (place.Over id) bytes behaviour read = read
put-reading known held (place.Under id name) bytes behaviour read = under (settled_in held id.0 name behaviour false)
  where
    under : (settle : Settle) → PutsReading known (file_effect id.0 name bytes settle)
    under (settle.Free free) = read
    under (settle.Over number) = read
    under settle.Refuse = read

folder-reading : (known : Readings) (parent : ℕ) (name : List ℕ) (found : Settle) → PutsReading known (folder_effect parent name found)
folder-reading known parent name (settle.Free free) = tt
folder-reading known parent name (settle.Over number) = tt
folder-reading known parent name settle.Refuse = tt

removed-reading : (known : Readings) (numbers : List ℕ) → AllByRecursion (PutsReading known) (map Removed numbers)
removed-reading known [] = tt
removed-reading known (number ∷ numbers) = (tt, removed-reading known numbers)

at-target : {X : Type 0} (known : Readings) (effects : X → List Effect) (found : Option X) → ((x : X) → found ≡ Some x → AllByRecursion (PutsReading known) (effects x)) → AllByRecursion (PutsReading known) (effects_at effects found)
at-target known effects None so = tt
at-target known effects (Some x) so = so x refl

fragment-reading : (completes : Bool) (known : Readings) (state : State) (session : Session) (bytes whole : List ℕ) → (completes ≡ true → session.filled ++ bytes ≡ whole) → IsReading known whole
    → AllByRecursion (PutsReading known) (cond completes (commit_effect state session (session.filled ++ bytes) ∷ []) [])
fragment-reading true known state session bytes whole same read =
    (put-reading known (held state) session.place (session.filled ++ bytes) session.behaviour (subst (IsReading known) (sym (same refl)) read), tt)
fragment-reading false known state session bytes whole same read = tt

module _ (state : State) (k : Known) (known : Readings) (read : AllByRecursion (Contains known) k.here.read) (so : Sends state known k.there.sending) where
  live-found : (session : ℕ) (whole : List ℕ) (found : Session) → sent_as k.there.sending session ≡ Some whole → session_at session state.sessions ≡ Some found → IsFilledBy whole found
  live-found session whole found is there = subst (Live whole) there (so session whole is).live

  puts-reading : (request : Request) → MayRequest k request → is_none (refusal state request) ≡ true → AllByRecursion (PutsReading known) (effects_of state request)
  puts-reading (MakeFolder at name behaviour) may accepted =
      at-target known (λ parent. make_folder_effect (held state) parent name behaviour ∷ []) (target_of (held state) at)
      (λ parent is. (folder-reading known parent name (settled_in (held state) parent name behaviour true), tt))
  puts-reading (Put at bytes behaviour condition) may accepted =
      at-target known (λ place. put_effect (held state) place bytes behaviour ∷ []) (place_of (held state) at)
      (λ place is. (put-reading known (held state) place bytes behaviour (read-for known k.here.read (address_path k at) bytes read may.reading), tt))
  puts-reading (Patch at name parent condition) may accepted =
      at-target known (λ number. patch_effect (held state) number name (id_number parent) ∷ []) (target_of (held state) at) (λ number is. (tt, tt))
  puts-reading (Delete at condition) may accepted =
      at-target known (remove_effects (held state)) (target_of (held state) at) (λ number is. removed-reading known (removal_order (held state) number))
  puts-reading (Fragment number first last total bytes) may accepted =
      at-target known (fragment_effects state last total bytes) (session_at number state.sessions)
      (λ session there.
      let store : Option Refusal = by_store (last_refusal state (session_at number state.sessions) last total bytes) in
      let taken : is_taken (held state).kept state.sessions (Some session) first last total bytes store ≡ true =
      subst (λ found. is_taken (held state).kept state.sessions found first last total bytes store ≡ true) there accepted in
      let at : first ≡ length session.filled = first-is (held state).kept state.sessions session first last total bytes store taken in
      fragment-reading (completes_file session last total) known state session bytes may.0
      (λ completes. whole-at-last may.0 session bytes first last total (live-found number may.0 session may.1 there) at may.2 (and_parts (is_last last total) (not session.defer) completes).0)
      (so number may.0 may.1).reading)
  puts-reading (Finish number) may accepted =
      at-target known (finish_effects state) (session_at number state.sessions)
      (λ session there.
      let store : Option Refusal = by_store (finish_refusal state (session_at number state.sessions)) in
      let done : is_none (or_else (by_session (finish_fault (Some session))) store) ≡ true = subst (λ found. is_none (or_else (by_session (finish_fault found)) store) ≡ true) there accepted in
      let whole : session.filled ≡ may.0 = whole-at-finish may.0 session store (live-found number may.0 session may.1 there) done in
      (put-reading known (held state) session.place session.filled session.behaviour (subst (IsReading known) (sym whole) (so number may.0 may.1).reading), tt))
  puts-reading request may accepted = tt

  puts-if : (accepted : Bool) (request : Request) → MayRequest k request → (accepted ≡ true → is_none (refusal state request) ≡ true) → AllByRecursion (PutsReading known) (cond accepted (effects_of state request) [])
  puts-if true request may is = puts-reading request may (is refl)
  puts-if false request may is = tt

-- ---- the history
reading-more : (known later : Readings) (bytes : List ℕ) → ((reading : Path × List ℕ) → Contains known reading → Contains later reading) → IsReading known bytes → IsReading later bytes
reading-more known later bytes more is = (is.0, more (is.0, bytes) is.1)

put-more : (known later : Readings) (effect : Effect) → ((reading : Path × List ℕ) → Contains known reading → Contains later reading) → PutsReading known effect → PutsReading later effect
put-more known later (MadeFolder parent name) more puts = tt
put-more known later (PutNew parent name bytes) more puts = reading-more known later bytes more puts
put-more known later (PutOver number bytes) more puts = reading-more known later bytes more puts
put-more known later (Moved number parent name) more puts = tt
put-more known later (Removed number) more puts = tt

puts-more : (known later : Readings) (effects : List Effect) → ((reading : Path × List ℕ) → Contains known reading → Contains later reading) → AllByRecursion (PutsReading known) effects → AllByRecursion (PutsReading later) effects
puts-more known later [] more puts = tt
puts-more known later (effect ∷ effects) more puts = (put-more known later effect more puts.0, puts-more known later effects more puts.1)

reading-now : (w : World) (events : List Event) (reading : Path × List ℕ) → Contains (readings w.local) reading → Contains (readings (now w events).local) reading
reading-now w [] reading there = there
reading-now w (Asked size step ∷ events) reading there = reading-now (happens w (Asked size step)) events reading there
reading-now w (Worked step ∷ events) reading there = reading-now (happens w (Worked step)) events reading (reading-later w.local (step ∷ []) reading there)
reading-now w (Kept image ∷ events) reading there = reading-now (happens w (Kept image)) events reading there

-- what is known of readings and sessions
pub record Sound (w : World) (k : Known) : Type 0 where
  pub read : AllByRecursion (Contains (readings w.local)) k.here.read
  pub sends : Sends (state_of w.drive) (readings w.local) k.there.sending

pub state-next : (drive : List Step) (next : Step) → state_of (drive ++ next ∷ []) ≡ after_step (state_of drive) next
state-next drive next = after_steps-append _ drive (next ∷ [])

sends-next : (drive : List Step) (next : Step) (known : Readings) (sending : List Sending) → Sends (after_step (state_of drive) next) known sending → Sends (state_of (drive ++ next ∷ [])) known sending
sends-next drive next known sending so = subst (λ state. Sends state known sending) (sym (state-next drive next)) so

sent-more : (state : State) (known later : Readings) (sending : List Sending) → ((reading : Path × List ℕ) → Contains known reading → Contains later reading) → Sends state known sending → Sends state later sending
sent-more state known later sending more so = λ session bytes is.
    let sent : IsSent state known session bytes = so session bytes is in
    record { reading = reading-more known later bytes more sent.reading; low = sent.low; own = sent.own; live = sent.live }

abbrev Fair : World → List Event → Type 0
Fair w events = is_fair_after (state_of w.drive) (steps_in events) ≡ true

fair-next : (drive : List Step) (next : Step) (steps : List Step) → is_fair_after (state_of drive) (next ∷ steps) ≡ true → is_fair_after (state_of (drive ++ next ∷ [])) steps ≡ true
fair-next drive next steps fair =
    ap (λ state. is_fair_after state steps) (state-next drive next) ∙ (and_parts (is_fair_step (state_of drive) next) (is_fair_after (after_step (state_of drive) next) steps) fair).1

sound-after : (w : World) (k : Known) (event : Event) (events : List Event) → Fair w (event ∷ events) → May k event → Sound w k → Sound (happens w event) (learn w k event)
sound-after w k (Asked size (step.Ask Own request served heard)) events fair may sound = record {
  read = sound.read;
  sends = sends-next w.drive (step.Ask Own request served heard) (readings w.local) (there_after w.drive k request served heard).sending
      (sends-own w.drive k request served heard (readings w.local) may.2 sound.read sound.sends);
}
sound-after w k (Asked size (step.Ask Other request served heard)) events fair may sound = record {
  read = sound.read;
  sends = sends-next w.drive (step.Ask Other request served heard) (readings w.local) k.there.sending
      (λ session bytes is.
      let sent = sound.sends session bytes is in
      let named : not (names_own_session (state_of w.drive) request) ≡ true =
      (and_parts (not (names_own_session (state_of w.drive) request)) (is_fair_after (after_step (state_of w.drive) (step.Ask Other request served heard)) (steps_in events)) fair).0 in
      sent-asked (state_of w.drive) Other request served heard (readings w.local) session bytes (other-fits (state_of w.drive) request session bytes named sent.own) sent);
}
sound-after w k (Asked size (step.Event event)) events fair may sound = record {
  read = sound.read;
  sends = sends-next w.drive (step.Event event) (readings w.local) k.there.sending (λ session bytes is. sent-event (state_of w.drive) event (readings w.local) session bytes (sound.sends session bytes is));
}
sound-after w k (Worked (User edit)) events fair may sound = record {
  read = all-read w.local (User edit ∷ []) k.here.read sound.read;
  sends = sent-more (state_of w.drive) (readings w.local) (readings (w.local ++ User edit ∷ [])) k.there.sending (reading-later w.local (User edit ∷ [])) sound.sends;
}
sound-after w k (Worked (Op call)) events fair may sound = record {
  read = here-read w.local k.here call sound.read;
  sends = sent-more (state_of w.drive) (readings w.local) (readings (w.local ++ Op call ∷ [])) k.there.sending (reading-later w.local (Op call ∷ [])) sound.sends;
}
sound-after w k (Kept image) events fair may sound = record { read = sound.read; sends = sound.sends }

own-puts : (w : World) (k : Known) (size : ℕ) (request : Request) (served heard : Bool) (later : Readings) → ((reading : Path × List ℕ) → Contains (readings w.local) reading → Contains later reading)
    → MayRequest k request → Sound w k → OwnPutsReading later w.drive (step.Ask Own request served heard)
own-puts w k size request served heard later more may sound =
    puts-more (readings w.local) later (effects_by (state_of w.drive) (step.Ask Own request served heard)) more
    (puts-if (state_of w.drive) k (readings w.local) sound.read sound.sends (is_accepted (state_of w.drive) request served) request may
    (λ accepted. (and_parts served (is_none (refusal (state_of w.drive) request)) accepted).1))

uploads : (w : World) (k : Known) (events : List Event) → Fair w events → LegalFrom w k events → Sound w k → UploadsReadings (readings (now w events).local) w.drive (steps_in events)
uploads w k [] fair legal sound = tt
uploads w k (Asked size (step.Ask Own request served heard) ∷ events) fair legal sound = (
  own-puts w k size request served heard (readings (now w (Asked size (step.Ask Own request served heard) ∷ events)).local)
      (reading-now w (Asked size (step.Ask Own request served heard) ∷ events)) legal.0.2 sound,
  uploads (happens w (Asked size (step.Ask Own request served heard))) (learn w k (Asked size (step.Ask Own request served heard))) events
      (fair-next w.drive (step.Ask Own request served heard) (steps_in events) fair) legal.1 (sound-after w k (Asked size (step.Ask Own request served heard)) events fair legal.0 sound),
)
uploads w k (Asked size (step.Ask Other request served heard) ∷ events) fair legal sound = (
  tt,
  uploads (happens w (Asked size (step.Ask Other request served heard))) k events (fair-next w.drive (step.Ask Other request served heard) (steps_in events) fair) legal.1
      (sound-after w k (Asked size (step.Ask Other request served heard)) events fair legal.0 sound),
)
uploads w k (Asked size (step.Event event) ∷ events) fair legal sound =
    (tt, uploads (happens w (Asked size (step.Event event))) k events (fair-next w.drive (step.Event event) (steps_in events) fair) legal.1 (sound-after w k (Asked size (step.Event event)) events fair legal.0 sound))
uploads w k (Worked step ∷ events) fair legal sound = uploads (happens w (Worked step)) (learn w k (Worked step)) events fair legal.1 (sound-after w k (Worked step) events fair legal.0 sound)
uploads w k (Kept image ∷ events) fair legal sound = uploads (happens w (Kept image)) (learn w k (Kept image)) events fair legal.1 (sound-after w k (Kept image) events fair legal.0 sound)

pub readings-only : (w : World) (events : List Event) → LegalFrom w (begins w) events → is_fair_after (state_of w.drive) (steps_in events) ≡ true
    → UploadsReadings (readings (now w events).local) w.drive (steps_in events)
readings-only w events legal fair = uploads w (begins w) events fair legal (record { read = tt; sends = λ session bytes is. absurd (cc is) })
