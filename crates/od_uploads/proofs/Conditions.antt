-- What this client puts on the drive has its condition.
use Rattle.std.proofs.Common.{◌≡◌, ℕ, ◌+◌, ◌≤◌, Bool, true, false, ◌||◌, not, cond, nat_eq, nat_lt, is_none, map, List, [], ◌∷◌, ◌++◌, length, Option, Some, None, refl, ap, sym, subst, ◌∙◌, arith}
use Rattle.std.specs.Cmp.Lexicographic.{pointwise, bytes_decides}
use Rattle.std.specs.List.{AllByRecursion}
use Rattle.std.proofs.lemmas.Bool.{and_parts, eqb-true}
use Rattle.std.proofs.lemmas.List.{length-append, length_push}
use Rattle.gd_names.proofs.Each.{each}
use Rattle.gd_names.proofs.Small.{clear, mapped-none, none-from, none_found, un-not}
use Rattle.gd_names.specs.Caseless.{equal_caseless}
use Rattle.gd_names.specs.Settling.{settled_at, sibling_named}
use Rattle.gd_names.specs.declared.conflict.Conflict.{Conflict}
use Rattle.gd_names.specs.declared.conflict.Conflict.TheVariants.{Fail}
use Rattle.gd_names.specs.declared.conflict.Settle.{Settle}
use Rattle.gd_names.specs.declared.conflict.Settle.TheVariants as settle
use Rattle.gd_names.specs.declared.conflict.Sibling.{Sibling}
use Rattle.gd_item.specs.Faults.{code_of, status_of}
use Rattle.gd_item.specs.Inventory.{Effect, Removed, Inventory, live_at}
use Rattle.gd_item.specs.Moves.{patch_effect, remove_effects, removal_order}
use Rattle.gd_item.specs.Nodes.{is_folder, path_of}
use Rattle.gd_item.specs.Records.{content_tag}
use Rattle.gd_item.specs.Refusals.{file_effect, folder_effect, is_met, is_over_quota, is_refuse, is_there, is_too_long, make_folder_effect, put_effect, put_over_refusal, put_refusal, put_under_refusal, settled_in, siblings_in}
use Rattle.gd_item.specs.Refused.{Refusal, at_target, by_session, by_store, commit_refusal, finish_refusal, id_number, last_refusal, or_else, refusal, refuse}
use Rattle.gd_item.specs.Sessions.{State, Session, completes_file, finish_fault, fragment_fault, held, held_bytes, is_completed, session_at, with_fragment, without_session}
use Rattle.gd_item.specs.Steps.{after_request, after_step, commit_effect, effects_at, effects_of, finish_effects, fragment_effects, held_by, is_accepted, opened, openers_of, sessions_of, state_of}
use Rattle.gd_item.specs.Tags.{etag_text, is_matching, tag_of}
use Rattle.gd_item.specs.Targets.{place_of, target_of}
use Rattle.gd_item.specs.Trees.{nodes_of}
use Rattle.gd_item.specs.declared.condition.Condition.{Condition}
use Rattle.gd_item.specs.declared.condition.Condition.TheVariants.{Free, Match}
use Rattle.gd_item.specs.declared.fault.ErrorCode.TheVariants.{InvalidRequest}
use Rattle.gd_item.specs.declared.fault.StoreFault.{StoreFault}
use Rattle.gd_item.specs.declared.fault.StoreFault.TheVariants.{NotFound, NotFile, Modified, PathTooLong, Quota}
use Rattle.gd_item.specs.declared.live.LiveItem.{LiveItem}
use Rattle.gd_item.specs.declared.live.Place.{Place}
use Rattle.gd_item.specs.declared.live.Place.TheVariants as place
use Rattle.gd_item.specs.declared.request.Address.{Address}
use Rattle.gd_item.specs.declared.request.Address.TheVariants.{Id, ByPath, Child}
use Rattle.gd_item.specs.declared.request.Request.{Request}
use Rattle.gd_item.specs.declared.request.Request.TheVariants.{MakeFolder, Put, Patch, Delete, OpenSession, Fragment, CancelSession, Finish, Delta}
use Rattle.gd_item.specs.declared.step.DriveEvent.TheVariants.{Expire, Restore, EndSession, Plain}
use Rattle.gd_item.specs.declared.step.Step.{Step}
use Rattle.gd_item.specs.declared.step.Step.TheVariants as step
use Rattle.gd_item.specs.declared.step.Who.{Who}
use Rattle.gd_item.specs.declared.step.Who.TheVariants.{Own, Other}
use Rattle.gd_laws.proofs.Allowed.{may-put}
use Rattle.gd_laws.proofs.Every.{every-drive}
use Rattle.gd_laws.specs.EveryDrive.{IsOpen}
use Rattle.od_tree.specs.declared.step.LocalStep.TheVariants.{User, Op}
use Rattle.od_run.specs.Acting.{AsPulled, HasTag, IsSentTo, LegalFrom, MayRequest}
use Rattle.od_uploads.specs.Conditions.{HasCondition, HasSameTag, UploadsUnderCondition}
use Rattle.od_run.specs.Good.{AreSound, Good, IfPulled, IsPulledAt}
use Rattle.od_run.specs.Knowing.{Known, Sending, There, begins, learn, reading_for, sending_of, sent_as, there_after, there_asked, there_brought, there_heard}
use Rattle.od_run.specs.Moments.{is_own_delta, last_asked}
use Rattle.od_run.specs.Worlds.{World, Event, Asked, Worked, Kept, happens, steps_in}
use Rattle.od_run.proofs.Goods.{good-after, good-beginning}
use Rattle.od_run.proofs.Lasts.{last-missed}
use Rattle.od_sends.proofs.Places.{no-store-fault}
use Rattle.od_sends.proofs.Sessions.{at-gone, at-last, at-other, at-same, at-without, grown_at, new-at, none-at, number-apart, openers-grow}
use Rattle.od_uploads.proofs.Uploading.{effects-sending, state-next}

-- ---- a put over an item
only-one : (p : Bool) → (false || (p || false) || false) ≡ true → p ≡ true
only-one true is = refl
only-one false is = absurd (cc is)

tag-same : (old new content : ℕ) (bytes : Option (List ℕ)) → is_matching (Match (etag_text old)) (tag_of (etag_text new)) (content_tag bytes content) ≡ true → etag_text old ≡ etag_text new
tag-same old new content None is = (bytes_decides (etag_text old) (etag_text new)).0 (only-one (pointwise nat_eq (etag_text old) (etag_text new)) is)
tag-same old new content (Some bytes) is = (bytes_decides (etag_text old) (etag_text new)).0 (only-one (pointwise nat_eq (etag_text old) (etag_text new)) is)

met-tag : (before held : Inventory) (number : ℕ) (old : LiveItem) (found : Option LiveItem) → live_at number before.items ≡ Some old → live_at number held.items ≡ found
    → is_met (Match (etag_text old.change)) found ≡ true → HasSameTag before held number
met-tag before held number old None was is met = absurd (cc met)
met-tag before held number old (Some item) was is met =
    record { old = old; old_is = was; item = item; item_is = is; tag = tag-same old.change item.change item.content item.bytes met }

over-condition : (drive : List Step) (held : Inventory) (number : ℕ) (bytes : List ℕ) (condition : Condition) (others : ℕ) → HasTag drive number condition
    → None ≡ put_over_refusal held number bytes condition others → HasSameTag (held_by drive) held number
over-condition drive held number bytes condition others tagged none =
    let first = clear (not (is_there number (nodes_of held))) NotFound _ none in
    let second = clear (is_folder number (nodes_of held)) NotFile _ first.1 in
    let third =
    clear (not (is_met condition (live_at number held.items))) Modified
    (cond (is_too_long (path_of (nodes_of held) number)) (Some PathTooLong) (cond (is_over_quota held 0 (length bytes + others)) (Some Quota) None)) second.1 in
    let met : is_met condition (live_at number held.items) ≡ true = un-not (is_met condition (live_at number held.items)) third.0 in
    met-tag (held_by drive) held number tagged.0 (live_at number held.items) tagged.1 refl (subst (λ c. is_met c (live_at number held.items) ≡ true) tagged.2 met)

-- ---- a put under a folder
under-if : (before held : Inventory) (parent : ℕ) (name bytes : List ℕ) (found : Option Sibling) → sibling_named name (siblings_in parent held.items) ≡ found
    → is_refuse (settled_at found Fail (siblings_in parent held.items) name false) ≡ false
    → HasCondition before held (file_effect parent name bytes (settled_at found Fail (siblings_in parent held.items) name false))
under-if before held parent name bytes None is had = none_found (λ (sibling : Sibling). equal_caseless sibling.name name) (siblings_in parent held.items) is
under-if before held parent name bytes (Some other) is had = absurd (cc had)

under-condition : (before held : Inventory) (parent : ℕ) (name bytes : List ℕ) (others : ℕ) → None ≡ put_under_refusal held parent name bytes Fail Free others
    → HasCondition before held (file_effect parent name bytes (settled_in held parent name Fail false))
under-condition before held parent name bytes others none =
    under-if before held parent name bytes (sibling_named name (siblings_in parent held.items)) refl
    (may-put held parent name bytes Fail Free others (settled_in held parent name Fail false) refl none).had

-- ---- a put
-- over an item with its tag, or to a free name
abbrev IsTo : List Step → Place → Conflict → Condition → Type 0
IsTo asked (place.Over id) behaviour condition = HasTag asked id.0 condition
IsTo asked (place.Under id name) behaviour condition = (behaviour ≡ Fail) × (condition ≡ Free)

put-condition : (asked : List Step) (held : Inventory) (at : Place) (bytes : List ℕ) (behaviour : Conflict) (condition : Condition) (others : ℕ) → IsTo asked at behaviour condition
    → None ≡ put_refusal held at bytes behaviour condition others → HasCondition (held_by asked) held (put_effect held at bytes behaviour)
put-condition asked held (place.Over id) bytes behaviour condition others to none = over-condition asked held id.0 bytes condition others to none
put-condition asked held (place.Under id name) bytes behaviour condition others to none =
    subst (λ b. HasCondition (held_by asked) held (file_effect id.0 name bytes (settled_in held id.0 name b false))) (sym to.0)
    (under-condition (held_by asked) held id.0 name bytes others
    (subst (λ c. None ≡ put_under_refusal held id.0 name bytes Fail c others) to.1 (subst (λ b. None ≡ put_under_refusal held id.0 name bytes b condition others) to.0 none)))

-- where the client sends to
pulled-last : (drive : List Step) (token : Option (List ℕ)) (pulled : Option (List Step)) (Holds : List Step → Type 0) → IfPulled (IsPulledAt drive token) pulled → AsPulled Holds pulled → Holds (last_asked drive)
pulled-last drive token None Holds at holds = absurd holds
pulled-last drive token (Some pulled) Holds at holds = subst Holds (sym at.last) holds

to-place : (w : World) (k : Known) (held : Inventory) (at : Address) (behaviour : Conflict) (condition : Condition) (found : Place) → Good w k → IsSentTo k at behaviour condition → place_of held at ≡ Some found
    → IsTo (last_asked w.drive) found behaviour condition
to-place w k held (Id id) behaviour condition found good to is =
    let one : place.Over id ≡ found = cc is in
    subst (λ p. IsTo (last_asked w.drive) p behaviour condition) one
    (pulled-last w.drive k.feed.token k.feed.pulled (λ drive. HasTag drive id.0 condition) good.feed.pulled to)
to-place w k held (Child id name) behaviour condition found good to is =
    let one : place.Under id name ≡ found = cc is in
    subst (λ p. IsTo (last_asked w.drive) p behaviour condition) one to
to-place w k held (ByPath path) behaviour condition found good to is = absurd to

-- ---- sessions
abbrev SessionTo : List Step → Session → Type 0
SessionTo asked session = IsTo asked session.place session.behaviour session.condition

abbrev FoundTo : List Step → Option Session → Type 0
FoundTo asked None = Unit {0}
FoundTo asked (Some session) = SessionTo asked session

pub record IsOpened (asked : List Step) (state : State) (session : ℕ) : Type 0 where
  pub low : session ≤ length state.openers
  pub to : FoundTo asked (session_at session state.sessions)

abbrev Opens : List Step → State → List Sending → Type 0
Opens asked state sending = (session : ℕ) (bytes : List ℕ) → sent_as sending session ≡ Some bytes → IsOpened asked state session

found-opened : (asked : List Step) (count session : ℕ) (found : Option Place) (behaviour : Conflict) (condition : Condition) (defer : Bool) (sessions : List Session) → session ≤ count
    → FoundTo asked (session_at session sessions) → FoundTo asked (session_at session (opened (count + 1) found behaviour condition defer sessions))
found-opened asked count session None behaviour condition defer sessions low to = to
found-opened asked count session (Some at) behaviour condition defer sessions low to =
    subst (FoundTo asked)
    (sym (at-last session sessions (record { number = count + 1; place = at; behaviour = behaviour; condition = condition; defer = defer; total = None; filled = [] }) (number-apart count session low))) to

found-without : (asked : List Step) (number session : ℕ) (sessions : List Session) → FoundTo asked (session_at session sessions) → FoundTo asked (session_at session (without_session number sessions))
found-without asked number session sessions to = by (nat_eq number session) refl
  where
    by : (b : Bool) → nat_eq number session ≡ b → FoundTo asked (session_at session (without_session number sessions))
    by true is =
        let same : number ≡ session = eqb-true number session is in
        subst (FoundTo asked) (sym (ap (λ n. session_at session (without_session n sessions)) same ∙ at-gone session sessions)) tt
    by false is = subst (FoundTo asked) (sym (at-without number session sessions is)) to

found-grown : (asked : List Step) (total : ℕ) (bytes : List ℕ) (found : Option Session) → FoundTo asked found → FoundTo asked (grown_at total bytes found)
found-grown asked total bytes None to = tt
found-grown asked total bytes (Some session) to = to

found-with : (asked : List Step) (number session total : ℕ) (bytes : List ℕ) (sessions : List Session) → FoundTo asked (session_at session sessions)
    → FoundTo asked (session_at session (with_fragment number total bytes sessions))
found-with asked number session total bytes sessions to = by (nat_eq number session) refl
  where
    by : (b : Bool) → nat_eq number session ≡ b → FoundTo asked (session_at session (with_fragment number total bytes sessions))
    by true is =
        let same : number ≡ session = eqb-true number session is in
        subst (FoundTo asked) (sym (ap (λ n. session_at session (with_fragment n total bytes sessions)) same ∙ at-same session total bytes sessions))
        (found-grown asked total bytes (session_at session sessions) to)
    by false is = subst (FoundTo asked) (sym (at-other number session total bytes sessions is)) to

found-last : (completed : Bool) (asked : List Step) (number session total : ℕ) (bytes : List ℕ) (sessions : List Session) → FoundTo asked (session_at session sessions)
    → FoundTo asked (session_at session (cond completed (without_session number sessions) (with_fragment number total bytes sessions)))
found-last true asked number session total bytes sessions to = found-without asked number session sessions to
found-last false asked number session total bytes sessions to = found-with asked number session total bytes sessions to

found-request : (asked : List Step) (state : State) (request : Request) (session : ℕ) → session ≤ length state.openers → FoundTo asked (session_at session state.sessions)
    → FoundTo asked (session_at session (sessions_of state request))
found-request asked state (OpenSession at name behaviour condition defer) session low to =
    found-opened asked (length state.openers) session (place_of (held state) at) behaviour condition defer state.sessions low to
found-request asked state (Fragment number first last total bytes) session low to =
    found-last (is_completed (session_at number state.sessions) last total) asked number session total bytes state.sessions to
found-request asked state (CancelSession number) session low to = found-without asked number session state.sessions to
found-request asked state (Finish number) session low to = found-without asked number session state.sessions to
found-request asked state request session low to = to

opened-request : (asked : List Step) (state : State) (who : Who) (request : Request) (session : ℕ) → IsOpened asked state session → IsOpened asked (after_request state who request) session
opened-request asked state who request session is =
    let more = openers-grow state who request in
    let longer : length (openers_of state who request) ≡ length state.openers + length more.0 = ap (λ (openers : List Who). length openers) more.1 ∙ length-append state.openers more.0 in
    record { low = omega (arith, is.low, longer); to = found-request asked state request session is.low is.to }

opened-if : (accepted : Bool) (asked : List Step) (state : State) (who : Who) (request : Request) (session : ℕ) → IsOpened asked state session
    → IsOpened asked (cond accepted (after_request state who request) state) session
opened-if true asked state who request session is = opened-request asked state who request session is
opened-if false asked state who request session is = is

opened-step : (asked : List Step) (state : State) (next : Step) (session : ℕ) → IsOpened asked state session → IsOpened asked (after_step state next) session
opened-step asked state (step.Ask who request served heard) session is = opened-if (is_accepted state request served) asked state who request session is
opened-step asked state (step.Event (Expire number)) session is = record { low = is.low; to = is.to }
opened-step asked state (step.Event Restore) session is = record { low = is.low; to = is.to }
opened-step asked state (step.Event (EndSession number)) session is = record { low = is.low; to = found-without asked number session state.sessions is.to }
opened-step asked state (step.Event Plain) session is = record { low = is.low; to = is.to }

-- a new session
found-new : (asked : List Step) (count : ℕ) (found : Option Place) (behaviour : Conflict) (condition : Condition) (defer : Bool) (sessions : List Session) → AllByRecursion (IsOpen count) sessions
    → ((at : Place) → found ≡ Some at → IsTo asked at behaviour condition) → FoundTo asked (session_at (count + 1) (opened (count + 1) found behaviour condition defer sessions))
found-new asked count None behaviour condition defer sessions all to = subst (FoundTo asked) (sym (none-at count sessions all)) tt
found-new asked count (Some at) behaviour condition defer sessions all to =
    let last : Session = record { number = count + 1; place = at; behaviour = behaviour; condition = condition; defer = defer; total = None; filled = [] } in
    subst (FoundTo asked) (sym (new-at (count + 1) sessions last refl (none-at count sessions all))) (to at refl)

opened-new : (w : World) (k : Known) (at : Address) (name : Option (List ℕ)) (behaviour : Conflict) (condition : Condition) (defer : Bool) → Good w k → IsSentTo k at behaviour condition
    → IsOpened (last_asked w.drive) (after_request (state_of w.drive) Own (OpenSession at name behaviour condition defer)) (length (state_of w.drive).openers + 1)
opened-new w k at name behaviour condition defer good to =
    let state : State = state_of w.drive in
    let longer : length (state.openers ++ Own ∷ []) ≡ length state.openers + 1 = length_push state.openers Own in
    record {
      low = omega (arith, longer);
      to = found-new (last_asked w.drive) (length state.openers) (place_of (held state) at) behaviour condition defer state.sessions
          (each (IsOpen (length state.openers)) state.sessions (every-drive w.drive).sessions) (λ found is. to-place w k (held state) at behaviour condition found good to is);
    }

added-if : (b : Bool) (asked : List Step) (state : State) (new session : ℕ) (found bytes : List ℕ) (rest : Option (List ℕ)) → nat_eq new session ≡ b → IsOpened asked state new
    → (rest ≡ Some bytes → IsOpened asked state session) → cond b (Some found) rest ≡ Some bytes → IsOpened asked state session
added-if true asked state new session found bytes rest same opened then is = subst (IsOpened asked state) (eqb-true new session same) opened
added-if false asked state new session found bytes rest other opened then is = then is

opens-added : (asked : List Step) (state : State) (sending : List Sending) (new : ℕ) (found : Option (List ℕ)) → Opens asked state sending → IsOpened asked state new → Opens asked state (sending_of new found ++ sending)
opens-added asked state sending new None so opened = so
opens-added asked state sending new (Some found) so opened = λ session bytes is.
    added-if (nat_eq new session) asked state new session found bytes (sent_as sending session) refl opened (so session bytes) is

opens-brought : (w : World) (k : Known) (request : Request) (there : There) → Good w k → MayRequest k request → Opens (last_asked w.drive) (after_request (state_of w.drive) Own request) there.sending
    → Opens (last_asked w.drive) (after_request (state_of w.drive) Own request) (there_brought (state_of w.drive) k request there).sending
opens-brought w k (OpenSession at name behaviour condition defer) there good may so =
    opens-added (last_asked w.drive) (after_request (state_of w.drive) Own (OpenSession at name behaviour condition defer)) there.sending (length (state_of w.drive).openers + 1) (reading_for k at) so
    (opened-new w k at name behaviour condition defer good may.1.to)
opens-brought w k request there good may so =
    subst (Opens (last_asked w.drive) (after_request (state_of w.drive) Own request)) (sym (effects-sending k (held (state_of w.drive)) (effects_of (state_of w.drive) request) there)) so

opens-asked : (asked : List Step) (state : State) (request : Request) (there : There) → Opens asked state there.sending → Opens asked state (there_asked request there).sending
opens-asked asked state (Put at bytes behaviour condition) there so = so
opens-asked asked state (OpenSession at name behaviour condition defer) there so = so
opens-asked asked state request there so = so

abbrev After : World → Request → Bool → Bool → State
After w request served heard = after_step (state_of w.drive) (step.Ask Own request served heard)

unless-refused : (w : World) (k : Known) (request : Request) (there : There) (refused : Option Refusal) → refusal (state_of w.drive) request ≡ refused → Good w k → MayRequest k request
    → Opens (last_asked w.drive) (After w request true true) there.sending
    → Opens (last_asked w.drive) (After w request true true) (cond (is_none refused) (there_brought (state_of w.drive) k request there) there).sending
unless-refused w k request there (Some why) is good may so = so
unless-refused w k request there None is good may so =
    let state : State = state_of w.drive in
    let done : After w request true true ≡ after_request state Own request = ap (λ why. cond (is_none why) (after_request state Own request) state) is in
    subst (λ s. Opens (last_asked w.drive) s (there_brought state k request there).sending) (sym done)
    (opens-brought w k request there good may (subst (λ s. Opens (last_asked w.drive) s there.sending) done so))

opens-heard : (w : World) (k : Known) (request : Request) (served heard : Bool) (there : There) → Good w k → MayRequest k request → Opens (last_asked w.drive) (After w request served heard) there.sending
    → Opens (last_asked w.drive) (After w request served heard) (there_heard (state_of w.drive) k request served heard there).sending
opens-heard w k request true true there good may so = unless-refused w k request there (refusal (state_of w.drive) request) refl good may so
opens-heard w k request true false there good may so = so
opens-heard w k request false heard there good may so = so

opens-own : (w : World) (k : Known) (request : Request) (served heard : Bool) → Good w k → MayRequest k request → Opens (last_asked w.drive) (state_of w.drive) k.there.sending
    → Opens (last_asked w.drive) (After w request served heard) (there_heard (state_of w.drive) k request served heard (there_asked request k.there)).sending
opens-own w k request served heard good may so =
    opens-heard w k request served heard (there_asked request k.there) good may
    (opens-asked (last_asked w.drive) (After w request served heard) request k.there
    (λ session bytes is. opened-step (last_asked w.drive) (state_of w.drive) (step.Ask Own request served heard) session (so session bytes is)))

-- ---- what it puts
folder-free : (before held : Inventory) (parent : ℕ) (name : List ℕ) (found : Settle) → HasCondition before held (folder_effect parent name found)
folder-free before held parent name (settle.Free free) = tt
folder-free before held parent name (settle.Over number) = tt
folder-free before held parent name settle.Refuse = tt

removed-free : (before held : Inventory) (numbers : List ℕ) → AllByRecursion (HasCondition before held) (map Removed numbers)
removed-free before held [] = tt
removed-free before held (number ∷ numbers) = (tt, removed-free before held numbers)

at-found : {X : Type 0} (before held : Inventory) (effects : X → List Effect) (found : Option X) → ((x : X) → found ≡ Some x → AllByRecursion (HasCondition before held) (effects x))
    → AllByRecursion (HasCondition before held) (effects_at effects found)
at-found before held effects None so = tt
at-found before held effects (Some x) so = so x refl

none-later : (a b : Option Refusal) → is_none (or_else a b) ≡ true → None ≡ b
none-later None b is = none-from b is
none-later (Some x) b is = absurd (cc is)

commit-condition : (asked : List Step) (state : State) (session : Session) (bytes : List ℕ) → SessionTo asked session → None ≡ commit_refusal state session bytes
    → HasCondition (held_by asked) (held state) (commit_effect state session bytes)
commit-condition asked state session bytes to none =
    put-condition asked (held state) session.place bytes session.behaviour session.condition _ to none

fragment-if : (completes : Bool) (asked : List Step) (state : State) (session : Session) (bytes : List ℕ) → SessionTo asked session → None ≡ cond completes (commit_refusal state session bytes) None
    → AllByRecursion (HasCondition (held_by asked) (held state)) (cond completes (commit_effect state session bytes ∷ []) [])
fragment-if true asked state session bytes to none = (commit-condition asked state session bytes to none, tt)
fragment-if false asked state session bytes to none = tt

module _ (w : World) (k : Known) (good : Good w k) (so : Opens (last_asked w.drive) (state_of w.drive) k.there.sending) where
  abbrev Conditions : List Effect → Type 0
  Conditions effects = AllByRecursion (HasCondition (held_by (last_asked w.drive)) (held_by w.drive)) effects

  session-to : (number : ℕ) (bytes : List ℕ) (session : Session) → sent_as k.there.sending number ≡ Some bytes → session_at number (state_of w.drive).sessions ≡ Some session → SessionTo (last_asked w.drive) session
  session-to number bytes session is there = subst (FoundTo (last_asked w.drive)) there (so number bytes is).to

  puts-condition : (request : Request) → MayRequest k request → is_none (refusal (state_of w.drive) request) ≡ true → Conditions (effects_of (state_of w.drive) request)
  puts-condition (MakeFolder at name behaviour) may accepted =
      at-found (held_by (last_asked w.drive)) (held_by w.drive) (λ parent. make_folder_effect (held_by w.drive) parent name behaviour ∷ []) (target_of (held_by w.drive) at)
      (λ parent is. (folder-free (held_by (last_asked w.drive)) (held_by w.drive) parent name (settled_in (held_by w.drive) parent name behaviour true), tt))
  puts-condition (Put at bytes behaviour condition) may accepted =
      at-found (held_by (last_asked w.drive)) (held_by w.drive) (λ place. put_effect (held_by w.drive) place bytes behaviour ∷ []) (place_of (held_by w.drive) at)
      (λ found is.
      let others : ℕ = held_bytes (state_of w.drive).sessions in
      let store =
      clear (nat_lt 4194304 (length bytes)) (refuse 413 InvalidRequest)
      (by_store (at_target (λ place. put_refusal (held_by w.drive) place bytes behaviour condition others) (place_of (held_by w.drive) at)))
      (none-from (refusal (state_of w.drive) (Put at bytes behaviour condition)) accepted) in
      let fault = no-store-fault (at_target (λ place. put_refusal (held_by w.drive) place bytes behaviour condition others) (place_of (held_by w.drive) at)) store.1 in
      let none : None ≡ put_refusal (held_by w.drive) found bytes behaviour condition others =
      subst (λ p. None ≡ at_target (λ place. put_refusal (held_by w.drive) place bytes behaviour condition others) p) is fault in
      (put-condition (last_asked w.drive) (held_by w.drive) found bytes behaviour condition others (to-place w k (held_by w.drive) at behaviour condition found good may.to is) none, tt))
  puts-condition (Patch at name parent condition) may accepted =
      at-found (held_by (last_asked w.drive)) (held_by w.drive) (λ number. patch_effect (held_by w.drive) number name (id_number parent) ∷ []) (target_of (held_by w.drive) at) (λ number is. (tt, tt))
  puts-condition (Delete at condition) may accepted =
      at-found (held_by (last_asked w.drive)) (held_by w.drive) (remove_effects (held_by w.drive)) (target_of (held_by w.drive) at)
      (λ number is. removed-free (held_by (last_asked w.drive)) (held_by w.drive) (removal_order (held_by w.drive) number))
  puts-condition (Fragment number first last total bytes) may accepted =
      let state : State = state_of w.drive in
      at-found (held_by (last_asked w.drive)) (held_by w.drive) (fragment_effects state last total bytes) (session_at number state.sessions)
      (λ session there.
      let fault = no-store-fault (last_refusal state (session_at number state.sessions) last total bytes)
      (none-later (by_session (fragment_fault (held state).kept state.sessions (session_at number state.sessions) first last total bytes))
      (by_store (last_refusal state (session_at number state.sessions) last total bytes)) accepted) in
      fragment-if (completes_file session last total) (last_asked w.drive) state session (session.filled ++ bytes) (session-to number may.0 session may.1 there)
      (subst (λ found. None ≡ last_refusal state found last total bytes) there fault))
  puts-condition (Finish number) may accepted =
      let state : State = state_of w.drive in
      at-found (held_by (last_asked w.drive)) (held_by w.drive) (finish_effects state) (session_at number state.sessions)
      (λ session there.
      let fault = no-store-fault (finish_refusal state (session_at number state.sessions))
      (none-later (by_session (finish_fault (session_at number state.sessions))) (by_store (finish_refusal state (session_at number state.sessions))) accepted) in
      (commit-condition (last_asked w.drive) state session session.filled (session-to number may.0 session may.1 there) (subst (λ found. None ≡ finish_refusal state found) there fault), tt))
  puts-condition request may accepted = tt

  puts-if : (accepted : Bool) (request : Request) → MayRequest k request → (accepted ≡ true → is_none (refusal (state_of w.drive) request) ≡ true) → Conditions (cond accepted (effects_of (state_of w.drive) request) [])
  puts-if true request may is = puts-condition request may (is refl)
  puts-if false request may is = tt

-- ---- the history
opens-next : (asked later drive : List Step) (next : Step) (sending : List Sending) → later ≡ asked → Opens asked (after_step (state_of drive) next) sending → Opens later (state_of (drive ++ next ∷ [])) sending
opens-next asked later drive next sending same so =
    subst (λ a. Opens a (state_of (drive ++ next ∷ [])) sending) (sym same) (subst (λ state. Opens asked state sending) (sym (state-next drive next)) so)

opens-request : (w : World) (k : Known) (request : Request) (served heard : Bool) → Good w k → MayRequest k request → Opens (last_asked w.drive) (state_of w.drive) k.there.sending
    → Opens (last_asked (w.drive ++ step.Ask Own request served heard ∷ [])) (state_of (w.drive ++ step.Ask Own request served heard ∷ [])) (there_after w.drive k request served heard).sending
opens-request w k (Delta token) served heard good may so = λ session bytes is. absurd (cc is)
opens-request w k request served heard good may so =
    opens-next (last_asked w.drive) (last_asked (w.drive ++ step.Ask Own request served heard ∷ [])) w.drive (step.Ask Own request served heard)
    (there_heard (state_of w.drive) k request served heard (there_asked request k.there)).sending
    (last-missed is_own_delta w.drive (step.Ask Own request served heard) refl) (opens-own w k request served heard good may so)

opens-other : (w : World) (k : Known) (next : Step) → is_own_delta next ≡ false → Opens (last_asked w.drive) (state_of w.drive) k.there.sending
    → Opens (last_asked (w.drive ++ next ∷ [])) (state_of (w.drive ++ next ∷ [])) k.there.sending
opens-other w k next other so =
    opens-next (last_asked w.drive) (last_asked (w.drive ++ next ∷ [])) w.drive next k.there.sending (last-missed is_own_delta w.drive next other)
    (λ session bytes is. opened-step (last_asked w.drive) (state_of w.drive) next session (so session bytes is))

abbrev Opened : World → Known → Type 0
Opened w k = Opens (last_asked w.drive) (state_of w.drive) k.there.sending

under : (w : World) (k : Known) (events : List Event) → Good w k → LegalFrom w k events → Opened w k → UploadsUnderCondition w.drive (steps_in events)
under w k [] good legal so = tt
under w k (Asked size (step.Ask Own request served heard) ∷ events) good legal so = (
  puts-if w k good so (is_accepted (state_of w.drive) request served) request legal.0.2 (λ accepted. (and_parts served (is_none (refusal (state_of w.drive) request)) accepted).1),
  under (happens w (Asked size (step.Ask Own request served heard))) (learn w k (Asked size (step.Ask Own request served heard))) events
      (good-after w k (Asked size (step.Ask Own request served heard)) good legal.0) legal.1 (opens-request w k request served heard good legal.0.2 so),
)
under w k (Asked size (step.Ask Other request served heard) ∷ events) good legal so = (
  tt,
  under (happens w (Asked size (step.Ask Other request served heard))) k events (good-after w k (Asked size (step.Ask Other request served heard)) good legal.0) legal.1
      (opens-other w k (step.Ask Other request served heard) refl so),
)
under w k (Asked size (step.Event event) ∷ events) good legal so = (
  tt,
  under (happens w (Asked size (step.Event event))) k events (good-after w k (Asked size (step.Event event)) good legal.0) legal.1 (opens-other w k (step.Event event) refl so),
)
under w k (Worked (User edit) ∷ events) good legal so = under (happens w (Worked (User edit))) k events (good-after w k (Worked (User edit)) good legal.0) legal.1 so
under w k (Worked (Op call) ∷ events) good legal so =
    under (happens w (Worked (Op call))) (learn w k (Worked (Op call))) events (good-after w k (Worked (Op call)) good legal.0) legal.1 so
under w k (Kept image ∷ events) good legal so = under (happens w (Kept image)) (learn w k (Kept image)) events (good-after w k (Kept image) good legal.0) legal.1 so

pub under-condition-always : (w : World) (events : List Event) → AreSound w.drive w.images → LegalFrom w (begins w) events → UploadsUnderCondition w.drive (steps_in events)
under-condition-always w events sound legal = under w (begins w) events (good-beginning w sound) legal (λ session bytes is. absurd (cc is))
