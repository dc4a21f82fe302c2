-- What a request that is not refused does: each of its effects finds what it needs, and the sessions and the bytes stay
-- within their limits.
use Rattle.std.proofs.Common.{◌≡◌, ℕ, ◌+◌, ◌-◌, ◌%◌, ◌^◌, ◌<◌, ◌≤◌, Bool, true, false, ◌&&◌, ◌||◌, not, cond, nat_eq, nat_lt, nat_le, List, [], ◌∷◌, ◌++◌, length, map, is_none, Option, Some, None, refl, sym, subst, arith}
use Rattle.std.proofs.lemmas.Bool.{and_parts, eqb-true, eqb-false, leb-false}
use Rattle.std.proofs.lemmas.List.{length-append, length_push}
use Rattle.gd_names.specs.declared.conflict.Conflict.{Conflict}
use Rattle.gd_names.specs.declared.conflict.Settle.{Settle}
use Rattle.gd_names.specs.declared.conflict.Settle.TheVariants.{Free, Over, Refuse}
use Rattle.gd_names.proofs.Small.{un-not, neither, clear, mapped-none, not-below}
use Rattle.gd_item.specs.Inventory.{Inventory, Effect, Removed}
use Rattle.gd_item.specs.Moves.{patch_refusal, patch_effect, remove_refusal, remove_effects, removal_order}
use Rattle.gd_item.specs.Refusals.{settled_in, folder_effect, make_folder_refusal, make_folder_effect, file_effect, put_refusal, put_effect}
use Rattle.gd_item.specs.Refused.{by_store, or_else, at_target, with_sessions, id_number, commit_refusal, last_refusal, finish_refusal, is_unlike, refusal}
use Rattle.gd_item.specs.Sessions.{State, Session, held, held_bytes, session_at, without_session, with_fragment, is_last, completes_file, is_completed, is_other_total, session_fragment_fault, fragment_fault, finish_fault}
use Rattle.gd_item.specs.Steps.{effects_at, commit_effect, fragment_effects, finish_effects, effects_of, opened, sessions_of, openers_of}
use Rattle.gd_item.specs.Targets.{target_of, place_of, name_in}
use Rattle.gd_item.specs.declared.condition.Condition.{Condition}
use Rattle.gd_item.specs.declared.fault.StoreFault.{StoreFault}
use Rattle.gd_item.specs.declared.live.Place.{Place}
use Rattle.gd_item.specs.declared.live.Place.TheVariants as place
use Rattle.gd_item.specs.declared.request.Request.{Request}
use Rattle.gd_item.specs.declared.request.Request.TheVariants.{Get, Children, MakeFolder, Put, Patch, Delete, Content, Download, OpenSession, Fragment, SessionStatus, CancelSession, Finish, Delta}
use Rattle.gd_item.specs.declared.step.Who.{Who}
use Rattle.gd_laws.specs.EveryDrive.{IsFilledTo, IsOpen}
use Rattle.gd_laws.proofs.Found.{AllFind, make-finds, put-finds, put-light, move-finds, remove-finds}
use Rattle.gd_laws.proofs.Orderly.{IsOrderly, brought, brought_by}
use Rattle.gd_laws.proofs.Serving.{IsServing, found-session, serving-without, bytes-without, bytes-less, written_to, serving-written, bytes-written, new_session, serving-later, serving-opened, bytes-opened}

-- what follows where a drive that holds this gets these effects and then has these sessions
pub record Follows (held : Inventory) (effects : List Effect) (openers : ℕ) (sessions : List Session) : Type 0 where
  pub finds : AllFind held effects
  pub serving : IsServing openers sessions
  pub light : held.kept + brought_by effects + held_bytes sessions ≤ 536870912

-- ---- what no refusal tells of its parts
pub neither-refuses : {X : Type 0} (first second : Option X) → or_else first second ≡ None → (None ≡ first) × (None ≡ second)
neither-refuses None second h = (refl, sym h)
neither-refuses (Some first) second h = absurd cc

pub store-allows : (state : State) (fault : Option StoreFault) → by_store (with_sessions state fault) ≡ None → None ≡ fault
store-allows state fault h = (neither-refuses fault _ (sym (mapped-none _ (with_sessions state fault) h))).0

-- what holds at each thing that an address may name holds at the one that it names
at-found : {X : Type 0} (P : List Effect → Type 0) (fault : X → Option StoreFault) (made : X → List Effect) → ((x : X) → None ≡ fault x → P (made x))
    → (target : Option X) → None ≡ at_target fault target → P (effects_at made target)
at-found P fault made each None h = absurd cc
at-found P fault made each (Some x) h = each x h

-- ---- how many bytes the effects bring
folder-brings : (parent : ℕ) (name : List ℕ) (settle : Settle) → brought (folder_effect parent name settle) ≡ 0
folder-brings parent name (Free free) = refl
folder-brings parent name (Over number) = refl
folder-brings parent name Refuse = refl

file-brings : (parent : ℕ) (name bytes : List ℕ) (settle : Settle) → brought (file_effect parent name bytes settle) ≡ length bytes
file-brings parent name bytes (Free free) = refl
file-brings parent name bytes (Over number) = refl
file-brings parent name bytes Refuse = refl

put-brings : (store : Inventory) (bytes : List ℕ) (behaviour : Conflict) (at : Place) → brought (put_effect store at bytes behaviour) ≡ length bytes
put-brings store bytes behaviour (place.Over id) = refl
put-brings store bytes behaviour (place.Under id name) = file-brings id.0 name bytes (settled_in store id.0 name behaviour false)

pub removals-bring : (numbers : List ℕ) → brought_by (map Removed numbers) ≡ 0
removals-bring [] = refl
removals-bring (number ∷ numbers) = omega (arith, removals-bring numbers)

-- ---- fragments
-- what holds of a fragment of a session that is not refused for itself
pub record IsNext (kept : ℕ) (sessions : List Session) (session : Session) (last total : ℕ) (bytes : List ℕ) : Type 0 where
  pub whole : length (session.filled ++ bytes) ≡ last + 1
  pub within : last + 1 ≤ total
  pub small : total ≤ 67108864
  pub light : kept + held_bytes sessions + length bytes ≤ 536870912

equal-unless : (a b : ℕ) → not (nat_eq a b) ≡ false → a ≡ b
equal-unless a b h = eqb-true a b (un-not (nat_eq a b) h)

not-within : (a b : ℕ) → nat_le a b ≡ false → b < a
not-within a b h = leb-false a b h

pub next-fragment : (kept : ℕ) (sessions : List Session) (session : Session) (first last total : ℕ) (bytes : List ℕ) → None ≡ session_fragment_fault kept sessions session first last total bytes
    → IsNext kept sessions session last total bytes
next-fragment kept sessions session first last total bytes h =
    let a = clear (is_other_total session.total total) _ _ h in
    let b = clear (nat_lt last first || nat_le total last || not (nat_eq (last - first + 1) (length bytes))) _ _ a.1 in
    let c = clear (nat_le 62914560 (length bytes) || nat_lt 67108864 total) _ _ b.1 in
    let d = clear (not (nat_eq first (length session.filled))) _ _ c.1 in
    let e = clear (not (is_last last total) && not (nat_eq (length bytes % 327680) 0)) _ _ d.1 in
    let f = clear (nat_lt 536870912 (kept + held_bytes sessions + length bytes)) _ _ e.1 in
    let form = neither (nat_lt last first || nat_le total last) (not (nat_eq (last - first + 1) (length bytes))) b.0 in
    let ends = neither (nat_lt last first) (nat_le total last) form.0 in
    let before : first ≤ last = not-below last first ends.0 in
    let inside : last < total = not-within total last ends.1 in
    let long : last - first + 1 ≡ length bytes = equal-unless (last - first + 1) (length bytes) form.1 in
    let here : first ≡ length session.filled = equal-unless first (length session.filled) d.0 in
    record {
      whole = omega (arith, length-append session.filled bytes);
      within = omega (arith, inside);
      small = not-below 67108864 total (neither (nat_le 62914560 (length bytes)) (nat_lt 67108864 total) c.0).1;
      light = not-below 536870912 (kept + held_bytes sessions + length bytes) f.0;
    }

-- a fragment that does not complete the file of a session that is not deferred is not its last one
not-last : (last_one defer : Bool) → (last_one && not defer) ≡ false → defer ≡ false → last_one ≡ false
not-last false defer open_still plain = refl
not-last true true open_still plain = cc
not-last true false open_still plain = cc

filled-more : (kept openers : ℕ) (sessions : List Session) (session : Session) (last total : ℕ) (bytes : List ℕ) → IsNext kept sessions session last total bytes → completes_file session last total ≡ false
    → IsOpen openers session → IsOpen openers (written_to total bytes session)
filled-more kept openers sessions session last total bytes next open_still is = record {
  from_one = is.from_one;
  given = is.given;
  filled = (
    omega (arith, next.whole, next.within),
    next.small,
    λ plain.
        let other : (last + 1 ≡ total) → ⊥ = eqb-false (last + 1) total (not-last (is_last last total) session.defer open_still plain) in
        omega (arith, next.whole, next.within, other),
  );
}

-- the bytes of a session are those of a file
filled-small : (defer : Bool) (count : ℕ) (total : Option ℕ) → IsFilledTo defer count total → count ≤ 67108864
filled-small defer count None filled = omega (arith, filled)
filled-small defer count (Some total) filled = omega (arith, filled.0, filled.1)

module _ (state : State) (order : IsOrderly (held state)) (serving : IsServing (length state.openers) state.sessions) (light : (held state).kept + held_bytes state.sessions ≤ 536870912) where
  -- effects that bring no bytes, over the same sessions
  abbrev Leaves : List Effect → Type 0
  Leaves effects = Follows (held state) effects (length state.openers) state.sessions

  quiet : Leaves []
  quiet = record { finds = tt; serving = serving; light = omega (arith, light) }

  calm : (effects : List Effect) → AllFind (held state) effects → brought_by effects ≡ 0 → Leaves effects
  calm effects finds none = record { finds = finds; serving = serving; light = omega (arith, light, none) }

  put-follows : (place : Place) (bytes : List ℕ) (behaviour : Conflict) (condition : Condition) (others openers : ℕ) (sessions : List Session) → length bytes ≤ 67108864
      → None ≡ put_refusal (held state) place bytes behaviour condition others → held_bytes sessions ≤ others → IsServing openers sessions
      → Follows (held state) (put_effect (held state) place bytes behaviour ∷ []) openers sessions
  put-follows place bytes behaviour condition others openers sessions small allowed low now = record {
    finds = put-finds (held state) place bytes behaviour condition others order.tree small allowed;
    serving = now;
    light = omega (arith, low, put-brings (held state) bytes behaviour place, put-light (held state) place bytes behaviour condition others allowed);
  }

  -- the file of a session is made, which lives no more
  commit-follows : (number : ℕ) (session : Session) (bytes : List ℕ) → session_at number state.sessions ≡ Some session → length bytes ≤ 67108864 → None ≡ commit_refusal state session bytes
      → Follows (held state) (commit_effect state session bytes ∷ []) (length state.openers) (without_session number state.sessions)
  commit-follows number session bytes found small allowed =
      let less : held_bytes (without_session number state.sessions) + length session.filled ≤ held_bytes state.sessions = bytes-less number state.sessions session found in
      put-follows session.place bytes session.behaviour session.condition (held_bytes state.sessions - length session.filled) (length state.openers) (without_session number state.sessions)
      small allowed (omega (arith, less)) (serving-without (length state.openers) number state.sessions serving)

  cancel-follows : (number : ℕ) → Follows (held state) [] (length state.openers) (without_session number state.sessions)
  cancel-follows number = record {
    finds = tt;
    serving = serving-without (length state.openers) number state.sessions serving;
    light = omega (arith, light, bytes-without number state.sessions);
  }

  open-follows : (who : Who) (place : Option Place) (behaviour : Conflict) (condition : Condition) (defer : Bool) → length state.sessions < 1000 → length state.openers + 1 < 2 ^ 64
      → Follows (held state) [] (length (state.openers ++ who ∷ [])) (opened (length state.openers + 1) place behaviour condition defer state.sessions)
  open-follows who None behaviour condition defer few low = record {
    finds = tt;
    serving = subst (λ n. IsServing n state.sessions) (sym (length_push state.openers who)) (serving-later (length state.openers) state.sessions serving low);
    light = omega (arith, light);
  }
  open-follows who (Some place) behaviour condition defer few low =
      let number : ℕ = length state.openers + 1 in
      record {
        finds = tt;
        serving = subst (λ n. IsServing n (state.sessions ++ new_session number place behaviour condition defer ∷ [])) (sym (length_push state.openers who))
            (serving-opened (length state.openers) place behaviour condition defer state.sessions serving low few);
        light = omega (arith, light, bytes-opened number place behaviour condition defer state.sessions);
      }

  fragment-follows : (number last total : ℕ) (bytes : List ℕ) (session : Session) → session_at number state.sessions ≡ Some session → IsNext (held state).kept state.sessions session last total bytes
      → (b : Bool) → completes_file session last total ≡ b → None ≡ cond b (commit_refusal state session (session.filled ++ bytes)) None
      → Follows (held state) (cond b (commit_effect state session (session.filled ++ bytes) ∷ []) []) (length state.openers) (cond b (without_session number state.sessions) (with_fragment number total bytes state.sessions))
  fragment-follows number last total bytes session found next true completes allowed =
      let all : last + 1 ≡ total = eqb-true (last + 1) total (and_parts (is_last last total) (not session.defer) completes).0 in
      commit-follows number session (session.filled ++ bytes) found (omega (arith, all, next.whole, next.small)) allowed
  fragment-follows number last total bytes session found next false open_still allowed =
      let is : IsOpen (length state.openers) session = found-session (IsOpen (length state.openers)) number state.sessions session serving.each found in
      let now : IsOpen (length state.openers) (written_to total bytes session) = filled-more (held state).kept (length state.openers) state.sessions session last total bytes next open_still is in
      record {
        finds = tt;
        serving = serving-written (length state.openers) number total bytes state.sessions session serving found now;
        light = omega (arith, next.light, bytes-written (length state.openers) number total bytes state.sessions session serving found now);
      }

  found-fragment : (number first last total : ℕ) (bytes : List ℕ) (found : Option Session) → session_at number state.sessions ≡ found
      → None ≡ fragment_fault (held state).kept state.sessions found first last total bytes → None ≡ last_refusal state found last total bytes
      → Follows (held state) (effects_at (fragment_effects state last total bytes) found) (length state.openers)
      (cond (is_completed found last total) (without_session number state.sessions) (with_fragment number total bytes state.sessions))
  found-fragment number first last total bytes None is whole allowed = absurd cc
  found-fragment number first last total bytes (Some session) is whole allowed =
      fragment-follows number last total bytes session is (next-fragment (held state).kept state.sessions session first last total bytes whole) (completes_file session last total) refl allowed

  found-finish : (number : ℕ) (found : Option Session) → session_at number state.sessions ≡ found → None ≡ finish_fault found → None ≡ finish_refusal state found
      → Follows (held state) (effects_at (finish_effects state) found) (length state.openers) (without_session number state.sessions)
  found-finish number None is whole allowed = absurd cc
  found-finish number (Some session) is whole allowed =
      let filled : IsOpen (length state.openers) session = found-session (IsOpen (length state.openers)) number state.sessions session serving.each is in
      commit-follows number session session.filled is (filled-small session.defer (length session.filled) session.total filled.filled) allowed

  pub follows : (who : Who) (request : Request) → None ≡ refusal state request → Follows (held state) (effects_of state request) (length (openers_of state who request)) (sessions_of state request)
  follows who (Get at) h = quiet
  follows who (Children at after) h = quiet
  follows who (MakeFolder at name behaviour) h =
      at-found Leaves (λ parent. make_folder_refusal (held state) parent name behaviour) (λ parent. make_folder_effect (held state) parent name behaviour ∷ [])
      (λ parent allowed. calm (make_folder_effect (held state) parent name behaviour ∷ []) (make-finds (held state) parent name behaviour allowed)
      (omega (arith, folder-brings parent name (settled_in (held state) parent name behaviour true))))
      (target_of (held state) at) (store-allows state _ (sym h))
  follows who (Put at bytes behaviour condition) h =
      let parts = clear (nat_lt 4194304 (length bytes)) _ _ h in
      let few : length bytes ≤ 4194304 = not-below 4194304 (length bytes) parts.0 in
      at-found Leaves (λ place. put_refusal (held state) place bytes behaviour condition (held_bytes state.sessions)) (λ place. put_effect (held state) place bytes behaviour ∷ [])
      (λ place allowed. put-follows place bytes behaviour condition (held_bytes state.sessions) (length state.openers) state.sessions (omega (arith, few)) allowed (omega arith) serving)
      (place_of (held state) at) (mapped-none _ _ (sym parts.1))
  follows who (Patch at name parent condition) h =
      at-found Leaves (λ number. patch_refusal (held state) number name (id_number parent) condition) (λ number. patch_effect (held state) number name (id_number parent) ∷ [])
      (λ number allowed. calm (patch_effect (held state) number name (id_number parent) ∷ []) (move-finds (held state) number name (id_number parent) condition order.names allowed) refl)
      (target_of (held state) at) (store-allows state _ (sym (clear (is_none name && is_none parent) _ _ h).1))
  follows who (Delete at condition) h =
      at-found Leaves (λ number. remove_refusal (held state) number condition) (remove_effects (held state))
      (λ number allowed. calm (remove_effects (held state) number) (remove-finds (held state) number condition order.tree allowed) (removals-bring (removal_order (held state) number)))
      (target_of (held state) at) (store-allows state _ (sym h))
  follows who (Content at) h = quiet
  follows who (Download id version) h = quiet
  follows who (OpenSession at name behaviour condition defer) h =
      let named = clear (is_unlike name (name_in at)) _ _ h in
      let room = clear (nat_le 1000 (length state.sessions) || nat_le (2 ^ 64 - 1) (length state.openers)) _ _ (neither-refuses _ _ (sym named.1)).1 in
      let parts = neither (nat_le 1000 (length state.sessions)) (nat_le (2 ^ 64 - 1) (length state.openers)) room.0 in
      let low : length state.openers < 2 ^ 64 - 1 = not-within (2 ^ 64 - 1) (length state.openers) parts.1 in
      open-follows who (place_of (held state) at) behaviour condition defer (not-within 1000 (length state.sessions) parts.0) (omega (arith, low))
  follows who (Fragment session first last total bytes) h =
      let parts = neither-refuses _ _ (sym h) in
      found-fragment session first last total bytes (session_at session state.sessions) refl
      (mapped-none _ (fragment_fault (held state).kept state.sessions (session_at session state.sessions) first last total bytes) (sym parts.0))
      (mapped-none _ (last_refusal state (session_at session state.sessions) last total bytes) (sym parts.1))
  follows who (SessionStatus session) h = quiet
  follows who (CancelSession session) h = cancel-follows session
  follows who (Finish session) h =
      let parts = neither-refuses _ _ (sym h) in
      found-finish session (session_at session state.sessions) refl
      (mapped-none _ (finish_fault (session_at session state.sessions)) (sym parts.0)) (mapped-none _ (finish_refusal state (session_at session state.sessions)) (sym parts.1))
  follows who (Delta token) h = quiet
