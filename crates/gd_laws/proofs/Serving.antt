-- What holds of the sessions of a drive where one is opened, gets more bytes or ends.
use Rattle.std.proofs.Common.{◌≡◌, ℕ, ◌+◌, ◌^◌, ◌<◌, ◌≤◌, Bool, true, false, not, cond, nat_eq, List, [], ◌∷◌, ◌++◌, length, map, Some, None, refl, sym, ap, ◌∙◌, subst, arith}
use Rattle.std.specs.List.{All, AllPairs}
use Rattle.std.proofs.lemmas.Bool.{eqb-true, ne_eqb}
use Rattle.std.proofs.lemmas.List.{length-append, length-map, length_push}
use Rattle.std.proofs.lemmas.List.Elements.{All-nil, All-cons, All-head, All-tail, All-push, All-filter, All-weaker}
use Rattle.std.proofs.lemmas.List.Kept.{AllPairs-filter}
use Rattle.std.proofs.lemmas.List.Quantifiers.{all_pairs_push}
use Rattle.std.proofs.lemmas.List.Sums.{length-filter, count_by-le-length, sum_by-append, sum_by-cons}
use Rattle.gd_names.specs.declared.conflict.Conflict.{Conflict}
use Rattle.gd_names.proofs.Each.{AllPairs-nil, AllPairs-head, AllPairs-tail}
use Rattle.gd_item.specs.Sessions.{Session, held_bytes, session_at, without_session, with_fragment}
use Rattle.gd_item.specs.declared.condition.Condition.{Condition}
use Rattle.gd_item.specs.declared.live.Place.{Place}
use Rattle.gd_item.proofs.Pairs.{AllPairs-same_map}
use Rattle.gd_laws.specs.EveryDrive.{IsOpen}

pub record IsServing (openers : ℕ) (sessions : List Session) : Type 0 where
  pub each : All (IsOpen openers) sessions
  pub rising : AllPairs (λ (x y : Session). x.number < y.number) sessions
  pub few : length sessions ≤ 1000
  pub fits : openers < 2 ^ 64

pub serving-none : IsServing 0 []
serving-none = record {
  each = All-nil (IsOpen 0);
  rising = AllPairs-nil (λ (x y : Session). x.number < y.number);
  few = omega arith;
  fits = omega arith;
}

-- ---- the session of a number
pub found-session : (P : Session → Type 0) (number : ℕ) (sessions : List Session) (session : Session) → All P sessions → session_at number sessions ≡ Some session → P session
found-session P number [] session all found = absurd cc
found-session P number (first ∷ sessions) session all found =
    elim (nat_eq first.number number) as (λ b. cond b (Some first) (session_at number sessions) ≡ Some session → P session) [
      | true ↦ λ is. let same : first ≡ session = cc in subst P same (All-head P first sessions all)
      | false ↦ λ is. found-session P number sessions session (All-tail P first sessions all) is
    ] found

-- ---- a session that ends
pub serving-without : (openers number : ℕ) (sessions : List Session) → IsServing openers sessions → IsServing openers (without_session number sessions)
serving-without openers number sessions serving =
    let other : Session → Bool = λ (session : Session). not (nat_eq session.number number) in
    let few : length sessions ≤ 1000 = serving.few in
    record {
      each = All-filter other (IsOpen openers) sessions serving.each;
      rising = AllPairs-filter (λ (x y : Session). x.number < y.number) other sessions serving.rising;
      few = omega (arith, few, length-filter other sessions, count_by-le-length other sessions);
      fits = serving.fits;
    }

-- the bytes of one session and of the others
bytes-first : (session : Session) (sessions : List Session) → held_bytes (session ∷ sessions) ≡ length session.filled + held_bytes sessions
bytes-first session sessions = sum_by-cons (λ (s : Session). length s.filled) session sessions

pub bytes-without : (number : ℕ) (sessions : List Session) → held_bytes (without_session number sessions) ≤ held_bytes sessions
bytes-without number [] = omega arith
bytes-without number (session ∷ sessions) =
    let left : List Session = without_session number sessions in
    elim (nat_eq session.number number) as (λ b. held_bytes (cond (not b) (session ∷ left) left) ≤ held_bytes (session ∷ sessions)) [
      | true ↦ omega (arith, bytes-without number sessions, bytes-first session sessions)
      | false ↦ omega (arith, bytes-without number sessions, bytes-first session sessions, bytes-first session left)
    ]

-- its bytes count no more
pub bytes-less : (number : ℕ) (sessions : List Session) (session : Session) → session_at number sessions ≡ Some session → held_bytes (without_session number sessions) + length session.filled ≤ held_bytes sessions
bytes-less number [] session found = absurd cc
bytes-less number (first ∷ sessions) session found =
    let left : List Session = without_session number sessions in
    elim (nat_eq first.number number) as (λ b. cond b (Some first) (session_at number sessions) ≡ Some session → held_bytes (cond (not b) (first ∷ left) left) + length session.filled ≤ held_bytes (first ∷ sessions)) [
      | true ↦ λ is.
          let same : first ≡ session = cc in
          let long : length first.filled ≡ length session.filled = ap (λ (s : Session). length s.filled) same in
          omega (arith, long, bytes-without number sessions, bytes-first first sessions)
      | false ↦ λ is. omega (arith, bytes-less number sessions session is, bytes-first first sessions, bytes-first first left)
    ] found

-- ---- a session that gets more bytes
abbrev pub written_to : ℕ → List ℕ → Session → Session
written_to total bytes session = record session { total = Some total; filled = session.filled ++ bytes }

untouched : (number total : ℕ) (bytes : List ℕ) (sessions : List Session) → All (λ (session : Session). number < session.number) sessions → with_fragment number total bytes sessions ≡ sessions
untouched number total bytes [] above = refl
untouched number total bytes (session ∷ sessions) above =
    let high : number < session.number = All-head (λ (s : Session). number < s.number) session sessions above in
    ap (λ b. cond b (written_to total bytes session) session ∷ with_fragment number total bytes sessions) (ne_eqb session.number number (λ is. omega arith))
    ∙ ap (λ rest. session ∷ rest) (untouched number total bytes sessions (All-tail (λ (s : Session). number < s.number) session sessions above))

numbers-written : (number total : ℕ) (bytes : List ℕ) (sessions : List Session) → map (λ (s : Session). s.number) sessions ≡ map (λ (s : Session). s.number) (with_fragment number total bytes sessions)
numbers-written number total bytes [] = refl
numbers-written number total bytes (session ∷ sessions) =
    elim (nat_eq session.number number) as (λ b. map (λ (s : Session). s.number) (session ∷ sessions) ≡ map (λ (s : Session). s.number) (cond b (written_to total bytes session) session ∷ with_fragment number total bytes sessions)) [
      | true ↦ ap (λ ns. session.number ∷ ns) (numbers-written number total bytes sessions)
      | false ↦ ap (λ ns. session.number ∷ ns) (numbers-written number total bytes sessions)
    ]

record IsWritten (openers count : ℕ) (old new : List Session) : Type 0 where
  each : All (IsOpen openers) new
  bytes : held_bytes new ≡ held_bytes old + count

written : (openers number total : ℕ) (bytes : List ℕ) (sessions : List Session) (session : Session) → AllPairs (λ (x y : Session). x.number < y.number) sessions → All (IsOpen openers) sessions
    → session_at number sessions ≡ Some session → IsOpen openers (written_to total bytes session) → IsWritten openers (length bytes) sessions (with_fragment number total bytes sessions)
written openers number total bytes [] session rising all found now = absurd cc
written openers number total bytes (first ∷ sessions) session rising all found now =
    let R : Session → Session → Type 0 = λ x y. x.number < y.number in
    let rest : List Session = with_fragment number total bytes sessions in
    (elim (nat_eq first.number number) as (λ b. nat_eq first.number number ≡ b → cond b (Some first) (session_at number sessions) ≡ Some session
    → IsWritten openers (length bytes) (first ∷ sessions) (cond b (written_to total bytes first) first ∷ rest)) [
      | true ↦ λ at is.
          let same : first ≡ session = cc in
          let above : All (λ (s : Session). number < s.number) sessions =
          subst (λ n. All (λ (s : Session). n < s.number) sessions) (eqb-true first.number number at) (AllPairs-head R first sessions rising) in
          let left : rest ≡ sessions = untouched number total bytes sessions above in
          record {
            each = All-cons (IsOpen openers) (written_to total bytes first) rest (subst (λ (s : Session). IsOpen openers (written_to total bytes s)) (sym same) now)
                (subst (All (IsOpen openers)) (sym left) (All-tail (IsOpen openers) first sessions all));
            bytes = omega (arith, length-append first.filled bytes, ap held_bytes left, bytes-first first sessions, bytes-first (written_to total bytes first) rest);
          }
      | false ↦ λ off is.
          let later : IsWritten openers (length bytes) sessions rest = written openers number total bytes sessions session (AllPairs-tail R first sessions rising) (All-tail (IsOpen openers) first sessions all) is now in
          record { each = All-cons (IsOpen openers) first rest (All-head (IsOpen openers) first sessions all) later.each; bytes = omega (arith, later.bytes, bytes-first first sessions, bytes-first first rest) }
    ]) refl found

pub serving-written : (openers number total : ℕ) (bytes : List ℕ) (sessions : List Session) (session : Session) → IsServing openers sessions → session_at number sessions ≡ Some session
    → IsOpen openers (written_to total bytes session) → IsServing openers (with_fragment number total bytes sessions)
serving-written openers number total bytes sessions session serving found now =
    let now_written : List Session = with_fragment number total bytes sessions in
    let number_of : Session → ℕ = λ (s : Session). s.number in
    let few : length sessions ≤ 1000 = serving.few in
    let same : map number_of sessions ≡ map number_of now_written = numbers-written number total bytes sessions in
    let long : length now_written ≡ length sessions = sym (length-map now_written number_of) ∙ sym (ap length same) ∙ length-map sessions number_of in
    record {
      each = (written openers number total bytes sessions session serving.rising serving.each found now).each;
      rising = AllPairs-same_map number_of (λ x y. x < y) sessions now_written same serving.rising;
      few = omega (arith, few, long);
      fits = serving.fits;
    }

pub bytes-written : (openers number total : ℕ) (bytes : List ℕ) (sessions : List Session) (session : Session) → IsServing openers sessions → session_at number sessions ≡ Some session
    → IsOpen openers (written_to total bytes session) → held_bytes (with_fragment number total bytes sessions) ≡ held_bytes sessions + length bytes
bytes-written openers number total bytes sessions session serving found now =
    (written openers number total bytes sessions session serving.rising serving.each found now).bytes

-- ---- a session that is opened
abbrev pub new_session : ℕ → Place → Conflict → Condition → Bool → Session
new_session number place behaviour condition defer =
    record { number = number; place = place; behaviour = behaviour; condition = condition; defer = defer; total = None; filled = [] }

open-later : (openers more : ℕ) (session : Session) → openers ≤ more → IsOpen openers session → IsOpen more session
open-later openers more session le open_session = record {
  from_one = open_session.from_one;
  given = let low : session.number ≤ openers = open_session.given in omega arith;
  filled = open_session.filled;
}

pub serving-later : (openers : ℕ) (sessions : List Session) → IsServing openers sessions → openers + 1 < 2 ^ 64 → IsServing (openers + 1) sessions
serving-later openers sessions serving low = record {
  each = All-weaker (IsOpen openers) (IsOpen (openers + 1)) (λ session h. open-later openers (openers + 1) session (omega arith) h) sessions serving.each;
  rising = serving.rising;
  few = serving.few;
  fits = low;
}

pub serving-opened : (openers : ℕ) (place : Place) (behaviour : Conflict) (condition : Condition) (defer : Bool) (sessions : List Session) → IsServing openers sessions → openers + 1 < 2 ^ 64
    → length sessions < 1000 → IsServing (openers + 1) (sessions ++ new_session (openers + 1) place behaviour condition defer ∷ [])
serving-opened openers place behaviour condition defer sessions serving low few =
    let new : Session = new_session (openers + 1) place behaviour condition defer in
    let below : All (λ (s : Session). s.number < openers + 1) sessions =
    All-weaker (IsOpen openers) (λ s. s.number < openers + 1) (λ s h. let given : s.number ≤ openers = h.given in omega arith) sessions serving.each in
    record {
      each = All-push (IsOpen (openers + 1)) sessions new (serving-later openers sessions serving low).each (record { from_one = omega arith; given = omega arith; filled = refl });
      rising = all_pairs_push (λ (x y : Session). x.number < y.number) sessions new serving.rising below;
      few = omega (arith, few, length_push sessions new);
      fits = low;
    }

pub bytes-opened : (number : ℕ) (place : Place) (behaviour : Conflict) (condition : Condition) (defer : Bool) (sessions : List Session)
    → held_bytes (sessions ++ new_session number place behaviour condition defer ∷ []) ≡ held_bytes sessions
bytes-opened number place behaviour condition defer sessions =
    let one : held_bytes (new_session number place behaviour condition defer ∷ []) ≡ 0 = refl in
    omega (arith, one, sum_by-append (λ (session : Session). length session.filled) sessions (new_session number place behaviour condition defer ∷ []))
