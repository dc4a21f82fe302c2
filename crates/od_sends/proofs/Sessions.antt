-- What requests do to the session of a number.
use Rattle.std.proofs.Common.{◌≡◌, ℕ, zero, suc, ◌+◌, ◌-◌, ◌≤◌, Bool, true, false, not, cond, nat_eq, is_none, List, [], ◌∷◌, ◌++◌, length, take, drop, slice_get, Option, Some, None, refl, ap, sym, subst, ◌∙◌, arith}
use Rattle.std.specs.List.{AllByRecursion}
use Rattle.std.proofs.lemmas.Bool.{and_parts, eqb-true, eq-eqb, ne_eqb}
use Rattle.std.proofs.lemmas.List.{append-nil, length-append}
use Rattle.gd_names.specs.declared.conflict.Conflict.{Conflict}
use Rattle.gd_item.specs.Refused.{refusal}
use Rattle.gd_item.specs.Sessions.{Session, State, held, is_completed, session_at, with_fragment, without_session}
use Rattle.gd_item.specs.Steps.{after_request, after_step, is_accepted, opened, opener_of, openers_of, sessions_of}
use Rattle.gd_item.specs.Targets.{place_of}
use Rattle.gd_item.specs.declared.condition.Condition.{Condition}
use Rattle.gd_item.specs.declared.live.Place.{Place}
use Rattle.gd_item.specs.declared.request.Request.{Request}
use Rattle.gd_item.specs.declared.request.Request.TheVariants.{OpenSession, Fragment, CancelSession, Finish}
use Rattle.gd_item.specs.declared.step.DriveEvent.TheVariants.{Expire, Restore, EndSession, Plain}
use Rattle.gd_item.specs.declared.step.Step.{Step}
use Rattle.gd_item.specs.declared.step.Step.TheVariants as step
use Rattle.gd_item.specs.declared.step.Who.{Who}
use Rattle.gd_item.specs.declared.step.Who.TheVariants.{Own}
use Rattle.gd_laws.specs.EveryDrive.{IsOpen}

-- ---- lists
pub take-join : (n m : ℕ) (xs : List ℕ) → take n xs ++ take m (drop n xs) ≡ take (n + m) xs
take-join zero m xs = let e : m ≡ 0 + m = omega arith in ap (λ k. take k xs) e
take-join (suc n) zero [] = let e : suc n ≡ suc n + 0 = omega arith in ap (λ k. take k []) e
take-join (suc n) (suc m) [] = let e : suc (n + suc m) ≡ suc n + suc m = omega arith in ap (λ k. take k []) e
take-join (suc n) m (x ∷ xs) =
    let e : suc (n + m) ≡ suc n + m = omega arith in ap (λ rest. x ∷ rest) (take-join n m xs) ∙ ap (λ k. take k (x ∷ xs)) e

-- ---- sessions by number
without-if : (b c : Bool) (first : Session) (here rest : Option Session) → (b ≡ true → c ≡ true → ⊥) → here ≡ rest → (cond (not b) (cond c (Some first) here) here) ≡ cond c (Some first) rest
without-if true true first here rest clash same = absurd (clash refl refl)
without-if true false first here rest clash same = same
without-if false true first here rest clash same = refl
without-if false false first here rest clash same = same

find-if : (b : Bool) (n : ℕ) (first : Session) (rest : List Session) → session_at n (cond (not b) (first ∷ rest) rest) ≡ cond (not b) (cond (nat_eq first.number n) (Some first) (session_at n rest)) (session_at n rest)
find-if true n first rest = refl
find-if false n first rest = refl

clash : (number a b : ℕ) → nat_eq a b ≡ false → nat_eq number a ≡ true → nat_eq number b ≡ true → ⊥
clash number a b other is_a is_b =
    let same : a ≡ b = sym (eqb-true number a is_a) ∙ eqb-true number b is_b in
    let is : nat_eq a b ≡ true = eq-eqb a b same in
    cc (is, other)

pub at-without : (m n : ℕ) (sessions : List Session) → nat_eq m n ≡ false → session_at n (without_session m sessions) ≡ session_at n sessions
at-without m n [] other = refl
at-without m n (first ∷ sessions) other =
    find-if (nat_eq first.number m) n first (without_session m sessions)
    ∙ without-if (nat_eq first.number m) (nat_eq first.number n) first (session_at n (without_session m sessions)) (session_at n sessions) (clash first.number m n other) (at-without m n sessions other)

gone-if : (b : Bool) (first : Session) (rest : Option Session) → rest ≡ None → cond (not b) (cond b (Some first) rest) rest ≡ None
gone-if true first rest none = none
gone-if false first rest none = none

pub at-gone : (n : ℕ) (sessions : List Session) → session_at n (without_session n sessions) ≡ None
at-gone n [] = refl
at-gone n (first ∷ sessions) =
    find-if (nat_eq first.number n) n first (without_session n sessions) ∙ gone-if (nat_eq first.number n) first (session_at n (without_session n sessions)) (at-gone n sessions)

abbrev pub grown : ℕ → List ℕ → Session → Session
grown total bytes session = record session { total = Some total; filled = session.filled ++ bytes }

with-if : (b c : Bool) (total : ℕ) (bytes : List ℕ) (first : Session) (here rest : Option Session) → (b ≡ true → c ≡ true → ⊥) → here ≡ rest → cond c (Some (cond b (grown total bytes first) first)) here ≡ cond c (Some first) rest
with-if true true total bytes first here rest clash same = absurd (clash refl refl)
with-if true false total bytes first here rest clash same = same
with-if false true total bytes first here rest clash same = refl
with-if false false total bytes first here rest clash same = same

numbered-if : (b : Bool) (n total : ℕ) (bytes : List ℕ) (first : Session) → nat_eq (cond b (grown total bytes first) first).number n ≡ nat_eq first.number n
numbered-if true n total bytes first = refl
numbered-if false n total bytes first = refl

pub at-other : (m n total : ℕ) (bytes : List ℕ) (sessions : List Session) → nat_eq m n ≡ false → session_at n (with_fragment m total bytes sessions) ≡ session_at n sessions
at-other m n total bytes [] other = refl
at-other m n total bytes (first ∷ sessions) other =
    let now : Session = cond (nat_eq first.number m) (grown total bytes first) first in
    ap (λ b. cond b (Some now) (session_at n (with_fragment m total bytes sessions))) (numbered-if (nat_eq first.number m) n total bytes first)
    ∙ with-if (nat_eq first.number m) (nat_eq first.number n) total bytes first (session_at n (with_fragment m total bytes sessions)) (session_at n sessions) (clash first.number m n other) (at-other m n total bytes sessions other)

abbrev pub grown_at : ℕ → List ℕ → Option Session → Option Session
grown_at total bytes None = None
grown_at total bytes (Some session) = Some (grown total bytes session)

same-if : (b : Bool) (total : ℕ) (bytes : List ℕ) (first : Session) (here rest : Option Session) → here ≡ grown_at total bytes rest
    → cond b (Some (cond b (grown total bytes first) first)) here ≡ grown_at total bytes (cond b (Some first) rest)
same-if true total bytes first here rest same = refl
same-if false total bytes first here rest same = same

pub at-same : (n total : ℕ) (bytes : List ℕ) (sessions : List Session) → session_at n (with_fragment n total bytes sessions) ≡ grown_at total bytes (session_at n sessions)
at-same n total bytes [] = refl
at-same n total bytes (first ∷ sessions) =
    let now : Session = cond (nat_eq first.number n) (grown total bytes first) first in
    ap (λ b. cond b (Some now) (session_at n (with_fragment n total bytes sessions))) (numbered-if (nat_eq first.number n) n total bytes first)
    ∙ same-if (nat_eq first.number n) total bytes first (session_at n (with_fragment n total bytes sessions)) (session_at n sessions) (at-same n total bytes sessions)

pub at-last : (n : ℕ) (sessions : List Session) (last : Session) → nat_eq last.number n ≡ false → session_at n (sessions ++ last ∷ []) ≡ session_at n sessions
at-last n [] last other = ap (λ b. cond b (Some last) None) other
at-last n (first ∷ sessions) last other = ap (λ rest. cond (nat_eq first.number n) (Some first) rest) (at-last n sessions last other)

none-if : (b : Bool) (first : Session) (rest : Option Session) → b ≡ false → rest ≡ None → cond b (Some first) rest ≡ None
none-if true first rest is none = absurd (cc is)
none-if false first rest is none = none

pub none-at : (count : ℕ) (sessions : List Session) → AllByRecursion (IsOpen count) sessions → session_at (count + 1) sessions ≡ None
none-at count [] all = refl
none-at count (first ∷ sessions) all =
    let low : first.number ≤ count = (all.0).given in
    none-if (nat_eq first.number (count + 1)) first (session_at (count + 1) sessions) (ne_eqb first.number (count + 1) (λ same. omega (arith, same, low))) (none-at count sessions all.1)

new-if : (b : Bool) (last : Session) → b ≡ true → cond b (Some last) None ≡ Some last
new-if true last is = refl
new-if false last is = absurd (cc is)

new-after : (b : Bool) (first last : Session) (rest later : Option Session) → cond b (Some first) rest ≡ None → (rest ≡ None → later ≡ Some last) → cond b (Some first) later ≡ Some last
new-after true first last rest later none then = absurd (cc none)
new-after false first last rest later none then = then none

pub new-at : (n : ℕ) (sessions : List Session) (last : Session) → last.number ≡ n → session_at n sessions ≡ None → session_at n (sessions ++ last ∷ []) ≡ Some last
new-at n [] last is none = new-if (nat_eq last.number n) last (eq-eqb last.number n is)
new-at n (first ∷ sessions) last is none =
    new-after (nat_eq first.number n) first last (session_at n sessions) (session_at n (sessions ++ last ∷ [])) none (new-at n sessions last is)

-- ---- a fact on the session of a number, which may not live
pub number-apart : (count session : ℕ) → session ≤ count → nat_eq (count + 1) session ≡ false
number-apart count session low = ne_eqb (count + 1) session (λ same. omega (arith, same, low))

keeps-opened : (P : Option Session → Type 0) (count session : ℕ) (found : Option Place) (behaviour : Conflict) (condition : Condition) (defer : Bool) (sessions : List Session) → session ≤ count
    → P (session_at session sessions) → P (session_at session (opened (count + 1) found behaviour condition defer sessions))
keeps-opened P count session None behaviour condition defer sessions low so = so
keeps-opened P count session (Some at) behaviour condition defer sessions low so =
    subst P
    (sym (at-last session sessions (record { number = count + 1; place = at; behaviour = behaviour; condition = condition; defer = defer; total = None; filled = [] }) (number-apart count session low))) so

keeps-without : (P : Option Session → Type 0) (number session : ℕ) (sessions : List Session) → P None → P (session_at session sessions) → P (session_at session (without_session number sessions))
keeps-without P number session sessions none so = by (nat_eq number session) refl
  where
    by : (b : Bool) → nat_eq number session ≡ b → P (session_at session (without_session number sessions))
    by true is =
        let same : number ≡ session = eqb-true number session is in
        subst P (sym (ap (λ n. session_at session (without_session n sessions)) same ∙ at-gone session sessions)) none
    by false is = subst P (sym (at-without number session sessions is)) so

keeps-with : (P : Option Session → Type 0) (number session total : ℕ) (bytes : List ℕ) (sessions : List Session) → (number ≡ session → P (grown_at total bytes (session_at session sessions)))
    → P (session_at session sessions) → P (session_at session (with_fragment number total bytes sessions))
keeps-with P number session total bytes sessions grows so = by (nat_eq number session) refl
  where
    by : (b : Bool) → nat_eq number session ≡ b → P (session_at session (with_fragment number total bytes sessions))
    by true is =
        let same : number ≡ session = eqb-true number session is in
        subst P (sym (ap (λ n. session_at session (with_fragment n total bytes sessions)) same ∙ at-same session total bytes sessions)) (grows same)
    by false is = subst P (sym (at-other number session total bytes sessions is)) so

keeps-last : (completed : Bool) (P : Option Session → Type 0) (number session total : ℕ) (bytes : List ℕ) (sessions : List Session) → P None
    → (number ≡ session → P (grown_at total bytes (session_at session sessions))) → P (session_at session sessions)
    → P (session_at session (cond completed (without_session number sessions) (with_fragment number total bytes sessions)))
keeps-last true P number session total bytes sessions none grows so = keeps-without P number session sessions none so
keeps-last false P number session total bytes sessions none grows so = keeps-with P number session total bytes sessions grows so

-- a fragment of the session leaves the fact
abbrev pub Grows : (Option Session → Type 0) → ℕ → State → Request → Type 0
Grows P session drive (Fragment number first last total bytes) = number ≡ session → P (grown_at total bytes (session_at session drive.sessions))
Grows P session drive request = Unit {0}

pub keeps-request : (P : Option Session → Type 0) (session : ℕ) (drive : State) (request : Request) → P None → session ≤ length drive.openers → Grows P session drive request
    → P (session_at session drive.sessions) → P (session_at session (sessions_of drive request))
keeps-request P session drive (OpenSession at name behaviour condition defer) none low grows so =
    keeps-opened P (length drive.openers) session (place_of (held drive) at) behaviour condition defer drive.sessions low so
keeps-request P session drive (Fragment number first last total bytes) none low grows so =
    keeps-last (is_completed (session_at number drive.sessions) last total) P number session total bytes drive.sessions none grows so
keeps-request P session drive (CancelSession number) none low grows so = keeps-without P number session drive.sessions none so
keeps-request P session drive (Finish number) none low grows so = keeps-without P number session drive.sessions none so
keeps-request P session drive request none low grows so = so

-- the same of a step, where a fragment of the session leaves the fact if it is accepted
abbrev pub StepGrows : (Option Session → Type 0) → ℕ → State → Step → Type 0
StepGrows P session drive (step.Ask who request served heard) = is_none (refusal drive request) ≡ true → Grows P session drive request
StepGrows P session drive (step.Event event) = Unit {0}

pub keeps-step : (P : Option Session → Type 0) (session : ℕ) (drive : State) (next : Step) → P None → session ≤ length drive.openers → StepGrows P session drive next
    → P (session_at session drive.sessions) → P (session_at session (after_step drive next).sessions)
keeps-step P session drive (step.Ask who request served heard) none low grows so = by (is_accepted drive request served) refl
  where
    by : (b : Bool) → is_accepted drive request served ≡ b → P (session_at session (cond b (after_request drive who request) drive).sessions)
    by true is = keeps-request P session drive request none low (grows (and_parts served (is_none (refusal drive request)) is).1) so
    by false is = so
keeps-step P session drive (step.Event (Expire number)) none low grows so = so
keeps-step P session drive (step.Event Restore) none low grows so = so
keeps-step P session drive (step.Event (EndSession number)) none low grows so = keeps-without P number session drive.sessions none so
keeps-step P session drive (step.Event Plain) none low grows so = so

-- ---- who opened it
get-front : (xs ys : List Who) (i : ℕ) (x : Who) → slice_get xs i ≡ Some x → slice_get (xs ++ ys) i ≡ Some x
get-front [] ys i x is = absurd (cc is)
get-front (first ∷ xs) ys zero x is = is
get-front (first ∷ xs) ys (suc i) x is = get-front xs ys i x is

get-last : (xs : List Who) (x : Who) (i : ℕ) → i ≡ length xs → slice_get (xs ++ x ∷ []) i ≡ Some x
get-last [] x zero is = refl
get-last [] x (suc i) is = absurd (omega (arith, is))
get-last (first ∷ xs) x zero is = absurd (omega (arith, is))
get-last (first ∷ xs) x (suc i) is = get-last xs x i (omega (arith, is))

opener-if : (b : Bool) (found later : Option Who) → (found ≡ Some Own → later ≡ Some Own) → cond b None found ≡ Some Own → cond b None later ≡ Some Own
opener-if true found later then is = is
opener-if false found later then is = then is

pub opener-later : (session : ℕ) (openers more : List Who) → opener_of session openers ≡ Some Own → opener_of session (openers ++ more) ≡ Some Own
opener-later session openers more is =
    opener-if (nat_eq session 0) (slice_get openers (session - 1)) (slice_get (openers ++ more) (session - 1)) (get-front openers more (session - 1) Own) is

pub opener-new : (openers : List Who) → opener_of (length openers + 1) (openers ++ Own ∷ []) ≡ Some Own
opener-new openers =
    let apart : nat_eq (length openers + 1) 0 ≡ false = ne_eqb (length openers + 1) 0 (λ same. omega (arith, same)) in
    ap (λ b. cond b None (slice_get (openers ++ Own ∷ []) (length openers + 1 - 1))) apart ∙ get-last openers Own (length openers + 1 - 1) (omega arith)

pub openers-grow : (state : State) (who : Who) (request : Request) → (more : List Who) × (openers_of state who request ≡ state.openers ++ more)
openers-grow state who (OpenSession at name behaviour condition defer) = (who ∷ [], refl)
openers-grow state who request = ([], sym (append-nil state.openers))

-- a session that was opened
pub low-step : (session : ℕ) (drive : State) (next : Step) → session ≤ length drive.openers → session ≤ length (after_step drive next).openers
low-step session drive (step.Ask who request served heard) low = by (is_accepted drive request served)
  where
    by : (b : Bool) → session ≤ length (cond b (after_request drive who request) drive).openers
    by true =
        let more = openers-grow drive who request in
        let longer : length (openers_of drive who request) ≡ length drive.openers + length more.0 = ap (λ (openers : List Who). length openers) more.1 ∙ length-append drive.openers more.0 in
        omega (arith, low, longer)
    by false = low
low-step session drive (step.Event (Expire number)) low = low
low-step session drive (step.Event Restore) low = low
low-step session drive (step.Event (EndSession number)) low = low
low-step session drive (step.Event Plain) low = low

-- this client opened a session of this number
pub record IsOwn (session : ℕ) (openers : List Who) : Type 0 where
  pub low : session ≤ length openers
  pub own : opener_of session openers ≡ Some Own

own-request : (session : ℕ) (drive : State) (who : Who) (request : Request) → IsOwn session drive.openers → IsOwn session (openers_of drive who request)
own-request session drive who request is =
    let more = openers-grow drive who request in
    let longer : length (openers_of drive who request) ≡ length drive.openers + length more.0 = ap (λ (openers : List Who). length openers) more.1 ∙ length-append drive.openers more.0 in
    record {
      low = omega (arith, is.low, longer);
      own = subst (λ openers. opener_of session openers ≡ Some Own) (sym more.1) (opener-later session drive.openers more.0 is.own);
    }

pub own-step : (session : ℕ) (drive : State) (next : Step) → IsOwn session drive.openers → IsOwn session (after_step drive next).openers
own-step session drive (step.Ask who request served heard) is = by (is_accepted drive request served)
  where
    by : (b : Bool) → IsOwn session (cond b (after_request drive who request) drive).openers
    by true = own-request session drive who request is
    by false = is
own-step session drive (step.Event (Expire number)) is = is
own-step session drive (step.Event Restore) is = is
own-step session drive (step.Event (EndSession number)) is = is
own-step session drive (step.Event Plain) is = is
