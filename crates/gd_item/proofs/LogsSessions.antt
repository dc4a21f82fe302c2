-- A session that was completed is gone, and no later one has its number.
use Rattle.std.proofs.Common.{◌≡◌, ◌≢◌, ℕ, ◌+◌, ◌<◌, ◌≤◌, Bool, true, false, ◌&&◌, not, cond, nat_eq, nat_lt, List, [], ◌∷◌, ◌++◌, length, is_none, Option, Some, None, refl, sym, ap, ◌∙◌, subst, arith}
use Rattle.std.specs.List.{All}
use Rattle.std.proofs.lemmas.Bool.{eqb-true, ltb-true, ltb-false, ne_eqb, eq-eqb, and_parts}
use Rattle.std.proofs.lemmas.List.{length_push}
use Rattle.std.proofs.lemmas.List.Elements.{All-nil, All-cons, All-head, All-tail, All-weaker, All-push, All-filter, filter_passes}
use Rattle.gd_names.specs.declared.conflict.Conflict.{Conflict}
use Rattle.gd_item.specs.Completions.{commits, completes, completions_after, completions}
use Rattle.gd_item.specs.Refused.{or_else, by_session, by_store, last_refusal, finish_refusal}
use Rattle.gd_item.specs.Sessions.{State, Session, new_state, held, session_at, is_completed, without_session, with_fragment, fragment_fault, finish_fault}
use Rattle.gd_item.specs.Steps.{opened, sessions_of, openers_of, after_request, is_accepted, after_step}
use Rattle.gd_item.specs.Targets.{place_of}
use Rattle.gd_item.specs.declared.condition.Condition.{Condition}
use Rattle.gd_item.specs.declared.live.Place.{Place}
use Rattle.gd_item.specs.declared.request.Request.{Request}
use Rattle.gd_item.specs.declared.request.Request.TheVariants.{Get, Children, MakeFolder, Put, Patch, Delete, Content, Download, OpenSession, Fragment, SessionStatus, CancelSession, Finish, Delta}
use Rattle.gd_item.specs.declared.step.DriveEvent.TheVariants.{Expire, Restore, EndSession, Plain}
use Rattle.gd_item.specs.declared.step.Step.{Step}
use Rattle.gd_item.specs.declared.step.Step.TheVariants.{Ask, Event}
use Rattle.gd_item.specs.declared.step.Who.{Who}

-- a fact on the numbers of the sessions, and how many were opened, that holds after each step
abbrev pub AreSessions : (ℕ → Type 0) → List Session → Type 0
AreSessions P sessions = All (λ (session : Session). P session.number) sessions

kept-without : (P : ℕ → Type 0) (number : ℕ) (sessions : List Session) → AreSessions P sessions → AreSessions P (without_session number sessions)
kept-without P number sessions all = All-filter (λ (session : Session). not (nat_eq session.number number)) (λ session. P session.number) sessions all

kept-fragment : (P : ℕ → Type 0) (number total : ℕ) (bytes : List ℕ) (sessions : List Session) → AreSessions P sessions → AreSessions P (with_fragment number total bytes sessions)
kept-fragment P number total bytes [] all = all
kept-fragment P number total bytes (session ∷ sessions) all =
    All-cons (λ (s : Session). P s.number) (cond (nat_eq session.number number) (record session { total = Some total; filled = session.filled ++ bytes }) session)
    (with_fragment number total bytes sessions) (by (nat_eq session.number number)) (kept-fragment P number total bytes sessions (All-tail (λ (s : Session). P s.number) session sessions all))
  where
    by : (b : Bool) → P (cond b (record session { total = Some total; filled = session.filled ++ bytes }) session).number
    by true = All-head (λ (s : Session). P s.number) session sessions all
    by false = All-head (λ (s : Session). P s.number) session sessions all

kept-opened : (P : ℕ → Type 0) (number : ℕ) (place : Option Place) (behaviour : Conflict) (condition : Condition) (defer : Bool) (sessions : List Session) → P number → AreSessions P sessions
    → AreSessions P (opened number place behaviour condition defer sessions)
kept-opened P number None behaviour condition defer sessions new all = all
kept-opened P number (Some place) behaviour condition defer sessions new all =
    All-push (λ (s : Session). P s.number) sessions (record { number = number; place = place; behaviour = behaviour; condition = condition; defer = defer; total = None; filled = [] }) all new

kept-last : (P : ℕ → Type 0) (last_one : Bool) (number total : ℕ) (bytes : List ℕ) (sessions : List Session) → AreSessions P sessions
    → AreSessions P (cond last_one (without_session number sessions) (with_fragment number total bytes sessions))
kept-last P true number total bytes sessions all = kept-without P number sessions all
kept-last P false number total bytes sessions all = kept-fragment P number total bytes sessions all

-- what holds of the numbers of all sessions, and of the next one
kept-request : (P : ℕ → Type 0) (state : State) (request : Request) → P (length state.openers + 1) → AreSessions P state.sessions → AreSessions P (sessions_of state request)
kept-request P state (Get at) next all = all
kept-request P state (Children at earlier) next all = all
kept-request P state (MakeFolder at name behaviour) next all = all
kept-request P state (Put at bytes behaviour condition) next all = all
kept-request P state (Patch at name parent condition) next all = all
kept-request P state (Delete at condition) next all = all
kept-request P state (Content at) next all = all
kept-request P state (Download id version) next all = all
kept-request P state (OpenSession at name behaviour condition defer) next all =
    kept-opened P (length state.openers + 1) (place_of (held state) at) behaviour condition defer state.sessions next all
kept-request P state (Fragment session first last total bytes) next all = kept-last P (is_completed (session_at session state.sessions) last total) session total bytes state.sessions all
kept-request P state (SessionStatus session) next all = all
kept-request P state (CancelSession session) next all = kept-without P session state.sessions all
kept-request P state (Finish session) next all = kept-without P session state.sessions all
kept-request P state (Delta token) next all = all

-- how many sessions were opened only grows, and where one is opened by one
more-openers : (state : State) (who : Who) (request : Request) → length state.openers ≤ length (openers_of state who request)
more-openers state who (Get at) = omega arith
more-openers state who (Children at earlier) = omega arith
more-openers state who (MakeFolder at name behaviour) = omega arith
more-openers state who (Put at bytes behaviour condition) = omega arith
more-openers state who (Patch at name parent condition) = omega arith
more-openers state who (Delete at condition) = omega arith
more-openers state who (Content at) = omega arith
more-openers state who (Download id version) = omega arith
more-openers state who (OpenSession at name behaviour condition defer) = omega (arith, length_push state.openers who)
more-openers state who (Fragment session first last total bytes) = omega arith
more-openers state who (SessionStatus session) = omega arith
more-openers state who (CancelSession session) = omega arith
more-openers state who (Finish session) = omega arith
more-openers state who (Delta token) = omega arith

-- every session's number is at most how many were opened
abbrev pub IsNumbered : State → Type 0
IsNumbered state = AreSessions (λ n. n ≤ length state.openers) state.sessions

-- a session was opened and lives no more
pub record IsGone (number : ℕ) (state : State) : Type 0 where
  pub unlisted : AreSessions (λ n. n ≢ number) state.sessions
  pub opened : number ≤ length state.openers

numbered-request : (state : State) (who : Who) (request : Request) → IsNumbered state → IsNumbered (after_request state who request)
numbered-request state who (Get at) all = all
numbered-request state who (Children at earlier) all = all
numbered-request state who (MakeFolder at name behaviour) all = all
numbered-request state who (Put at bytes behaviour condition) all = all
numbered-request state who (Patch at name parent condition) all = all
numbered-request state who (Delete at condition) all = all
numbered-request state who (Content at) all = all
numbered-request state who (Download id version) all = all
numbered-request state who (OpenSession at name behaviour condition defer) all =
    let long : length (state.openers ++ who ∷ []) ≡ length state.openers + 1 = length_push state.openers who in
    kept-opened (λ n. n ≤ length (state.openers ++ who ∷ [])) (length state.openers + 1) (place_of (held state) at) behaviour condition defer state.sessions (omega (arith, long))
    (All-weaker (λ (s : Session). s.number ≤ length state.openers) (λ s. s.number ≤ length (state.openers ++ who ∷ []))
    (λ s h. let low : s.number ≤ length state.openers = h in omega (arith, low, long)) state.sessions all)
numbered-request state who (Fragment session first last total bytes) all =
    kept-last (λ n. n ≤ length state.openers) (is_completed (session_at session state.sessions) last total) session total bytes state.sessions all
numbered-request state who (SessionStatus session) all = all
numbered-request state who (CancelSession session) all = kept-without (λ n. n ≤ length state.openers) session state.sessions all
numbered-request state who (Finish session) all = kept-without (λ n. n ≤ length state.openers) session state.sessions all
numbered-request state who (Delta token) all = all

pub numbered-step : (state : State) (step : Step) → IsNumbered state → IsNumbered (after_step state step)
numbered-step state (Ask who request served heard) all = by (is_accepted state request served)
  where
    by : (b : Bool) → IsNumbered (cond b (after_request state who request) state)
    by true = numbered-request state who request all
    by false = all
numbered-step state (Event (Expire number)) all = all
numbered-step state (Event Restore) all = all
numbered-step state (Event (EndSession session)) all = kept-without (λ n. n ≤ length state.openers) session state.sessions all
numbered-step state (Event Plain) all = all

gone-request : (number : ℕ) (state : State) (who : Who) (request : Request) → IsGone number state → IsGone number (after_request state who request)
gone-request number state who request gone = record {
  unlisted = kept-request (λ n. n ≢ number) state request (λ e. let low : number ≤ length state.openers = gone.opened in omega (arith, e, low)) gone.unlisted;
  opened = let low : number ≤ length state.openers = gone.opened in omega (arith, low, more-openers state who request);
}

gone-step : (number : ℕ) (state : State) (step : Step) → IsGone number state → IsGone number (after_step state step)
gone-step number state (Ask who request served heard) gone = by (is_accepted state request served)
  where
    by : (b : Bool) → IsGone number (cond b (after_request state who request) state)
    by true = gone-request number state who request gone
    by false = gone
gone-step number state (Event (Expire floor)) gone = record { unlisted = gone.unlisted; opened = gone.opened }
gone-step number state (Event Restore) gone = record { unlisted = gone.unlisted; opened = gone.opened }
gone-step number state (Event (EndSession session)) gone =
    record { unlisted = kept-without (λ n. n ≢ number) session state.sessions gone.unlisted; opened = gone.opened }
gone-step number state (Event Plain) gone = record { unlisted = gone.unlisted; opened = gone.opened }

none-at : (number : ℕ) (sessions : List Session) → AreSessions (λ n. n ≢ number) sessions → session_at number sessions ≡ None
none-at number [] all = refl
none-at number (session ∷ sessions) all =
    ap (λ b. cond b (Some session) (session_at number sessions)) (ne_eqb session.number number (All-head (λ (s : Session). s.number ≢ number) session sessions all))
    ∙ none-at number sessions (All-tail (λ (s : Session). s.number ≢ number) session sessions all)

and-false : (b : Bool) → (b && false) ≡ false
and-false true = refl
and-false false = refl

-- a fragment of no session is not accepted, and none is finished
not-accepted : (state : State) (number first last total : ℕ) (bytes : List ℕ) (served : Bool) → session_at number state.sessions ≡ None
    → is_accepted state (Fragment number first last total bytes) served ≡ false
not-accepted state number first last total bytes served none =
    ap (λ o. served && is_none (or_else (by_session (fragment_fault (held state).kept state.sessions o first last total bytes)) (by_store (last_refusal state o last total bytes)))) none ∙ and-false served

not-finished : (state : State) (number : ℕ) (served : Bool) → session_at number state.sessions ≡ None → is_accepted state (Finish number) served ≡ false
not-finished state number served none =
    ap (λ o. served && is_none (or_else (by_session (finish_fault o)) (by_store (finish_refusal state o)))) none ∙ and-false served

gone-fragment : (session : ℕ) (state : State) (number first last total : ℕ) (bytes : List ℕ) (served : Bool) → IsGone session state
    → (commits state session (Fragment number first last total bytes) && is_accepted state (Fragment number first last total bytes) served) ≡ false
gone-fragment session state number first last total bytes served gone = by (nat_eq number session) refl (is_completed (session_at number state.sessions) last total)
  where
    by : (b : Bool) → nat_eq number session ≡ b → (c : Bool) → ((b && c) && is_accepted state (Fragment number first last total bytes) served) ≡ false
    by true is true =
        let same : number ≡ session = eqb-true number session is in
        not-accepted state number first last total bytes served (ap (λ n. session_at n state.sessions) same ∙ none-at session state.sessions gone.unlisted)
    by true is false = refl
    by false is c = refl

gone-finish : (session : ℕ) (state : State) (number : ℕ) (served : Bool) → IsGone session state → (nat_eq number session && is_accepted state (Finish number) served) ≡ false
gone-finish session state number served gone = by (nat_eq number session) refl
  where
    by : (b : Bool) → nat_eq number session ≡ b → (b && is_accepted state (Finish number) served) ≡ false
    by true is =
        let same : number ≡ session = eqb-true number session is in
        not-finished state number served (ap (λ n. session_at n state.sessions) same ∙ none-at session state.sessions gone.unlisted)
    by false is = refl

gone-completes : (session : ℕ) (state : State) (step : Step) → IsGone session state → completes state session step ≡ false
gone-completes session state (Ask who (Get at) served heard) gone = refl
gone-completes session state (Ask who (Children at earlier) served heard) gone = refl
gone-completes session state (Ask who (MakeFolder at name behaviour) served heard) gone = refl
gone-completes session state (Ask who (Put at bytes behaviour condition) served heard) gone = refl
gone-completes session state (Ask who (Patch at name parent condition) served heard) gone = refl
gone-completes session state (Ask who (Delete at condition) served heard) gone = refl
gone-completes session state (Ask who (Content at) served heard) gone = refl
gone-completes session state (Ask who (Download id version) served heard) gone = refl
gone-completes session state (Ask who (OpenSession at name behaviour condition defer) served heard) gone = refl
gone-completes session state (Ask who (Fragment number first last total bytes) served heard) gone = gone-fragment session state number first last total bytes served gone
gone-completes session state (Ask who (SessionStatus number) served heard) gone = refl
gone-completes session state (Ask who (CancelSession number) served heard) gone = refl
gone-completes session state (Ask who (Finish number) served heard) gone = gone-finish session state number served gone
gone-completes session state (Ask who (Delta token) served heard) gone = refl
gone-completes session state (Event event) gone = refl

gone-never : (session : ℕ) (state : State) (steps : List Step) → IsGone session state → completions_after state session steps ≡ 0
gone-never session state [] gone = refl
gone-never session state (step ∷ steps) gone =
    let weight : Bool → ℕ = λ b. cond b 1 0 in
    let now : weight (completes state session step) ≡ weight false = ap weight (gone-completes session state step gone) in
    omega (arith, now, gone-never session (after_step state step) steps (gone-step session state step gone))

unlisted-without : (number : ℕ) (sessions : List Session) → AreSessions (λ n. n ≢ number) (without_session number sessions)
unlisted-without number sessions =
    All-weaker (λ (s : Session). not (nat_eq s.number number) ≡ true) (λ s. s.number ≢ number)
    (λ s h e. let is : nat_eq s.number number ≡ true = eq-eqb s.number number e in let wrong : not true ≡ true = sym (ap not is) ∙ h in absurd cc)
    (without_session number sessions) (filter_passes (λ (s : Session). not (nat_eq s.number number)) sessions)

-- a session of which a request is accepted was opened
low-unless : (state : State) (number : ℕ) (accepted : Bool) → IsNumbered state → (session_at number state.sessions ≡ None → accepted ≡ false) → accepted ≡ true → number ≤ length state.openers
low-unless state number accepted numbered refuses is_accepted = by (nat_lt (length state.openers) number) refl
  where
    by : (b : Bool) → nat_lt (length state.openers) number ≡ b → number ≤ length state.openers
    by true is =
        let high : length state.openers < number = ltb-true (length state.openers) number is in
        let unlisted : AreSessions (λ n. n ≢ number) state.sessions =
        All-weaker (λ (s : Session). s.number ≤ length state.openers) (λ s. s.number ≢ number)
        (λ s h e. let low : s.number ≤ length state.openers = h in omega (arith, low, high, e)) state.sessions numbered in
        let none : accepted ≡ false = refuses (none-at number state.sessions unlisted) in
        let wrong : true ≡ false = sym is_accepted ∙ none in
        absurd cc
    by false is = ltb-false (length state.openers) number is

pub low-if-accepted : (state : State) (number first last total : ℕ) (bytes : List ℕ) (served : Bool) → IsNumbered state
    → is_accepted state (Fragment number first last total bytes) served ≡ true → number ≤ length state.openers
low-if-accepted state number first last total bytes served numbered accepted =
    low-unless state number (is_accepted state (Fragment number first last total bytes) served) numbered (not-accepted state number first last total bytes served) accepted

completed-fragment : (session : ℕ) (state : State) (who : Who) (number first last total : ℕ) (bytes : List ℕ) (served : Bool) → IsNumbered state
    → (commits state session (Fragment number first last total bytes) && is_accepted state (Fragment number first last total bytes) served) ≡ true
    → IsGone session (cond (is_accepted state (Fragment number first last total bytes) served) (after_request state who (Fragment number first last total bytes)) state)
completed-fragment session state who number first last total bytes served numbered completing =
    let parts = and_parts (nat_eq number session && is_completed (session_at number state.sessions) last total) (is_accepted state (Fragment number first last total bytes) served) completing in
    let which = and_parts (nat_eq number session) (is_completed (session_at number state.sessions) last total) parts.0 in
    let same : number ≡ session = eqb-true number session which.0 in
    let low : number ≤ length state.openers = low-if-accepted state number first last total bytes served numbered parts.1 in
    let G : Bool → Type 0 = λ b. IsGone session (cond b (after_request state who (Fragment number first last total bytes)) state) in
    let S : Bool → Type 0 = λ b. AreSessions (λ n. n ≢ session) (cond b (without_session number state.sessions) (with_fragment number total bytes state.sessions)) in
    let W : ℕ → Type 0 = λ n. AreSessions (λ m. m ≢ session) (without_session n state.sessions) in
    subst G (sym parts.1)
    (record {
      unlisted = subst S (sym which.1) (subst W (sym same) (unlisted-without session state.sessions));
      opened = omega (arith, low, same);
    })

completed-finish : (session : ℕ) (state : State) (who : Who) (number : ℕ) (served : Bool) → IsNumbered state → (nat_eq number session && is_accepted state (Finish number) served) ≡ true
    → IsGone session (cond (is_accepted state (Finish number) served) (after_request state who (Finish number)) state)
completed-finish session state who number served numbered completing =
    let parts = and_parts (nat_eq number session) (is_accepted state (Finish number) served) completing in
    let same : number ≡ session = eqb-true number session parts.0 in
    let low : number ≤ length state.openers = low-unless state number (is_accepted state (Finish number) served) numbered (not-finished state number served) parts.1 in
    let G : Bool → Type 0 = λ b. IsGone session (cond b (after_request state who (Finish number)) state) in
    let W : ℕ → Type 0 = λ n. AreSessions (λ m. m ≢ session) (without_session n state.sessions) in
    subst G (sym parts.1) (record { unlisted = subst W (sym same) (unlisted-without session state.sessions); opened = omega (arith, low, same) })

completed-gone : (session : ℕ) (state : State) (step : Step) → IsNumbered state → completes state session step ≡ true → IsGone session (after_step state step)
completed-gone session state (Ask who (Get at) served heard) numbered is = absurd cc
completed-gone session state (Ask who (Children at earlier) served heard) numbered is = absurd cc
completed-gone session state (Ask who (MakeFolder at name behaviour) served heard) numbered is = absurd cc
completed-gone session state (Ask who (Put at bytes behaviour condition) served heard) numbered is = absurd cc
completed-gone session state (Ask who (Patch at name parent condition) served heard) numbered is = absurd cc
completed-gone session state (Ask who (Delete at condition) served heard) numbered is = absurd cc
completed-gone session state (Ask who (Content at) served heard) numbered is = absurd cc
completed-gone session state (Ask who (Download id version) served heard) numbered is = absurd cc
completed-gone session state (Ask who (OpenSession at name behaviour condition defer) served heard) numbered is = absurd cc
completed-gone session state (Ask who (Fragment number first last total bytes) served heard) numbered is =
    completed-fragment session state who number first last total bytes served numbered is
completed-gone session state (Ask who (SessionStatus number) served heard) numbered is = absurd cc
completed-gone session state (Ask who (CancelSession number) served heard) numbered is = absurd cc
completed-gone session state (Ask who (Finish number) served heard) numbered is = completed-finish session state who number served numbered is
completed-gone session state (Ask who (Delta token) served heard) numbered is = absurd cc
completed-gone session state (Event event) numbered is = absurd cc

at-most-once : (session : ℕ) (state : State) (steps : List Step) → IsNumbered state → completions_after state session steps ≤ 1
at-most-once session state [] numbered = omega arith
at-most-once session state (step ∷ steps) numbered =
    by (completes state session step) refl (at-most-once session (after_step state step) steps (numbered-step state step numbered))
  where
    by : (b : Bool) → completes state session step ≡ b → completions_after (after_step state step) session steps ≤ 1 → cond b 1 0 + completions_after (after_step state step) session steps ≤ 1
    by true is rest = omega (arith, gone-never session (after_step state step) steps (completed-gone session state step numbered is))
    by false is rest = omega (arith, rest)

pub completions-log : (session : ℕ) (log : List Step) → completions session log ≤ 1
completions-log session log = at-most-once session new_state log (All-nil (λ (s : Session). s.number ≤ 0))
