-- The bytes of a session that lives are those of its accepted fragments, and the kept bytes are those of all puts.
use Rattle.std.proofs.Common.{◌≡◌, ℕ, ◌+◌, ◌<◌, ◌≤◌, Bool, true, false, not, cond, nat_eq, List, [], ◌∷◌, ◌++◌, length, Option, Some, None, refl, sym, ap, ◌∙◌, arith}
use Rattle.std.specs.List.{All}
use Rattle.std.proofs.lemmas.Bool.{eqb-true, ne_eqb, eq-eqb}
use Rattle.std.proofs.lemmas.List.{append-nil, append_assoc, length_push}
use Rattle.std.proofs.lemmas.List.Elements.{All-nil, All-cons, All-head, All-tail, All-weaker, All-push, All-filter}
use Rattle.std.proofs.lemmas.List.Sums.{sum_by-append}
use Rattle.gd_names.specs.declared.conflict.Conflict.{Conflict}
use Rattle.gd_item.specs.Completions.{bytes_for, received_at, received_after, received, bytes_in}
use Rattle.gd_item.specs.Inventory.{Effect, MadeFolder, PutNew, PutOver, Moved, Removed, Inventory, new_drive, after, after_all, inventory}
use Rattle.gd_item.specs.Sessions.{State, Session, new_state, held, session_at, without_session, with_fragment, is_completed}
use Rattle.gd_item.specs.Steps.{opened, sessions_of, openers_of, after_request, is_accepted, after_step, after_steps, state_of, held_by, accepted_by}
use Rattle.gd_item.specs.Targets.{place_of}
use Rattle.gd_item.specs.Versions.{put_by, accepted_after, accepted}
use Rattle.gd_item.specs.declared.condition.Condition.{Condition}
use Rattle.gd_item.specs.declared.live.Place.{Place}
use Rattle.gd_item.specs.declared.live.Version.{Version}
use Rattle.gd_item.specs.declared.request.Request.{Request}
use Rattle.gd_item.specs.declared.request.Request.TheVariants.{Get, Children, MakeFolder, Put, Patch, Delete, Content, Download, OpenSession, Fragment, SessionStatus, CancelSession, Finish, Delta}
use Rattle.gd_item.specs.declared.step.DriveEvent.TheVariants.{Expire, Restore, EndSession, Plain}
use Rattle.gd_item.specs.declared.step.Step.{Step}
use Rattle.gd_item.specs.declared.step.Step.TheVariants.{Ask, Event}
use Rattle.gd_item.specs.declared.step.Who.{Who}
use Rattle.gd_item.proofs.LogsSessions.{IsNumbered, numbered-step, low-if-accepted}

-- the kept bytes after one effect, and after all
kept-after : (held : Inventory) (effect : Effect) → (after held effect).kept ≡ held.kept + bytes_in (put_by held effect)
kept-after held (MadeFolder parent name) = omega arith
kept-after held (PutNew parent name bytes) = let e : held.kept + length bytes ≡ held.kept + (0 + length bytes) = omega arith in e
kept-after held (PutOver number bytes) = let e : held.kept + length bytes ≡ held.kept + (0 + length bytes) = omega arith in e
kept-after held (Moved number parent name) = omega arith
kept-after held (Removed number) = omega arith

kept-after_all : (held : Inventory) (effects : List Effect) → (after_all held effects).kept ≡ held.kept + bytes_in (accepted_after held effects)
kept-after_all held [] = omega arith
kept-after_all held (effect ∷ effects) =
    omega (arith, kept-after_all (after held effect) effects, kept-after held effect, sum_by-append (λ (version : Version). length version.bytes) (put_by held effect) (accepted_after (after held effect) effects))

kept-inventory : (effects : List Effect) → (inventory effects).kept ≡ bytes_in (accepted effects)
kept-inventory effects = omega (arith, kept-after_all new_drive effects)

pub kept-log : (log : List Step) → (held_by log).kept ≡ bytes_in (accepted_by log)
kept-log log = kept-inventory (state_of log).effects

-- each session has the bytes that its number had sent, and the numbers of later sessions had sent none
abbrev HasSent : (ℕ → List ℕ) → Session → Type 0
HasSent sent session = session.filled ≡ sent session.number

record IsSent (sent : ℕ → List ℕ) (state : State) : Type 0 where
  filled : All (HasSent sent) state.sessions
  fresh : (number : ℕ) → length state.openers < number → sent number ≡ []
  numbered : IsNumbered state

-- what numbers had sent after one more step
abbrev more_sent : (ℕ → List ℕ) → State → Step → ℕ → List ℕ
more_sent sent state step number = sent number ++ received_at state number step

-- a step that brings nothing
all-same : (sent more : ℕ → List ℕ) (sessions : List Session) → ((number : ℕ) → more number ≡ []) → All (HasSent sent) sessions → All (HasSent (λ n. sent n ++ more n)) sessions
all-same sent more sessions none all =
    All-weaker (HasSent sent) (HasSent (λ n. sent n ++ more n))
    (λ s h. h ∙ sym (append-nil (sent s.number)) ∙ ap (λ l. sent s.number ++ l) (sym (none s.number))) sessions all

-- one fragment more
grown-one : (sent : ℕ → List ℕ) (number total : ℕ) (bytes : List ℕ) (session : Session) (b : Bool) → nat_eq session.number number ≡ b → HasSent sent session
    → HasSent (λ n. sent n ++ cond (nat_eq number n) bytes []) (cond b (record session { total = Some total; filled = session.filled ++ bytes }) session)
grown-one sent number total bytes session true is h =
    let same : session.number ≡ number = eqb-true session.number number is in
    ap (λ l. l ++ bytes) h ∙ ap (λ c. sent session.number ++ cond c bytes []) (sym (eq-eqb number session.number (sym same)))
grown-one sent number total bytes session false is h =
    let other : nat_eq number session.number ≡ false = ne_eqb number session.number (λ e. let yes = eq-eqb session.number number (sym e) in let wrong : true ≡ false = sym yes ∙ is in absurd cc) in
    h ∙ sym (append-nil (sent session.number)) ∙ ap (λ c. sent session.number ++ cond c bytes []) (sym other)

grown-all : (sent : ℕ → List ℕ) (number total : ℕ) (bytes : List ℕ) (sessions : List Session) → All (HasSent sent) sessions
    → All (HasSent (λ n. sent n ++ cond (nat_eq number n) bytes [])) (with_fragment number total bytes sessions)
grown-all sent number total bytes [] all = All-nil (HasSent (λ n. sent n ++ cond (nat_eq number n) bytes []))
grown-all sent number total bytes (session ∷ sessions) all =
    All-cons (HasSent (λ n. sent n ++ cond (nat_eq number n) bytes [])) (cond (nat_eq session.number number) (record session { total = Some total; filled = session.filled ++ bytes }) session)
    (with_fragment number total bytes sessions) (grown-one sent number total bytes session (nat_eq session.number number) refl (All-head (HasSent sent) session sessions all))
    (grown-all sent number total bytes sessions (All-tail (HasSent sent) session sessions all))

-- the sessions that are left where one is gone have other numbers
left-all : (sent : ℕ → List ℕ) (number : ℕ) (bytes : List ℕ) (sessions : List Session) → All (HasSent sent) sessions
    → All (HasSent (λ n. sent n ++ cond (nat_eq number n) bytes [])) (without_session number sessions)
left-all sent number bytes [] all = All-nil (HasSent (λ n. sent n ++ cond (nat_eq number n) bytes []))
left-all sent number bytes (session ∷ sessions) all =
    by (nat_eq session.number number) refl (left-all sent number bytes sessions (All-tail (HasSent sent) session sessions all))
  where
    by : (b : Bool) → nat_eq session.number number ≡ b → All (HasSent (λ n. sent n ++ cond (nat_eq number n) bytes [])) (without_session number sessions)
        → All (HasSent (λ n. sent n ++ cond (nat_eq number n) bytes [])) (cond (not b) (session ∷ without_session number sessions) (without_session number sessions))
    by true is rest = rest
    by false is rest =
        All-cons (HasSent (λ n. sent n ++ cond (nat_eq number n) bytes [])) session (without_session number sessions)
        (grown-one sent number 0 bytes session false is (All-head (HasSent sent) session sessions all)) rest

after-last : (sent : ℕ → List ℕ) (last_one : Bool) (number total : ℕ) (bytes : List ℕ) (sessions : List Session) → All (HasSent sent) sessions
    → All (HasSent (λ n. sent n ++ cond (nat_eq number n) bytes [])) (cond last_one (without_session number sessions) (with_fragment number total bytes sessions))
after-last sent true number total bytes sessions all = left-all sent number bytes sessions all
after-last sent false number total bytes sessions all = grown-all sent number total bytes sessions all

-- a session that is opened has sent nothing
after-opening : (sent : ℕ → List ℕ) (number : ℕ) (place : Option Place) (behaviour : Conflict) (condition : Condition) (defer : Bool) (sessions : List Session) → sent number ≡ [] → All (HasSent sent) sessions
    → All (HasSent (λ n. sent n ++ [])) (opened number place behaviour condition defer sessions)
after-opening sent number None behaviour condition defer sessions new all = all-same sent (λ n. []) sessions (λ n. refl) all
after-opening sent number (Some place) behaviour condition defer sessions new all =
    All-push (HasSent (λ n. sent n ++ [])) sessions (record { number = number; place = place; behaviour = behaviour; condition = condition; defer = defer; total = None; filled = [] })
    (all-same sent (λ n. []) sessions (λ n. refl) all) (sym new ∙ sym (append-nil (sent number)))

filled-request : (sent : ℕ → List ℕ) (state : State) (request : Request) → sent (length state.openers + 1) ≡ [] → All (HasSent sent) state.sessions
    → All (HasSent (λ n. sent n ++ bytes_for n request)) (sessions_of state request)
filled-request sent state (Get at) new all = all-same sent (λ n. []) state.sessions (λ n. refl) all
filled-request sent state (Children at earlier) new all = all-same sent (λ n. []) state.sessions (λ n. refl) all
filled-request sent state (MakeFolder at name behaviour) new all = all-same sent (λ n. []) state.sessions (λ n. refl) all
filled-request sent state (Put at bytes behaviour condition) new all = all-same sent (λ n. []) state.sessions (λ n. refl) all
filled-request sent state (Patch at name parent condition) new all = all-same sent (λ n. []) state.sessions (λ n. refl) all
filled-request sent state (Delete at condition) new all = all-same sent (λ n. []) state.sessions (λ n. refl) all
filled-request sent state (Content at) new all = all-same sent (λ n. []) state.sessions (λ n. refl) all
filled-request sent state (Download id version) new all = all-same sent (λ n. []) state.sessions (λ n. refl) all
filled-request sent state (OpenSession at name behaviour condition defer) new all =
    after-opening sent (length state.openers + 1) (place_of (held state) at) behaviour condition defer state.sessions new all
filled-request sent state (Fragment session first last total bytes) new all = after-last sent (is_completed (session_at session state.sessions) last total) session total bytes state.sessions all
filled-request sent state (SessionStatus session) new all = all-same sent (λ n. []) state.sessions (λ n. refl) all
filled-request sent state (CancelSession session) new all =
    all-same sent (λ n. []) (without_session session state.sessions) (λ n. refl) (All-filter (λ (s : Session). not (nat_eq s.number session)) (HasSent sent) state.sessions all)
filled-request sent state (Finish session) new all =
    all-same sent (λ n. []) (without_session session state.sessions) (λ n. refl) (All-filter (λ (s : Session). not (nat_eq s.number session)) (HasSent sent) state.sessions all)
filled-request sent state (Delta token) new all = all-same sent (λ n. []) state.sessions (λ n. refl) all

-- an accepted request brings nothing to a session that is not opened yet
fresh-request : (state : State) (who : Who) (request : Request) (served : Bool) (number : ℕ) → IsNumbered state → is_accepted state request served ≡ true
    → length (openers_of state who request) < number → (length state.openers < number) × (bytes_for number request ≡ [])
fresh-request state who (Get at) served number numbered accepted above = (above, refl)
fresh-request state who (Children at earlier) served number numbered accepted above = (above, refl)
fresh-request state who (MakeFolder at name behaviour) served number numbered accepted above = (above, refl)
fresh-request state who (Put at bytes behaviour condition) served number numbered accepted above = (above, refl)
fresh-request state who (Patch at name parent condition) served number numbered accepted above = (above, refl)
fresh-request state who (Delete at condition) served number numbered accepted above = (above, refl)
fresh-request state who (Content at) served number numbered accepted above = (above, refl)
fresh-request state who (Download id version) served number numbered accepted above = (above, refl)
fresh-request state who (OpenSession at name behaviour condition defer) served number numbered accepted above = (omega (arith, above, length_push state.openers who), refl)
fresh-request state who (Fragment session first last total bytes) served number numbered accepted above =
    let low : session ≤ length state.openers = low-if-accepted state session first last total bytes served numbered accepted in
    (above, ap (λ b. cond b bytes []) (ne_eqb session number (λ e. omega (arith, e, low, above))))
fresh-request state who (SessionStatus session) served number numbered accepted above = (above, refl)
fresh-request state who (CancelSession session) served number numbered accepted above = (above, refl)
fresh-request state who (Finish session) served number numbered accepted above = (above, refl)
fresh-request state who (Delta token) served number numbered accepted above = (above, refl)

nothing-more : (sent : ℕ → List ℕ) (more : List ℕ) (number : ℕ) → sent number ≡ [] → more ≡ [] → sent number ++ more ≡ []
nothing-more sent more number none nothing = ap (λ l. l ++ more) none ∙ nothing

sent-ask : (sent : ℕ → List ℕ) (state : State) (who : Who) (request : Request) (served heard b : Bool) → is_accepted state request served ≡ b → IsSent sent state
    → IsNumbered (cond b (after_request state who request) state)
    → IsSent (λ n. sent n ++ cond b (bytes_for n request) []) (cond b (after_request state who request) state)
sent-ask sent state who request served heard true is so numbered = record {
  filled = filled-request sent state request (so.fresh (length state.openers + 1) (omega arith)) so.filled;
  fresh = λ number above. let f = fresh-request state who request served number so.numbered is above in nothing-more sent (bytes_for number request) number (so.fresh number f.0) f.1;
  numbered = numbered;
}
sent-ask sent state who request served heard false is so numbered = record {
  filled = all-same sent (λ n. []) state.sessions (λ n. refl) so.filled;
  fresh = λ number above. nothing-more sent [] number (so.fresh number above) refl;
  numbered = numbered;
}

sent-step : (sent : ℕ → List ℕ) (state : State) (step : Step) → IsSent sent state → IsSent (more_sent sent state step) (after_step state step)
sent-step sent state (Ask who request served heard) so =
    sent-ask sent state who request served heard (is_accepted state request served) refl so (numbered-step state (Ask who request served heard) so.numbered)
sent-step sent state (Event (Expire number)) so = record {
  filled = all-same sent (λ n. []) state.sessions (λ n. refl) so.filled;
  fresh = λ number above. nothing-more sent [] number (so.fresh number above) refl;
  numbered = so.numbered;
}
sent-step sent state (Event Restore) so = record {
  filled = all-same sent (λ n. []) state.sessions (λ n. refl) so.filled;
  fresh = λ number above. nothing-more sent [] number (so.fresh number above) refl;
  numbered = so.numbered;
}
sent-step sent state (Event (EndSession session)) so = record {
  filled = all-same sent (λ n. []) (without_session session state.sessions) (λ n. refl) (All-filter (λ (s : Session). not (nat_eq s.number session)) (HasSent sent) state.sessions so.filled);
  fresh = λ number above. nothing-more sent [] number (so.fresh number above) refl;
  numbered = numbered-step state (Event (EndSession session)) so.numbered;
}
sent-step sent state (Event Plain) so = record {
  filled = all-same sent (λ n. []) state.sessions (λ n. refl) so.filled;
  fresh = λ number above. nothing-more sent [] number (so.fresh number above) refl;
  numbered = so.numbered;
}

found-sent : (sent : ℕ → List ℕ) (number : ℕ) (sessions : List Session) (session : Session) → All (HasSent sent) sessions → session_at number sessions ≡ Some session → session.filled ≡ sent number
found-sent sent number [] session all found = absurd cc
found-sent sent number (first ∷ sessions) session all found =
    by (nat_eq first.number number) refl (found-sent sent number sessions session (All-tail (HasSent sent) first sessions all)) found
  where
    by : (b : Bool) → nat_eq first.number number ≡ b → (session_at number sessions ≡ Some session → session.filled ≡ sent number) → cond b (Some first) (session_at number sessions) ≡ Some session
        → session.filled ≡ sent number
    by true is rest here =
        let same : first ≡ session = cc in
        ap (λ (s : Session). s.filled) (sym same) ∙ All-head (HasSent sent) first sessions all ∙ ap sent (eqb-true first.number number is)
    by false is rest here = rest here

sent-steps : (sent : ℕ → List ℕ) (state : State) (steps : List Step) (number : ℕ) (session : Session) → IsSent sent state → session_at number (after_steps state steps).sessions ≡ Some session
    → session.filled ≡ sent number ++ received_after state number steps
sent-steps sent state [] number session so found = found-sent sent number state.sessions session so.filled found ∙ sym (append-nil (sent number))
sent-steps sent state (step ∷ steps) number session so found =
    sent-steps (more_sent sent state step) (after_step state step) steps number session (sent-step sent state step so) found
    ∙ append_assoc (sent number) (received_at state number step) (received_after (after_step state step) number steps)

pub received-log : (log : List Step) (number : ℕ) (session : Session) → session_at number (state_of log).sessions ≡ Some session → session.filled ≡ received number log
received-log log number session found =
    sent-steps (λ n. []) new_state log number session
    (record { filled = All-nil (HasSent (λ n. [])); fresh = λ n above. refl; numbered = All-nil (λ (s : Session). s.number ≤ 0) }) found
