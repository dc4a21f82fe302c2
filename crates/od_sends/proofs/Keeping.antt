-- Steps of others name no session that this client opened.
use Rattle.std.proofs.Common.{◌≡◌, ℕ, ◌+◌, Bool, true, false, not, cond, List, [], ◌∷◌, ◌++◌, length, Some, ap, sym, ◌∙◌, arith}
use Rattle.std.specs.List.{AllByRecursion}
use Rattle.std.proofs.lemmas.Bool.{and_parts}
use Rattle.std.proofs.lemmas.List.{length_push}
use Rattle.gd_item.specs.Sessions.{State}
use Rattle.gd_item.specs.Steps.{after_request, after_step, is_accepted, is_fair_after, is_fair_step, is_own, names_own_session, opener_of, state_of}
use Rattle.gd_item.specs.declared.request.Request.{Request}
use Rattle.gd_item.specs.declared.request.Request.TheVariants.{OpenSession, Fragment, SessionStatus, CancelSession, Finish}
use Rattle.gd_item.specs.declared.step.Step.{Step}
use Rattle.gd_item.specs.declared.step.Step.TheVariants as step
use Rattle.gd_item.specs.declared.step.Who.TheVariants.{Own, Other}
use Rattle.od_sends.proofs.Sessions.{IsOwn, opener-new, own-step}
use Rattle.od_sends.specs.Told.{Between, IsOfOthers, KeepsOff, Marked, Mine, NamesNot, opened_by, session_named, steps_in}

abbrev AreOwn : State → List ℕ → Type 0
AreOwn drive sessions = AllByRecursion (λ session. IsOwn session drive.openers) sessions

own-later : (drive : State) (next : Step) (sessions : List ℕ) → AreOwn drive sessions → AreOwn (after_step drive next) sessions
own-later drive next [] own = tt
own-later drive next (session ∷ sessions) own = (own-step session drive next own.0, own-later drive next sessions own.1)

-- a session that is opened is this client's
own-opened : (drive : State) (request : Request) (served heard : Bool) (sessions : List ℕ) → AreOwn (after_step drive (step.Ask Own request served heard)) sessions
    → AreOwn (after_step drive (step.Ask Own request served heard)) (opened_by drive request served ++ sessions)
own-opened drive (OpenSession at name behaviour condition defer) served heard sessions own = by (is_accepted drive (OpenSession at name behaviour condition defer) served) own
  where
    by : (b : Bool) → AreOwn (cond b (after_request drive Own (OpenSession at name behaviour condition defer)) drive) sessions
        → AreOwn (cond b (after_request drive Own (OpenSession at name behaviour condition defer)) drive) (cond b ((length drive.openers + 1) ∷ []) [] ++ sessions)
    by true own =
        let longer : length (drive.openers ++ Own ∷ []) ≡ length drive.openers + 1 = length_push drive.openers Own in
        (record { low = omega (arith, longer); own = opener-new drive.openers }, own)
    by false own = own
own-opened drive request served heard sessions own = own

-- a request of another client
named-own : (drive : State) (number session : ℕ) → opener_of session drive.openers ≡ Some Own → Some number ≡ Some session → not (is_own (opener_of number drive.openers)) ≡ true → ⊥
named-own drive number session own named fair =
    let same : number ≡ session = cc named in
    let is : is_own (opener_of number drive.openers) ≡ true = ap (λ n. is_own (opener_of n drive.openers)) same ∙ ap is_own own in
    let wrong : not true ≡ true = sym (ap not is) ∙ fair in
    cc wrong

names-none : (drive : State) (request : Request) (session : ℕ) → opener_of session drive.openers ≡ Some Own → not (names_own_session drive request) ≡ true → session_named request ≡ Some session → ⊥
names-none drive (Fragment number first last total bytes) session own fair named = named-own drive number session own named fair
names-none drive (SessionStatus number) session own fair named = named-own drive number session own named fair
names-none drive (CancelSession number) session own fair named = named-own drive number session own named fair
names-none drive (Finish number) session own fair named = named-own drive number session own named fair
names-none drive request session own fair named = cc named

others-off : (drive : State) (next : Step) (sessions : List ℕ) → IsOfOthers (Between next) → is_fair_step drive next ≡ true → AreOwn drive sessions → AllByRecursion (NamesNot next) sessions
others-off drive next [] others fair own = tt
others-off drive (step.Ask Own request served heard) (session ∷ sessions) others fair own = absurd others
others-off drive (step.Ask Other request served heard) (session ∷ sessions) others fair own =
    (names-none drive request session (own.0).own fair, others-off drive (step.Ask Other request served heard) sessions others fair own.1)
others-off drive (step.Event event) (session ∷ sessions) others fair own = (tt, others-off drive (step.Event event) sessions others fair own.1)

keeps-off : (drive : State) (sessions : List ℕ) (part : List Marked) → AllByRecursion IsOfOthers part → is_fair_after drive (steps_in part) ≡ true → AreOwn drive sessions → KeepsOff drive sessions part
keeps-off drive sessions [] others fair own = tt
keeps-off drive sessions (Mine request served heard ∷ part) others fair own =
    let parts = and_parts true (is_fair_after (after_step drive (step.Ask Own request served heard)) (steps_in part)) fair in
    keeps-off (after_step drive (step.Ask Own request served heard)) (opened_by drive request served ++ sessions) part others.1 parts.1
    (own-opened drive request served heard sessions (own-later drive (step.Ask Own request served heard) sessions own))
keeps-off drive sessions (Between next ∷ part) others fair own =
    let parts = and_parts (is_fair_step drive next) (is_fair_after (after_step drive next) (steps_in part)) fair in
    (others-off drive next sessions others.0 parts.0 own, keeps-off (after_step drive next) sessions part others.1 parts.1 (own-later drive next sessions own))

pub others-apart : (old : List Step) (part : List Marked) → AllByRecursion IsOfOthers part → is_fair_after (state_of old) (steps_in part) ≡ true → KeepsOff (state_of old) [] part
others-apart old part others fair = keeps-off (state_of old) [] part others fair tt
