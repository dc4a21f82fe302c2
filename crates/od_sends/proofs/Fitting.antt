-- Over a drive whose log is told each answer fits its place.
use Rattle.std.proofs.Common.{◌≡◌, ℕ, ◌+◌, ◌-◌, ◌<◌, ◌≤◌, Bool, true, false, not, cond, nat_eq, nat_lt, is_none, List, [], ◌∷◌, ◌++◌, length, take, drop, Option, Some, None, refl, ap, sym, subst, ◌∙◌, inl, ⊎_elim, lit<, arith}
use Rattle.std.proofs.lemmas.Bool.{and_right, cond_both, eq-eqb, eqb-true, leb-false, lt-ltb, ltb-true}
use Rattle.std.proofs.lemmas.List.{length-append}
use Rattle.gd_item.specs.Answers.{about, answer_served, answer_unless, effect_reply, more_reply, refused, reply_to, shown, status_reply}
use Rattle.gd_item.specs.Refused.{Refusal, by_session, by_store, last_refusal, or_else, refusal}
use Rattle.gd_item.specs.Sessions.{Session, State, fragment_fault, held, is_completed, is_last, session_at, with_fragment, without_session}
use Rattle.gd_item.specs.Steps.{after_request, after_step, effects_of, sessions_of, state_of}
use Rattle.gd_item.specs.declared.fault.ErrorCode.{ErrorCode}
use Rattle.gd_item.specs.declared.fault.ErrorCode.TheVariants.{GeneralException, ItemNotFound}
use Rattle.gd_item.specs.declared.reply.Reply.{Reply}
use Rattle.gd_item.specs.declared.reply.Reply.TheVariants as reply
use Rattle.gd_item.specs.declared.request.Request.{Request}
use Rattle.gd_item.specs.declared.request.Request.TheVariants.{Fragment, SessionStatus}
use Rattle.gd_item.specs.declared.step.Step.{Step}
use Rattle.gd_item.specs.declared.step.Step.TheVariants as step
use Rattle.gd_item.specs.declared.step.Who.TheVariants.{Own}
use Rattle.gd_laws.proofs.Every.{every-drive, kept-step}
use Rattle.gd_laws.specs.EveryDrive.{EveryDrive}
use Rattle.od_job.proofs.Standing.{IfNext, step-stands}
use Rattle.od_job.specs.Asking.{end_of, fragment_of, is_send_at, is_short, send_request}
use Rattle.od_job.specs.Runs.{Exchange, Leads, Ran}
use Rattle.od_job.specs.Turns.{IsGoing, after_failure, after_turn, failure_turn, finish_turn, fragment_turn, is_last_failure, open_turn, outcome_of, put_turn, send_turn, sent_to, status_turn, step_of, total_turn}
use Rattle.od_job.specs.declared.job.Answered.{Answered}
use Rattle.od_job.specs.declared.job.Answered.TheVariants as heard
use Rattle.od_job.specs.declared.job.Job.{Job}
use Rattle.od_job.specs.declared.job.Job.TheVariants.{Send}
use Rattle.od_job.specs.declared.job.Outcome.{Outcome}
use Rattle.od_job.specs.declared.job.Outcome.TheVariants.{Lost}
use Rattle.od_job.specs.declared.job.SendTo.{SendTo}
use Rattle.od_job.specs.declared.stage.Stage.{Stage}
use Rattle.od_job.specs.declared.stage.Stage.TheVariants.{AskContent, AskDownload, Putting, Opening, Opened, AskStatus, Finishing, AskTotal, Cancelling, Ended}
use Rattle.od_job.specs.declared.stage.Turn.{Turn}
use Rattle.od_job.specs.declared.stage.Turn.TheVariants.{To, End}
use Rattle.od_job.specs.declared.stage.Why.{Why}
use Rattle.od_job.specs.declared.stage.Why.TheVariants as why
use Rattle.od_job.specs.declared.transfer.Next.{Next}
use Rattle.od_job.specs.declared.transfer.Next.TheVariants.{Goes, Ends}
use Rattle.od_job.specs.declared.transfer.Transfer.{Transfer}
use Rattle.od_sends.proofs.Sending.{Asks, Has, IfAlive, IsOver, Leading, Lives, NextIn, NoNames, apart-asked, asks-at, failed-over, fragment-long, fragment-makes-none, has-others, has-step, no-names, open-answer, open_request, opening, putting, putting-over, session_of, step-in}
use Rattle.od_sends.proofs.Sessions.{StepGrows, at-same, grown, grown_at, keeps-step}
use Rattle.od_sends.specs.Fitting.{IsTold}
use Rattle.od_sends.specs.Told.{AreBetween, Between, Comes, KeepsOff, Marked, Mine, Told, after_marked, opened_by}

-- ---- how far a session has come
abbrev NotOdd : Why → Type 0
NotOdd (why.Refused code) = Unit {0}
NotOdd why.Lost = Unit {0}
NotOdd (why.Odd first) = ⊥

-- where a fragment is sent the session has the bytes before it, and a session is not cancelled for an odd answer
abbrev Exact : Stage → Option Session → Type 0
Exact (Opened number sent) found = IfAlive (λ (session : Session). length session.filled ≡ sent) found
Exact (Cancelling number ended) found = NotOdd ended
Exact stage found = Unit {0}

abbrev TurnExact : Option Session → Turn → Type 0
TurnExact found (To stage) = Exact stage found
TurnExact found (End outcome) = IsTold outcome

abbrev IfTurnExact : Option Session → Option Turn → Type 0
IfTurnExact found None = Unit {0}
IfTurnExact found (Some turn) = TurnExact found turn

abbrev NextExact : Option Session → Option Next → Type 0
NextExact found None = Unit {0}
NextExact found (Some (Goes now)) = Exact now.stage found
NextExact found (Some (Ends outcome)) = IsTold outcome

turned-exact : (found : Option Session) (row failures : ℕ) (turn : Option Turn) → IfTurnExact found turn → NextExact found (after_turn row failures turn)
turned-exact found row failures None so = tt
turned-exact found row failures (Some (To stage)) so = so
turned-exact found row failures (Some (End outcome)) so = so

failed-exact : (found : Option Session) (row failures : ℕ) (turn : Option Turn) → IfTurnExact found turn → NextExact found (after_failure row failures turn)
failed-exact found row failures None so = tt
failed-exact found row failures (Some (To stage)) so =
    cond_both (is_last_failure row failures) (Ends Lost) (Goes (record { stage = stage; row = row; failures = failures })) (λ next. NextExact found (Some next)) (λ last. tt) (λ more. so)
failed-exact found row failures (Some (End outcome)) so = so

ended-told : (ended : Why) → NotOdd ended → IsTold (outcome_of ended)
ended-told (why.Refused code) so = tt
ended-told why.Lost so = tt
ended-told (why.Odd first) so = so

-- ---- failures
failure-exact : (found before : Option Session) (stage : Stage) → Exact stage before → IfTurnExact found (failure_turn stage)
failure-exact found before AskContent so = tt
failure-exact found before (AskDownload id version) so = tt
failure-exact found before Putting so = tt
failure-exact found before Opening so = tt
failure-exact found before (Opened number sent) so = tt
failure-exact found before (AskStatus number sent) so = tt
failure-exact found before (Finishing number) so = tt
failure-exact found before (AskTotal number) so = tt
failure-exact found before (Cancelling number ended) so = ended-told ended so
failure-exact found before Ended so = tt

-- ---- replies
sent-exact : (session : Session) (total number sent : ℕ) → length session.filled ≡ sent → TurnExact (Some session) (sent_to total number sent)
sent-exact session total number sent is = cond_both (nat_eq sent total) (To (Finishing number)) (To (Opened number sent)) (λ turn. TurnExact (Some session) turn) (λ all. tt) (λ more. is)

status-exact : (session : Session) (total number sent : ℕ) → IfTurnExact (Some session) (status_turn total number sent (reply.Status (length session.filled)))
status-exact session total number sent =
    let expected : ℕ = length session.filled in
    cond_both (nat_eq expected sent) (To (Opened number sent)) (cond (nat_eq expected (end_of total sent)) (sent_to total number expected) (To (Cancelling number why.Lost))) (λ turn. TurnExact (Some session) turn)
    (λ before. eqb-true expected sent before)
    (λ not_before. cond_both (nat_eq expected (end_of total sent)) (sent_to total number expected) (To (Cancelling number why.Lost)) (λ turn. TurnExact (Some session) turn)
    (λ came. sent-exact session total number expected refl) (λ other. tt))

more-exact : (session : Session) (total number sent : ℕ) → length session.filled ≡ end_of total sent → IfTurnExact (Some session) (fragment_turn total number sent (reply.More (end_of total sent)))
more-exact session total number sent is =
    let same : nat_eq (end_of total sent) (end_of total sent) ≡ true = eq-eqb (end_of total sent) (end_of total sent) refl in
    let At : Bool → Type 0 = λ b. TurnExact (Some session) (cond b (sent_to total number (end_of total sent)) (To (Cancelling number (why.Odd sent)))) in
    subst At (sym same) (sent-exact session total number (end_of total sent) is)

refused-status-exact : (found : Option Session) (total number sent status : ℕ) (code : ErrorCode) → IfTurnExact found (status_turn total number sent (reply.Refused status code))
refused-status-exact found total number sent status code =
    cond_both (nat_eq status 404) (End Lost) (To (Cancelling number (why.Refused code))) (λ turn. TurnExact found turn) (λ gone. tt) (λ other. tt)

finish-exact : (found : Option Session) (number : ℕ) (said : Reply) → IfTurnExact found (finish_turn number said)
finish-exact found number (reply.Made item) = tt
finish-exact found number (reply.Is item) = tt
finish-exact found number (reply.Refused status code) = tt
finish-exact found number said = tt

total-exact : (found : Option Session) (total number : ℕ) (said : Reply) → IfTurnExact found (total_turn total number said)
total-exact found total number (reply.Status expected) =
    cond_both (nat_eq expected total) (To (Finishing number)) (To (Cancelling number why.Lost)) (λ turn. TurnExact found turn) (λ all. tt) (λ other. tt)
total-exact found total number (reply.Refused status code) =
    cond_both (nat_eq status 404) (End Lost) (To (Cancelling number (why.Refused code))) (λ turn. TurnExact found turn) (λ gone. tt) (λ other. tt)
total-exact found total number said = tt

-- ---- a fragment that was sent
-- the session after it, which is deferred
not-completed : (to : SendTo) (whole : List ℕ) (found : Option Session) (last total : ℕ) → Lives to whole found → is_completed found last total ≡ false
not-completed to whole None last total lives = refl
not-completed to whole (Some session) last total lives = and_right (is_last last total) (not session.defer) (ap not lives.defer)

fragment-there : (to : SendTo) (whole : List ℕ) (drive : State) (session first last total : ℕ) (bytes : List ℕ) → Lives to whole (session_at session drive.sessions)
    → session_at session (sessions_of drive (Fragment session first last total bytes)) ≡ grown_at total bytes (session_at session drive.sessions)
fragment-there to whole drive session first last total bytes lives =
    ap (λ b. session_at session (cond b (without_session session drive.sessions) (with_fragment session total bytes drive.sessions)))
    (not-completed to whole (session_at session drive.sessions) last total lives)
    ∙ at-same session total bytes drive.sessions

record Taken (drive : State) (whole : List ℕ) (number sent size : ℕ) : Type 0 where
  session : Session
  there : session_at number (after_request drive Own (fragment_of number sent whole)).sessions ≡ Some session
  long : length session.filled ≡ end_of (length whole) sent
  says : reply_to drive (after_request drive Own (fragment_of number sent whole)) size (fragment_of number sent whole) ≡ reply.More (end_of (length whole) sent)

fragment-taken : (to : SendTo) (whole : List ℕ) (drive : State) (number sent size : ℕ) (found : Option Session) → session_at number drive.sessions ≡ found → Lives to whole found
    → IfAlive (λ (session : Session). length session.filled ≡ sent) found → sent < length whole → is_none (refusal drive (fragment_of number sent whole)) ≡ true → Taken drive whole number sent size
fragment-taken to whole drive number sent size None is lives exact below accepted =
    let last : ℕ = end_of (length whole) sent - 1 in
    let bytes : List ℕ = take (end_of (length whole) sent - sent) (drop sent whole) in
    let Accepted : Option Session → Type 0 = λ o. is_none (or_else (by_session (fragment_fault (held drive).kept drive.sessions o sent last (length whole) bytes)) (by_store (last_refusal drive o last (length whole) bytes))) ≡ true in
    let none = subst Accepted is accepted in absurd (cc none)
fragment-taken to whole drive number sent size (Some session) is lives exact below accepted =
    let last : ℕ = end_of (length whole) sent - 1 in
    let bytes : List ℕ = take (end_of (length whole) sent - sent) (drop sent whole) in
    let after : State = after_request drive Own (fragment_of number sent whole) in
    let lives_there : Lives to whole (session_at number drive.sessions) = subst (Lives to whole) (sym is) lives in
    let there : session_at number after.sessions ≡ Some (grown (length whole) bytes session) =
    fragment-there to whole drive number sent last (length whole) bytes lives_there ∙ ap (λ o. grown_at (length whole) bytes o) is in
    let none : effects_of drive (fragment_of number sent whole) ≡ [] = fragment-makes-none to whole drive last (length whole) bytes (session_at number drive.sessions) lives_there in
    let long : length (session.filled ++ bytes) ≡ end_of (length whole) sent =
    let parts : length (session.filled ++ bytes) ≡ length session.filled + length bytes = length-append session.filled bytes in
    let part : length bytes ≡ end_of (length whole) sent - sent = fragment-long whole sent below in
    omega (arith, parts, part, exact, below) in
    record {
      session = grown (length whole) bytes session;
      there = there;
      long = long;
      says =
          ap (λ effects. effect_reply (held drive) (held after) (about more_reply (session_at number after.sessions)) effects) none
          ∙ (ap (λ o. about more_reply o) there ∙ ap (λ n. reply.More n) long);
    }

more-shown : (plain : Bool) (expected : ℕ) → shown plain (reply.More expected) ≡ reply.More expected
more-shown true expected = refl
more-shown false expected = refl

status-shown : (plain : Bool) (expected : ℕ) → shown plain (reply.Status expected) ≡ reply.Status expected
status-shown true expected = refl
status-shown false expected = refl

-- what the drive says to it fits
fragment-heard : (to : SendTo) (whole : List ℕ) (drive : State) (served : Bool) (number sent size : ℕ) → Lives to whole (session_at number drive.sessions)
    → IfAlive (λ (session : Session). length session.filled ≡ sent) (session_at number drive.sessions) → sent < length whole
    → IfTurnExact (session_at number (after_step drive (step.Ask Own (fragment_of number sent whole) served true)).sessions)
    (fragment_turn (length whole) number sent (answer_served served drive size (fragment_of number sent whole)))
fragment-heard to whole drive false number sent size lives exact below = tt
fragment-heard to whole drive true number sent size lives exact below = by (refusal drive (fragment_of number sent whole)) refl
  where
    accepted_so : (why : Option Refusal) → refusal drive (fragment_of number sent whole) ≡ why → why ≡ None → is_none (refusal drive (fragment_of number sent whole)) ≡ true
    accepted_so why is none = ap (λ o. is_none o) (is ∙ none)

    taken_exact : (plain : Bool) → Taken drive whole number sent size
        → IfTurnExact (session_at number (after_request drive Own (fragment_of number sent whole)).sessions)
        (fragment_turn (length whole) number sent (shown plain (reply_to drive (after_request drive Own (fragment_of number sent whole)) size (fragment_of number sent whole))))
    taken_exact plain taken =
        let Said : Reply → Type 0 = λ said. IfTurnExact (session_at number (after_request drive Own (fragment_of number sent whole)).sessions) (fragment_turn (length whole) number sent said) in
        let Found : Option Session → Type 0 = λ found. IfTurnExact found (fragment_turn (length whole) number sent (reply.More (end_of (length whole) sent))) in
        subst Said (sym (ap (shown plain) taken.says ∙ more-shown plain (end_of (length whole) sent)))
        (subst Found (sym taken.there) (more-exact taken.session (length whole) number sent taken.long))

    refused_exact : (plain : Bool) (why : Refusal) (found : Option Session) → IfTurnExact found (fragment_turn (length whole) number sent (shown plain (refused why)))
    refused_exact true why found = tt
    refused_exact false why found = tt

    by : (why : Option Refusal) → refusal drive (fragment_of number sent whole) ≡ why
        → IfTurnExact (session_at number (cond (is_none why) (after_request drive Own (fragment_of number sent whole)) drive).sessions)
        (fragment_turn (length whole) number sent (shown drive.plain (answer_unless why drive size (fragment_of number sent whole))))
    by None is = taken_exact drive.plain (fragment-taken to whole drive number sent size (session_at number drive.sessions) refl lives exact below (accepted_so None is refl))
    by (Some why) is = refused_exact drive.plain why (session_at number drive.sessions)

-- ---- a session that was asked how far it has come
status-heard : (drive : State) (served : Bool) (total number sent size : ℕ)
    → IfTurnExact (session_at number (after_step drive (step.Ask Own (SessionStatus number) served true)).sessions) (status_turn total number sent (answer_served served drive size (SessionStatus number)))
status-heard drive false total number sent size = refused-status-exact (session_at number drive.sessions) total number sent 503 GeneralException
status-heard drive true total number sent size = by (refusal drive (SessionStatus number))
  where
    found_exact : (plain : Bool) (found : Option Session) → IfTurnExact found (status_turn total number sent (shown plain (about status_reply found)))
    found_exact true None = refused-status-exact None total number sent 404 ItemNotFound
    found_exact false None = refused-status-exact None total number sent 404 ItemNotFound
    found_exact true (Some session) = status-exact session total number sent
    found_exact false (Some session) = status-exact session total number sent

    refused_exact : (plain : Bool) (why : Refusal) (found : Option Session) → IfTurnExact found (status_turn total number sent (shown plain (refused why)))
    refused_exact true why found = refused-status-exact found total number sent why.status why.code
    refused_exact false why found = refused-status-exact found total number sent why.status why.code

    by : (why : Option Refusal)
        → IfTurnExact (session_at number (cond (is_none why) (after_request drive Own (SessionStatus number)) drive).sessions) (status_turn total number sent (shown drive.plain (answer_unless why drive size (SessionStatus number))))
    by None = found_exact drive.plain (session_at number drive.sessions)
    by (Some why) = refused_exact drive.plain why (session_at number drive.sessions)

-- ---- a reply to what is asked
heard-exact : (to : SendTo) (whole : List ℕ) (session : ℕ) (drive : State) (stage : Stage) (request : Request) (served : Bool) (size : ℕ) → session_of stage ≡ Some session
    → is_send_at (length whole) stage ≡ true → send_request to whole stage ≡ Some request → Lives to whole (session_at session drive.sessions) → Exact stage (session_at session drive.sessions)
    → IfTurnExact (session_at session (after_step drive (step.Ask Own request served true)).sessions) (send_turn (length whole) stage (answer_served served drive size request))
heard-exact to whole session drive (Opened number sent) request served size is at asked lives exact =
    let same : number ≡ session = cc is in
    let asks : fragment_of number sent whole ≡ request = cc asked in
    let Said : Request → Type 0 = λ r. IfTurnExact (session_at session (after_step drive (step.Ask Own r served true)).sessions) (fragment_turn (length whole) number sent (answer_served served drive size r)) in
    let At : ℕ → Type 0 = λ n. IfTurnExact (session_at n (after_step drive (step.Ask Own (fragment_of number sent whole) served true)).sessions)
    (fragment_turn (length whole) number sent (answer_served served drive size (fragment_of number sent whole))) in
    let Living : ℕ → Type 0 = λ n. Lives to whole (session_at n drive.sessions) in
    let Come : ℕ → Type 0 = λ n. IfAlive (λ (session : Session). length session.filled ≡ sent) (session_at n drive.sessions) in
    subst Said asks (subst At same (fragment-heard to whole drive served number sent size (subst Living (sym same) lives) (subst Come (sym same) exact) (ltb-true sent (length whole) at)))
heard-exact to whole session drive (AskStatus number sent) request served size is at asked lives exact =
    let same : number ≡ session = cc is in
    let asks : SessionStatus number ≡ request = cc asked in
    let Said : Request → Type 0 = λ r. IfTurnExact (session_at session (after_step drive (step.Ask Own r served true)).sessions) (status_turn (length whole) number sent (answer_served served drive size r)) in
    let At : ℕ → Type 0 = λ n. IfTurnExact (session_at n (after_step drive (step.Ask Own (SessionStatus number) served true)).sessions)
    (status_turn (length whole) number sent (answer_served served drive size (SessionStatus number))) in
    subst Said asks (subst At same (status-heard drive served (length whole) number sent size))
heard-exact to whole session drive (Finishing number) request served size is at asked lives exact =
    finish-exact (session_at session (after_step drive (step.Ask Own request served true)).sessions) number (answer_served served drive size request)
heard-exact to whole session drive (AskTotal number) request served size is at asked lives exact =
    total-exact (session_at session (after_step drive (step.Ask Own request served true)).sessions) (length whole) number (answer_served served drive size request)
heard-exact to whole session drive (Cancelling number ended) request served size is at asked lives exact = ended-told ended exact
heard-exact to whole session drive Putting request served size is at asked lives exact = absurd (cc is)
heard-exact to whole session drive Opening request served size is at asked lives exact = absurd (cc is)
heard-exact to whole session drive AskContent request served size is at asked lives exact = absurd (cc is)
heard-exact to whole session drive (AskDownload found version) request served size is at asked lives exact = absurd (cc is)
heard-exact to whole session drive Ended request served size is at asked lives exact = absurd (cc is)

failed-step : (to : SendTo) (whole : List ℕ) (now : Transfer) (found before : Option Session) (answered : Answered) → answered ≡ heard.Failed → Exact now.stage before
    → NextExact found (step_of (Send to whole) now answered)
failed-step to whole now found before answered is exact =
    let Said : Answered → Type 0 = λ a. NextExact found (step_of (Send to whole) now a) in
    subst Said (sym is) (failed-exact found (now.row + 1) (now.failures + 1) (failure_turn now.stage) (failure-exact found before now.stage exact))

-- what a request adds to the log leaves it exact
own-exact : (to : SendTo) (whole : List ℕ) (session : ℕ) (drive : State) (now : Transfer) (exchange : Exchange) (own : List Marked) → session_of now.stage ≡ Some session → IsGoing (Send to whole) now
    → send_request to whole now.stage ≡ Some exchange.request → Has to whole session drive → Exact now.stage (session_at session drive.sessions) → Comes drive exchange own
    → NextExact (session_at session (after_marked drive own).sessions) (step_of (Send to whole) now exchange.answered)
own-exact to whole session drive now exchange [] is going asked has exact comes =
    failed-step to whole now (session_at session drive.sessions) (session_at session drive.sessions) exchange.answered comes exact
own-exact to whole session drive now exchange (Mine request served true ∷ []) is going asked has exact comes =
    let after : Option Session = session_at session (after_step drive (step.Ask Own request served true)).sessions in
    ⊎_elim (λ failed. failed-step to whole now after (session_at session drive.sessions) exchange.answered failed exact)
    (λ got.
    let asked_here : send_request to whole now.stage ≡ Some request = asked ∙ ap (λ r. Some r) (sym comes.0) in
    let Said : Answered → Type 0 = λ a. NextExact after (step_of (Send to whole) now a) in
    subst Said (sym got.1)
    (turned-exact after 0 now.failures (send_turn (length whole) now.stage (answer_served served drive got.0 request))
    (heard-exact to whole session drive now.stage request served got.0 is going.at asked_here has.lives exact)))
    comes.1
own-exact to whole session drive now exchange (Mine request served false ∷ []) is going asked has exact comes =
    failed-step to whole now (session_at session (after_step drive (step.Ask Own request served false)).sessions) (session_at session drive.sessions) exchange.answered comes.1 exact
own-exact to whole session drive now exchange own is going asked has exact comes = absurd comes

-- ---- others' steps
others-grow : (P : Option Session → Type 0) (session : ℕ) (drive : State) (next : Step) → NoNames session next → StepGrows P session drive next
others-grow P session drive (step.Ask who (Fragment number first last total bytes) served heard) apart = λ taken same. absurd (apart same)
others-grow P session drive (step.Ask who request served heard) apart = λ taken. tt
others-grow P session drive (step.Event event) apart = tt

other-exact : (session : ℕ) (drive : State) (stage : Stage) (next : Step) → session ≤ length drive.openers → NoNames session next → Exact stage (session_at session drive.sessions)
    → Exact stage (session_at session (after_step drive next).sessions)
other-exact session drive (Opened number sent) next low apart exact =
    let Come : Option Session → Type 0 = λ found. IfAlive (λ (session : Session). length session.filled ≡ sent) found in
    keeps-step Come session drive next tt low (others-grow Come session drive next apart) exact
other-exact session drive (Cancelling number ended) next low apart exact = exact
other-exact session drive AskContent next low apart exact = tt
other-exact session drive (AskDownload found version) next low apart exact = tt
other-exact session drive Putting next low apart exact = tt
other-exact session drive Opening next low apart exact = tt
other-exact session drive (AskStatus number sent) next low apart exact = tt
other-exact session drive (Finishing number) next low apart exact = tt
other-exact session drive (AskTotal number) next low apart exact = tt
other-exact session drive Ended next low apart exact = tt

record Past (to : SendTo) (whole : List ℕ) (session : ℕ) (stage : Stage) (drive : State) (rest : List Marked) : Type 0 where
  has : Has to whole session drive
  exact : Exact stage (session_at session drive.sessions)
  apart : KeepsOff drive (session ∷ []) rest

past-others : (to : SendTo) (whole : List ℕ) (session : ℕ) (stage : Stage) (drive : State) (others rest : List Marked) → AreBetween others → KeepsOff drive (session ∷ []) (others ++ rest)
    → Has to whole session drive → Exact stage (session_at session drive.sessions) → Past to whole session stage (after_marked drive others) rest
past-others to whole session stage drive [] rest between apart has exact = record { has = has; exact = exact; apart = apart }
past-others to whole session stage drive (Mine request served heard ∷ others) rest between apart has exact = absurd between.0
past-others to whole session stage drive (Between next ∷ others) rest between apart has exact =
    let off : NoNames session next = no-names next session (apart.0).0 in
    past-others to whole session stage (after_step drive next) others rest between.1 apart.1 (has-others to whole session drive next off has) (other-exact session drive stage next has.low off exact)

-- the rest after what a request adds
record PastOwn (to : SendTo) (whole : List ℕ) (session : ℕ) (drive : State) (rest : List Marked) : Type 0 where
  has : Has to whole session drive
  apart : KeepsOff drive (session ∷ []) rest

past-own : (to : SendTo) (whole : List ℕ) (session : ℕ) (drive : State) (exchange : Exchange) (own rest : List Marked) → Asks to whole session drive exchange.request → Has to whole session drive
    → Comes drive exchange own → KeepsOff drive (session ∷ []) (own ++ rest) → PastOwn to whole session (after_marked drive own) rest
past-own to whole session drive exchange [] rest asks has comes apart = record { has = has; apart = apart }
past-own to whole session drive exchange (Mine request served true ∷ []) rest asks has comes apart =
    let here : Asks to whole session drive request = subst (λ r. Asks to whole session drive r) (sym comes.0) asks in
    record { has = has-step to whole session drive (step.Ask Own request served true) here.fits has; apart = apart-asked to whole session drive request served true rest here apart }
past-own to whole session drive exchange (Mine request served false ∷ []) rest asks has comes apart =
    let here : Asks to whole session drive request = subst (λ r. Asks to whole session drive r) (sym comes.0) asks in
    record { has = has-step to whole session drive (step.Ask Own request served false) here.fits has; apart = apart-asked to whole session drive request served false rest here apart }
past-own to whole session drive exchange own rest asks has comes apart = absurd comes

-- ---- a send whose session is open
fit-open : (to : SendTo) (whole : List ℕ) (session : ℕ) (from : Option Next) (exchanges : List Exchange) (outcome : Outcome) (drive : State) (part : List Marked) → IfNext (Send to whole) from → NextIn session from
    → NextExact (session_at session drive.sessions) from → Leads (Send to whole) from exchanges (Ends outcome) → Told drive exchanges part → KeepsOff drive (session ∷ []) part → Has to whole session drive → IsTold outcome
fit-open to whole session from [] outcome drive part stands is exact leads told apart has =
    let Holds : Option Next → Type 0 = λ next. NextExact (session_at session drive.sessions) next in subst Holds leads exact
fit-open to whole session (Some (Goes now)) (exchange ∷ exchanges) outcome drive part stands is exact leads told apart has =
    let first = told.0 in
    let apart_split : KeepsOff drive (session ∷ []) (first.others ++ (first.own ++ first.rest)) = subst (λ p. KeepsOff drive (session ∷ []) p) first.split apart in
    let there : State = after_marked drive first.others in
    let past = past-others to whole session now.stage drive first.others (first.own ++ first.rest) first.between apart_split has exact in
    let asks = asks-at to whole session there now.stage exchange.request past.has is stands.at leads.0 in
    let later = past-own to whole session there exchange first.own first.rest asks past.has first.comes past.apart in
    fit-open to whole session (step_of (Send to whole) now exchange.answered) exchanges outcome (after_marked there first.own) first.rest
    (step-stands (Send to whole) now exchange.answered stands) (step-in to whole session now exchange.answered is)
    (own-exact to whole session there now exchange first.own is stands leads.0 past.has past.exact first.comes) leads.1 told.1 later.apart later.has
fit-open to whole session (Some (Ends end)) (exchange ∷ exchanges) outcome drive part stands is exact leads told apart has = absurd leads
fit-open to whole session None (exchange ∷ exchanges) outcome drive part stands is exact leads told apart has = absurd leads

-- ---- its beginning
abbrev NextTold : Option Next → Type 0
NextTold None = Unit {0}
NextTold (Some (Goes now)) = Unit {0}
NextTold (Some (Ends outcome)) = IsTold outcome

fit-over : (job : Job) (from : Option Next) (exchanges : List Exchange) (outcome : Outcome) → IsOver from → NextTold from → Leads job from exchanges (Ends outcome) → IsTold outcome
fit-over job from [] outcome over so leads = let Holds : Option Next → Type 0 = λ next. NextTold next in subst Holds leads so
fit-over job (Some (Goes now)) (exchange ∷ exchanges) outcome over so leads = absurd over
fit-over job (Some (Ends end)) (exchange ∷ exchanges) outcome over so leads = absurd leads
fit-over job None (exchange ∷ exchanges) outcome over so leads = absurd leads

-- each answer of a told drive is a reply or none
abbrev pub IsHeard : Answered → Type 0
IsHeard (heard.Got said) = Unit {0}
IsHeard heard.Failed = Unit {0}
IsHeard (heard.Bad bytes) = ⊥

pub comes-heard : (drive : State) (exchange : Exchange) (own : List Marked) → Comes drive exchange own → IsHeard exchange.answered
comes-heard drive exchange [] comes = subst IsHeard (sym comes) tt
comes-heard drive exchange (Mine request served true ∷ []) comes = ⊎_elim (λ failed. subst IsHeard (sym failed) tt) (λ got. subst IsHeard (sym got.1) tt) comes.1
comes-heard drive exchange (Mine request served false ∷ []) comes = subst IsHeard (sym comes.1) tt
comes-heard drive exchange own comes = absurd comes

put-told : (said : Reply) → NextTold (after_turn 0 0 (put_turn said))
put-told (reply.Made item) = tt
put-told (reply.Is item) = tt
put-told (reply.Refused status code) = tt
put-told said = tt

putting-told : (to : SendTo) (whole : List ℕ) (answered : Answered) → IsHeard answered → NextTold (step_of (Send to whole) putting answered)
putting-told to whole (heard.Got said) is = put-told said
putting-told to whole heard.Failed is = tt
putting-told to whole (heard.Bad bytes) is = absurd is

open-told : (said : Reply) → IsOver (after_turn 0 0 (open_turn said)) → NextTold (after_turn 0 0 (open_turn said))
open-told (reply.Session session expected) over =
    cond_both (nat_eq expected 0) (To (Opened session 0)) (To (Cancelling session (why.Odd 0))) (λ turn. IsOver (after_turn 0 0 (Some turn)) → NextTold (after_turn 0 0 (Some turn)))
    (λ first none. absurd none) (λ other none. absurd none) over
open-told (reply.Refused status code) over = tt
open-told said over = tt

opening-told : (to : SendTo) (whole : List ℕ) (answered : Answered) → IsHeard answered → IsOver (step_of (Send to whole) opening answered) → NextTold (step_of (Send to whole) opening answered)
opening-told to whole (heard.Got said) is over = open-told said over
opening-told to whole heard.Failed is over = tt
opening-told to whole (heard.Bad bytes) is over = absurd is

fit-putting : (to : SendTo) (whole : List ℕ) (exchanges : List Exchange) (outcome : Outcome) (drive : State) (part : List Marked) → Leads (Send to whole) (Some (Goes putting)) exchanges (Ends outcome)
    → Told drive exchanges part → IsTold outcome
fit-putting to whole [] outcome drive part leads told = absurd (cc leads)
fit-putting to whole (exchange ∷ exchanges) outcome drive part leads told =
    fit-over (Send to whole) (step_of (Send to whole) putting exchange.answered) exchanges outcome (putting-over to whole exchange.answered)
    (putting-told to whole exchange.answered (comes-heard (after_marked drive (told.0).others) exchange (told.0).own (told.0).comes)) leads.1

-- what the answer to an opening leads to, the drive after it, and what is left of the log
record Opens (to : SendTo) (whole : List ℕ) (answered : Answered) (drive : State) (rest : List Marked) : Type 0 where
  opened : List ℕ
  leading : Leading answered to whole opened drive
  apart : KeepsOff drive (opened ++ []) rest

opening-leads : (to : SendTo) (whole : List ℕ) (drive : State) (exchange : Exchange) (own rest : List Marked) → EveryDrive drive → open_request to ≡ exchange.request → Comes drive exchange own
    → KeepsOff drive [] (own ++ rest) → Opens to whole exchange.answered (after_marked drive own) rest
opening-leads to whole drive exchange [] rest every asks comes apart = record { opened = []; leading = inl (failed-over to whole exchange.answered comes); apart = apart }
opening-leads to whole drive exchange (Mine request served true ∷ []) rest every asks comes apart =
    let same : open_request to ≡ request = asks ∙ sym comes.0 in
    let after : State = after_step drive (step.Ask Own request served true) in
    record {
      opened = opened_by drive request served;
      leading =
          ⊎_elim (λ failed. inl (failed-over to whole exchange.answered failed))
          (λ got.
          let Said : Request → Type 0 = λ r. Leading (heard.Got (answer_served served drive got.0 r)) to whole (opened_by drive r served) (after_step drive (step.Ask Own r served true)) in
          let Answer : Answered → Type 0 = λ a. Leading a to whole (opened_by drive request served) after in
          subst Answer (sym got.1) (subst Said same (open-answer to whole drive served got.0 every)))
          comes.1;
      apart = apart;
    }
opening-leads to whole drive exchange (Mine request served false ∷ []) rest every asks comes apart =
    record { opened = opened_by drive request served; leading = inl (failed-over to whole exchange.answered comes.1); apart = apart }
opening-leads to whole drive exchange own rest every asks comes apart = absurd comes

past-free : (drive : State) (others rest : List Marked) → AreBetween others → KeepsOff drive [] (others ++ rest) → EveryDrive drive → EveryDrive (after_marked drive others) × KeepsOff (after_marked drive others) [] rest
past-free drive [] rest between apart every = (every, apart)
past-free drive (Mine request served heard ∷ others) rest between apart every = absurd between.0
past-free drive (Between next ∷ others) rest between apart every = past-free (after_step drive next) others rest between.1 apart.1 (kept-step drive next every)

fit-opening : (to : SendTo) (whole : List ℕ) (exchanges : List Exchange) (outcome : Outcome) (drive : State) (part : List Marked) → nat_lt 327680 (length whole) ≡ true
    → Leads (Send to whole) (Some (Goes opening)) exchanges (Ends outcome) → Told drive exchanges part → KeepsOff drive [] part → EveryDrive drive → IsTold outcome
fit-opening to whole [] outcome drive part long leads told apart every = absurd (cc leads)
fit-opening to whole (exchange ∷ exchanges) outcome drive part long leads told apart every =
    let first = told.0 in
    let asks : open_request to ≡ exchange.request = cc leads.0 in
    let apart_split : KeepsOff drive [] (first.others ++ (first.own ++ first.rest)) = subst (λ p. KeepsOff drive [] p) first.split apart in
    let there : State = after_marked drive first.others in
    let past = past-free drive first.others (first.own ++ first.rest) first.between apart_split every in
    let opens = opening-leads to whole there exchange first.own first.rest past.0 asks first.comes past.1 in
    let going : IsGoing (Send to whole) opening = record { at = long; row = lit< tt; failures = lit< tt } in
    ⊎_elim
    (λ over. fit-over (Send to whole) (step_of (Send to whole) opening exchange.answered) exchanges outcome over
    (opening-told to whole exchange.answered (comes-heard there exchange first.own first.comes) over) leads.1)
    (λ led. fit-open to whole led.0 (step_of (Send to whole) opening exchange.answered) exchanges outcome (after_marked there first.own) first.rest
    (step-stands (Send to whole) opening exchange.answered going) (subst (NextIn led.0) (sym led.1) refl)
    (let Holds : Option Next → Type 0 = λ next. NextExact (session_at led.0 (after_marked there first.own).sessions) next in subst Holds (sym led.1) led.3) leads.1 told.1
    (subst (λ sessions. KeepsOff (after_marked there first.own) (sessions ++ []) first.rest) led.4 opens.apart) led.2)
    opens.leading

pub send-fits : (to : SendTo) (whole : List ℕ) (old : List Step) (part : List Marked) (exchanges : List Exchange) (outcome : Outcome) → Ran (Send to whole) exchanges outcome → Told (state_of old) exchanges part
    → KeepsOff (state_of old) [] part → IsTold outcome
send-fits to whole old part exchanges outcome ran told apart = by (is_short (length whole)) refl ran
  where
    by : (short : Bool) → is_short (length whole) ≡ short → Leads (Send to whole) (Some (Goes (record { stage = cond short Putting Opening; row = 0; failures = 0 }))) exchanges (Ends outcome) → IsTold outcome
    by true is leads = fit-putting to whole exchanges outcome (state_of old) part leads told
    by false is leads = fit-opening to whole exchanges outcome (state_of old) part (lt-ltb 327680 (length whole) (leb-false (length whole) 327680 is)) leads told apart (every-drive old)
