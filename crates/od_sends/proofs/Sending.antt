-- A send puts its file once at most, over a drive whose log is told.
use Rattle.std.proofs.Common.{◌≡◌, ℕ, ◌+◌, ◌-◌, ◌%◌, ◌<◌, ◌≤◌, Bool, true, false, ◌&&◌, ◌||◌, not, cond, nat_eq, nat_le, nat_lt, is_none, min, List, [], ◌∷◌, ◌++◌, length, take, drop, Option, Some, None, refl, ap, sym, subst, ◌∙◌, ◌⊎◌, inl, inr, ⊎_elim, lit<, lit≤, arith}
use Rattle.std.specs.List.{AllByRecursion}
use Rattle.std.proofs.lemmas.Bool.{and_parts, and_right, cond_both, eqb-true, leb-false, lt-ltb, ltb-true}
use Rattle.std.proofs.lemmas.List.{length-append, length-drop, length-take, length_push, take_all}
use Rattle.gd_names.proofs.Each.{each}
use Rattle.gd_names.proofs.Small.{clear, mapped-none, neither, none-from, un-not}
use Rattle.gd_item.specs.Answers.{answer_served, answer_unless, refused, shown}
use Rattle.gd_item.specs.Faults.{session_code_of, session_status_of}
use Rattle.gd_item.specs.Inventory.{Effect}
use Rattle.gd_item.specs.Refusals.{put_effect, put_refusal}
use Rattle.gd_item.specs.Refused.{Refusal, at_target, by_session, by_store, commit_refusal, finish_refusal, last_refusal, or_else, refusal, refuse}
use Rattle.gd_item.specs.Sessions.{Session, State, finish_fault, fragment_fault, held, held_bytes, is_filled, is_last, is_other_total, session_at, session_fragment_fault, without_session}
use Rattle.gd_item.specs.Steps.{after_request, after_step, commit_effect, effects_at, effects_by, effects_of, finish_effects, fragment_effects, is_accepted, opened, state_of}
use Rattle.gd_item.specs.Targets.{place_of}
use Rattle.gd_item.specs.declared.fault.ErrorCode.TheVariants.{InvalidRequest}
use Rattle.gd_item.specs.declared.fault.SessionFault.{SessionFault}
use Rattle.gd_item.specs.declared.fault.SessionFault.TheVariants.{Total, Form, TooLarge, Range, Multiple, Quota}
use Rattle.gd_item.specs.declared.fault.StoreFault.{StoreFault}
use Rattle.gd_item.specs.declared.live.Place.{Place}
use Rattle.gd_item.specs.declared.reply.Reply.{Reply}
use Rattle.gd_item.specs.declared.reply.Reply.TheVariants as reply
use Rattle.gd_item.specs.declared.request.Request.{Request}
use Rattle.gd_item.specs.declared.request.Request.TheVariants.{Put, OpenSession, Fragment, SessionStatus, CancelSession, Finish}
use Rattle.gd_item.specs.declared.step.Step.{Step}
use Rattle.gd_item.specs.declared.step.Step.TheVariants as step
use Rattle.gd_item.specs.declared.step.Who.TheVariants.{Own}
use Rattle.gd_laws.proofs.Every.{every-drive, kept-step}
use Rattle.gd_laws.specs.EveryDrive.{EveryDrive, IsOpen}
use Rattle.od_job.proofs.Standing.{IfNext, step-stands}
use Rattle.od_job.specs.Asking.{address_of, behaviour_of, condition_of, end_of, fragment_of, is_send_at, is_short, send_request}
use Rattle.od_job.specs.Runs.{Exchange, Leads, RunsTo}
use Rattle.od_job.specs.Turns.{IsGoing, after_failure, after_turn, bad_turn, failure_turn, finish_turn, fragment_turn, is_last_failure, put_turn, send_turn, sent_to, status_turn, step_of, total_turn}
use Rattle.od_job.specs.declared.job.Answered.{Answered}
use Rattle.od_job.specs.declared.job.Answered.TheVariants as heard
use Rattle.od_job.specs.declared.job.Job.TheVariants.{Send}
use Rattle.od_job.specs.declared.job.Outcome.TheVariants.{Lost}
use Rattle.od_job.specs.declared.job.SendTo.{SendTo}
use Rattle.od_job.specs.declared.stage.Stage.{Stage}
use Rattle.od_job.specs.declared.stage.Stage.TheVariants.{AskContent, AskDownload, Putting, Opening, Opened, AskStatus, Finishing, AskTotal, Cancelling, Ended}
use Rattle.od_job.specs.declared.stage.Turn.{Turn}
use Rattle.od_job.specs.declared.stage.Turn.TheVariants.{To, End}
use Rattle.od_job.specs.declared.stage.Why.TheVariants as why
use Rattle.od_job.specs.declared.transfer.Next.{Next}
use Rattle.od_job.specs.declared.transfer.Next.TheVariants.{Goes, Ends}
use Rattle.od_job.specs.declared.transfer.Transfer.{Transfer}
use Rattle.od_sends.proofs.Places.{no-store-fault, place-found, place_to, put-so}
use Rattle.od_sends.proofs.Sessions.{Grows, StepGrows, at-gone, grown, grown_at, keeps-step, new-at, none-at, low-step, take-join}
use Rattle.od_sends.specs.Putting.{JobPuts, PutsSo, job_effects}
use Rattle.od_sends.specs.Told.{AreBetween, Between, Comes, KeepsOff, Marked, Mine, NamesNot, Told, after_marked, opened_by}

-- ---- the session of a send
abbrev pub IfTotal : List ℕ → Option ℕ → Type 0
IfTotal whole None = Unit {0}
IfTotal whole (Some total) = total ≡ length whole

-- it is deferred, its file goes where the send sends it, and its bytes are the first ones of the file
pub record IsFor (to : SendTo) (whole : List ℕ) (session : Session) : Type 0 where
  pub place : session.place ≡ place_to to
  pub behaviour : session.behaviour ≡ behaviour_of to
  pub condition : session.condition ≡ condition_of to
  pub defer : session.defer ≡ true
  pub part : session.filled ≡ take (length session.filled) whole
  pub total : IfTotal whole session.total

abbrev pub Lives : SendTo → List ℕ → Option Session → Type 0
Lives to whole None = Unit {0}
Lives to whole (Some session) = IsFor to whole session

pub record Has (to : SendTo) (whole : List ℕ) (session : ℕ) (drive : State) : Type 0 where
  pub low : session ≤ length drive.openers
  pub lives : Lives to whole (session_at session drive.sessions)

-- a fact on it, where it lives
abbrev pub IfAlive : (Session → Type 0) → Option Session → Type 0
IfAlive P None = Unit {0}
IfAlive P (Some session) = P session

-- how many there are: one or none
abbrev pub living : Option Session → ℕ
living None = 0
living (Some session) = 1

-- ---- a fragment of it
pub record IsPart (whole : List ℕ) (first last total : ℕ) (bytes : List ℕ) : Type 0 where
  pub total_is : total ≡ length whole
  pub last_is : last + 1 ≡ first + length bytes
  pub part : bytes ≡ take (length bytes) (drop first whole)

abbrev pub FragmentFits : List ℕ → ℕ → Request → Type 0
FragmentFits whole session (Fragment number first last total bytes) = number ≡ session → IsPart whole first last total bytes
FragmentFits whole session request = Unit {0}

pub none-first : {X : Type 0} (a b : Option X) → is_none (or_else a b) ≡ true → None ≡ a
none-first None b is = refl
none-first (Some x) b is = absurd (cc is)

none-later : {X : Type 0} (a b : Option X) → is_none (or_else a b) ≡ true → None ≡ b
none-later None b is = none-from b is
none-later (Some x) b is = absurd (cc is)

pub no-session-fault : (fault : Option SessionFault) → None ≡ by_session fault → None ≡ fault
no-session-fault fault none = mapped-none (λ (f : SessionFault). refuse (session_status_of f) (session_code_of f)) fault (sym none)

-- one that is taken begins where the bytes end
pub first-is : (kept : ℕ) (sessions : List Session) (session : Session) (first last total : ℕ) (bytes : List ℕ) (store : Option Refusal)
    → is_none (or_else (by_session (session_fragment_fault kept sessions session first last total bytes)) store) ≡ true → first ≡ length session.filled
first-is kept sessions session first last total bytes store is =
    let none = no-session-fault (session_fragment_fault kept sessions session first last total bytes) (none-first (by_session (session_fragment_fault kept sessions session first last total bytes)) store is) in
    let one = clear (is_other_total session.total total) Total _ none in
    let two = clear (nat_lt last first || nat_le total last || not (nat_eq (last - first + 1) (length bytes))) Form _ one.1 in
    let three = clear (nat_le 62914560 (length bytes) || nat_lt 67108864 total) TooLarge _ two.1 in
    let four =
    clear (not (nat_eq first (length session.filled))) (Range (length session.filled))
    (cond (not (is_last last total) && not (nat_eq (length bytes % 327680) 0)) (Some Multiple) (cond (nat_lt 536870912 (kept + held_bytes sessions + length bytes)) (Some Quota) None)) three.1 in
    eqb-true first (length session.filled) (un-not (nat_eq first (length session.filled)) four.0)

grown-for : (to : SendTo) (whole : List ℕ) (session : Session) (first last total : ℕ) (bytes : List ℕ) → first ≡ length session.filled → IsPart whole first last total bytes → IsFor to whole session
    → IsFor to whole (grown total bytes session)
grown-for to whole session first last total bytes at is so = record {
  place = so.place;
  behaviour = so.behaviour;
  condition = so.condition;
  defer = so.defer;
  part =
      let long : length session.filled + length bytes ≡ length (session.filled ++ bytes) = sym (length-append session.filled bytes) in
      ap (λ front. front ++ bytes) so.part
      ∙ (ap (λ back. take (length session.filled) whole ++ back) (is.part ∙ ap (λ n. take (length bytes) (drop n whole)) at) ∙ (take-join (length session.filled) (length bytes) whole ∙ ap (λ n. take n whole) long));
  total = is.total_is;
}

lives-grown : (to : SendTo) (whole : List ℕ) (kept : ℕ) (sessions : List Session) (found : Option Session) (first last total : ℕ) (bytes : List ℕ) (store : Option Refusal)
    → is_none (or_else (by_session (fragment_fault kept sessions found first last total bytes)) store) ≡ true → IsPart whole first last total bytes → Lives to whole found
    → Lives to whole (grown_at total bytes found)
lives-grown to whole kept sessions None first last total bytes store taken is so = tt
lives-grown to whole kept sessions (Some session) first last total bytes store taken is so =
    grown-for to whole session first last total bytes (first-is kept sessions session first last total bytes store taken) is so

lives-grows : (to : SendTo) (whole : List ℕ) (session : ℕ) (drive : State) (request : Request) → FragmentFits whole session request → Lives to whole (session_at session drive.sessions)
    → is_none (refusal drive request) ≡ true → Grows (Lives to whole) session drive request
lives-grows to whole session drive (Fragment number first last total bytes) fits so taken = λ same.
    let Taken : ℕ → Type 0 = λ n. is_none (or_else (by_session (fragment_fault (held drive).kept drive.sessions (session_at n drive.sessions) first last total bytes))
    (by_store (last_refusal drive (session_at n drive.sessions) last total bytes))) ≡ true in
    lives-grown to whole (held drive).kept drive.sessions (session_at session drive.sessions) first last total bytes (by_store (last_refusal drive (session_at session drive.sessions) last total bytes))
    (subst Taken same taken) (fits same) so
lives-grows to whole session drive request fits so taken = tt

-- ---- a step
abbrev pub StepFits : List ℕ → ℕ → Step → Type 0
StepFits whole session (step.Ask who request served heard) = FragmentFits whole session request
StepFits whole session (step.Event event) = Unit {0}

step-grows : (to : SendTo) (whole : List ℕ) (session : ℕ) (drive : State) (next : Step) → StepFits whole session next → Lives to whole (session_at session drive.sessions)
    → StepGrows (Lives to whole) session drive next
step-grows to whole session drive (step.Ask who request served heard) fits so = λ taken. lives-grows to whole session drive request fits so taken
step-grows to whole session drive (step.Event event) fits so = tt

pub has-step : (to : SendTo) (whole : List ℕ) (session : ℕ) (drive : State) (next : Step) → StepFits whole session next → Has to whole session drive → Has to whole session (after_step drive next)
has-step to whole session drive next fits has = record {
  low = low-step session drive next has.low;
  lives = keeps-step (Lives to whole) session drive next tt has.low (step-grows to whole session drive next fits has.lives) has.lives;
}

-- a session that lives no more does not live again
living-grown : (total : ℕ) (bytes : List ℕ) (found : Option Session) → living (grown_at total bytes found) ≤ living found
living-grown total bytes None = lit≤ tt
living-grown total bytes (Some session) = lit≤ tt

living-grows : (session : ℕ) (drive : State) (next : Step) → StepGrows (λ found. living found ≤ living (session_at session drive.sessions)) session drive next
living-grows session drive (step.Ask who (Fragment number first last total bytes) served heard) = λ taken same. living-grown total bytes (session_at session drive.sessions)
living-grows session drive (step.Ask who request served heard) = λ taken. tt
living-grows session drive (step.Event event) = tt

pub living-step : (session : ℕ) (drive : State) (next : Step) → session ≤ length drive.openers → living (session_at session (after_step drive next).sessions) ≤ living (session_at session drive.sessions)
living-step session drive next low =
    keeps-step (λ found. living found ≤ living (session_at session drive.sessions)) session drive next (omega arith) low (living-grows session drive next) (omega arith)

-- a step that does not name it is no fragment of it
abbrev NoFragment : ℕ → Request → Type 0
NoFragment session (Fragment number first last total bytes) = number ≡ session → ⊥
NoFragment session request = Unit {0}

abbrev pub NoNames : ℕ → Step → Type 0
NoNames session (step.Ask who request served heard) = NoFragment session request
NoNames session (step.Event event) = Unit {0}

pub no-names : (next : Step) (session : ℕ) → NamesNot next session → NoNames session next
no-names (step.Ask who (Fragment number first last total bytes) served heard) session apart = λ same. apart (ap (λ n. Some n) same)
no-names (step.Ask who request served heard) session apart = tt
no-names (step.Event event) session apart = tt

others-fit : (next : Step) (session : ℕ) (whole : List ℕ) → NoNames session next → StepFits whole session next
others-fit (step.Ask who (Fragment number first last total bytes) served heard) session whole apart = λ same. absurd (apart same)
others-fit (step.Ask who request served heard) session whole apart = tt
others-fit (step.Event event) session whole apart = tt

pub has-others : (to : SendTo) (whole : List ℕ) (session : ℕ) (drive : State) (next : Step) → NoNames session next → Has to whole session drive → Has to whole session (after_step drive next)
has-others to whole session drive next apart has = has-step to whole session drive next (others-fit next session whole apart) has

-- ---- what is put
pub record Once (to : SendTo) (whole : List ℕ) (most : ℕ) (drive : State) (part : List Marked) : Type 0 where
  pub few : length (job_effects drive part) ≤ most
  pub puts : JobPuts to whole drive part

once-weaker : (to : SendTo) (whole : List ℕ) (more most : ℕ) (drive : State) (part : List Marked) → more ≤ most → Once to whole more drive part → Once to whole most drive part
once-weaker to whole more most drive part low so = record { few = (let few : length (job_effects drive part) ≤ more = so.few in omega (arith, few, low)); puts = so.puts }

once-after : (to : SendTo) (whole : List ℕ) (more most : ℕ) (drive : State) (next : Step) (part : List Marked) → more ≤ most → Once to whole more (after_step drive next) part
    → Once to whole most drive (Between next ∷ part)
once-after to whole more most drive next part low so = record { few = (let few : length (job_effects (after_step drive next) part) ≤ more = so.few in omega (arith, few, low)); puts = so.puts }

pub once-others : (to : SendTo) (whole : List ℕ) (most : ℕ) (drive : State) (part : List Marked) → AreBetween part → Once to whole most drive part
once-others to whole most drive [] between = record { few = omega arith; puts = tt }
once-others to whole most drive (Mine request served heard ∷ part) between = absurd between.0
once-others to whole most drive (Between next ∷ part) between =
    once-after to whole most most drive next part (omega arith) (once-others to whole most (after_step drive next) part between.1)

-- steps between, before the rest; of the drive after each something holds, and the rest may do no more than before
pub once-past : (to : SendTo) (whole : List ℕ) (I : State → Type 0) (most : State → ℕ) (sessions : List ℕ)
    → ((drive : State) (next : Step) → AllByRecursion (NamesNot next) sessions → I drive → I (after_step drive next) × (most (after_step drive next) ≤ most drive))
    → (drive : State) (others rest : List Marked) → AreBetween others → KeepsOff drive sessions (others ++ rest) → I drive
    → (I (after_marked drive others) → KeepsOff (after_marked drive others) sessions rest → Once to whole (most (after_marked drive others)) (after_marked drive others) rest)
    → Once to whole (most drive) drive (others ++ rest)
once-past to whole I most sessions stays drive [] rest between apart so then = then so apart
once-past to whole I most sessions stays drive (Mine request served heard ∷ others) rest between apart so then = absurd between.0
once-past to whole I most sessions stays drive (Between next ∷ others) rest between apart so then =
    let more = stays drive next apart.0 so in
    once-after to whole (most (after_step drive next)) (most drive) drive next (others ++ rest) more.1
    (once-past to whole I most sessions stays (after_step drive next) others rest between.1 apart.1 more.0 then)

-- ---- a request of the session
-- what it does, where it is accepted or not
pub record Acts (to : SendTo) (whole : List ℕ) (session : ℕ) (drive : State) (request : Request) (accepted : Bool) : Type 0 where
  pub puts : AllByRecursion (PutsSo to whole (held drive)) (cond accepted (effects_of drive request) [])
  pub few : length (cond accepted (effects_of drive request) []) + living (session_at session (cond accepted (after_request drive Own request) drive).sessions) ≤ living (session_at session drive.sessions)

not-accepted : (to : SendTo) (whole : List ℕ) (session : ℕ) (drive : State) (request : Request) → Acts to whole session drive request false
not-accepted to whole session drive request = record { puts = tt; few = omega arith }

-- one without an effect
idle : (to : SendTo) (whole : List ℕ) (session : ℕ) (drive : State) (request : Request) → effects_of drive request ≡ []
    → living (session_at session (after_request drive Own request).sessions) ≤ living (session_at session drive.sessions) → Acts to whole session drive request true
idle to whole session drive request none low = record {
  puts = subst (AllByRecursion (PutsSo to whole (held drive))) (sym none) tt;
  few = let long : length (effects_of drive request) ≡ 0 = ap length none in omega (arith, long, low);
}

-- a fragment makes no file, since the session is deferred
pub fragment-makes-none : (to : SendTo) (whole : List ℕ) (drive : State) (last total : ℕ) (bytes : List ℕ) (found : Option Session) → Lives to whole found
    → effects_at (fragment_effects drive last total bytes) found ≡ []
fragment-makes-none to whole drive last total bytes None so = refl
fragment-makes-none to whole drive last total bytes (Some session) so =
    let deferred : not session.defer ≡ false = ap not so.defer in
    let completes : (is_last last total && not session.defer) ≡ false = and_right (is_last last total) (not session.defer) deferred in
    ap (λ b. cond b (commit_effect drive session (session.filled ++ bytes) ∷ []) []) completes

living-accepted : (session : ℕ) (drive : State) (request : Request) → session ≤ length drive.openers → is_none (refusal drive request) ≡ true
    → living (session_at session (after_request drive Own request).sessions) ≤ living (session_at session drive.sessions)
living-accepted session drive request low accepted =
    let At : Bool → Type 0 = λ b. living (session_at session (cond b (after_request drive Own request) drive).sessions) ≤ living (session_at session drive.sessions) in
    subst At accepted (living-step session drive (step.Ask Own request true true) low)

-- a finish that is accepted puts all bytes, and ends the session
filled-total : (whole : List ℕ) (total : Option ℕ) (count : ℕ) → IfTotal whole total → is_filled total count ≡ true → count ≡ length whole
filled-total whole None count known is = absurd (cc is)
filled-total whole (Some total) count known is = eqb-true count total is ∙ known

whole-at-finish : (to : SendTo) (whole : List ℕ) (session : Session) (store : Option Refusal) → IsFor to whole session → is_none (or_else (by_session (finish_fault (Some session))) store) ≡ true
    → session.filled ≡ whole
whole-at-finish to whole session store so is =
    let none = no-session-fault (finish_fault (Some session)) (none-first (by_session (finish_fault (Some session))) store is) in
    let test = (clear (not session.defer || not (is_filled session.total (length session.filled))) Form None none).0 in
    let all : is_filled session.total (length session.filled) ≡ true = un-not (is_filled session.total (length session.filled)) (neither (not session.defer) (not (is_filled session.total (length session.filled))) test).1 in
    let long : length whole ≤ length session.filled = let e = filled-total whole session.total (length session.filled) so.total all in omega (arith, e) in
    so.part ∙ take_all (length session.filled) whole long

finish-puts : (to : SendTo) (whole : List ℕ) (drive : State) (session : Session) → IsFor to whole session → is_none (or_else (by_session (finish_fault (Some session))) (by_store (finish_refusal drive (Some session)))) ≡ true
    → AllByRecursion (PutsSo to whole (held drive)) (finish_effects drive session)
finish-puts to whole drive session so is =
    let all : session.filled ≡ whole = whole-at-finish to whole session (by_store (finish_refusal drive (Some session))) so is in
    let fault : None ≡ commit_refusal drive session session.filled =
    no-store-fault (commit_refusal drive session session.filled) (none-later (by_session (finish_fault (Some session))) (by_store (finish_refusal drive (Some session))) is) in
    let others : ℕ = held_bytes drive.sessions - length session.filled in
    let one : None ≡ put_refusal (held drive) (place_to to) whole (behaviour_of to) (condition_of to) others =
    subst (λ c. None ≡ put_refusal (held drive) (place_to to) whole (behaviour_of to) c others) so.condition
    (subst (λ b. None ≡ put_refusal (held drive) (place_to to) whole b session.condition others) so.behaviour
    (subst (λ p. None ≡ put_refusal (held drive) p whole session.behaviour session.condition others) so.place
    (subst (λ bytes. None ≡ put_refusal (held drive) session.place bytes session.behaviour session.condition others) all fault))) in
    let effect = put-so to whole (held drive) others one in (
      subst (λ p. PutsSo to whole (held drive) (put_effect (held drive) p session.filled session.behaviour)) (sym so.place)
          (subst (λ b. PutsSo to whole (held drive) (put_effect (held drive) (place_to to) session.filled b)) (sym so.behaviour)
          (subst (λ bytes. PutsSo to whole (held drive) (put_effect (held drive) (place_to to) bytes (behaviour_of to))) (sym all) effect)),
      tt,
    )

record Finishes (to : SendTo) (whole : List ℕ) (drive : State) (found : Option Session) : Type 0 where
  puts : AllByRecursion (PutsSo to whole (held drive)) (effects_at (finish_effects drive) found)
  few : length (effects_at (finish_effects drive) found) ≤ living found

finishes : (to : SendTo) (whole : List ℕ) (drive : State) (found : Option Session) → Lives to whole found
    → is_none (or_else (by_session (finish_fault found)) (by_store (finish_refusal drive found))) ≡ true → Finishes to whole drive found
finishes to whole drive None so is = absurd (cc is)
finishes to whole drive (Some session) so is = record { puts = finish-puts to whole drive session so is; few = lit≤ tt }

acts-finish : (to : SendTo) (whole : List ℕ) (session : ℕ) (drive : State) → Has to whole session drive → is_none (refusal drive (Finish session)) ≡ true → Acts to whole session drive (Finish session) true
acts-finish to whole session drive has is =
    let all = finishes to whole drive (session_at session drive.sessions) has.lives is in
    record {
      puts = all.puts;
      few =
          let gone : living (session_at session (without_session session drive.sessions)) ≡ 0 = ap living (at-gone session drive.sessions) in
          let few : length (effects_at (finish_effects drive) (session_at session drive.sessions)) ≤ living (session_at session drive.sessions) = all.few in
          omega (arith, gone, few);
    }

-- ---- where the session is
abbrev pub session_of : Stage → Option ℕ
session_of (Opened session sent) = Some session
session_of (AskStatus session sent) = Some session
session_of (Finishing session) = Some session
session_of (AskTotal session) = Some session
session_of (Cancelling session ended) = Some session
session_of stage = None

-- a fragment that is sent is a part of the file
pub fragment-long : (whole : List ℕ) (sent : ℕ) → sent < length whole → length (take (end_of (length whole) sent - sent) (drop sent whole)) ≡ end_of (length whole) sent - sent
fragment-long whole sent below =
    let count : ℕ = end_of (length whole) sent - sent in
    let least : min count (length whole - sent) ≡ count = omega arith in
    length-take count (drop sent whole) ∙ (ap (λ n. min count n) (length-drop sent whole) ∙ least)

fragment-part : (whole : List ℕ) (sent : ℕ) → sent < length whole
    → IsPart whole sent (end_of (length whole) sent - 1) (length whole) (take (end_of (length whole) sent - sent) (drop sent whole))
fragment-part whole sent below =
    let long : length (take (end_of (length whole) sent - sent) (drop sent whole)) ≡ end_of (length whole) sent - sent = fragment-long whole sent below in
    record {
      total_is = refl;
      last_is = omega (arith, long, below);
      part = ap (λ n. take n (drop sent whole)) (sym long);
    }

-- what is asked there
pub record Asks (to : SendTo) (whole : List ℕ) (session : ℕ) (drive : State) (request : Request) : Type 0 where
  pub fits : FragmentFits whole session request
  pub acts : is_none (refusal drive request) ≡ true → Acts to whole session drive request true
  pub opens : (served : Bool) → opened_by drive request served ≡ []

pub asks-at : (to : SendTo) (whole : List ℕ) (session : ℕ) (drive : State) (stage : Stage) (request : Request) → Has to whole session drive → session_of stage ≡ Some session
    → is_send_at (length whole) stage ≡ true → send_request to whole stage ≡ Some request → Asks to whole session drive request
asks-at to whole session drive (Opened number sent) request has is at asked =
    let same : number ≡ session = cc is in
    let asks : fragment_of number sent whole ≡ request = cc asked in
    let below : sent < length whole = ltb-true sent (length whole) at in
    subst (λ r. Asks to whole session drive r) asks (record {
      fits = λ one. fragment-part whole sent below;
      acts = λ accepted. idle to whole session drive (fragment_of number sent whole)
          (let Found : ℕ → Type 0 = λ n. effects_at (fragment_effects drive (end_of (length whole) sent - 1) (length whole) (take (end_of (length whole) sent - sent) (drop sent whole))) (session_at n drive.sessions) ≡ [] in
          subst Found (sym same)
          (fragment-makes-none to whole drive (end_of (length whole) sent - 1) (length whole) (take (end_of (length whole) sent - sent) (drop sent whole)) (session_at session drive.sessions) has.lives))
          (living-accepted session drive (fragment_of number sent whole) has.low accepted);
      opens = λ served. refl;
    })
asks-at to whole session drive (AskStatus number sent) request has is at asked =
    let asks : SessionStatus number ≡ request = cc asked in
    subst (λ r. Asks to whole session drive r) asks (record { fits = tt; acts = λ accepted. idle to whole session drive (SessionStatus number) refl (omega arith); opens = λ served. refl })
asks-at to whole session drive (Finishing number) request has is at asked =
    let same : number ≡ session = cc is in
    let asks : Finish number ≡ request = cc asked in
    let here : Asks to whole session drive (Finish session) = record { fits = tt; acts = λ accepted. acts-finish to whole session drive has accepted; opens = λ served. refl } in
    subst (λ r. Asks to whole session drive r) asks (subst (λ n. Asks to whole session drive (Finish n)) (sym same) here)
asks-at to whole session drive (AskTotal number) request has is at asked =
    let asks : SessionStatus number ≡ request = cc asked in
    subst (λ r. Asks to whole session drive r) asks (record { fits = tt; acts = λ accepted. idle to whole session drive (SessionStatus number) refl (omega arith); opens = λ served. refl })
asks-at to whole session drive (Cancelling number ended) request has is at asked =
    let asks : CancelSession number ≡ request = cc asked in
    subst (λ r. Asks to whole session drive r) asks
    (record { fits = tt; acts = λ accepted. idle to whole session drive (CancelSession number) refl (living-accepted session drive (CancelSession number) has.low accepted); opens = λ served. refl })
asks-at to whole session drive Putting request has is at asked = absurd (cc is)
asks-at to whole session drive Opening request has is at asked = absurd (cc is)
asks-at to whole session drive AskContent request has is at asked = absurd (cc is)
asks-at to whole session drive (AskDownload found version) request has is at asked = absurd (cc is)
asks-at to whole session drive Ended request has is at asked = absurd (cc is)

acts-if : (to : SendTo) (whole : List ℕ) (session : ℕ) (drive : State) (request : Request) (accepted : Bool) → (accepted ≡ true → Acts to whole session drive request true) → Acts to whole session drive request accepted
acts-if to whole session drive request true acts = acts refl
acts-if to whole session drive request false acts = not-accepted to whole session drive request

-- one request of the session, before the rest
once-asked : (to : SendTo) (whole : List ℕ) (session : ℕ) (drive : State) (request : Request) (served heard : Bool) (rest : List Marked) → Asks to whole session drive request
    → Once to whole (living (session_at session (after_step drive (step.Ask Own request served heard)).sessions)) (after_step drive (step.Ask Own request served heard)) rest
    → Once to whole (living (session_at session drive.sessions)) drive (Mine request served heard ∷ rest)
once-asked to whole session drive request served heard rest asks so =
    let acts = acts-if to whole session drive request (is_accepted drive request served) (λ accepted. asks.acts (and_parts served (is_none (refusal drive request)) accepted).1) in
    record {
      few =
          let long : length (effects_by drive (step.Ask Own request served heard) ++ job_effects (after_step drive (step.Ask Own request served heard)) rest)
          ≡ length (effects_by drive (step.Ask Own request served heard)) + length (job_effects (after_step drive (step.Ask Own request served heard)) rest) =
          length-append (effects_by drive (step.Ask Own request served heard)) (job_effects (after_step drive (step.Ask Own request served heard)) rest) in
          let few : length (job_effects (after_step drive (step.Ask Own request served heard)) rest) ≤ living (session_at session (after_step drive (step.Ask Own request served heard)).sessions) = so.few in
          let one : length (effects_by drive (step.Ask Own request served heard)) + living (session_at session (after_step drive (step.Ask Own request served heard)).sessions) ≤ living (session_at session drive.sessions) = acts.few in
          omega (arith, long, few, one);
      puts = (acts.puts, so.puts);
    }

-- ---- it stays the session of the send
abbrev TurnIn : ℕ → Turn → Type 0
TurnIn session (To stage) = session_of stage ≡ Some session
TurnIn session (End outcome) = Unit {0}

abbrev IfTurnIn : ℕ → Option Turn → Type 0
IfTurnIn session None = Unit {0}
IfTurnIn session (Some turn) = TurnIn session turn

abbrev pub NextIn : ℕ → Option Next → Type 0
NextIn session None = Unit {0}
NextIn session (Some (Goes now)) = session_of now.stage ≡ Some session
NextIn session (Some (Ends outcome)) = Unit {0}

sent-in : (session total number sent : ℕ) → Some number ≡ Some session → TurnIn session (sent_to total number sent)
sent-in session total number sent is = cond_both (nat_eq sent total) (To (Finishing number)) (To (Opened number sent)) (λ turn. TurnIn session turn) (λ all. is) (λ other. is)

fragment-in : (session total number sent : ℕ) (said : Reply) → Some number ≡ Some session → IfTurnIn session (fragment_turn total number sent said)
fragment-in session total number sent (reply.More expected) is =
    cond_both (nat_eq expected (end_of total sent)) (sent_to total number expected) (To (Cancelling number (why.Odd sent))) (λ turn. TurnIn session turn)
    (λ came. sent-in session total number expected is) (λ other. is)
fragment-in session total number sent (reply.Made item) is = is
fragment-in session total number sent (reply.Is item) is = is
fragment-in session total number sent (reply.Refused status code) is = is
fragment-in session total number sent said is = tt

status-in : (session total number sent : ℕ) (said : Reply) → Some number ≡ Some session → IfTurnIn session (status_turn total number sent said)
status-in session total number sent (reply.Status expected) is =
    cond_both (nat_eq expected sent) (To (Opened number sent)) (cond (nat_eq expected (end_of total sent)) (sent_to total number expected) (To (Cancelling number why.Lost))) (λ turn. TurnIn session turn)
    (λ before. is)
    (λ not_before. cond_both (nat_eq expected (end_of total sent)) (sent_to total number expected) (To (Cancelling number why.Lost)) (λ turn. TurnIn session turn)
    (λ came. sent-in session total number expected is) (λ other. is))
status-in session total number sent (reply.Refused status code) is =
    cond_both (nat_eq status 404) (End Lost) (To (Cancelling number (why.Refused code))) (λ turn. TurnIn session turn) (λ gone. tt) (λ other. is)
status-in session total number sent said is = tt

finish-in : (session number : ℕ) (said : Reply) → Some number ≡ Some session → IfTurnIn session (finish_turn number said)
finish-in session number (reply.Made item) is = tt
finish-in session number (reply.Is item) is = tt
finish-in session number (reply.Refused status code) is = is
finish-in session number said is = tt

total-in : (session total number : ℕ) (said : Reply) → Some number ≡ Some session → IfTurnIn session (total_turn total number said)
total-in session total number (reply.Status expected) is =
    cond_both (nat_eq expected total) (To (Finishing number)) (To (Cancelling number why.Lost)) (λ turn. TurnIn session turn) (λ all. is) (λ other. is)
total-in session total number (reply.Refused status code) is =
    cond_both (nat_eq status 404) (End Lost) (To (Cancelling number (why.Refused code))) (λ turn. TurnIn session turn) (λ gone. tt) (λ other. is)
total-in session total number said is = tt

reply-in : (session total : ℕ) (stage : Stage) (said : Reply) → session_of stage ≡ Some session → IfTurnIn session (send_turn total stage said)
reply-in session total (Opened number sent) said is = fragment-in session total number sent said is
reply-in session total (AskStatus number sent) said is = status-in session total number sent said is
reply-in session total (Finishing number) said is = finish-in session number said is
reply-in session total (AskTotal number) said is = total-in session total number said is
reply-in session total (Cancelling number ended) said is = tt
reply-in session total Putting said is = absurd (cc is)
reply-in session total Opening said is = absurd (cc is)
reply-in session total AskContent said is = tt
reply-in session total (AskDownload found version) said is = tt
reply-in session total Ended said is = tt

failure-in : (session : ℕ) (stage : Stage) → session_of stage ≡ Some session → IfTurnIn session (failure_turn stage)
failure-in session (Opened number sent) is = is
failure-in session (AskStatus number sent) is = is
failure-in session (Finishing number) is = is
failure-in session (AskTotal number) is = is
failure-in session (Cancelling number ended) is = tt
failure-in session Putting is = tt
failure-in session Opening is = tt
failure-in session AskContent is = is
failure-in session (AskDownload found version) is = is
failure-in session Ended is = tt

bad-in : (session : ℕ) (stage : Stage) (bytes : List ℕ) → IfTurnIn session (bad_turn stage bytes)
bad-in session (Cancelling number ended) bytes = tt
bad-in session Ended bytes = tt
bad-in session stage bytes = tt

turned-in : (session row failures : ℕ) (turn : Option Turn) → IfTurnIn session turn → NextIn session (after_turn row failures turn)
turned-in session row failures None is = tt
turned-in session row failures (Some (To stage)) is = is
turned-in session row failures (Some (End outcome)) is = tt

failed-in : (session row failures : ℕ) (turn : Option Turn) → IfTurnIn session turn → NextIn session (after_failure row failures turn)
failed-in session row failures None is = tt
failed-in session row failures (Some (To stage)) is =
    cond_both (is_last_failure row failures) (Ends Lost) (Goes (record { stage = stage; row = row; failures = failures })) (λ next. NextIn session (Some next)) (λ last. tt) (λ more. is)
failed-in session row failures (Some (End outcome)) is = tt

pub step-in : (to : SendTo) (whole : List ℕ) (session : ℕ) (now : Transfer) (answered : Answered) → session_of now.stage ≡ Some session → NextIn session (step_of (Send to whole) now answered)
step-in to whole session now (heard.Got said) is = turned-in session 0 now.failures (send_turn (length whole) now.stage said) (reply-in session (length whole) now.stage said is)
step-in to whole session now heard.Failed is = failed-in session (now.row + 1) (now.failures + 1) (failure_turn now.stage) (failure-in session now.stage is)
step-in to whole session now (heard.Bad bytes) is = turned-in session 0 now.failures (bad_turn now.stage bytes) (bad-in session now.stage bytes)

-- ---- a send whose session is open
others-keep : (to : SendTo) (whole : List ℕ) (session : ℕ) (drive : State) (next : Step) → AllByRecursion (NamesNot next) (session ∷ []) → Has to whole session drive
    → Has to whole session (after_step drive next) × (living (session_at session (after_step drive next).sessions) ≤ living (session_at session drive.sessions))
others-keep to whole session drive next apart has = (has-others to whole session drive next (no-names next session apart.0) has, living-step session drive next has.low)

-- after a request of the session the rest keeps off it
pub apart-asked : (to : SendTo) (whole : List ℕ) (session : ℕ) (drive : State) (request : Request) (served heard : Bool) (rest : List Marked) → Asks to whole session drive request
    → KeepsOff drive (session ∷ []) (Mine request served heard ∷ rest) → KeepsOff (after_step drive (step.Ask Own request served heard)) (session ∷ []) rest
apart-asked to whole session drive request served heard rest asks apart =
    let Off : List ℕ → Type 0 = λ opened. KeepsOff (after_step drive (step.Ask Own request served heard)) (opened ++ session ∷ []) rest in
    subst Off (asks.opens served) apart

-- what a request adds to the log, before the rest
once-own : (to : SendTo) (whole : List ℕ) (session : ℕ) (drive : State) (exchange : Exchange) (own rest : List Marked) → Asks to whole session drive exchange.request → Has to whole session drive
    → Comes drive exchange own → KeepsOff drive (session ∷ []) (own ++ rest)
    → (Has to whole session (after_marked drive own) → KeepsOff (after_marked drive own) (session ∷ []) rest → Once to whole (living (session_at session (after_marked drive own).sessions)) (after_marked drive own) rest)
    → Once to whole (living (session_at session drive.sessions)) drive (own ++ rest)
once-own to whole session drive exchange [] rest asks has comes apart then = then has apart
once-own to whole session drive exchange (Mine request served true ∷ []) rest asks has comes apart then =
    let here : Asks to whole session drive request = subst (λ r. Asks to whole session drive r) (sym comes.0) asks in
    once-asked to whole session drive request served true rest here
    (then (has-step to whole session drive (step.Ask Own request served true) here.fits has) (apart-asked to whole session drive request served true rest here apart))
once-own to whole session drive exchange (Mine request served false ∷ []) rest asks has comes apart then =
    let here : Asks to whole session drive request = subst (λ r. Asks to whole session drive r) (sym comes.0) asks in
    once-asked to whole session drive request served false rest here
    (then (has-step to whole session drive (step.Ask Own request served false) here.fits has) (apart-asked to whole session drive request served false rest here apart))
once-own to whole session drive exchange own rest asks has comes apart then = absurd comes

once-open : (to : SendTo) (whole : List ℕ) (session : ℕ) (from : Option Next) (exchanges : List Exchange) (next : Next) (drive : State) (part : List Marked) → IfNext (Send to whole) from → NextIn session from
    → Leads (Send to whole) from exchanges next → Told drive exchanges part → KeepsOff drive (session ∷ []) part → Has to whole session drive
    → Once to whole (living (session_at session drive.sessions)) drive part
once-open to whole session from [] next drive part stands is leads told apart has = once-others to whole (living (session_at session drive.sessions)) drive part told
once-open to whole session (Some (Goes now)) (exchange ∷ exchanges) next drive part stands is leads told apart has =
    let first = told.0 in
    let apart_split : KeepsOff drive (session ∷ []) (first.others ++ (first.own ++ first.rest)) = subst (λ p. KeepsOff drive (session ∷ []) p) first.split apart in
    let there : State = after_marked drive first.others in
    let all : Once to whole (living (session_at session drive.sessions)) drive (first.others ++ (first.own ++ first.rest)) =
    once-past to whole (Has to whole session) (λ d. living (session_at session d.sessions)) (session ∷ []) (others-keep to whole session) drive first.others (first.own ++ first.rest) first.between apart_split has
    (λ has_there apart_there.
    once-own to whole session there exchange first.own first.rest (asks-at to whole session there now.stage exchange.request has_there is stands.at leads.0) has_there first.comes apart_there
    (λ has_then apart_then. once-open to whole session (step_of (Send to whole) now exchange.answered) exchanges next (after_marked there first.own) first.rest
    (step-stands (Send to whole) now exchange.answered stands) (step-in to whole session now exchange.answered is) leads.1 told.1 apart_then has_then)) in
    subst (λ p. Once to whole (living (session_at session drive.sessions)) drive p) (sym first.split) all
once-open to whole session (Some (Ends outcome)) (exchange ∷ exchanges) next drive part stands is leads told apart has = absurd leads
once-open to whole session None (exchange ∷ exchanges) next drive part stands is leads told apart has = absurd leads

-- ---- its beginning
-- nothing is asked after the end
abbrev pub IsOver : Option Next → Type 0
IsOver None = Unit {0}
IsOver (Some (Goes now)) = ⊥
IsOver (Some (Ends outcome)) = Unit {0}

once-over : (to : SendTo) (whole : List ℕ) (from : Option Next) (exchanges : List Exchange) (next : Next) (most : ℕ) (drive : State) (part : List Marked) → IsOver from
    → Leads (Send to whole) from exchanges next → Told drive exchanges part → Once to whole most drive part
once-over to whole from [] next most drive part over leads told = once-others to whole most drive part told
once-over to whole (Some (Goes now)) (exchange ∷ exchanges) next most drive part over leads told = absurd over
once-over to whole (Some (Ends outcome)) (exchange ∷ exchanges) next most drive part over leads told = absurd leads
once-over to whole None (exchange ∷ exchanges) next most drive part over leads told = absurd leads

-- one request without an effect, or with one, before the rest
once-before : (to : SendTo) (whole : List ℕ) (more most : ℕ) (drive : State) (request : Request) (served heard : Bool) (rest : List Marked)
    → AllByRecursion (PutsSo to whole (held drive)) (effects_by drive (step.Ask Own request served heard))
    → length (effects_by drive (step.Ask Own request served heard)) + more ≤ most → Once to whole more (after_step drive (step.Ask Own request served heard)) rest
    → Once to whole most drive (Mine request served heard ∷ rest)
once-before to whole more most drive request served heard rest puts one so = record {
  few =
      let long : length (effects_by drive (step.Ask Own request served heard) ++ job_effects (after_step drive (step.Ask Own request served heard)) rest)
      ≡ length (effects_by drive (step.Ask Own request served heard)) + length (job_effects (after_step drive (step.Ask Own request served heard)) rest) =
      length-append (effects_by drive (step.Ask Own request served heard)) (job_effects (after_step drive (step.Ask Own request served heard)) rest) in
      let few : length (job_effects (after_step drive (step.Ask Own request served heard)) rest) ≤ more = so.few in
      omega (arith, long, few, one);
  puts = (puts, so.puts);
}

-- a file that is put at once
put-over : (failures : ℕ) (turn : Reply) → IsOver (after_turn 0 failures (put_turn turn))
put-over failures (reply.Made item) = tt
put-over failures (reply.Is item) = tt
put-over failures (reply.Refused status code) = tt
put-over failures said = tt

pub putting-over : (to : SendTo) (whole : List ℕ) (answered : Answered) → IsOver (step_of (Send to whole) (record { stage = Putting; row = 0; failures = 0 }) answered)
putting-over to whole (heard.Got said) = put-over 0 said
putting-over to whole heard.Failed = tt
putting-over to whole (heard.Bad bytes) = tt

record PutEffects (to : SendTo) (whole : List ℕ) (drive : State) (effects : List Effect) : Type 0 where
  puts : AllByRecursion (PutsSo to whole (held drive)) effects
  few : length effects ≤ 1

put-allowed : (to : SendTo) (whole : List ℕ) (drive : State) → is_none (refusal drive (Put (address_of to) whole (behaviour_of to) (condition_of to))) ≡ true
    → None ≡ put_refusal (held drive) (place_to to) whole (behaviour_of to) (condition_of to) (held_bytes drive.sessions)
put-allowed to whole drive is =
    let fault : Option Place → Option StoreFault = λ found. at_target (λ place. put_refusal (held drive) place whole (behaviour_of to) (condition_of to) (held_bytes drive.sessions)) found in
    let none : None ≡ refusal drive (Put (address_of to) whole (behaviour_of to) (condition_of to)) = none-from (refusal drive (Put (address_of to) whole (behaviour_of to) (condition_of to))) is in
    let store = (clear (nat_lt 4194304 (length whole)) (refuse 413 InvalidRequest) (by_store (fault (place_of (held drive) (address_of to)))) none).1 in
    let found = no-store-fault (fault (place_of (held drive) (address_of to))) store in
    let Free : Option Place → Type 0 = λ at. None ≡ fault at in
    subst Free (place-found to (held drive)) found

put-effects : (to : SendTo) (whole : List ℕ) (drive : State) (accepted : Bool)
    → (accepted ≡ true → is_none (refusal drive (Put (address_of to) whole (behaviour_of to) (condition_of to))) ≡ true)
    → PutEffects to whole drive (cond accepted (effects_of drive (Put (address_of to) whole (behaviour_of to) (condition_of to))) [])
put-effects to whole drive false is = record { puts = tt; few = lit≤ tt }
put-effects to whole drive true is =
    let Found : Option Place → Type 0 = λ found. PutEffects to whole drive (effects_at (λ place. put_effect (held drive) place whole (behaviour_of to) ∷ []) found) in
    subst Found (sym (place-found to (held drive))) (record {
      puts = (put-so to whole (held drive) (held_bytes drive.sessions) (put-allowed to whole drive (is refl)), tt);
      few = lit≤ tt;
    })

abbrev pub putting : Transfer
putting = record { stage = Putting; row = 0; failures = 0 }

putting-asked : (to : SendTo) (whole : List ℕ) (drive : State) (exchange : Exchange) (exchanges : List Exchange) (next : Next) (request : Request) (served heard : Bool) (rest : List Marked)
    → Put (address_of to) whole (behaviour_of to) (condition_of to) ≡ request → Leads (Send to whole) (step_of (Send to whole) putting exchange.answered) exchanges next
    → Told (after_step drive (step.Ask Own request served heard)) exchanges rest → Once to whole 1 drive (Mine request served heard ∷ rest)
putting-asked to whole drive exchange exchanges next request served heard rest asks leads told =
    let Effects : Request → Type 0 = λ r. PutEffects to whole drive (effects_by drive (step.Ask Own r served heard)) in
    let put : Request = Put (address_of to) whole (behaviour_of to) (condition_of to) in
    let effects : PutEffects to whole drive (effects_by drive (step.Ask Own request served heard)) =
    subst Effects asks (put-effects to whole drive (is_accepted drive put served) (λ accepted. (and_parts served (is_none (refusal drive put)) accepted).1)) in
    once-before to whole 0 1 drive request served heard rest effects.puts (let few : length (effects_by drive (step.Ask Own request served heard)) ≤ 1 = effects.few in omega (arith, few))
    (once-over to whole (step_of (Send to whole) putting exchange.answered) exchanges next 0 (after_step drive (step.Ask Own request served heard)) rest (putting-over to whole exchange.answered) leads told)

putting-own : (to : SendTo) (whole : List ℕ) (drive : State) (exchange : Exchange) (exchanges : List Exchange) (next : Next) (own rest : List Marked)
    → Put (address_of to) whole (behaviour_of to) (condition_of to) ≡ exchange.request → Leads (Send to whole) (step_of (Send to whole) putting exchange.answered) exchanges next
    → Comes drive exchange own → Told (after_marked drive own) exchanges rest → Once to whole 1 drive (own ++ rest)
putting-own to whole drive exchange exchanges next [] rest asks leads comes told =
    once-over to whole (step_of (Send to whole) putting exchange.answered) exchanges next 1 drive rest (putting-over to whole exchange.answered) leads told
putting-own to whole drive exchange exchanges next (Mine request served true ∷ []) rest asks leads comes told = putting-asked to whole drive exchange exchanges next request served true rest (asks ∙ sym comes.0) leads told
putting-own to whole drive exchange exchanges next (Mine request served false ∷ []) rest asks leads comes told = putting-asked to whole drive exchange exchanges next request served false rest (asks ∙ sym comes.0) leads told
putting-own to whole drive exchange exchanges next own rest asks leads comes told = absurd comes

-- steps between before, of a send whose session is not open
every-stays : (drive : State) (next : Step) → AllByRecursion (NamesNot next) [] → EveryDrive drive → EveryDrive (after_step drive next) × (1 ≤ 1)
every-stays drive next apart every = (kept-step drive next every, lit≤ tt)

once-putting : (to : SendTo) (whole : List ℕ) (exchanges : List Exchange) (next : Next) (drive : State) (part : List Marked) → Leads (Send to whole) (Some (Goes putting)) exchanges next
    → Told drive exchanges part → KeepsOff drive [] part → EveryDrive drive → Once to whole 1 drive part
once-putting to whole [] next drive part leads told apart every = once-others to whole 1 drive part told
once-putting to whole (exchange ∷ exchanges) next drive part leads told apart every =
    let first = told.0 in
    let asks : Put (address_of to) whole (behaviour_of to) (condition_of to) ≡ exchange.request = cc leads.0 in
    let apart_split : KeepsOff drive [] (first.others ++ (first.own ++ first.rest)) = subst (λ p. KeepsOff drive [] p) first.split apart in
    subst (λ p. Once to whole 1 drive p) (sym first.split)
    (once-past to whole EveryDrive (λ d. 1) [] every-stays drive first.others (first.own ++ first.rest) first.between apart_split every
    (λ every_there apart_there. putting-own to whole (after_marked drive first.others) exchange exchanges next first.own first.rest asks leads.1 first.comes told.1))

-- ---- a send that opens a session
abbrev pub opening : Transfer
opening = record { stage = Opening; row = 0; failures = 0 }

abbrev pub open_request : SendTo → Request
open_request to = OpenSession (address_of to) None (behaviour_of to) (condition_of to) true

abbrev new_session : SendTo → ℕ → Session
new_session to number = record { number = number; place = place_to to; behaviour = behaviour_of to; condition = condition_of to; defer = true; total = None; filled = [] }

-- the session after it, which holds no bytes yet
opened-there : (to : SendTo) (drive : State) → EveryDrive drive
    → session_at (length drive.openers + 1) (after_request drive Own (open_request to)).sessions ≡ Some (new_session to (length drive.openers + 1))
opened-there to drive every =
    let count : ℕ = length drive.openers in
    let Found : Option Place → Type 0 = λ found. session_at (count + 1) (opened (count + 1) found (behaviour_of to) (condition_of to) true drive.sessions) ≡ Some (new_session to (count + 1)) in
    subst Found (sym (place-found to (held drive)))
    (new-at (count + 1) drive.sessions (new_session to (count + 1)) refl (none-at count drive.sessions (each (IsOpen count) drive.sessions every.sessions)))

opened-has : (to : SendTo) (whole : List ℕ) (drive : State) → EveryDrive drive → Has to whole (length drive.openers + 1) (after_request drive Own (open_request to))
opened-has to whole drive every =
    let longer : length (drive.openers ++ Own ∷ []) ≡ length drive.openers + 1 = length_push drive.openers Own in
    let new : IsFor to whole (new_session to (length drive.openers + 1)) = record { place = refl; behaviour = refl; condition = refl; defer = refl; part = refl; total = tt } in
    record {
      low = omega (arith, longer);
      lives = subst (Lives to whole) (sym (opened-there to drive every)) new;
    }

opened-empty : (to : SendTo) (drive : State) → EveryDrive drive
    → IfAlive (λ (session : Session). length session.filled ≡ 0) (session_at (length drive.openers + 1) (after_request drive Own (open_request to)).sessions)
opened-empty to drive every = let Empty : Option Session → Type 0 = λ found. IfAlive (λ (session : Session). length session.filled ≡ 0) found in subst Empty (sym (opened-there to drive every)) refl

-- what an answer to the opening leads to: nothing more, or a session that is open, which the request opened
abbrev pub Leading : Answered → SendTo → List ℕ → List ℕ → State → Type 0
Leading answered to whole opened drive =
    IsOver (step_of (Send to whole) opening answered)
    ⊎ ((session : ℕ) × (step_of (Send to whole) opening answered ≡ Some (Goes (record { stage = Opened session 0; row = 0; failures = 0 }))) × Has to whole session drive
    × IfAlive (λ (new : Session). length new.filled ≡ 0) (session_at session drive.sessions) × (opened ≡ session ∷ []))

session-shown : (to : SendTo) (whole : List ℕ) (plain : Bool) (session : ℕ)
    → step_of (Send to whole) opening (heard.Got (shown plain (reply.Session session 0))) ≡ Some (Goes (record { stage = Opened session 0; row = 0; failures = 0 }))
session-shown to whole true session = refl
session-shown to whole false session = refl

refused-over : (to : SendTo) (whole : List ℕ) (plain : Bool) (why : Refusal) → IsOver (step_of (Send to whole) opening (heard.Got (shown plain (refused why))))
refused-over to whole true why = tt
refused-over to whole false why = tt

pub open-answer : (to : SendTo) (whole : List ℕ) (drive : State) (served : Bool) (size : ℕ) → EveryDrive drive
    → Leading (heard.Got (answer_served served drive size (open_request to))) to whole (opened_by drive (open_request to) served) (after_step drive (step.Ask Own (open_request to) served true))
open-answer to whole drive false size every = inl tt
open-answer to whole drive true size every = by (refusal drive (open_request to))
  where
    by : (why : Option Refusal)
        → Leading (heard.Got (shown drive.plain (answer_unless why drive size (open_request to)))) to whole (cond (is_none why) ((length drive.openers + 1) ∷ []) []) (cond (is_none why) (after_request drive Own (open_request to)) drive)
    by None = inr (length drive.openers + 1, session-shown to whole drive.plain (length drive.openers + 1), opened-has to whole drive every, opened-empty to drive every, refl)
    by (Some why) = inl (refused-over to whole drive.plain why)

opening-none : (to : SendTo) (drive : State) (request : Request) (served heard : Bool) → open_request to ≡ request → effects_by drive (step.Ask Own request served heard) ≡ []
opening-none to drive request served heard asks = subst (λ r. effects_by drive (step.Ask Own r served heard) ≡ []) asks (by (is_accepted drive (open_request to) served))
  where
    by : (b : Bool) → cond b (effects_of drive (open_request to)) [] ≡ []
    by true = refl
    by false = refl

once-idle : (to : SendTo) (whole : List ℕ) (drive : State) (request : Request) (served heard : Bool) (rest : List Marked) → open_request to ≡ request
    → Once to whole 1 (after_step drive (step.Ask Own request served heard)) rest → Once to whole 1 drive (Mine request served heard ∷ rest)
once-idle to whole drive request served heard rest asks so =
    let none : effects_by drive (step.Ask Own request served heard) ≡ [] = opening-none to drive request served heard asks in
    let long : length (effects_by drive (step.Ask Own request served heard)) ≡ 0 = ap length none in
    once-before to whole 1 1 drive request served heard rest (subst (AllByRecursion (PutsSo to whole (held drive))) (sym none) tt) (omega (arith, long)) so

living-one : (found : Option Session) → living found ≤ 1
living-one None = lit≤ tt
living-one (Some session) = lit≤ tt

-- the failure of an opening ends the send
pub failed-over : (to : SendTo) (whole : List ℕ) (answered : Answered) → answered ≡ heard.Failed → IsOver (step_of (Send to whole) opening answered)
failed-over to whole answered is = subst (λ a. IsOver (step_of (Send to whole) opening a)) (sym is) tt

opening-heard : (to : SendTo) (whole : List ℕ) (drive : State) (answered : Answered) (opened : List ℕ) (exchanges : List Exchange) (next : Next) (rest : List Marked) → nat_lt 327680 (length whole) ≡ true
    → Leads (Send to whole) (step_of (Send to whole) opening answered) exchanges next → Told drive exchanges rest → KeepsOff drive (opened ++ []) rest → Leading answered to whole opened drive
    → Once to whole 1 drive rest
opening-heard to whole drive answered opened exchanges next rest long leads told apart leading =
    ⊎_elim (λ over. once-over to whole (step_of (Send to whole) opening answered) exchanges next 1 drive rest over leads told)
    (λ led.
    let going : IsGoing (Send to whole) opening = record { at = long; row = lit< tt; failures = lit< tt } in
    let stays : NextIn led.0 (step_of (Send to whole) opening answered) = subst (NextIn led.0) (sym led.1) refl in
    let off : KeepsOff drive (led.0 ∷ []) rest = subst (λ sessions. KeepsOff drive (sessions ++ []) rest) led.4 apart in
    once-weaker to whole (living (session_at led.0 drive.sessions)) 1 drive rest (living-one (session_at led.0 drive.sessions))
    (once-open to whole led.0 (step_of (Send to whole) opening answered) exchanges next drive rest (step-stands (Send to whole) opening answered going) stays leads told off led.2))
    leading

opening-own : (to : SendTo) (whole : List ℕ) (drive : State) (exchange : Exchange) (exchanges : List Exchange) (next : Next) (own rest : List Marked) → nat_lt 327680 (length whole) ≡ true
    → open_request to ≡ exchange.request → Leads (Send to whole) (step_of (Send to whole) opening exchange.answered) exchanges next → Comes drive exchange own
    → Told (after_marked drive own) exchanges rest → KeepsOff drive [] (own ++ rest) → EveryDrive drive → Once to whole 1 drive (own ++ rest)
opening-own to whole drive exchange exchanges next [] rest long asks leads comes told apart every =
    once-over to whole (step_of (Send to whole) opening exchange.answered) exchanges next 1 drive rest (failed-over to whole exchange.answered comes) leads told
opening-own to whole drive exchange exchanges next (Mine request served true ∷ []) rest long asks leads comes told apart every =
    let same : open_request to ≡ request = asks ∙ sym comes.0 in
    let after : State = after_step drive (step.Ask Own request served true) in
    once-idle to whole drive request served true rest same
    (⊎_elim
    (λ failed. once-over to whole (step_of (Send to whole) opening exchange.answered) exchanges next 1 after rest (failed-over to whole exchange.answered failed) leads told)
    (λ got.
    let Said : Request → Type 0 = λ r. Leading (heard.Got (answer_served served drive got.0 r)) to whole (opened_by drive r served) (after_step drive (step.Ask Own r served true)) in
    let said = subst Said same (open-answer to whole drive served got.0 every) in
    let Answer : Answered → Type 0 = λ a. Leading a to whole (opened_by drive request served) after in
    opening-heard to whole after exchange.answered (opened_by drive request served) exchanges next rest long leads told apart (subst Answer (sym got.1) said))
    comes.1)
opening-own to whole drive exchange exchanges next (Mine request served false ∷ []) rest long asks leads comes told apart every =
    once-idle to whole drive request served false rest (asks ∙ sym comes.0)
    (once-over to whole (step_of (Send to whole) opening exchange.answered) exchanges next 1 (after_step drive (step.Ask Own request served false)) rest (failed-over to whole exchange.answered comes.1) leads told)
opening-own to whole drive exchange exchanges next own rest long asks leads comes told apart every = absurd comes

once-opening : (to : SendTo) (whole : List ℕ) (exchanges : List Exchange) (next : Next) (drive : State) (part : List Marked) → nat_lt 327680 (length whole) ≡ true
    → Leads (Send to whole) (Some (Goes opening)) exchanges next → Told drive exchanges part → KeepsOff drive [] part → EveryDrive drive → Once to whole 1 drive part
once-opening to whole [] next drive part long leads told apart every = once-others to whole 1 drive part told
once-opening to whole (exchange ∷ exchanges) next drive part long leads told apart every =
    let first = told.0 in
    let asks : open_request to ≡ exchange.request = cc leads.0 in
    let apart_split : KeepsOff drive [] (first.others ++ (first.own ++ first.rest)) = subst (λ p. KeepsOff drive [] p) first.split apart in
    subst (λ p. Once to whole 1 drive p) (sym first.split)
    (once-past to whole EveryDrive (λ d. 1) [] every-stays drive first.others (first.own ++ first.rest) first.between apart_split every
    (λ every_there apart_there. opening-own to whole (after_marked drive first.others) exchange exchanges next first.own first.rest long asks leads.1 first.comes told.1 apart_there every_there))

-- ---- a send
pub send-once : (to : SendTo) (whole : List ℕ) (old : List Step) (part : List Marked) (exchanges : List Exchange) (next : Next) → RunsTo (Send to whole) exchanges next → Told (state_of old) exchanges part
    → KeepsOff (state_of old) [] part → Once to whole 1 (state_of old) part
send-once to whole old part exchanges next runs told apart = by (is_short (length whole)) refl runs
  where
    by : (short : Bool) → is_short (length whole) ≡ short → Leads (Send to whole) (Some (Goes (record { stage = cond short Putting Opening; row = 0; failures = 0 }))) exchanges next
        → Once to whole 1 (state_of old) part
    by true is leads = once-putting to whole exchanges next (state_of old) part leads told apart (every-drive old)
    by false is leads = once-opening to whole exchanges next (state_of old) part (lt-ltb 327680 (length whole) (leb-false (length whole) 327680 is)) leads told apart (every-drive old)
