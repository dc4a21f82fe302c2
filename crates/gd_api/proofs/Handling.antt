-- What a request does to a drive.
use Rattle.std.proofs.Common.{◌≡◌, ℕ, ◌+◌, ◌≤◌, Bool, true, false, cond, nat_lt, List, [], ◌∷◌, ◌++◌, length, Option, Some, None, Result, Ok, Err, OnErr, refl, sym, ap, ◌∙◌, subst, inl, inr, append-nil, arith}
use Rattle.std.specs.Prelude.{is_none}
use Rattle.std.proofs.lemmas.Bool.Decides.{nat_tests}
use Rattle.gd_item.specs.Answers.{refused, unserved, answer_unless, reply_to, shown, bare_reply}
use Rattle.gd_item.specs.Faults.{status_of, code_of, session_status_of, session_code_of}
use Rattle.gd_item.specs.Inventory.{Effect}
use Rattle.gd_item.specs.Refused.{Refusal, refuse, refusal, by_store, by_session, with_sessions}
use Rattle.gd_item.specs.Sessions.{State, new_state, held, held_bytes}
use Rattle.gd_item.specs.Steps.{state_of, after_request, after_event, after_step, after_steps, effects_of, sessions_of, openers_of, is_accepted}
use Rattle.gd_item.specs.declared.fault.SessionFault.{SessionFault}
use Rattle.gd_item.specs.declared.fault.StoreFault.{StoreFault}
use Rattle.gd_item.specs.declared.fault.StoreFault.TheVariants.{Quota}
use Rattle.gd_item.specs.declared.reply.Reply.{Reply}
use Rattle.gd_item.specs.declared.reply.Reply.TheVariants as reply
use Rattle.gd_item.specs.declared.request.Request.{Request}
use Rattle.gd_item.specs.declared.step.DriveEvent.{DriveEvent}
use Rattle.gd_item.specs.declared.step.Step.{Step}
use Rattle.gd_item.specs.declared.step.Step.TheVariants.{Ask, Event}
use Rattle.gd_item.specs.declared.step.Who.{Who}
use Rattle.gd_item.specs.declared.step.Who.TheVariants.{Own}
use Rattle.gd_laws.proofs.Every.{every-drive}
use Rattle.gd_store.specs.Stands as store
use Rattle.gd_store.specs.Stands.{StoreValue}
use Rattle.gd_upload.specs.Stands as upload
use Rattle.gd_upload.specs.Stands.{SessionsValue}
use Rattle.gd_api.specs.Drives.{DriveValue, Has, Stands, Serves, is_refusal}
use Rattle.gd_api.specs.Replies.{reply_of, session_reply_of, whole_answer}

after_steps-snoc : (state : State) (log : List Step) (step : Step) → after_steps state (log ++ step ∷ []) ≡ after_step (after_steps state log) step
after_steps-snoc state [] step = refl
after_steps-snoc state (first ∷ log) step = after_steps-snoc (after_step state first) log step

-- it stands for a longer log
more : (drive : DriveValue) (log : List Step) (step : Step) → Has drive (after_step (state_of log) step) → Stands drive (log ++ step ∷ [])
more drive log step has = subst (Has drive) (sym (after_steps-snoc new_state log step)) has

passed : (drive : DriveValue) (log : List Step) (who : Who) (request : Request) (served heard : Bool) → is_accepted (state_of log) request served ≡ false
    → Has drive (state_of log) → Stands drive (log ++ Ask who request served heard ∷ [])
passed drive log who request served heard is has =
    more drive log (Ask who request served heard) (subst (λ b. Has drive (cond b (after_request (state_of log) who request) (state_of log))) (sym is) has)

abbrev pub Serving : DriveValue → DriveValue → List Step → Request → Reply → Type 0
Serving old new log request reply = Serves old new log request reply (whole_answer (state_of log) old.size request)

-- a request that is accepted, one that is refused, and want of memory
pub accepted : (old new : DriveValue) (log : List Step) (request : Request) (reply : Reply) → refusal (state_of log) request ≡ None
    → reply ≡ reply_to (state_of log) (after_request (state_of log) Own request) old.size request → ((who : Who) → Has new (after_request (state_of log) who request)) → Serving old new log request reply
accepted old new log request reply none is now =
    let state = state_of log in
    record {
      answered = inl (
        is ∙ sym (ap (λ r. answer_unless r state old.size request) none),
        λ who heard. more new log (Ask who request true heard) (subst (λ b. Has new (cond b (after_request state who request) state)) (sym (ap is_none none)) (now who)),
      );
    }

pub refused-so : (drive : DriveValue) (log : List Step) (request : Request) (reply : Reply) (cause : Refusal) → Has drive (state_of log) → refusal (state_of log) request ≡ Some cause
    → reply ≡ refused cause → Serving drive drive log request reply
refused-so drive log request reply cause has is same = record {
  answered = inl (same ∙ sym (ap (λ r. answer_unless r (state_of log) drive.size request) is), λ who heard. passed drive log who request true heard (ap is_none is) has);
}

pub unserved-so : (drive : DriveValue) (log : List Step) (request : Request) (reply : Reply) → Has drive (state_of log) → reply ≡ unserved → Serving drive drive log request reply
unserved-so drive log request reply has same = record { answered = inr (same, refl, λ who heard. passed drive log who request false heard refl has) }

-- a refusal of the store, and of the sessions
pub store-refused : (drive : DriveValue) (log : List Step) (request : Request) (reply : Reply) (why : StoreFault) (fault : Option StoreFault) → Has drive (state_of log)
    → (fault ≡ Some why → refusal (state_of log) request ≡ by_store (Some why))
    → reply ≡ reply_of (Err why) → store.Answers {T = Reply} fault (Err why) (λ given. Unit {0}) → Serving drive drive log request reply
store-refused drive log request reply why fault has cause made told = elim told.err [
  | inl memory ↦ unserved-so drive log request reply has (made ∙ ap (λ f. refused (refuse (status_of f) (code_of f))) memory)
  | inr is ↦ refused-so drive log request reply (refuse (status_of why) (code_of why)) has (cause is) made
]

pub session-refused : (drive : DriveValue) (log : List Step) (request : Request) (reply : Reply) (why : SessionFault) (fault : Option SessionFault) → Has drive (state_of log)
    → (fault ≡ Some why → refusal (state_of log) request ≡ by_session (Some why))
    → reply ≡ session_reply_of (Err why) → upload.Answers {T = Reply} fault (Err why) (λ given. Unit {0}) → Serving drive drive log request reply
session-refused drive log request reply why fault has cause made told = elim told.err [
  | inl memory ↦ unserved-so drive log request reply has (made ∙ ap (λ f. refused (refuse (session_status_of f) (session_code_of f))) memory)
  | inr is ↦ refused-so drive log request reply (refuse (session_status_of why) (session_code_of why)) has (cause is) made
]

-- the result of a step of the store and of the sessions
pub committed : (inside : DriveValue) (new : StoreValue) (left : SessionsValue) (log : List Step) (request : Request) (fault : Option StoreFault) (result : Result Reply StoreFault) (reply : Reply)
    → reply ≡ reply_of result → Has inside (state_of log) → refusal (state_of log) request ≡ by_store fault → ((who : Who) → openers_of (state_of log) who request ≡ (state_of log).openers)
    → store.Answers fault result (λ given. (given ≡ reply_to (state_of log) (after_request (state_of log) Own request) inside.size request)
    × store.Stands new ((state_of log).effects ++ effects_of (state_of log) request) (state_of log).epoch (state_of log).floor
    × upload.Stands left (sessions_of (state_of log) request) (length (state_of log).openers))
    → OnErr result ((new ≡ inside.store) × (left ≡ inside.sessions)) → Serving inside (record inside { store = new; sessions = left }) log request reply
committed inside new left log request fault (Ok given) reply made has cause same told kept =
    let state = state_of log in
    accepted inside (record inside { store = new; sessions = left }) log request reply (cause ∙ ap by_store told.ok.0) (made ∙ told.ok.1.0)
    (λ who. record {
      size = has.size;
      store = told.ok.1.1;
      sessions = subst (λ (openers : List Who). upload.Stands left (sessions_of state request) (length openers)) (sym (same who)) told.ok.1.2;
      plain = has.plain;
    })
committed inside new left log request fault (Err why) reply made has cause same told kept =
    let whole : record inside { store = new; sessions = left } ≡ inside =
    ap (λ (s : StoreValue). record inside { store = s; sessions = left }) kept.0 ∙ ap (λ (l : SessionsValue). record inside { sessions = l }) kept.1 in
    subst (λ d. Serving inside d log request reply) (sym whole) (store-refused inside log request reply why fault has (λ is. cause ∙ ap by_store is) made (record { ok = tt; err = told.err }))

pub answers-so : {T : Type 0} {P Q : T → Type 0} (fault : Option StoreFault) (result : Result T StoreFault) → ((x : T) → P x → Q x) → store.Answers fault result P → store.Answers fault result Q
answers-so fault (Ok x) so answer = record { ok = (answer.ok.0, so x answer.ok.1); err = tt }
answers-so fault (Err why) so answer = record { ok = tt; err = answer.err }

both-kept : (new old : StoreValue) (sessions : SessionsValue) (result : Result Reply StoreFault) → OnErr result (new ≡ old) → OnErr result ((new ≡ old) × (sessions ≡ sessions))
both-kept new old sessions (Ok given) kept = tt
both-kept new old sessions (Err why) kept = (kept, refl)

-- the result of a step of the store
pub stepped : (inside : DriveValue) (new : StoreValue) (log : List Step) (request : Request) (fault : Option StoreFault) (result : Result Reply StoreFault) (reply : Reply)
    → reply ≡ reply_of result → Has inside (state_of log) → refusal (state_of log) request ≡ by_store fault → sessions_of (state_of log) request ≡ (state_of log).sessions
    → ((who : Who) → openers_of (state_of log) who request ≡ (state_of log).openers)
    → store.Answers fault result (λ given. (given ≡ reply_to (state_of log) (after_request (state_of log) Own request) inside.size request)
    × store.Stands new ((state_of log).effects ++ effects_of (state_of log) request) (state_of log).epoch (state_of log).floor)
    → OnErr result (new ≡ inside.store) → Serving inside (record inside { store = new }) log request reply
stepped inside new log request fault result reply made has cause sessions same told kept =
    let state = state_of log in
    let live : upload.Stands inside.sessions (sessions_of state request) (length state.openers) =
    subst (λ list. upload.Stands inside.sessions list (length state.openers)) (sym sessions) has.sessions in
    committed inside new inside.sessions log request fault result reply made has cause same
    (answers-so fault result (λ given is. (is.0, is.1, live)) told) (both-kept new inside.store inside.sessions result kept)

-- the result of a call that only reads
same-kept : (old : StoreValue) (result : Result Reply StoreFault) → OnErr result (old ≡ old)
same-kept old (Ok given) = tt
same-kept old (Err why) = refl

pub looked : (inside : DriveValue) (log : List Step) (request : Request) (fault : Option StoreFault) (result : Result Reply StoreFault) (reply : Reply)
    → reply ≡ reply_of result → Has inside (state_of log) → refusal (state_of log) request ≡ by_store fault → effects_of (state_of log) request ≡ [] → sessions_of (state_of log) request ≡ (state_of log).sessions
    → ((who : Who) → openers_of (state_of log) who request ≡ (state_of log).openers)
    → store.Answers fault result (λ given. given ≡ reply_to (state_of log) (after_request (state_of log) Own request) inside.size request) → Serving inside inside log request reply
looked inside log request fault result reply made has cause effects sessions same told =
    let state = state_of log in
    let holds : store.Stands inside.store (state.effects ++ effects_of state request) state.epoch state.floor =
    subst (λ (e : List Effect). store.Stands inside.store e state.epoch state.floor) (sym (append-nil state.effects) ∙ ap (λ e. state.effects ++ e) (sym effects)) has.store in
    stepped inside inside.store log request fault result reply made has cause sessions same (answers-so fault result (λ given is. (is, holds)) told) (same-kept inside.store result)

-- the result of a step of the sessions
pub uploaded : (inside : DriveValue) (left : SessionsValue) (log : List Step) (request : Request) (fault : Option SessionFault) (result : Result Reply SessionFault) (reply : Reply)
    → reply ≡ session_reply_of result → Has inside (state_of log) → refusal (state_of log) request ≡ by_session fault → effects_of (state_of log) request ≡ []
    → upload.Answers fault result (λ given. (given ≡ reply_to (state_of log) (after_request (state_of log) Own request) inside.size request)
    × ((who : Who) → upload.Stands left (sessions_of (state_of log) request) (length (openers_of (state_of log) who request))))
    → OnErr result (left ≡ inside.sessions) → Serving inside (record inside { sessions = left }) log request reply
uploaded inside left log request fault (Ok given) reply made has cause effects told kept =
    let state = state_of log in
    let holds : store.Stands inside.store (state.effects ++ effects_of state request) state.epoch state.floor =
    subst (λ (e : List Effect). store.Stands inside.store e state.epoch state.floor) (sym (append-nil state.effects) ∙ ap (λ e. state.effects ++ e) (sym effects)) has.store in
    accepted inside (record inside { sessions = left }) log request reply (cause ∙ ap by_session told.ok.0) (made ∙ told.ok.1.0)
    (λ who. record { size = has.size; store = holds; sessions = told.ok.1.1 who; plain = has.plain })
uploaded inside left log request fault (Err why) reply made has cause effects told kept =
    let whole : record inside { sessions = left } ≡ inside = ap (λ (l : SessionsValue). record inside { sessions = l }) kept in
    subst (λ d. Serving inside d log request reply) (sym whole)
    (session-refused inside log request reply why fault has (λ is. cause ∙ ap by_session is) made (record { ok = tt; err = told.err }))

pub session-answers-so : {T : Type 0} {P Q : T → Type 0} (fault : Option SessionFault) (result : Result T SessionFault) → ((x : T) → P x → Q x) → upload.Answers fault result P → upload.Answers fault result Q
session-answers-so fault (Ok x) so answer = record { ok = (answer.ok.0, so x answer.ok.1); err = tt }
session-answers-so fault (Err why) so answer = record { ok = tt; err = answer.err }

-- calls that take no memory
pub given-session : {T : Type 0} (fault : Option SessionFault) (value : T) (result : Result T SessionFault) → result ≡ upload.given_unless fault value → upload.Answers fault result (λ x. x ≡ value)
given-session None value result is = subst (λ r. upload.Answers None r (λ x. x ≡ value)) (sym is) (record { ok = (refl, refl); err = tt })
given-session (Some fault) value result is = subst (λ r. upload.Answers (Some fault) r (λ x. x ≡ value)) (sym is) (record { ok = tt; err = inr refl })

pub served-store : (log : List Step) (request : Request) (size : ℕ) (fault : Option StoreFault) (result : Result Reply StoreFault) (expected reply : Reply) → reply ≡ reply_of result
    → refusal (state_of log) request ≡ by_store fault → expected ≡ reply_to (state_of log) (after_request (state_of log) Own request) size request → result ≡ store.given_unless fault expected
    → reply ≡ whole_answer (state_of log) size request
served-store log request size None result expected reply made cause same given =
    made ∙ ap reply_of given ∙ same ∙ sym (ap (λ r. answer_unless r (state_of log) size request) cause)
served-store log request size (Some why) result expected reply made cause same given = made ∙ ap reply_of given ∙ sym (ap (λ r. answer_unless r (state_of log) size request) cause)

pub served-session : (log : List Step) (request : Request) (size : ℕ) (fault : Option SessionFault) (result : Result Reply SessionFault) (expected reply : Reply) → reply ≡ session_reply_of result
    → refusal (state_of log) request ≡ by_session fault → expected ≡ reply_to (state_of log) (after_request (state_of log) Own request) size request → result ≡ upload.given_unless fault expected
    → reply ≡ whole_answer (state_of log) size request
served-session log request size None result expected reply made cause same given =
    made ∙ ap session_reply_of given ∙ same ∙ sym (ap (λ r. answer_unless r (state_of log) size request) cause)
served-session log request size (Some why) result expected reply made cause same given = made ∙ ap session_reply_of given ∙ sym (ap (λ r. answer_unless r (state_of log) size request) cause)

-- what is proved of the fields of a drive holds of the drive
pub within : (drive inside new : DriveValue) (log : List Step) (request : Request) (reply : Reply) → inside ≡ drive → (Has inside (state_of log) → Serving inside new log request reply)
    → Has drive (state_of log) → Serving drive new log request reply
within drive inside new log request reply is so stands =
    subst (λ d. Serving d new log request reply) is (so (subst (λ d. Has d (state_of log)) (sym is) stands))

pub within-read : (drive inside : DriveValue) (log : List Step) (request : Request) (reply : Reply) → inside ≡ drive → (Has inside (state_of log) → Serving inside inside log request reply)
    → Has drive (state_of log) → Serving drive drive log request reply
within-read drive inside log request reply is so stands =
    subst (λ d. Serving d d log request reply) is (so (subst (λ d. Has d (state_of log)) (sym is) stands))

pub within-served : (drive inside : DriveValue) (log : List Step) (request : Request) (reply : Reply) → inside ≡ drive → (Has inside (state_of log) → reply ≡ whole_answer (state_of log) inside.size request)
    → Has drive (state_of log) → reply ≡ whole_answer (state_of log) drive.size request
within-served drive inside log request reply is so stands =
    subst (λ (d : DriveValue). reply ≡ whole_answer (state_of log) d.size request) is (so (subst (λ d. Has d (state_of log)) (sym is) stands))

pub event-stood : (drive inside new : DriveValue) (log : List Step) (event : DriveEvent) → inside ≡ drive → (Has inside (state_of log) → Has new (after_event (state_of log) event))
    → Has drive (state_of log) → Stands new (log ++ Event event ∷ [])
event-stood drive inside new log event is so stands = more new log (Event event) (so (subst (λ d. Has d (state_of log)) (sym is) stands))

-- the bytes of a drive and of its sessions are within the limit
pub not-above : (a b : ℕ) → a ≤ b → nat_lt b a ≡ false
not-above a b le = grind (arith, nat_tests)

pub within-limit : (log : List Step) (fault : Option StoreFault) → with_sessions (state_of log) fault ≡ fault
within-limit log (Some first) = refl
within-limit log None =
    ap (λ b. cond b (Some Quota) None) (not-above ((held (state_of log)).kept + held_bytes (state_of log).sessions) 536870912 (every-drive log).light)

-- ---- a plain drive
pub shown-unserved : (plain : Bool) → shown plain unserved ≡ unserved
shown-unserved true = refl
shown-unserved false = refl

bare-refusal : (reply : Reply) → is_refusal (bare_reply reply) ≡ is_refusal reply
bare-refusal (reply.Made item) = refl
bare-refusal (reply.Is item) = refl
bare-refusal (reply.Listed items next) = refl
bare-refusal reply.Done = refl
bare-refusal (reply.Found id version) = refl
bare-refusal (reply.Content bytes) = refl
bare-refusal (reply.Session session expected) = refl
bare-refusal (reply.Status expected) = refl
bare-refusal (reply.More expected) = refl
bare-refusal (reply.Page page) = refl
bare-refusal (reply.Gone resync) = refl
bare-refusal (reply.Refused status code) = refl

pub shown-refusal : (plain : Bool) (reply : Reply) → is_refusal (shown plain reply) ≡ is_refusal reply
shown-refusal true reply = bare-refusal reply
shown-refusal false reply = refl

pub shown-so : (old new : DriveValue) (log : List Step) (request : Request) (reply given : Reply) (plain : Bool) → plain ≡ old.plain → given ≡ shown plain reply → Has old (state_of log)
    → Serving old new log request reply → Serves old new log request given (shown (state_of log).plain (whole_answer (state_of log) old.size request))
shown-so old new log request reply given plain is made has serves =
    let flag : plain ≡ (state_of log).plain = is ∙ has.plain in
    record {
      answered = elim serves.answered [
        | inl told ↦ inl (made ∙ ap (λ b. shown b reply) flag ∙ ap (shown (state_of log).plain) told.0, told.1)
        | inr lacks ↦ inr (made ∙ ap (shown plain) lacks.0 ∙ shown-unserved plain, lacks.1, lacks.2)
      ];
    }
