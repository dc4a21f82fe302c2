-- What requests about upload sessions do to a drive.
use Rattle.std.proofs.Common.{◌≡◌, ℕ, ◌+◌, ◌-◌, ◌^◌, Bool, true, false, ◌||◌, cond, nat_eq, nat_le, List, [], ◌∷◌, ◌++◌, length, Option, Some, None, Result, Ok, Err, IfOk, OnOk, OnErr, refl, sym, ap, ◌∙◌, subst, inl, inr, append-nil}
use Rattle.std.specs.Option.{option_map}
use Rattle.std.proofs.lemmas.Bool.{cases_Bool}
use Rattle.std.proofs.lemmas.List.{length_push}
use Rattle.gd_names.specs.declared.conflict.Conflict.{Conflict}
use Rattle.gd_item.specs.Answers.{about, status_reply, more_reply, effect_reply, reply_to, refused}
use Rattle.gd_item.specs.Inventory.{Effect, inventory}
use Rattle.gd_item.specs.Refusals.{put_refusal, put_effect}
use Rattle.gd_item.specs.Refused.{Refusal, refuse, refusal, by_store, by_session, or_else, at_target, but_quota, is_unlike, not_living, last_refusal, finish_refusal, commit_refusal}
use Rattle.gd_item.specs.Sessions.{State, Session, held, held_bytes, session_at, completes_file, is_completed, fragment_fault, finish_fault, with_fragment, without_session}
use Rattle.gd_item.specs.Steps.{state_of, after_request, effects_of, sessions_of, openers_of, opened, commit_effect, effects_at, fragment_effects, finish_effects}
use Rattle.gd_item.specs.Targets.{place_of, name_in}
use Rattle.gd_item.specs.declared.condition.Condition.{Condition}
use Rattle.gd_item.specs.declared.fault.ErrorCode.TheVariants.{InvalidRequest, QuotaLimitReached}
use Rattle.gd_item.specs.declared.fault.SessionFault.{SessionFault}
use Rattle.gd_item.specs.declared.fault.SessionFault.TheVariants.{NoSession}
use Rattle.gd_item.specs.declared.fault.StoreFault.{StoreFault}
use Rattle.gd_item.specs.declared.live.Place.{Place}
use Rattle.gd_item.specs.declared.reply.Reply.{Reply}
use Rattle.gd_item.specs.declared.reply.Reply.TheVariants as reply
use Rattle.gd_item.specs.declared.request.Address.{Address}
use Rattle.gd_item.specs.declared.request.Request.{Request}
use Rattle.gd_item.specs.declared.request.Request.TheVariants.{OpenSession, Fragment, Finish}
use Rattle.gd_item.specs.declared.step.Step.{Step}
use Rattle.gd_item.specs.declared.step.Who.{Who}
use Rattle.gd_item.specs.declared.step.Who.TheVariants.{Own}
use Rattle.gd_laws.proofs.Serving.{written_to}
use Rattle.gd_store.specs.Stands as store
use Rattle.gd_store.specs.Stands.{StoreValue}
use Rattle.gd_upload.specs.Stands as upload
use Rattle.gd_upload.specs.Stands.{SessionsValue, Received, begin_fault, filled_in, target_in}
use Rattle.gd_upload.specs.declared.progress.Progress.{Progress}
use Rattle.gd_upload.specs.declared.progress.Progress.TheVariants.{More, Whole}
use Rattle.gd_upload.specs.declared.target.Target.{Target}
use Rattle.gd_api.specs.Drives.{DriveValue, Has, is_refusal}
use Rattle.gd_api.specs.Replies.{Steps, reply_of, session_reply_of}
use Rattle.gd_api.proofs.Handling.{Serving, accepted, refused-so, committed, session-refused, store-refused, answers-so, uploaded, session-answers-so}

-- ---- calls that take no memory
pub status-given : (found : Option Session) (count : ℕ) → Ok count ≡ upload.given_unless (not_living found) (length (filled_in found))
    → Ok (reply.Status count) ≡ upload.given_unless (not_living found) (about status_reply found)
status-given None count is = absurd cc
status-given (Some session) count is = let same : count ≡ length session.filled = cc in ap (λ n. Ok (reply.Status n)) same

pub refused-given : {T U : Type 0} (found : Option Session) (fault : SessionFault) (value : T) (other : U) → Err fault ≡ upload.given_unless (not_living found) value
    → Err fault ≡ upload.given_unless (not_living found) other
refused-given None fault value other is = let same : fault ≡ NoSession = cc in ap (λ f. Err f) same
refused-given (Some session) fault value other is = absurd cc

pub done-given : (found : Option Session) (none : Unit {0}) → Ok none ≡ upload.given_unless (not_living found) none → Ok reply.Done ≡ upload.given_unless (not_living found) reply.Done
done-given None none is = absurd cc
done-given (Some session) none is = refl

pub count-given : (found : Option Session) (count : ℕ) → Ok count ≡ upload.given_unless (not_living found) (length (filled_in found)) → count ≡ length (filled_in found)
count-given None count is = absurd cc
count-given (Some session) count is = cc

pub none-counted : (found : Option Session) (fault : SessionFault) → Err fault ≡ upload.given_unless (not_living found) (length (filled_in found)) → 0 ≡ length (filled_in found)
none-counted None fault is = refl
none-counted (Some session) fault is = absurd cc

pub same-sessions : (old : SessionsValue) (result : Result Reply SessionFault) → OnErr result (old ≡ old)
same-sessions old (Ok given) = tt
same-sessions old (Err why) = refl

-- a session is cancelled, whoever asks
pub cancel-told : {Stays : Type 0} (fault : Option SessionFault) (result : Result Reply SessionFault) → result ≡ upload.given_unless fault reply.Done → OnOk result Stays
    → upload.Answers fault result (λ r. (r ≡ reply.Done) × ((who : Who) → Stays))
cancel-told None (Ok r) is ok = record { ok = (refl, (cc, λ who. ok)); err = tt }
cancel-told None (Err f) is ok = absurd cc
cancel-told (Some fault) (Ok r) is ok = absurd cc
cancel-told (Some fault) (Err f) is ok = let same : fault ≡ f = cc in record { ok = tt; err = inr (ap Some same) }

-- ---- a session that is opened
pub begun-told : (new : SessionsValue) (number : ℕ) (list : List Session) (openers : ℕ) (place : Place) (behaviour : Conflict) (copy condition : Condition) (defer : Bool) → copy ≡ condition
    → upload.Answers (begin_fault list openers) (Ok number) (λ n. (n ≡ openers + 1) × upload.Stands new (opened (openers + 1) (Some place) behaviour copy defer list) (openers + 1))
    → upload.Answers {T = Reply} (begin_fault list openers) (Ok (reply.Session number 0)) (λ r. (r ≡ reply.Session (openers + 1) 0) × upload.Stands new (opened (openers + 1) (Some place) behaviour condition defer list) (openers + 1))
begun-told new number list openers place behaviour copy condition defer same told = record {
  ok = (told.ok.0, (ap (λ n. reply.Session n 0) told.ok.1.0, subst (λ c. upload.Stands new (opened (openers + 1) (Some place) behaviour c defer list) (openers + 1)) same told.ok.1.1));
  err = tt;
}

other-name : (state : State) (at : Address) (name : Option (List ℕ)) (behaviour : Conflict) (condition : Condition) (defer : Bool) → is_unlike name (name_in at) ≡ true
    → refusal state (OpenSession at name behaviour condition defer) ≡ Some (refuse 400 InvalidRequest)
other-name state at name behaviour condition defer is =
    let later = or_else (by_store (at_target (λ place. but_quota (put_refusal (held state) place [] behaviour condition 0)) (place_of (held state) at)))
    (cond (nat_le 1000 (length state.sessions) || nat_le (2 ^ 64 - 1) (length state.openers)) (Some (refuse 507 QuotaLimitReached)) None) in
    ap (λ b. cond b (Some (refuse 400 InvalidRequest)) later) is

pub other-name-refused : (drive : DriveValue) (log : List Step) (at : Address) (name : Option (List ℕ)) (behaviour : Conflict) (condition : Condition) (defer : Bool) → is_unlike name (name_in at) ≡ true
    → Has drive (state_of log) → Serving drive drive log (OpenSession at name behaviour condition defer) (refused (refuse 400 InvalidRequest))
other-name-refused drive log at name behaviour condition defer is has =
    refused-so drive log (OpenSession at name behaviour condition defer) (refused (refuse 400 InvalidRequest)) (refuse 400 InvalidRequest) has (other-name (state_of log) at name behaviour condition defer is) refl

abbrev place-fault : State → Address → Conflict → Condition → Option StoreFault
place-fault state at behaviour condition = at_target (λ place. but_quota (put_refusal (held state) place [] behaviour condition 0)) (place_of (held state) at)

by-begin : (sessions : List Session) (openers : ℕ) → cond (nat_le 1000 (length sessions) || nat_le (2 ^ 64 - 1) openers) (Some (refuse 507 QuotaLimitReached)) None ≡ by_session (begin_fault sessions openers)
by-begin sessions openers = elim (cases_Bool (nat_le 1000 (length sessions) || nat_le (2 ^ 64 - 1) openers)) [
  | inl many ↦ rw many refl
  | inr few ↦ rw few refl
]

opening : (state : State) (at : Address) (name : Option (List ℕ)) (behaviour : Conflict) (condition : Condition) (defer : Bool) → is_unlike name (name_in at) ≡ false
    → refusal state (OpenSession at name behaviour condition defer) ≡ or_else (by_store (place-fault state at behaviour condition)) (by_session (begin_fault state.sessions (length state.openers)))
opening state at name behaviour condition defer is =
    let later : Option Refusal → Option Refusal = λ many. or_else (by_store (place-fault state at behaviour condition)) many in
    let many = cond (nat_le 1000 (length state.sessions) || nat_le (2 ^ 64 - 1) (length state.openers)) (Some (refuse 507 QuotaLimitReached)) None in
    ap (λ b. cond b (Some (refuse 400 InvalidRequest)) (later many)) is ∙ ap later (by-begin state.sessions (length state.openers))

pub place-refused : (drive : DriveValue) (log : List Step) (at : Address) (name : Option (List ℕ)) (behaviour : Conflict) (condition : Condition) (defer : Bool) (why : StoreFault) (given : Reply)
    → is_unlike name (name_in at) ≡ false → given ≡ reply_of (Err why) → Has drive (state_of log)
    → store.Answers {T = Place} (place-fault (state_of log) at behaviour condition) (Err why) (λ place. place_of (held (state_of log)) at ≡ Some place)
    → Serving drive drive log (OpenSession at name behaviour condition defer) given
place-refused drive log at name behaviour condition defer why given is made has told =
    store-refused drive log (OpenSession at name behaviour condition defer) given why (place-fault (state_of log) at behaviour condition) has
    (λ same. opening (state_of log) at name behaviour condition defer is ∙ ap (λ f. or_else (by_store f) (by_session (begin_fault (state_of log).sessions (length (state_of log).openers)))) same)
    made (record { ok = tt; err = told.err })

pub begun : (inside : DriveValue) (left : SessionsValue) (log : List Step) (at : Address) (name : Option (List ℕ)) (behaviour : Conflict) (condition : Condition) (defer : Bool) (place : Place)
    (result : Result Reply SessionFault) (given : Reply) → is_unlike name (name_in at) ≡ false → given ≡ session_reply_of result → Has inside (state_of log)
    → place-fault (state_of log) at behaviour condition ≡ None → place_of (held (state_of log)) at ≡ Some place
    → upload.Answers (begin_fault (state_of log).sessions (length (state_of log).openers)) result
    (λ r. (r ≡ reply.Session (length (state_of log).openers + 1) 0)
    × upload.Stands left (opened (length (state_of log).openers + 1) (Some place) behaviour condition defer (state_of log).sessions) (length (state_of log).openers + 1))
    → OnErr result (left ≡ inside.sessions) → Serving inside (record inside { sessions = left }) log (OpenSession at name behaviour condition defer) given
begun inside left log at name behaviour condition defer place result given is made has allowed found told kept =
    let state = state_of log in
    let request = OpenSession at name behaviour condition defer in
    let cause : refusal state request ≡ by_session (begin_fault state.sessions (length state.openers)) =
    opening state at name behaviour condition defer is ∙ ap (λ f. or_else (by_store f) (by_session (begin_fault state.sessions (length state.openers)))) allowed in
    let number : ℕ = length state.openers + 1 in
    uploaded inside left log request (begin_fault state.sessions (length state.openers)) result given made has cause refl
    (session-answers-so (begin_fault state.sessions (length state.openers)) result
    (λ r so. (
      so.0,
      λ who.
          let long : length (state.openers ++ who ∷ []) ≡ number = length_push state.openers who in
          subst (λ n. upload.Stands left (opened number (place_of (held state) at) behaviour condition defer state.sessions) n) (sym long)
          (subst (λ p. upload.Stands left (opened number p behaviour condition defer state.sessions) number) (sym found) so.1),
    ))
    told) kept

-- ---- a fragment
written-found : (number total : ℕ) (bytes : List ℕ) (sessions : List Session) (session : Session) → session_at number sessions ≡ Some session
    → about more_reply (session_at number (with_fragment number total bytes sessions)) ≡ reply.More (length (filled_in (session_at number (with_fragment number total bytes sessions))))
written-found number total bytes [] session found = absurd cc
written-found number total bytes (first ∷ sessions) session found =
    let rest : List Session = with_fragment number total bytes sessions in
    (elim (nat_eq first.number number) as (λ b. nat_eq first.number number ≡ b → cond b (Some first) (session_at number sessions) ≡ Some session
    → about more_reply (session_at number (cond b (written_to total bytes first) first ∷ rest)) ≡ reply.More (length (filled_in (session_at number (cond b (written_to total bytes first) first ∷ rest))))) [
      | true ↦ λ at is. rw at refl
      | false ↦ λ off is. rw off (written-found number total bytes sessions session is)
    ]) refl found

-- where a fragment is not refused, its session lives
living : (kept first last total : ℕ) (bytes : List ℕ) (sessions : List Session) (found : Option Session) → fragment_fault kept sessions found first last total bytes ≡ None → (session : Session) × (found ≡ Some session)
living kept first last total bytes sessions None none = absurd cc
living kept first last total bytes sessions (Some session) none = (session, refl)

pub fragment-refused : (drive : DriveValue) (log : List Step) (session first last total : ℕ) (bytes : List ℕ) (why : SessionFault) (given : Reply) → given ≡ session_reply_of (Err why) → Has drive (state_of log)
    → (P : Progress → Type 0) → upload.Answers (fragment_fault (held (state_of log)).kept (state_of log).sessions (session_at session (state_of log).sessions) first last total bytes) (Err why) P
    → Serving drive drive log (Fragment session first last total bytes) given
fragment-refused drive log session first last total bytes why given made has P told =
    let state = state_of log in
    session-refused drive log (Fragment session first last total bytes) given why (fragment_fault (held state).kept state.sessions (session_at session state.sessions) first last total bytes) has
    (λ same. ap (λ f. or_else (by_session f) (by_store (last_refusal state (session_at session state.sessions) last total bytes))) same) made (record { ok = tt; err = told.err })

not-both : {T : Type 0} → true ≡ false → T
not-both is = absurd cc

-- a fragment that does not complete the file
more-none : (state : State) (found : Option Session) (last total : ℕ) (bytes : List ℕ) → is_completed found last total ≡ false → last_refusal state found last total bytes ≡ None
more-none state None last total bytes off = refl
more-none state (Some session) last total bytes off = ap (λ b. cond b (commit_refusal state session (session.filled ++ bytes)) None) off

more-effects : (state : State) (session first last total : ℕ) (bytes : List ℕ) (found : Option Session) → session_at session state.sessions ≡ found → is_completed found last total ≡ false
    → effects_of state (Fragment session first last total bytes) ≡ []
more-effects state session first last total bytes None at off = rw at refl
more-effects state session first last total bytes (Some open_session) at off =
    let e : List Effect = put_effect (held state) open_session.place (open_session.filled ++ bytes) open_session.behaviour ∷ [] in
    let there : effects_of state (Fragment session first last total bytes) ≡ cond (completes_file open_session last total) e [] = rw at refl in
    there ∙ ap (λ b. cond b e []) off

pub more-kept : (inside : DriveValue) (left : SessionsValue) (log : List Step) (session first last total : ℕ) (bytes : List ℕ) (expected : ℕ) → Has inside (state_of log)
    → upload.Answers (fragment_fault (held (state_of log)).kept (state_of log).sessions (session_at session (state_of log).sessions) first last total bytes) (Ok (More expected))
    (Received inside.sessions left (state_of log).sessions (length (state_of log).openers) session last total bytes)
    → Serving inside (record inside { sessions = left }) log (Fragment session first last total bytes) (reply.More expected)
more-kept inside left log session first last total bytes expected has told =
    let state = state_of log in
    let request = Fragment session first last total bytes in
    let found = session_at session state.sessions in
    let received = told.ok.1 in
    elim (cases_Bool (is_completed found last total)) [
      | inl on ↦ let other : More expected ≡ Whole (filled_in found ++ bytes) = (received.whole on).0 in absurd cc
      | inr off ↦
          let what = received.more off in
          let lives = living (held state).kept first last total bytes state.sessions found told.ok.0 in
          let cause : refusal state request ≡ None = ap (λ f. or_else (by_session f) (by_store (last_refusal state found last total bytes))) told.ok.0 ∙ ap by_store (more-none state found last total bytes off) in
          let none : effects_of state request ≡ [] = more-effects state session first last total bytes found refl off in
          let list : sessions_of state request ≡ with_fragment session total bytes state.sessions =
          ap (λ b. cond b (without_session session state.sessions) (with_fragment session total bytes state.sessions)) off in
          let same_number : More expected ≡ More (length (filled_in (session_at session (with_fragment session total bytes state.sessions)))) = what.0 in
          let count : expected ≡ length (filled_in (session_at session (with_fragment session total bytes state.sessions))) = cc in
          let says : reply.More expected ≡ reply_to state (after_request state Own request) inside.size request =
          ap reply.More count ∙ sym (written-found session total bytes state.sessions lives.0 lives.1)
          ∙ ap (λ sessions. about more_reply (session_at session sessions)) (sym list)
          ∙ ap (effect_reply (held state) (held (after_request state Own request)) (about more_reply (session_at session (sessions_of state request)))) (sym none) in
          let holds : store.Stands inside.store (state.effects ++ effects_of state request) state.epoch state.floor =
          subst (λ (e : List Effect). store.Stands inside.store e state.epoch state.floor) (sym (append-nil state.effects) ∙ ap (λ e. state.effects ++ e) (sym none)) has.store in
          accepted inside (record inside { sessions = left }) log request (reply.More expected) cause says
          (λ who. record {
            size = has.size;
            store = holds;
            sessions = subst (λ sessions. upload.Stands left sessions (length state.openers)) (sym list) what.1;
            plain = has.plain;
          })
    ]

-- ---- the file of a session is made
pub file-made : (inside : DriveValue) (new : StoreValue) (left : SessionsValue) (log : List Step) (request : Request) (number : ℕ) (session : Session) (bytes : List ℕ) (other : Reply)
    (result : Result Reply StoreFault) (given : Reply) → given ≡ reply_of result → Has inside (state_of log)
    → refusal (state_of log) request ≡ by_store (commit_refusal (state_of log) session bytes) → effects_of (state_of log) request ≡ commit_effect (state_of log) session bytes ∷ []
    → sessions_of (state_of log) request ≡ without_session number (state_of log).sessions → ((who : Who) → openers_of (state_of log) who request ≡ (state_of log).openers)
    → effect_reply (held (state_of log)) (held (after_request (state_of log) Own request)) other (effects_of (state_of log) request) ≡ reply_to (state_of log) (after_request (state_of log) Own request) inside.size request
    → store.Answers (commit_refusal (state_of log) session bytes) result
    (λ r. Steps new (state_of log).epoch (state_of log).floor (state_of log).effects (commit_effect (state_of log) session bytes ∷ []) r
    × upload.Stands left (without_session number (state_of log).sessions) (length (state_of log).openers))
    → OnErr result ((new ≡ inside.store) × (left ≡ inside.sessions)) → Serving inside (record inside { store = new; sessions = left }) log request given
file-made inside new left log request number session bytes other result given made has cause effects list same says told kept =
    let state = state_of log in
    committed inside new left log request (commit_refusal state session bytes) result given made has cause same
    (answers-so (commit_refusal state session bytes) result
    (λ r so. (
      subst (λ es. r ≡ effect_reply (held state) (inventory (state.effects ++ es)) other es) (sym effects) so.0.replied ∙ says,
      subst (λ es. store.Stands new (state.effects ++ es) state.epoch state.floor) (sym effects) so.0.stands,
      subst (λ sessions. upload.Stands left sessions (length state.openers)) (sym list) so.1,
    )) told) kept

-- what the call that makes it says
abbrev pub Commits : StoreValue → StoreValue → SessionsValue → SessionsValue → ℕ → List ℕ → Result Reply StoreFault → Type 0
Commits old new live left number bytes result = (log : List Effect) (epoch floor : ℕ) (list : List Session) (openers : ℕ) (session : Session) → store.Stands old log epoch floor → upload.Stands live list openers
    → session_at number list ≡ Some session
    → store.Answers (put_refusal (inventory log) session.place bytes session.behaviour session.condition (held_bytes list - length session.filled)) result
    (λ r. Steps new epoch floor log (put_effect (inventory log) session.place bytes session.behaviour ∷ []) r × upload.Stands left (without_session number list) openers)

-- a fragment that completes it
last-cause : (state : State) (session first last total : ℕ) (bytes : List ℕ) (found : Option Session) (open_session : Session) → session_at session state.sessions ≡ found → found ≡ Some open_session
    → completes_file open_session last total ≡ true → fragment_fault (held state).kept state.sessions found first last total bytes ≡ None
    → refusal state (Fragment session first last total bytes) ≡ by_store (commit_refusal state open_session (open_session.filled ++ bytes))
last-cause state session first last total bytes found open_session at is on none =
    ap (λ f. or_else (by_session (fragment_fault (held state).kept state.sessions f first last total bytes)) (by_store (last_refusal state f last total bytes))) at
    ∙ ap (λ f. or_else (by_session f) (by_store (last_refusal state found last total bytes))) none
    ∙ ap (λ f. by_store (last_refusal state f last total bytes)) is
    ∙ ap (λ b. by_store (cond b (commit_refusal state open_session (open_session.filled ++ bytes)) None)) on

last-effects : (state : State) (session first last total : ℕ) (bytes : List ℕ) (open_session : Session) → session_at session state.sessions ≡ Some open_session → completes_file open_session last total ≡ true
    → effects_of state (Fragment session first last total bytes) ≡ commit_effect state open_session (open_session.filled ++ bytes) ∷ []
last-effects state session first last total bytes open_session at on =
    ap (effects_at (fragment_effects state last total bytes)) at ∙ ap (λ b. cond b (commit_effect state open_session (open_session.filled ++ bytes) ∷ []) []) on

pub whole-made : (inside : DriveValue) (new : StoreValue) (live left : SessionsValue) (log : List Step) (session first last total : ℕ) (bytes all : List ℕ) (result : Result Reply StoreFault) (given : Reply)
    → given ≡ reply_of result → Has inside (state_of log)
    → upload.Answers (fragment_fault (held (state_of log)).kept (state_of log).sessions (session_at session (state_of log).sessions) first last total bytes) (Ok (Whole all))
    (Received inside.sessions live (state_of log).sessions (length (state_of log).openers) session last total bytes)
    → Commits inside.store new live left session all result → OnErr result ((new ≡ inside.store) × (left ≡ live))
    → Serving inside (record inside { store = new; sessions = left }) log (Fragment session first last total bytes) given
whole-made inside new live left log session first last total bytes all result given made has told commits kept =
    let state = state_of log in
    let request = Fragment session first last total bytes in
    let found = session_at session state.sessions in
    let received = told.ok.1 in
    elim (cases_Bool (is_completed found last total)) [
      | inr off ↦ let other : Whole all ≡ More (length (filled_in (session_at session (with_fragment session total bytes state.sessions)))) = (received.more off).0 in absurd cc
      | inl on ↦
          let what = received.whole on in
          let lives = living (held state).kept first last total bytes state.sessions found told.ok.0 in
          let s : Session = lives.0 in
          let done : completes_file s last total ≡ true = subst (λ f. is_completed f last total ≡ true) lives.1 on in
          let joined : Whole all ≡ Whole (filled_in found ++ bytes) = what.0 in
          let joined' : all ≡ filled_in found ++ bytes = cc in
          let whole : all ≡ s.filled ++ bytes = joined' ∙ ap (λ f. filled_in f ++ bytes) lives.1 in
          let list : sessions_of state request ≡ without_session session state.sessions =
          ap (λ b. cond b (without_session session state.sessions) (with_fragment session total bytes state.sessions)) on in
          let same : live ≡ inside.sessions = what.1 in
          let answer = commits state.effects state.epoch state.floor state.sessions (length state.openers) s has.store
          (subst (λ v. upload.Stands v state.sessions (length state.openers)) (sym same) has.sessions) lives.1 in
          let P : List ℕ → Type 0 = λ b. store.Answers (put_refusal (inventory state.effects) s.place b s.behaviour s.condition (held_bytes state.sessions - length s.filled)) result
          (λ r. Steps new state.epoch state.floor state.effects (put_effect (inventory state.effects) s.place b s.behaviour ∷ []) r × upload.Stands left (without_session session state.sessions) (length state.openers)) in
          file-made inside new left log request session s (s.filled ++ bytes) (about more_reply (session_at session (sessions_of state request))) result given made has
          (last-cause state session first last total bytes found s refl lives.1 done told.ok.0) (last-effects state session first last total bytes s lives.1 done) list (λ who. refl) refl
          (subst P whole answer) (subst (λ v. OnErr result ((new ≡ inside.store) × (left ≡ v))) same kept)
    ]

-- a request that finishes it
finishing : (found : Option Session) → finish_fault found ≡ None → (session : Session) × (found ≡ Some session)
finishing None none = absurd cc
finishing (Some session) none = (session, refl)

pub finish-refused : (drive : DriveValue) (log : List Step) (session : ℕ) (why : SessionFault) (given : Reply) (P : List ℕ → Type 0) → given ≡ session_reply_of (Err why) → Has drive (state_of log)
    → upload.Answers (finish_fault (session_at session (state_of log).sessions)) (Err why) P → Serving drive drive log (Finish session) given
finish-refused drive log session why given P made has told =
    let state = state_of log in
    session-refused drive log (Finish session) given why (finish_fault (session_at session state.sessions)) has
    (λ same. ap (λ f. or_else (by_session f) (by_store (finish_refusal state (session_at session state.sessions)))) same) made (record { ok = tt; err = told.err })

pub finished : (inside : DriveValue) (new : StoreValue) (left : SessionsValue) (log : List Step) (session : ℕ) (all : List ℕ) (result : Result Reply StoreFault) (given : Reply)
    → given ≡ reply_of result → Has inside (state_of log) → upload.Answers (finish_fault (session_at session (state_of log).sessions)) (Ok all) (λ bytes. bytes ≡ filled_in (session_at session (state_of log).sessions))
    → Commits inside.store new inside.sessions left session all result → OnErr result ((new ≡ inside.store) × (left ≡ inside.sessions))
    → Serving inside (record inside { store = new; sessions = left }) log (Finish session) given
finished inside new left log session all result given made has told commits kept =
    let state = state_of log in
    let found = session_at session state.sessions in
    let lives = finishing found told.ok.0 in
    let s : Session = lives.0 in
    let whole : all ≡ s.filled = told.ok.1 ∙ ap filled_in lives.1 in
    let P : List ℕ → Type 0 = λ b. store.Answers (put_refusal (inventory state.effects) s.place b s.behaviour s.condition (held_bytes state.sessions - length s.filled)) result
    (λ r. Steps new state.epoch state.floor state.effects (put_effect (inventory state.effects) s.place b s.behaviour ∷ []) r × upload.Stands left (without_session session state.sessions) (length state.openers)) in
    file-made inside new left log (Finish session) session s s.filled reply.Done result given made has
    (ap (λ f. or_else (by_session f) (by_store (finish_refusal state found))) told.ok.0 ∙ ap (λ f. by_store (finish_refusal state f)) lives.1)
    (ap (effects_at (finish_effects state)) lives.1) refl (λ who. refl) refl
    (subst P whole (commits state.effects state.epoch state.floor state.sessions (length state.openers) s has.store has.sessions lives.1)) kept

-- ---- the call that makes the file
pub target-is : (copied : Option Target) (found : Option Session) (target : Target) (session : Session) → copied ≡ option_map target_in found → found ≡ Some session → copied ≡ Some target → target ≡ target_in session
target-is copied None target session told found is = absurd cc
target-is copied (Some first) target session told found is =
    let same : first ≡ session = cc in
    let given : Some target ≡ Some (target_in first) = sym is ∙ told in
    let own : target ≡ target_in first = cc in
    own ∙ ap target_in same

pub target-there : {T : Type 0} (copied : Option Target) (found : Option Session) (session : Session) → copied ≡ option_map target_in found → found ≡ Some session → copied ≡ None → T
target-there copied None session told found is = absurd cc
target-there copied (Some first) session told found is = let none : Some (target_in first) ≡ None = sym told ∙ is in absurd cc

pub put-so : (new : StoreValue) (log : List Effect) (epoch floor : ℕ) (list : List Session) (bytes : List ℕ) (target : Target) (others number : ℕ) (session : Session) (result : Result Reply StoreFault)
    → target ≡ target_in session → others ≡ held_bytes list - length (filled_in (session_at number list)) → session_at number list ≡ Some session
    → store.Answers (put_refusal (inventory log) target.place bytes target.behaviour target.condition others) result (Steps new epoch floor log (put_effect (inventory log) target.place bytes target.behaviour ∷ []))
    → store.Answers (put_refusal (inventory log) session.place bytes session.behaviour session.condition (held_bytes list - length session.filled)) result
    (Steps new epoch floor log (put_effect (inventory log) session.place bytes session.behaviour ∷ []))
put-so new log epoch floor list bytes target others number session result is count found told =
    let P : Target → ℕ → Type 0 = λ t n. store.Answers (put_refusal (inventory log) t.place bytes t.behaviour t.condition n) result (Steps new epoch floor log (put_effect (inventory log) t.place bytes t.behaviour ∷ [])) in
    let same : others ≡ held_bytes list - length session.filled = count ∙ ap (λ f. held_bytes list - length (filled_in f)) found in
    subst (λ n. P (target_in session) n) same (subst (λ t. P t others) is told)

-- ---- what a fragment left
pub whole-same : (old new : SessionsValue) (sessions : List Session) (openers session last total : ℕ) (bytes all : List ℕ) → Received old new sessions openers session last total bytes (Whole all) → new ≡ old
whole-same old new sessions openers session last total bytes all received = elim (cases_Bool (is_completed (session_at session sessions) last total)) [
  | inl on ↦ (received.whole on).1
  | inr off ↦ let other : Whole all ≡ More (length (filled_in (session_at session (with_fragment session total bytes sessions)))) = (received.more off).0 in absurd cc
]

pub whole-left : (old new : SessionsValue) (sessions : List Session) (openers session last total : ℕ) (bytes : List ℕ) (progress : Progress) (all : List ℕ) → progress ≡ Whole all
    → Received old new sessions openers session last total bytes progress → new ≡ old
whole-left old new sessions openers session last total bytes progress all is received =
    whole-same old new sessions openers session last total bytes all (subst (Received old new sessions openers session last total bytes) is received)

refused-false : true ≡ false → ⊥
refused-false is = cc

pub commit-kept : (drive inside : DriveValue) (new : StoreValue) (live left : SessionsValue) (result : Result Reply StoreFault) (given : Reply) → inside ≡ drive → given ≡ reply_of result
    → IfOk result (λ r. is_refusal r ≡ false) → OnErr result ((new ≡ inside.store) × (left ≡ live)) → live ≡ inside.sessions → is_refusal given ≡ true
    → record inside { store = new; sessions = left } ≡ drive
commit-kept drive inside new live left (Ok r) given is made served kept same refuses = absurd (refused-false (sym refuses ∙ ap is_refusal made ∙ served))
commit-kept drive inside new live left (Err why) given is made served kept same refuses =
    ap (λ (s : StoreValue). record inside { store = s; sessions = left }) kept.0 ∙ ap (λ (l : SessionsValue). record inside { sessions = l }) (kept.1 ∙ same) ∙ is

pub fragment-failed : (inside : DriveValue) (left : SessionsValue) (log : List Step) (session first last total : ℕ) (bytes : List ℕ) (why : SessionFault) (given : Reply) → given ≡ session_reply_of (Err why) → Has inside (state_of log)
    → upload.Answers (fragment_fault (held (state_of log)).kept (state_of log).sessions (session_at session (state_of log).sessions) first last total bytes) (Err why)
    (Received inside.sessions left (state_of log).sessions (length (state_of log).openers) session last total bytes)
    → left ≡ inside.sessions → Serving inside (record inside { sessions = left }) log (Fragment session first last total bytes) given
fragment-failed inside left log session first last total bytes why given made has told kept =
    let whole : record inside { sessions = left } ≡ inside = ap (λ (l : SessionsValue). record inside { sessions = l }) kept in
    subst (λ d. Serving inside d log (Fragment session first last total bytes) given) (sym whole) (fragment-refused inside log session first last total bytes why given made has _ told)

-- a fragment over the bytes that the drive keeps
pub fragment-told : (inside live : SessionsValue) (sessions : List Session) (openers session first last total kept : ℕ) (held_kept : ℕ) (bytes slice : List ℕ) (field result : Result Progress SessionFault)
    → kept ≡ held_kept → slice ≡ bytes → field ≡ result
    → upload.Answers (fragment_fault kept sessions (session_at session sessions) first last total slice) field (Received inside live sessions openers session last total slice)
    → upload.Answers (fragment_fault held_kept sessions (session_at session sessions) first last total bytes) result (Received inside live sessions openers session last total bytes)
fragment-told inside live sessions openers session first last total kept held_kept bytes slice field result is same value told =
    let P : ℕ → List ℕ → Result Progress SessionFault → Type 0 = λ k b r.
    upload.Answers (fragment_fault k sessions (session_at session sessions) first last total b) r (Received inside live sessions openers session last total b) in
    subst (λ k. P k bytes result) is (subst (λ b. P kept b result) same (subst (λ r. P kept slice r) value told))
