-- Fragments of large files: a refusal looks at the lengths of the byte lists alone.
use Rattle.std.proofs.Common.{◌≡◌, ℕ, ◌+◌, ◌-◌, ◌%◌, Bool, true, false, not, ◌&&◌, ◌||◌, cond, nat_eq, nat_lt, nat_le, List, [], ◌∷◌, ◌++◌, length, codes, is_some, is_none, Option, Some, None, refl, ap, ◌∙◌, arith}
use Rattle.std.proofs.lemmas.List.{length-append}
use Rattle.gd_names.specs.Causes.{first_cause}
use Rattle.gd_names.specs.Names.{name_fault}
use Rattle.gd_names.specs.declared.conflict.Conflict.{Conflict}
use Rattle.gd_names.specs.declared.conflict.Conflict.TheVariants.{Fail, Replace}
use Rattle.gd_item.specs.Answers.{answer, answer_of, answer_unless, reply_to, refused, shown}
use Rattle.gd_item.specs.DriveLogs.{other, put_at, opened_log, first_part, second_part, third_part, begun_log, two_parts_log, sent_log}
use Rattle.gd_item.specs.Ids.{item_id}
use Rattle.gd_item.specs.Inventory.{Inventory, new_drive}
use Rattle.gd_item.specs.Nodes.{is_folder}
use Rattle.gd_item.specs.Refusals.{is_there, settled_in, is_refuse, is_met, is_too_long, settled_path, is_over_quota, made_items, live_named, put_refusal}
use Rattle.gd_item.specs.Refused.{Refusal, refuse, refusal, or_else, by_session, by_store, at_target, last_refusal, commit_refusal}
use Rattle.gd_item.specs.Replies.{status_of_reply}
use Rattle.gd_item.specs.Sessions.{State, Session, new_state, held, held_bytes, is_last, is_other_total, session_fragment_fault, fragment_fault, session_at}
use Rattle.gd_item.specs.Steps.{after_request, after_step, state_of}
use Rattle.gd_item.specs.Targets.{place_of}
use Rattle.gd_item.specs.Trees.{nodes_of}
use Rattle.gd_item.specs.declared.condition.Condition.{Condition}
use Rattle.gd_item.specs.declared.condition.Condition.TheVariants.{Free}
use Rattle.gd_item.specs.declared.fault.ErrorCode.TheVariants.{InvalidRequest, InvalidRange, ItemNotFound}
use Rattle.gd_item.specs.declared.fault.SessionFault.{SessionFault}
use Rattle.gd_item.specs.declared.fault.SessionFault.TheVariants as session_fault
use Rattle.gd_item.specs.declared.fault.StoreFault.{StoreFault}
use Rattle.gd_item.specs.declared.fault.StoreFault.TheVariants.{NotFound, NotFolder, BadName, Modified, NameTaken, PathTooLong, Quota}
use Rattle.gd_item.specs.declared.live.Place.TheVariants.{Under}
use Rattle.gd_item.specs.declared.reply.Reply.TheVariants as reply
use Rattle.gd_item.specs.declared.request.Address.TheVariants.{ByPath}
use Rattle.gd_item.specs.declared.request.Request.{Request}
use Rattle.gd_item.specs.declared.request.Request.TheVariants.{Fragment, SessionStatus}
use Rattle.gd_item.specs.declared.step.Who.TheVariants.{Own, Other}

-- why a fragment is refused, from its length, how much came before, how much all sessions hold and the drive keeps
abbrev fault_by : Option ℕ → ℕ → ℕ → ℕ → ℕ → ℕ → ℕ → ℕ → Option SessionFault
fault_by whole first last total long before others kept =
    first_cause (
    (is_other_total whole total, session_fault.Total)
    ∷ (nat_lt last first || nat_le total last || not (nat_eq (last - first + 1) long), session_fault.Form)
    ∷ (nat_le 62914560 long || nat_lt 67108864 total, session_fault.TooLarge)
    ∷ (not (nat_eq first before), session_fault.Range before)
    ∷ (not (is_last last total) && not (nat_eq (long % 327680) 0), session_fault.Multiple)
    ∷ (nat_lt 536870912 (kept + others + long), session_fault.Quota)
    ∷ [])

fault-lengths : (state : State) (session : Session) (first last total : ℕ) (bytes : List ℕ) (long before others : ℕ) → length bytes ≡ long → length session.filled ≡ before
    → held_bytes state.sessions ≡ others → session_fragment_fault (held state).kept state.sessions session first last total bytes ≡ fault_by session.total first last total long before others (held state).kept
fault-lengths state session first last total bytes long before others is_long is_before is_others =
    ap (λ n. fault_by session.total first last total n (length session.filled) (held_bytes state.sessions) (held state).kept) is_long
    ∙ ap (λ n. fault_by session.total first last total long n (held_bytes state.sessions) (held state).kept) is_before
    ∙ ap (λ n. fault_by session.total first last total long before n (held state).kept) is_others

-- why a file is refused that is put under a folder, from its length
abbrev under_by : Inventory → ℕ → List ℕ → Conflict → Condition → ℕ → Option StoreFault
under_by held parent name behaviour condition long =
    let settle = settled_in held parent name behaviour false in
    first_cause (
    (not (is_there parent (nodes_of held)), NotFound)
    ∷ (not (is_folder parent (nodes_of held)), NotFolder)
    ∷ (is_some (name_fault name), BadName)
    ∷ (not (is_met condition (live_named parent name held.items)), Modified)
    ∷ (is_refuse settle, NameTaken)
    ∷ (is_too_long (settled_path held parent settle), PathTooLong)
    ∷ (is_over_quota held (made_items settle) long, Quota)
    ∷ [])

-- the refusal of a fragment of a session that lives
refusal-fragment : (state : State) (session : Session) (number first last total : ℕ) (bytes : List ℕ) (fault : Option SessionFault) → session_at number state.sessions ≡ Some session
    → session_fragment_fault (held state).kept state.sessions session first last total bytes ≡ fault
    → refusal state (Fragment number first last total bytes) ≡ or_else (by_session fault) (by_store (last_refusal state (Some session) last total bytes))
refusal-fragment state session number first last total bytes fault found is =
    ap (λ o. or_else (by_session (fragment_fault (held state).kept state.sessions o first last total bytes)) (by_store (last_refusal state o last total bytes))) found
    ∙ ap (λ f. or_else (by_session f) (by_store (last_refusal state (Some session) last total bytes))) is

pub after-accepted : (state : State) (request : Request) → refusal state request ≡ None → after_step state (other request) ≡ after_request state Other request
after-accepted state request is = ap (λ o. cond (is_none o) (after_request state Other request) state) is

after-refused : (state : State) (request : Request) (why : Refusal) → refusal state request ≡ Some why → after_step state (other request) ≡ state
after-refused state request why is = ap (λ o. cond (is_none o) (after_request state Other request) state) is

answer-accepted : (state : State) (size : ℕ) (request : Request) → refusal state request ≡ None → answer state size request ≡ shown state.plain (reply_to state (after_request state Own request) size request)
answer-accepted state size request is = ap (λ o. shown state.plain (answer_unless o state size request)) is

shown-refused : (plain : Bool) (why : Refusal) → shown plain (refused why) ≡ refused why
shown-refused true why = refl
shown-refused false why = refl

pub answer-refused : (state : State) (size : ℕ) (request : Request) (why : Refusal) → refusal state request ≡ Some why → answer state size request ≡ refused why
answer-refused state size request why is = ap (λ o. shown state.plain (answer_unless o state size request)) is ∙ shown-refused state.plain why

-- the session with these bytes, and the drive that has it alone
abbrev filled_session : Option ℕ → List ℕ → Session
filled_session total bytes = record { number = 1; place = Under (item_id 1) (codes "s"); behaviour = Fail; condition = Free; defer = false; total = total; filled = bytes }

abbrev sending : Option ℕ → List ℕ → State
sending total bytes = record { effects = []; sessions = filled_session total bytes ∷ []; openers = Other ∷ []; epoch = 1; floor = 0; plain = false }

opened-is : state_of opened_log ≡ sending None []
opened-is = refl

first-accepted : (a : List ℕ) → length a ≡ 327680 → refusal (sending None []) (first_part a) ≡ None
first-accepted a long =
    refusal-fragment (sending None []) (filled_session None []) 1 0 327679 655361 a None refl (fault-lengths (sending None []) (filled_session None []) 0 327679 655361 a 327680 0 0 long refl refl)

begun-is : (a : List ℕ) → length a ≡ 327680 → state_of (begun_log a) ≡ sending (Some 655361) a
begun-is a long = after-accepted (sending None []) (first_part a) (first-accepted a long)

pub first-answer : (a : List ℕ) → length a ≡ 327680 → answer_of opened_log 200 (first_part a) ≡ reply.More 327680
first-answer a long = answer-accepted (sending None []) 200 (first_part a) (first-accepted a long) ∙ ap reply.More long

held-one : (total : Option ℕ) (bytes : List ℕ) (n : ℕ) → length bytes ≡ n → held_bytes (filled_session total bytes ∷ []) ≡ n
held-one total bytes n long = let e : 0 + length bytes ≡ n = omega (arith, long) in e

second-accepted : (a b : List ℕ) → length a ≡ 327680 → length b ≡ 327680 → refusal (sending (Some 655361) a) (second_part b) ≡ None
second-accepted a b a_long b_long =
    refusal-fragment (sending (Some 655361) a) (filled_session (Some 655361) a) 1 327680 655359 655361 b None refl
    (fault-lengths (sending (Some 655361) a) (filled_session (Some 655361) a) 327680 655359 655361 b 327680 327680 327680 b_long a_long (held-one (Some 655361) a 327680 a_long))

two-long : (a b : List ℕ) → length a ≡ 327680 → length b ≡ 327680 → length (a ++ b) ≡ 655360
two-long a b a_long b_long = omega (arith, length-append a b, a_long, b_long)

two-is : (a b : List ℕ) → length a ≡ 327680 → length b ≡ 327680 → state_of (two_parts_log a b) ≡ sending (Some 655361) (a ++ b)
two-is a b a_long b_long =
    ap (λ state. after_step state (other (second_part b))) (begun-is a a_long) ∙ after-accepted (sending (Some 655361) a) (second_part b) (second-accepted a b a_long b_long)

pub second-answer : (a b : List ℕ) → length a ≡ 327680 → length b ≡ 327680 → answer_of (begun_log a) 200 (second_part b) ≡ reply.More 655360
second-answer a b a_long b_long =
    ap (λ state. answer state 200 (second_part b)) (begun-is a a_long)
    ∙ answer-accepted (sending (Some 655361) a) 200 (second_part b) (second-accepted a b a_long b_long) ∙ ap reply.More (two-long a b a_long b_long)

again-refused : (a b : List ℕ) → length a ≡ 327680 → length b ≡ 327680 → refusal (sending (Some 655361) (a ++ b)) (second_part b) ≡ Some (refuse 416 InvalidRange)
again-refused a b a_long b_long =
    refusal-fragment (sending (Some 655361) (a ++ b)) (filled_session (Some 655361) (a ++ b)) 1 327680 655359 655361 b (Some (session_fault.Range 655360)) refl
    (fault-lengths (sending (Some 655361) (a ++ b)) (filled_session (Some 655361) (a ++ b)) 327680 655359 655361 b 327680 655360 655360 b_long (two-long a b a_long b_long)
    (held-one (Some 655361) (a ++ b) 655360 (two-long a b a_long b_long)))

pub again-answer : (a b : List ℕ) → length a ≡ 327680 → length b ≡ 327680 → answer_of (two_parts_log a b) 200 (second_part b) ≡ refused (refuse 416 InvalidRange)
again-answer a b a_long b_long =
    ap (λ state. answer state 200 (second_part b)) (two-is a b a_long b_long)
    ∙ answer-refused (sending (Some 655361) (a ++ b)) 200 (second_part b) (refuse 416 InvalidRange) (again-refused a b a_long b_long)

again-is : (a b : List ℕ) → length a ≡ 327680 → length b ≡ 327680 → state_of (two_parts_log a b ++ other (second_part b) ∷ []) ≡ sending (Some 655361) (a ++ b)
again-is a b a_long b_long =
    ap (λ state. after_step state (other (second_part b))) (two-is a b a_long b_long)
    ∙ after-refused (sending (Some 655361) (a ++ b)) (second_part b) (refuse 416 InvalidRange) (again-refused a b a_long b_long)

whole-accepted : (ab c : List ℕ) → length ab ≡ 655360 → length c ≡ 1 → commit_refusal (sending (Some 655361) ab) (filled_session (Some 655361) ab) (ab ++ c) ≡ None
whole-accepted ab c ab_long c_long =
    let long : length (ab ++ c) + (0 + length ab - length ab) ≡ 655361 = omega (arith, length-append ab c, ab_long, c_long) in
    ap (under_by new_drive 1 (codes "s") Fail Free) long

third-accepted : (ab c : List ℕ) → length ab ≡ 655360 → length c ≡ 1 → refusal (sending (Some 655361) ab) (third_part c) ≡ None
third-accepted ab c ab_long c_long =
    refusal-fragment (sending (Some 655361) ab) (filled_session (Some 655361) ab) 1 655360 655360 655361 c None refl
    (fault-lengths (sending (Some 655361) ab) (filled_session (Some 655361) ab) 655360 655360 655361 c 1 655360 655360 c_long ab_long (held-one (Some 655361) ab 655360 ab_long))
    ∙ ap by_store (whole-accepted ab c ab_long c_long)

pub third-answer : (a b c : List ℕ) → length a ≡ 327680 → length b ≡ 327680 → length c ≡ 1
    → status_of_reply (answer_of (two_parts_log a b ++ other (second_part b) ∷ []) 200 (third_part c)) ≡ 201
third-answer a b c a_long b_long c_long =
    ap (λ state. status_of_reply (answer state 200 (third_part c))) (again-is a b a_long b_long)
    ∙ ap status_of_reply (answer-accepted (sending (Some 655361) (a ++ b)) 200 (third_part c) (third-accepted (a ++ b) c (two-long a b a_long b_long) c_long))

sent-is : (a b c : List ℕ) → length a ≡ 327680 → length b ≡ 327680 → length c ≡ 1 → state_of (sent_log a b c) ≡ after_request (sending (Some 655361) (a ++ b)) Other (third_part c)
sent-is a b c a_long b_long c_long =
    ap (λ state. after_step state (other (third_part c))) (again-is a b a_long b_long)
    ∙ after-accepted (sending (Some 655361) (a ++ b)) (third_part c) (third-accepted (a ++ b) c (two-long a b a_long b_long) c_long)

pub made-items : (a b c : List ℕ) → length a ≡ 327680 → length b ≡ 327680 → length c ≡ 1
    → (held (state_of (sent_log a b c))).items ≡ record { number = 2; parent = 1; name = codes "s"; bytes = Some (a ++ b ++ c); change = 2; content = 2 } ∷ []
made-items a b c a_long b_long c_long = ap (λ state. (held state).items) (sent-is a b c a_long b_long c_long)

pub sent-status : (a b c : List ℕ) → length a ≡ 327680 → length b ≡ 327680 → length c ≡ 1
    → answer_of (sent_log a b c) 200 (SessionStatus 1) ≡ refused (refuse 404 ItemNotFound)
sent-status a b c a_long b_long c_long = ap (λ state. answer state 200 (SessionStatus 1)) (sent-is a b c a_long b_long c_long)

pub multiple-answer : (a : List ℕ) → length a ≡ 100 → answer_of opened_log 200 (Fragment 1 0 99 1000 a) ≡ refused (refuse 400 InvalidRange)
multiple-answer a long =
    answer-refused (sending None []) 200 (Fragment 1 0 99 1000 a) (refuse 400 InvalidRange)
    (refusal-fragment (sending None []) (filled_session None []) 1 0 99 1000 a (Some session_fault.Multiple) refl
    (fault-lengths (sending None []) (filled_session None []) 0 99 1000 a 100 0 0 long refl refl))

pub range-answer : (b : List ℕ) → length b ≡ 327680 → answer_of opened_log 200 (second_part b) ≡ refused (refuse 416 InvalidRange)
range-answer b long =
    answer-refused (sending None []) 200 (second_part b) (refuse 416 InvalidRange)
    (refusal-fragment (sending None []) (filled_session None []) 1 327680 655359 655361 b (Some (session_fault.Range 0)) refl
    (fault-lengths (sending None []) (filled_session None []) 327680 655359 655361 b 327680 0 0 long refl refl))

pub total-answer : (a b : List ℕ) → length a ≡ 327680 → answer_of (begun_log a) 200 (Fragment 1 327680 655359 655362 b) ≡ refused (refuse 400 InvalidRequest)
total-answer a b long = ap (λ state. answer state 200 (Fragment 1 327680 655359 655362 b)) (begun-is a long)

-- a put above the limit
pub large-put : (path : List (List ℕ)) (bytes : List ℕ) → length bytes ≡ 4194305 → answer_of [] 200 (put_at path bytes) ≡ refused (refuse 413 InvalidRequest)
large-put path bytes long =
    answer-refused new_state 200 (put_at path bytes) (refuse 413 InvalidRequest)
    (ap (λ n. cond (nat_lt 4194304 n) (Some (refuse 413 InvalidRequest))
    (by_store (at_target (λ place. put_refusal (held new_state) place bytes Replace Free (held_bytes [])) (place_of (held new_state) (ByPath path))))) long)
