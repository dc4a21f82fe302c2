-- Each answer of a drive is one that may come to the request.
use Rattle.std.proofs.Common.{◌≡◌, ◌⊎◌, inl, inr, ℕ, ◌-◌, ◌^◌, Bool, true, false, ◌&&◌, ◌||◌, cond, nat_lt, nat_le, List, [], ◌∷◌, length, map, Option, Some, None, is_none, refl, sym, ap, ◌∙◌}
use Rattle.std.proofs.lemmas.Bool.{or_left, or_right}
use Rattle.gd_names.proofs.Small.{clear}
use Rattle.gd_names.specs.declared.conflict.Settle.{Settle}
use Rattle.gd_names.specs.declared.conflict.Settle.TheVariants as settle
use Rattle.gd_item.specs.Answers.{refused, unserved, about, record_reply, made_or_is, effect_reply, children_reply, found_reply, content_reply, status_reply, more_reply, delta_reply, reply_to, answer_unless, bare_item, bare_reply, shown, answer, answer_of, answer_served}
use Rattle.gd_item.specs.Inventory.{Effect, Inventory, live_at}
use Rattle.gd_item.specs.Moves.{patch_effect}
use Rattle.gd_item.specs.Pages.{Asked, Past, Latest, Bad, Lost, asked, is_bad}
use Rattle.gd_item.specs.Records.{record_at}
use Rattle.gd_item.specs.Refusals.{settled_in, folder_effect, make_folder_effect, put_refusal, put_effect, touched, is_made}
use Rattle.gd_item.specs.Refused.{Refusal, refuse, by_store, by_session, or_else, at_target, with_sessions, but_quota, id_number, is_unlike, last_refusal, finish_refusal, refusal}
use Rattle.gd_item.specs.Replies.{is_refused, is_made_or_is, is_page_or_gone, is_accepted_reply, may_answer}
use Rattle.gd_item.specs.Requests.{kind_of}
use Rattle.gd_item.specs.Sessions.{State, Session, held, session_at, fragment_fault, finish_fault}
use Rattle.gd_item.specs.Steps.{effects_at, commit_effect, effects_of, after_request, state_of}
use Rattle.gd_item.specs.Targets.{target_of, place_of, name_in}
use Rattle.gd_item.specs.Versions.{version_at}
use Rattle.gd_item.specs.declared.fault.ErrorCode.TheVariants.{InvalidRequest, ItemNotFound, QuotaLimitReached}
use Rattle.gd_item.specs.declared.fault.SessionFault.{SessionFault}
use Rattle.gd_item.specs.declared.fault.SessionFault.TheVariants as session
use Rattle.gd_item.specs.declared.fault.StoreFault.{StoreFault}
use Rattle.gd_item.specs.declared.fault.StoreFault.TheVariants as store
use Rattle.gd_item.specs.declared.item.Item.{Item}
use Rattle.gd_item.specs.declared.reply.Page.{Page}
use Rattle.gd_item.specs.declared.reply.Reply.{Reply}
use Rattle.gd_item.specs.declared.reply.Reply.TheVariants as reply
use Rattle.gd_item.specs.declared.request.Request.{Request}
use Rattle.gd_item.specs.declared.request.Request.TheVariants.{Get, Children, MakeFolder, Put, Patch, Delete, Content, Download, OpenSession, Fragment, SessionStatus, CancelSession, Finish, Delta}
use Rattle.gd_item.specs.declared.request.RequestKind.{RequestKind}
use Rattle.gd_item.specs.declared.request.RequestKind.TheVariants as kind
use Rattle.gd_item.specs.declared.step.Step.{Step}
use Rattle.gd_item.specs.declared.step.Who.TheVariants.{Own}

-- ---- a plain drive answers by the same kinds
made-same : (of : RequestKind) (a b : Item) → may_answer of (reply.Made a) ≡ may_answer of (reply.Made b)
made-same kind.Get a b = refl
made-same of a b = refl

is-same : (of : RequestKind) (a b : Item) → may_answer of (reply.Is a) ≡ may_answer of (reply.Is b)
is-same kind.Get a b = refl
is-same of a b = refl

listed-same : (of : RequestKind) (items others : List Item) (next : Option (List ℕ)) → may_answer of (reply.Listed items next) ≡ may_answer of (reply.Listed others next)
listed-same kind.Get items others next = refl
listed-same of items others next = refl

page-same : (of : RequestKind) (a b : Page) → may_answer of (reply.Page a) ≡ may_answer of (reply.Page b)
page-same kind.Get a b = refl
page-same of a b = refl

bare-same : (of : RequestKind) (r : Reply) → may_answer of (bare_reply r) ≡ may_answer of r
bare-same of (reply.Made item) = made-same of (bare_item item) item
bare-same of (reply.Is item) = is-same of (bare_item item) item
bare-same of (reply.Listed items next) = listed-same of (map bare_item items) items next
bare-same of reply.Done = refl
bare-same of (reply.Found id version) = refl
bare-same of (reply.Content bytes) = refl
bare-same of (reply.Session number expected) = refl
bare-same of (reply.Status expected) = refl
bare-same of (reply.More expected) = refl
bare-same of (reply.Page page) = page-same of (record page { items = map bare_item page.items }) page
bare-same of (reply.Gone resync) = refl
bare-same of (reply.Refused status code) = refl

shown-same : (plain : Bool) (of : RequestKind) (r : Reply) → may_answer of (shown plain r) ≡ may_answer of r
shown-same true of r = bare-same of r
shown-same false of r = refl

-- ---- refusals
-- a refusal that may be there is one by a pair of status and code
abbrev IsPair : Option Refusal → Type 0
IsPair None = Unit {0}
IsPair (Some r) = is_refused (refused r) ≡ true

store-pair : (fault : Option StoreFault) → IsPair (by_store fault)
store-pair None = tt
store-pair (Some store.NotFound) = refl
store-pair (Some fault) = refl

session-pair : (fault : Option SessionFault) → IsPair (by_session fault)
session-pair None = tt
session-pair (Some session.NoSession) = refl
session-pair (Some fault) = refl

else-pair : (first second : Option Refusal) → IsPair first → IsPair second → IsPair (or_else first second)
else-pair None second a b = b
else-pair (Some first) second a b = a

if-pair : (b : Bool) (first second : Option Refusal) → IsPair first → IsPair second → IsPair (cond b first second)
if-pair true first second a b = a
if-pair false first second a b = b

refusal-pair : (state : State) (request : Request) → IsPair (refusal state request)
refusal-pair state (Get at) = store-pair _
refusal-pair state (Children at earlier) = store-pair _
refusal-pair state (MakeFolder at name behaviour) = store-pair _
refusal-pair state (Put at bytes behaviour condition) = if-pair (nat_lt 4194304 (length bytes)) (Some (refuse 413 InvalidRequest)) _ refl (store-pair _)
refusal-pair state (Patch at name parent condition) = if-pair (is_none name && is_none parent) (Some (refuse 400 InvalidRequest)) _ refl (store-pair _)
refusal-pair state (Delete at condition) = store-pair _
refusal-pair state (Content at) = store-pair _
refusal-pair state (Download id version) = store-pair _
refusal-pair state (OpenSession at name behaviour condition defer) =
    if-pair (is_unlike name (name_in at)) (Some (refuse 400 InvalidRequest)) _ refl
    (else-pair (by_store (at_target (λ place. but_quota (put_refusal (held state) place [] behaviour condition 0)) (place_of (held state) at)))
    (cond (nat_le 1000 (length state.sessions) || nat_le (2 ^ 64 - 1) (length state.openers)) (Some (refuse 507 QuotaLimitReached)) None)
    (store-pair (at_target (λ place. but_quota (put_refusal (held state) place [] behaviour condition 0)) (place_of (held state) at)))
    (if-pair (nat_le 1000 (length state.sessions) || nat_le (2 ^ 64 - 1) (length state.openers)) (Some (refuse 507 QuotaLimitReached)) None refl tt))
refusal-pair state (Fragment number first last total bytes) =
    let why : Option SessionFault = fragment_fault (held state).kept state.sessions (session_at number state.sessions) first last total bytes in
    let also : Option StoreFault = last_refusal state (session_at number state.sessions) last total bytes in
    else-pair (by_session why) (by_store also) (session-pair why) (store-pair also)
refusal-pair state (SessionStatus number) = session-pair _
refusal-pair state (CancelSession number) = session-pair _
refusal-pair state (Finish number) =
    let why : Option SessionFault = finish_fault (session_at number state.sessions) in
    let also : Option StoreFault = finish_refusal state (session_at number state.sessions) in
    else-pair (by_session why) (by_store also) (session-pair why) (store-pair also)
refusal-pair state (Delta token) = if-pair (is_bad (asked state token)) (Some (refuse 400 InvalidRequest)) None refl tt

-- ---- replies of the kind of a request
accepted : (of : RequestKind) (r : Reply) → is_accepted_reply of r ≡ true → may_answer of r ≡ true
accepted of r is = or_left (is_accepted_reply of r) (is_refused r) is

not-given : (of : RequestKind) (r : Reply) → is_refused r ≡ true → may_answer of r ≡ true
not-given of r is = or_right (is_accepted_reply of r) (is_refused r) is

about-may : {X : Type 0} (of : RequestKind) (says : X → Reply) → ((x : X) → may_answer of (says x) ≡ true) → (found : Option X) → may_answer of (about says found) ≡ true
about-may of says each None = not-given of (reply.Refused 404 ItemNotFound) refl
about-may of says each (Some x) = each x

made-or-is : (made : Bool) (item : Item) → is_made_or_is (made_or_is made item) ≡ true
made-or-is true item = refl
made-or-is false item = refl

-- a reply to one effect, where it may be that of an item which was made or changed so
effect-may : (of : RequestKind) (before after : Inventory) (otherwise : Reply) (effect : Effect) → ((item : Item) → is_accepted_reply of (made_or_is (is_made effect) item) ≡ true)
    → may_answer of (effect_reply before after otherwise (effect ∷ [])) ≡ true
effect-may of before after otherwise effect each =
    about-may of (made_or_is (is_made effect)) (λ item. accepted of (made_or_is (is_made effect) item) (each item)) (record_at (touched before effect) true after)

-- the same at a number or a place, which is there where the request is not refused
at-may : {X : Type 0} (of : RequestKind) (before after : Inventory) (otherwise : Reply) (made : X → Effect) → ((x : X) (item : Item) → is_accepted_reply of (made_or_is (is_made (made x)) item) ≡ true)
    → (target : Option X) → (target ≡ None → ⊥) → may_answer of (effect_reply before after otherwise (effects_at (λ x. made x ∷ []) target)) ≡ true
at-may of before after otherwise made each None there = absurd (there refl)
at-may of before after otherwise made each (Some x) there = effect-may of before after otherwise (made x) (each x)

folder-made : (parent : ℕ) (name : List ℕ) (how : Settle) → is_made (folder_effect parent name how) ≡ true
folder-made parent name (settle.Free free) = refl
folder-made parent name (settle.Over number) = refl
folder-made parent name settle.Refuse = refl

folder-reply : (effect : Effect) (item : Item) → is_made effect ≡ true → is_accepted_reply kind.MakeFolder (made_or_is (is_made effect) item) ≡ true
folder-reply effect item is = ap (λ b. is_accepted_reply kind.MakeFolder (made_or_is b item)) is

-- an address that names nothing is refused
stored-there : {X : Type 0} (state : State) (fault : X → Option StoreFault) (target : Option X) → None ≡ by_store (with_sessions state (at_target fault target)) → target ≡ None → ⊥
stored-there state fault None allowed is = cc allowed
stored-there state fault (Some x) allowed is = cc is

there-by-store : {X : Type 0} (fault : X → Option StoreFault) (target : Option X) → None ≡ by_store (at_target fault target) → target ≡ None → ⊥
there-by-store fault None allowed is = cc allowed
there-by-store fault (Some x) allowed is = cc is

finished-there : (found : Option Session) (rest : Option Refusal) → None ≡ or_else (by_session (finish_fault found)) rest → found ≡ None → ⊥
finished-there None rest allowed is = cc allowed
finished-there (Some s) rest allowed is = cc is

-- a fragment makes the file, or more is expected
progress : (made : Bool) (item : Item) → may_answer kind.Fragment (made_or_is made item) ≡ true
progress true item = refl
progress false item = refl

fragment-may : (before after : Inventory) (otherwise : Reply) (effects : List Effect) → may_answer kind.Fragment otherwise ≡ true → may_answer kind.Fragment (effect_reply before after otherwise effects) ≡ true
fragment-may before after otherwise [] more = more
fragment-may before after otherwise (effect ∷ effects) more =
    about-may kind.Fragment (made_or_is (is_made effect)) (progress (is_made effect)) (record_at (touched before effect) true after)

delta-may : (state : State) (size : ℕ) (a : Asked) → may_answer kind.Delta (delta_reply state size a) ≡ true
delta-may state size (Past position start) = refl
delta-may state size Latest = refl
delta-may state size Bad = refl
delta-may state size (Lost resync) = refl

reply-may : (before after : State) (size : ℕ) (request : Request) → None ≡ refusal before request → may_answer (kind_of request) (reply_to before after size request) ≡ true
reply-may before after size (Get at) h =
    about-may kind.Get (record_reply (held before)) (λ number. about-may kind.Get reply.Is (λ item. refl) (record_at number true (held before))) (target_of (held before) at)
reply-may before after size (Children at earlier) h = about-may kind.Children (children_reply (held before) earlier size) (λ number. refl) (target_of (held before) at)
reply-may before after size (MakeFolder at name behaviour) h =
    at-may kind.MakeFolder (held before) (held after) reply.Done (λ parent. make_folder_effect (held before) parent name behaviour)
    (λ parent item. folder-reply (make_folder_effect (held before) parent name behaviour) item (folder-made parent name (settled_in (held before) parent name behaviour true)))
    (target_of (held before) at) (stored-there before _ (target_of (held before) at) h)
reply-may before after size (Put at bytes behaviour condition) h =
    at-may kind.Put (held before) (held after) reply.Done (λ place. put_effect (held before) place bytes behaviour)
    (λ place item. made-or-is (is_made (put_effect (held before) place bytes behaviour)) item) (place_of (held before) at) (there-by-store _ (place_of (held before) at) (clear _ _ _ h).1)
reply-may before after size (Patch at name parent condition) h =
    at-may kind.Patch (held before) (held after) reply.Done (λ number. patch_effect (held before) number name (id_number parent)) (λ number item. refl)
    (target_of (held before) at) (stored-there before _ (target_of (held before) at) (clear _ _ _ h).1)
reply-may before after size (Delete at condition) h = refl
reply-may before after size (Content at) h =
    about-may kind.Content (content_reply (held before)) (λ number. about-may kind.Content found_reply (λ item. refl) (live_at number (held before).items)) (target_of (held before) at)
reply-may before after size (Download id version) h = about-may kind.Download reply.Content (λ bytes. refl) (version_at id.0 version (held before))
reply-may before after size (OpenSession at name behaviour condition defer) h = refl
reply-may before after size (Fragment number first last total bytes) h =
    fragment-may (held before) (held after) (about more_reply (session_at number after.sessions)) (effects_of before (Fragment number first last total bytes))
    (about-may kind.Fragment more_reply (λ s. refl) (session_at number after.sessions))
reply-may before after size (SessionStatus number) h = about-may kind.SessionStatus status_reply (λ s. refl) (session_at number before.sessions)
reply-may before after size (CancelSession number) h = refl
reply-may before after size (Finish number) h =
    at-may kind.Finish (held before) (held after) reply.Done (λ s. commit_effect before s s.filled) (λ s item. made-or-is (is_made (commit_effect before s s.filled)) item)
    (session_at number before.sessions) (finished-there (session_at number before.sessions) _ h)
reply-may before after size (Delta token) h = delta-may before size (asked before token)

-- ---- each answer
answer-may : (why : Option Refusal) (state : State) (size : ℕ) (request : Request) → refusal state request ≡ why → IsPair why → may_answer (kind_of request) (answer_unless why state size request) ≡ true
answer-may None state size request is pair = reply-may state (after_request state Own request) size request (sym is)
answer-may (Some r) state size request is pair = not-given (kind_of request) (refused r) pair

pub state-may : (state : State) (size : ℕ) (request : Request) → may_answer (kind_of request) (answer state size request) ≡ true
state-may state size request =
    shown-same state.plain (kind_of request) (answer_unless (refusal state request) state size request)
    ∙ answer-may (refusal state request) state size request refl (refusal-pair state request)

served-may : (served : Bool) (state : State) (size : ℕ) (request : Request) → may_answer (kind_of request) (answer_served served state size request) ≡ true
served-may true state size request = state-may state size request
served-may false state size request = not-given (kind_of request) unserved refl

pub answer-log : (log : List Step) (size : ℕ) (request : Request) (served : Bool) → may_answer (kind_of request) (answer_served served (state_of log) size request) ≡ true
answer-log log size request served = served-may served (state_of log) size request

-- ---- requests for changes
abbrev IsChanges : Reply → Type 0
IsChanges r = (is_page_or_gone r ≡ true) ⊎ (r ≡ reply.Refused 400 InvalidRequest)

shown-changes : (plain : Bool) (r : Reply) → IsChanges r → IsChanges (shown plain r)
shown-changes false r is = is
shown-changes true (reply.Page page) is = inl refl
shown-changes true (reply.Gone resync) is = inl refl
shown-changes true (reply.Refused status code) is = is
shown-changes true r (inl none) = absurd (cc none)
shown-changes true r (inr same) = inr (ap bare_reply same)

changes-of : (state : State) (size : ℕ) (a : Asked) → IsChanges (delta_reply state size a)
changes-of state size (Past position start) = inl refl
changes-of state size Latest = inl refl
changes-of state size Bad = inr refl
changes-of state size (Lost resync) = inl refl

changes-for : (b : Bool) (state : State) (size : ℕ) (token : Option (List ℕ)) → IsChanges (answer_unless (cond b (Some (refuse 400 InvalidRequest)) None) state size (Delta token))
changes-for true state size token = inr refl
changes-for false state size token = changes-of state size (asked state token)

pub changes-log : (log : List Step) (size : ℕ) (token : Option (List ℕ)) → IsChanges (answer_of log size (Delta token))
changes-log log size token =
    shown-changes (state_of log).plain (answer_unless (refusal (state_of log) (Delta token)) (state_of log) size (Delta token))
    (changes-for (is_bad (asked (state_of log) token)) (state_of log) size token)
