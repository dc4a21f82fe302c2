-- What a drive answers: its refusal, or the reply to the request with the items as they are after it. An item of a
-- reply that is no page of the feed has the path of its folder. The items of a plain drive are shown without digests and
-- content tags.
use Rattle.std.specs.Prelude.{ℕ, ◌+◌, Bool, true, false, cond, List, [], ◌∷◌, length, map, take, Option, Some, None}
use Rattle.gd_item.specs.Children.{children_past, first_children, has_more_children}
use Rattle.gd_item.specs.Ids.{item_id}
use Rattle.gd_item.specs.Inventory.{Effect, Inventory, live_at}
use Rattle.gd_item.specs.Pages.{Asked, Past, Latest, Bad, Lost, asked, page_past, latest_page}
use Rattle.gd_item.specs.Records.{record_at}
use Rattle.gd_item.specs.Refusals.{touched, is_made}
use Rattle.gd_item.specs.Refused.{Refusal, refusal}
use Rattle.gd_item.specs.Sessions.{State, Session, held, session_at}
use Rattle.gd_item.specs.Steps.{after_request, effects_of, state_of}
use Rattle.gd_item.specs.Targets.{target_of}
use Rattle.gd_item.specs.Versions.{version_at}
use Rattle.gd_item.specs.declared.fault.ErrorCode.TheVariants.{InvalidRequest, ItemNotFound, GeneralException}
use Rattle.gd_item.specs.declared.item.Item.{Item}
use Rattle.gd_item.specs.declared.item.Kind.{Kind}
use Rattle.gd_item.specs.declared.item.Kind.TheVariants as kind
use Rattle.gd_item.specs.declared.live.LiveItem.{LiveItem}
use Rattle.gd_item.specs.declared.reply.Reply.{Reply}
use Rattle.gd_item.specs.declared.reply.Reply.TheVariants as reply
use Rattle.gd_item.specs.declared.request.Request.{Request}
use Rattle.gd_item.specs.declared.request.Request.TheVariants.{Get, Children, MakeFolder, Put, Patch, Delete, Content, Download, OpenSession, Fragment, SessionStatus, CancelSession, Finish, Delta}
use Rattle.gd_item.specs.declared.step.Step.{Step}
use Rattle.gd_item.specs.declared.step.Who.TheVariants.{Own}

abbrev pub refused : Refusal → Reply
refused refusal = reply.Refused refusal.status refusal.code

-- the reply of a drive that lacks memory
abbrev pub unserved : Reply
unserved = reply.Refused 503 GeneralException

-- a reply about something that is there wherever the request is not refused
abbrev pub about : {X : Type 0} → (X → Reply) → Option X → Reply
about says None = reply.Refused 404 ItemNotFound
about says (Some x) = says x

abbrev pub record_reply : Inventory → ℕ → Reply
record_reply held number = about reply.Is (record_at number true held)

-- the reply to a request with an effect: the item that was made or changed
abbrev pub made_or_is : Bool → Item → Reply
made_or_is true item = reply.Made item
made_or_is false item = reply.Is item

abbrev pub effect_reply : Inventory → Inventory → Reply → List Effect → Reply
effect_reply before after otherwise [] = otherwise
effect_reply before after otherwise (effect ∷ effects) = about (made_or_is (is_made effect)) (record_at (touched before effect) true after)

-- the children of a folder, and the name of the last one given where more follow
abbrev pub last_child_name : List LiveItem → Option (List ℕ)
last_child_name [] = None
last_child_name (item ∷ []) = Some item.name
last_child_name (item ∷ next ∷ items) = last_child_name (next ∷ items)

abbrev pub next_child : ℕ → Option (List ℕ) → ℕ → Inventory → Option (List ℕ)
next_child parent earlier most held =
    cond (has_more_children parent earlier most held) (last_child_name (take most (children_past parent earlier held.items))) None

abbrev pub children_reply : Inventory → Option (List ℕ) → ℕ → ℕ → Reply
children_reply held earlier size parent = reply.Listed (first_children parent earlier size held) (next_child parent earlier size held)

-- where the bytes of a file are to be had
abbrev pub found_reply : LiveItem → Reply
found_reply item = reply.Found (item_id item.number) item.content

abbrev pub content_reply : Inventory → ℕ → Reply
content_reply held number = about found_reply (live_at number held.items)

abbrev pub status_reply : Session → Reply
status_reply session = reply.Status (length session.filled)

abbrev pub more_reply : Session → Reply
more_reply session = reply.More (length session.filled)

-- the reply to what a token asks for
abbrev pub delta_reply : State → ℕ → Asked → Reply
delta_reply state size (Past position start) = reply.Page (page_past state position start size)
delta_reply state size Latest = reply.Page (latest_page state)
delta_reply state size Bad = reply.Refused 400 InvalidRequest
delta_reply state size (Lost resync) = reply.Gone resync

-- the reply to a request that is not refused, from what the drive had come to before it and after it
abbrev pub reply_to : State → State → ℕ → Request → Reply
reply_to before after size (Get at) = about (record_reply (held before)) (target_of (held before) at)
reply_to before after size (Children at earlier) = about (children_reply (held before) earlier size) (target_of (held before) at)
reply_to before after size (MakeFolder at name behaviour) =
    effect_reply (held before) (held after) reply.Done (effects_of before (MakeFolder at name behaviour))
reply_to before after size (Put at bytes behaviour condition) =
    effect_reply (held before) (held after) reply.Done (effects_of before (Put at bytes behaviour condition))
reply_to before after size (Patch at name parent condition) =
    effect_reply (held before) (held after) reply.Done (effects_of before (Patch at name parent condition))
reply_to before after size (Delete at condition) = reply.Done
reply_to before after size (Content at) = about (content_reply (held before)) (target_of (held before) at)
reply_to before after size (Download id version) = about reply.Content (version_at id.0 version (held before))
reply_to before after size (OpenSession at name behaviour condition defer) = reply.Session (length before.openers + 1) 0
reply_to before after size (Fragment session first last total bytes) =
    effect_reply (held before) (held after) (about more_reply (session_at session after.sessions))
    (effects_of before (Fragment session first last total bytes))
reply_to before after size (SessionStatus session) = about status_reply (session_at session before.sessions)
reply_to before after size (CancelSession session) = reply.Done
reply_to before after size (Finish session) = effect_reply (held before) (held after) reply.Done (effects_of before (Finish session))
reply_to before after size (Delta token) = delta_reply before size (asked before token)

-- the refusal, or else the reply
abbrev pub answer_unless : Option Refusal → State → ℕ → Request → Reply
answer_unless None state size request = reply_to state (after_request state Own request) size request
answer_unless (Some refusal) state size request = refused refusal

-- an item without its digest and its content tag
abbrev pub bare_kind : Kind → Kind
bare_kind (kind.Folder child_count) = kind.Folder child_count
bare_kind (kind.File digest) = kind.Bare
bare_kind kind.Bare = kind.Bare
bare_kind kind.Deleted = kind.Deleted

abbrev pub bare_item : Item → Item
bare_item item = record item { ctag = None; kind = bare_kind item.kind }

-- a reply with such items
abbrev pub bare_reply : Reply → Reply
bare_reply (reply.Made item) = reply.Made (bare_item item)
bare_reply (reply.Is item) = reply.Is (bare_item item)
bare_reply (reply.Listed items next) = reply.Listed (map bare_item items) next
bare_reply reply.Done = reply.Done
bare_reply (reply.Found id version) = reply.Found id version
bare_reply (reply.Content bytes) = reply.Content bytes
bare_reply (reply.Session session expected) = reply.Session session expected
bare_reply (reply.Status expected) = reply.Status expected
bare_reply (reply.More expected) = reply.More expected
bare_reply (reply.Page page) = reply.Page (record page { items = map bare_item page.items })
bare_reply (reply.Gone resync) = reply.Gone resync
bare_reply (reply.Refused status code) = reply.Refused status code

-- a reply as a drive shows it that is plain or not
abbrev pub shown : Bool → Reply → Reply
shown plain reply = cond plain (bare_reply reply) reply

-- what a drive answers that has come to this; a page has at most so many records, and a list so many items
abbrev pub answer : State → ℕ → Request → Reply
answer state size request = shown state.plain (answer_unless (refusal state request) state size request)

-- what it answers after the steps of a log
abbrev pub answer_of : List Step → ℕ → Request → Reply
answer_of log size request = answer (state_of log) size request

-- the same where the drive may lack memory
abbrev pub answer_served : Bool → State → ℕ → Request → Reply
answer_served served state size request = cond served (answer state size request) unserved
