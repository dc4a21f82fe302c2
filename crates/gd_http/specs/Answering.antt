-- What a whole reply to a request of some kind says: by its status first. None is a reply that answers no such request.
use Rattle.std.specs.Prelude.{◌≡◌, ℕ, Bool, true, false, ◌&&◌, cond, List, ◌++◌, nat_eq, codes, Option, Some, None, option_map, option_and_then, Result, Ok, Err, ⊤}
use Rattle.std.specs.Cmp.Lexicographic.{pointwise}
use Rattle.std.specs.Result.{result_ok}
use Rattle.gd_item.specs.Replies.{has_status}
use Rattle.gd_item.specs.declared.fault.ErrorCode.{ErrorCode}
use Rattle.gd_item.specs.declared.fault.ErrorCode.TheVariants as code
use Rattle.gd_item.specs.declared.item.Item as items
use Rattle.gd_item.specs.declared.reply.Reply.{Reply}
use Rattle.gd_item.specs.declared.reply.Reply.TheVariants as reply
use Rattle.gd_item.specs.declared.reply.Resync.{Resync}
use Rattle.gd_item.specs.declared.reply.Resync.TheVariants.{ApplyDifferences, UploadDifferences}
use Rattle.gd_item.specs.declared.request.RequestKind.{RequestKind}
use Rattle.gd_item.specs.declared.request.RequestKind.TheVariants as kind
use Rattle.gd_json.specs.Bodies.{body}
use Rattle.gd_json.specs.Errors.{error_at}
use Rattle.gd_json.specs.Items.{item_at}
use Rattle.gd_json.specs.Links.{past}
use Rattle.gd_json.specs.Lists.{children_at, page_at}
use Rattle.gd_json.specs.Sessions.{status_at, session_at}
use Rattle.gd_json.specs.declared.children.ChildList.{ChildList}
use Rattle.gd_json.specs.declared.session.SessionBody.{SessionBody}
use Rattle.gd_target.specs.declared.fault.RequestFault.{RequestFault}
use Rattle.gd_target.specs.declared.resource.Resource.{Resource}
use Rattle.gd_target.specs.declared.resource.Resource.TheVariants.{Download}
use Rattle.gd_target.specs.Queries.{once}
use Rattle.gd_target.specs.Resources.{download_of}
use Rattle.gd_target.specs.Targets.{delta_text}
use Rattle.gd_frame.specs.declared.frame.Field.{Field}
use Rattle.gd_http.specs.declared.fault.ReplyFault.{ReplyFault}
use Rattle.gd_http.specs.declared.fault.ReplyFault.TheVariants.{Meaning, Memory}
use Rattle.gd_http.specs.Headers.{header_values}

-- what a function returned, seen by `view`, is what reading gives, unless memory ran out
abbrev pub TellsAs : {A B : Type 0} → (A → B) → Result A ReplyFault → Option B → Type 0
TellsAs view (Ok x) read = read ≡ Some (view x)
TellsAs view (Err Meaning) read = read ≡ None
TellsAs view (Err Memory) read = ⊤

abbrev pub Tells : {A : Type 0} → Result A ReplyFault → Option A → Type 0
Tells result read = TellsAs (λ x. x) result read

-- ---- bodies

unfoldable pub item_in : List ℕ → Option items.Item
item_in bytes = result_ok (body item_at bytes)

abbrev pub listed : ChildList → Reply
listed list = reply.Listed list.items list.next

unfoldable pub list_in : List ℕ → List ℕ → Option ChildList
list_in base bytes = result_ok (body (children_at base) bytes)

abbrev pub opened : Option ℕ → ℕ → Option Reply
opened None expected = None
opened (Some session) expected = Some (reply.Session session expected)

unfoldable pub session_in : List ℕ → List ℕ → Option SessionBody
session_in base bytes = result_ok (body (session_at base) bytes)

unfoldable pub expected_in : List ℕ → Option ℕ
expected_in bytes = result_ok (body status_at bytes)

unfoldable pub error_in : List ℕ → Option ErrorCode
error_in bytes = result_ok (body error_at bytes)

-- ---- Location

abbrev pub one_value : Result (Option (List ℕ)) RequestFault → Option (List ℕ)
one_value (Ok value) = value
one_value (Err e) = None

-- the one Location
unfoldable pub location_of : List Field → Option (List ℕ)
location_of fields = one_value (once (header_values (codes "Location") fields))

abbrev pub found_at : Resource → Option Reply
found_at (Download id version) = Some (reply.Found id version)
found_at resource = None

unfoldable pub found_behind : List ℕ → Option Reply
found_behind rest = option_and_then found_at (download_of rest)

unfoldable pub found_below : List ℕ → Option Reply
found_below path = option_and_then found_behind (past (codes "/v1.0/download/") path)

unfoldable pub found_in : List ℕ → List ℕ → Option Reply
found_in base link = option_and_then found_below (past base link)

unfoldable pub is_feed : List ℕ → List ℕ → Bool
is_feed base link = pointwise nat_eq link (base ++ delta_text None)

abbrev pub resync_of : ErrorCode → Option Resync
resync_of code.ResyncChangesApplyDifferences = Some ApplyDifferences
resync_of code.ResyncChangesUploadDifferences = Some UploadDifferences
resync_of code = None

-- ---- the replies of each status

unfoldable pub okay_of : List ℕ → RequestKind → List ℕ → Option Reply
okay_of base kind.Get bytes = option_map reply.Is (item_in bytes)
okay_of base kind.Children bytes = option_map listed (list_in base bytes)
okay_of base kind.MakeFolder bytes = None
okay_of base kind.Put bytes = option_map reply.Is (item_in bytes)
okay_of base kind.Patch bytes = option_map reply.Is (item_in bytes)
okay_of base kind.Delete bytes = None
okay_of base kind.Content bytes = None
okay_of base kind.Download bytes = Some (reply.Content bytes)
okay_of base kind.OpenSession bytes = option_and_then (λ session. opened session.session session.expected) (session_in base bytes)
okay_of base kind.Fragment bytes = option_map reply.Is (item_in bytes)
okay_of base kind.SessionStatus bytes = option_map reply.Status (expected_in bytes)
okay_of base kind.CancelSession bytes = None
okay_of base kind.Finish bytes = option_map reply.Is (item_in bytes)
okay_of base kind.Delta bytes = option_map reply.Page (result_ok (body (page_at base) bytes))

-- whether a request of this kind may make an item
abbrev pub may_make : RequestKind → Bool
may_make kind.MakeFolder = true
may_make kind.Put = true
may_make kind.Fragment = true
may_make kind.Finish = true
may_make kind = false

abbrev pub is_fragment : RequestKind → Bool
is_fragment kind.Fragment = true
is_fragment kind = false

-- whether a request of this kind has a reply without a body
abbrev pub is_plain : RequestKind → Bool
is_plain kind.Delete = true
is_plain kind.CancelSession = true
is_plain kind = false

abbrev pub is_content : RequestKind → Bool
is_content kind.Content = true
is_content kind = false

abbrev pub is_delta : RequestKind → Bool
is_delta kind.Delta = true
is_delta kind = false

unfoldable pub moved_of : List ℕ → List Field → Option Reply
moved_of base fields = option_and_then (found_in base) (location_of fields)

-- a token is gone: the link says where to begin anew, and the code how
unfoldable pub gone_of : List ℕ → List Field → List ℕ → Option Reply
gone_of base fields bytes =
    option_and_then (λ link. cond (is_feed base link) (option_map reply.Gone (option_and_then resync_of (error_in bytes))) None) (location_of fields)

-- a code with a status that it comes with
unfoldable pub refused_of : ℕ → List ℕ → Option Reply
refused_of status bytes = option_and_then (λ code. cond (has_status code status) (Some (reply.Refused status code)) None) (error_in bytes)

unfoldable pub reply_of : List ℕ → RequestKind → ℕ → List Field → List ℕ → Option Reply
reply_of base kind status fields bytes =
    cond (nat_eq status 200) (okay_of base kind bytes)
    (cond (nat_eq status 201 && may_make kind) (option_map reply.Made (item_in bytes))
    (cond (nat_eq status 202 && is_fragment kind) (option_map reply.More (expected_in bytes))
    (cond (nat_eq status 204 && is_plain kind) (Some reply.Done)
    (cond (nat_eq status 302 && is_content kind) (moved_of base fields)
    (cond (nat_eq status 410 && is_delta kind) (gone_of base fields bytes) (refused_of status bytes))))))
