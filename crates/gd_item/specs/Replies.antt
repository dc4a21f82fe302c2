-- The replies that a client may have to a request: those of its kind, or a refusal by one of the pairs of status (RFC 9110)
-- and code.
use Rattle.std.specs.Prelude.{ℕ, Bool, true, false, not, ◌&&◌, ◌||◌, nat_eq}
use Rattle.gd_item.specs.declared.fault.ErrorCode.{ErrorCode}
use Rattle.gd_item.specs.declared.fault.ErrorCode.TheVariants as code
use Rattle.gd_item.specs.declared.reply.Reply.{Reply}
use Rattle.gd_item.specs.declared.reply.Reply.TheVariants as reply
use Rattle.gd_item.specs.declared.request.RequestKind.{RequestKind}
use Rattle.gd_item.specs.declared.request.RequestKind.TheVariants as kind

-- whether a code comes with this status
abbrev pub has_status : ErrorCode → ℕ → Bool
has_status code.InvalidRequest status = nat_eq status 400 || nat_eq status 413
has_status code.InvalidRange status = nat_eq status 400 || nat_eq status 416
has_status code.ItemNotFound status = nat_eq status 404
has_status code.NotSupported status = nat_eq status 405 || nat_eq status 501
has_status code.NameAlreadyExists status = nat_eq status 409
has_status code.ResyncChangesApplyDifferences status = nat_eq status 410
has_status code.ResyncChangesUploadDifferences status = nat_eq status 410
has_status code.ResourceModified status = nat_eq status 412
has_status code.FailedDependency status = nat_eq status 424
has_status code.GeneralException status = nat_eq status 503
has_status code.QuotaLimitReached status = nat_eq status 507

-- whether a reply is a refusal by such a pair; that a token is gone (410) is a reply of its own
abbrev pub is_refused : Reply → Bool
is_refused (reply.Refused status code) = has_status code status && not (nat_eq status 410)
is_refused reply = false

abbrev pub is_made_or_is : Reply → Bool
is_made_or_is (reply.Made item) = true
is_made_or_is (reply.Is item) = true
is_made_or_is reply = false

-- whether a reply is one of those that a fragment, and a request for changes, may have
abbrev pub is_progress : Reply → Bool
is_progress (reply.More expected) = true
is_progress reply = is_made_or_is reply

abbrev pub is_page_or_gone : Reply → Bool
is_page_or_gone (reply.Page page) = true
is_page_or_gone (reply.Gone resync) = true
is_page_or_gone reply = false

abbrev pub is_item : Reply → Bool
is_item (reply.Is item) = true
is_item reply = false

abbrev pub is_made_reply : Reply → Bool
is_made_reply (reply.Made item) = true
is_made_reply reply = false

abbrev pub is_list : Reply → Bool
is_list (reply.Listed items next) = true
is_list reply = false

abbrev pub is_done : Reply → Bool
is_done reply.Done = true
is_done reply = false

abbrev pub is_found : Reply → Bool
is_found (reply.Found id version) = true
is_found reply = false

abbrev pub is_content : Reply → Bool
is_content (reply.Content bytes) = true
is_content reply = false

abbrev pub is_session : Reply → Bool
is_session (reply.Session session expected) = true
is_session reply = false

abbrev pub is_status : Reply → Bool
is_status (reply.Status expected) = true
is_status reply = false

-- whether a reply is one of the kind of a request, where that is not refused
abbrev pub is_accepted_reply : RequestKind → Reply → Bool
is_accepted_reply kind.Get reply = is_item reply
is_accepted_reply kind.Children reply = is_list reply
is_accepted_reply kind.MakeFolder reply = is_made_reply reply
is_accepted_reply kind.Put reply = is_made_or_is reply
is_accepted_reply kind.Patch reply = is_item reply
is_accepted_reply kind.Delete reply = is_done reply
is_accepted_reply kind.Content reply = is_found reply
is_accepted_reply kind.Download reply = is_content reply
is_accepted_reply kind.OpenSession reply = is_session reply
is_accepted_reply kind.Fragment reply = is_progress reply
is_accepted_reply kind.SessionStatus reply = is_status reply
is_accepted_reply kind.CancelSession reply = is_done reply
is_accepted_reply kind.Finish reply = is_made_or_is reply
is_accepted_reply kind.Delta reply = is_page_or_gone reply

-- whether a reply may come to a request of this kind
abbrev pub may_answer : RequestKind → Reply → Bool
may_answer kind reply = is_accepted_reply kind reply || is_refused reply

-- the status with which a reply is sent
abbrev pub status_of_reply : Reply → ℕ
status_of_reply (reply.Made item) = 201
status_of_reply (reply.Is item) = 200
status_of_reply (reply.Listed items next) = 200
status_of_reply reply.Done = 204
status_of_reply (reply.Found id version) = 302
status_of_reply (reply.Content bytes) = 200
status_of_reply (reply.Session session expected) = 200
status_of_reply (reply.Status expected) = 200
status_of_reply (reply.More expected) = 202
status_of_reply (reply.Page page) = 200
status_of_reply (reply.Gone resync) = 410
status_of_reply (reply.Refused status code) = status
