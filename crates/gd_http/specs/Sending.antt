-- The requests and replies that are read again as they were written: their value has a written form, and their head and
-- body are within the limits.
use Rattle.std.specs.Prelude.{◌≡◌, ℕ, ◌<◌, ◌≤◌, ◌^◌, ⊤, true, List, ◌++◌, length, Some, None}
use Rattle.serde_json.specs.Written.{compact_text}
use Rattle.gd_item.specs.Written.{IsWrittenId, IsWritten}
use Rattle.gd_item.specs.declared.request.Request.{Request}
use Rattle.gd_item.specs.declared.request.Request.TheVariants as request
use Rattle.gd_item.specs.Replies.{is_refused, may_answer}
use Rattle.gd_item.specs.declared.reply.Reply.{Reply}
use Rattle.gd_item.specs.declared.reply.Reply.TheVariants as reply
use Rattle.gd_item.specs.declared.request.RequestKind.{RequestKind}
use Rattle.gd_json.specs.Bases.{is_base}
use Rattle.gd_json.specs.Bodies.{JsonBody, or_empty}
use Rattle.gd_json.specs.Changes.{folder_data, folder_body_at, patch_data, patch_at, IsWritablePatch, begin_data, begin_at}
use Rattle.gd_json.specs.Errors.{error_data, error_at}
use Rattle.gd_json.specs.Items.{item_data, item_at, IsWritable}
use Rattle.gd_json.specs.Lists.{children_data, children_at, IsWritableList, page_data, page_at, IsWritablePage}
use Rattle.gd_json.specs.Sessions.{session_data, session_at}
use Rattle.gd_http.specs.WrittenReplies as replies
use Rattle.gd_http.specs.Written.{line_end, json_of, bytes_of, or_bytes, type_text, length_text, first_part}

abbrev pub written_body : Request → List ℕ
written_body r = or_bytes (json_of r) (bytes_of r)

-- all that stands before the body
abbrev pub written_head : List ℕ → Request → List ℕ
written_head base r = first_part base r ++ (type_text (json_of r) ++ (length_text (length (written_body r)) ++ line_end))

pub record IsSendable (links : List ℕ) (r : Request) : Type 0 where
  pub base : is_base links ≡ true
  pub value : IsWritten r
  pub head : length (written_head links r) ≤ 65536
  pub body : length (written_body r) ≤ 67108864

-- a body in JSON is read as what it was written for
abbrev pub HasBody : Request → Type 0
HasBody (request.MakeFolder at name behaviour) =
    JsonBody folder_body_at (record { name = name; behaviour = behaviour }) (compact_text (folder_data (record { name = name; behaviour = behaviour })))
HasBody (request.Patch at name parent condition) =
    IsWritablePatch (record { name = name; parent = parent }) → JsonBody patch_at (record { name = name; parent = parent }) (compact_text (patch_data (record { name = name; parent = parent })))
HasBody (request.OpenSession at name behaviour condition defer) =
    JsonBody begin_at (record { name = name; behaviour = behaviour; defer = defer }) (or_empty (compact_text (begin_data (record { name = name; behaviour = behaviour; defer = defer }))))
HasBody r = ⊤

-- ---- replies

abbrev pub reply_body : List ℕ → Reply → List ℕ
reply_body base r = or_bytes (replies.json_of base r) (replies.bytes_of r)

abbrev pub reply_head : List ℕ → Reply → List ℕ
reply_head base r = replies.reply_front base r ++ (replies.type_header r (replies.json_of base r) ++ (replies.length_header r (length (reply_body base r)) ++ line_end))

-- a reply that has a written form
abbrev pub IsWrittenReply : Reply → Type 0
IsWrittenReply (reply.Made item) = IsWritable item
IsWrittenReply (reply.Is item) = IsWritable item
IsWrittenReply (reply.Listed items next) = IsWritableList (record { items = items; next = next })
IsWrittenReply (reply.Found id version) = IsWrittenId id
IsWrittenReply (reply.Page page) = IsWritablePage page
IsWrittenReply (reply.Refused status code) = is_refused (reply.Refused status code) ≡ true
IsWrittenReply r = ⊤

-- a reply to a request of this kind
pub record IsAnswer (links : List ℕ) (asked : RequestKind) (r : Reply) : Type 0 where
  pub base : is_base links ≡ true
  pub value : IsWrittenReply r
  pub kind : may_answer asked r ≡ true
  pub head : length (reply_head links r) ≤ 65536
  pub body : length (reply_body links r) ≤ 67108864

-- what the types say of the numbers of a reply
abbrev pub IsKnownReply : Reply → Type 0
IsKnownReply (reply.Found id version) = (id.0 < 2 ^ 64) × (version < 2 ^ 64)
IsKnownReply r = ⊤

-- a body in JSON is read as what it was written for
abbrev pub HasReplyBody : List ℕ → Reply → Type 0
HasReplyBody base (reply.Made item) = IsWritable item → JsonBody item_at item (compact_text (item_data item))
HasReplyBody base (reply.Is item) = IsWritable item → JsonBody item_at item (compact_text (item_data item))
HasReplyBody base (reply.Listed items next) =
    IsWritableList (record { items = items; next = next }) → JsonBody (children_at base) (record { items = items; next = next }) (compact_text (children_data base (record { items = items; next = next })))
HasReplyBody base (reply.Session session expected) =
    JsonBody (session_at base) (record { session = Some session; expected = expected }) (compact_text (session_data base (record { session = Some session; expected = expected })))
HasReplyBody base (reply.Status expected) =
    JsonBody (session_at base) (record { session = None; expected = expected }) (compact_text (session_data base (record { session = None; expected = expected })))
HasReplyBody base (reply.More expected) =
    JsonBody (session_at base) (record { session = None; expected = expected }) (compact_text (session_data base (record { session = None; expected = expected })))
HasReplyBody base (reply.Page page) = IsWritablePage page → JsonBody (page_at base) page (compact_text (page_data base page))
HasReplyBody base (reply.Gone resync) = JsonBody error_at (replies.code_of resync) (compact_text (error_data (replies.code_of resync)))
HasReplyBody base (reply.Refused status code) = JsonBody error_at code (compact_text (error_data code))
HasReplyBody base r = ⊤
