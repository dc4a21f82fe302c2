-- The one spelling of replies.
use Rattle.std.specs.Prelude.{ℕ, List, [], ◌++◌, length, codes, Option, Some, None, ◌==◌, if◌then◌else◌}
use Rattle.std.specs.Fmt.{decimal}
use Rattle.serde_json.specs.Written.{compact_text}
use Rattle.gd_item.specs.Replies.{status_of_reply}
use Rattle.gd_item.specs.declared.fault.ErrorCode.{ErrorCode}
use Rattle.gd_item.specs.declared.fault.ErrorCode.TheVariants as code
use Rattle.gd_item.specs.declared.reply.Reply.{Reply}
use Rattle.gd_item.specs.declared.reply.Reply.TheVariants as reply
use Rattle.gd_item.specs.declared.reply.Resync.{Resync}
use Rattle.gd_item.specs.declared.reply.Resync.TheVariants.{ApplyDifferences, UploadDifferences}
use Rattle.gd_json.specs.Errors.{error_data}
use Rattle.gd_json.specs.Items.{item_data}
use Rattle.gd_json.specs.Lists.{children_data, page_data}
use Rattle.gd_json.specs.Sessions.{session_data}
use Rattle.gd_target.specs.Targets.{download_text, delta_text}
use Rattle.gd_http.specs.Written.{line_end, field_text, or_bytes, type_text, length_text, body_text}

-- the standard phrase of each status that a drive answers
unfoldable pub phrase_of : ℕ → List ℕ
phrase_of n =
    if n == 200 then codes "OK" else (
    if n == 201 then codes "Created" else (
    if n == 202 then codes "Accepted" else (
    if n == 204 then codes "No Content" else (
    if n == 302 then codes "Found" else (
    if n == 400 then codes "Bad Request" else (
    if n == 404 then codes "Not Found" else (
    if n == 405 then codes "Method Not Allowed" else (
    if n == 409 then codes "Conflict" else (
    if n == 410 then codes "Gone" else (
    if n == 412 then codes "Precondition Failed" else (
    if n == 413 then codes "Payload Too Large" else (
    if n == 416 then codes "Range Not Satisfiable" else (
    if n == 424 then codes "Failed Dependency" else (
    if n == 501 then codes "Not Implemented" else (
    if n == 503 then codes "Service Unavailable" else (
    if n == 507 then codes "Insufficient Storage" else (
    [])))))))))))))))))

-- `HTTP/1.1`, the status and its phrase
unfoldable pub version_text : List ℕ
version_text = codes "HTTP/1.1 "

unfoldable pub status_text : ℕ → List ℕ
status_text status = (version_text ++ decimal status) ++ ((codes " " ++ phrase_of status) ++ line_end)

unfoldable pub link_field : List ℕ → List ℕ → List ℕ
link_field base path = field_text (codes "Location") (base ++ path)

abbrev pub location_header : List ℕ → Reply → List ℕ
location_header base (reply.Found id version) = link_field base (download_text id version)
location_header base (reply.Gone resync) = link_field base (delta_text None)
location_header base reply = []

abbrev pub code_of : Resync → ErrorCode
code_of ApplyDifferences = code.ResyncChangesApplyDifferences
code_of UploadDifferences = code.ResyncChangesUploadDifferences

-- a body in JSON, of the replies that have one
abbrev pub json_of : List ℕ → Reply → Option (List ℕ)
json_of base (reply.Made item) = Some (compact_text (item_data item))
json_of base (reply.Is item) = Some (compact_text (item_data item))
json_of base (reply.Listed items next) = Some (compact_text (children_data base (record { items = items; next = next })))
json_of base (reply.Session session expected) = Some (compact_text (session_data base (record { session = Some session; expected = expected })))
json_of base (reply.Status expected) = Some (compact_text (session_data base (record { session = None; expected = expected })))
json_of base (reply.More expected) = Some (compact_text (session_data base (record { session = None; expected = expected })))
json_of base (reply.Page page) = Some (compact_text (page_data base page))
json_of base (reply.Gone resync) = Some (compact_text (error_data (code_of resync)))
json_of base (reply.Refused status code) = Some (compact_text (error_data code))
json_of base reply = None

unfoldable pub bytes_type : List ℕ
bytes_type = field_text (codes "Content-Type") (codes "application/octet-stream")

-- bytes have a type of their own
abbrev pub type_header : Reply → Option (List ℕ) → List ℕ
type_header (reply.Content bytes) json = bytes_type
type_header reply json = type_text json

abbrev pub bytes_of : Reply → List ℕ
bytes_of (reply.Content bytes) = bytes
bytes_of reply = []

-- a reply that says nothing has no length
abbrev pub length_header : Reply → ℕ → List ℕ
length_header reply.Done n = []
length_header reply n = length_text n

abbrev pub reply_front : List ℕ → Reply → List ℕ
reply_front base reply = status_text (status_of_reply reply) ++ location_header base reply

abbrev pub reply_rest : Reply → Option (List ℕ) → List ℕ → List ℕ
reply_rest reply json body = type_header reply json ++ (length_header reply (length body) ++ body_text body)

-- a reply's line, headers and body
unfoldable pub written_reply : List ℕ → Reply → List ℕ
written_reply base reply = reply_front base reply ++ reply_rest reply (json_of base reply) (or_bytes (json_of base reply) (bytes_of reply))
