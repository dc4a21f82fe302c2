-- The one spelling of requests.
use Rattle.std.specs.Prelude.{ℕ, List, [], ◌++◌, length, drop, codes, Option, Some, None}
use Rattle.std.specs.Fmt.{decimal}
use Rattle.serde_json.specs.Written.{compact_text}
use Rattle.gd_item.specs.declared.condition.Condition.{Condition}
use Rattle.gd_item.specs.declared.condition.Condition.TheVariants.{Free, Match}
use Rattle.gd_item.specs.declared.request.Request.{Request}
use Rattle.gd_item.specs.declared.request.Request.TheVariants as request
use Rattle.gd_json.specs.Changes.{folder_data, patch_data, begin_data}
use Rattle.gd_target.specs.Targets.{target_text}

abbrev pub line_end : List ℕ
line_end = codes "\r\n"

unfoldable pub field_text : List ℕ → List ℕ → List ℕ
field_text name value = (name ++ codes ": ") ++ (value ++ line_end)

abbrev pub method_text : Request → List ℕ
method_text (request.Get at) = codes "GET"
method_text (request.Children at after) = codes "GET"
method_text (request.MakeFolder at name behaviour) = codes "POST"
method_text (request.Put at bytes behaviour condition) = codes "PUT"
method_text (request.Patch at name parent condition) = codes "PATCH"
method_text (request.Delete at condition) = codes "DELETE"
method_text (request.Content at) = codes "GET"
method_text (request.Download id version) = codes "GET"
method_text (request.OpenSession at name behaviour condition defer) = codes "POST"
method_text (request.Fragment session first last total bytes) = codes "PUT"
method_text (request.SessionStatus session) = codes "GET"
method_text (request.CancelSession session) = codes "DELETE"
method_text (request.Finish session) = codes "POST"
method_text (request.Delta token) = codes "GET"

-- the end of a request's line
unfoldable pub version_end : List ℕ
version_end = codes " HTTP/1.1\r\n"

unfoldable pub line_text : Request → List ℕ
line_text r = (method_text r ++ codes " ") ++ (target_text r ++ version_end)

-- the base without its `http://`
unfoldable pub host_text : List ℕ → List ℕ
host_text base = field_text (codes "Host") (drop 7 base)

unfoldable pub condition_text : Condition → List ℕ
condition_text Free = []
condition_text (Match text) = field_text (codes "If-Match") text

abbrev pub condition_header : Request → List ℕ
condition_header (request.Put at bytes behaviour condition) = condition_text condition
condition_header (request.Patch at name parent condition) = condition_text condition
condition_header (request.Delete at condition) = condition_text condition
condition_header (request.OpenSession at name behaviour condition defer) = condition_text condition
condition_header r = []

unfoldable pub range_value : ℕ → ℕ → ℕ → List ℕ
range_value first last total = codes "bytes " ++ decimal first ++ codes "-" ++ decimal last ++ codes "/" ++ decimal total

abbrev pub range_header : Request → List ℕ
range_header (request.Fragment session first last total bytes) = field_text (codes "Content-Range") (range_value first last total)
range_header r = []

-- a body in JSON, of the requests that have one
abbrev pub json_of : Request → Option (List ℕ)
json_of (request.MakeFolder at name behaviour) = Some (compact_text (folder_data (record { name = name; behaviour = behaviour })))
json_of (request.Patch at name parent condition) = Some (compact_text (patch_data (record { name = name; parent = parent })))
json_of (request.OpenSession at name behaviour condition defer) = Some (compact_text (begin_data (record { name = name; behaviour = behaviour; defer = defer })))
json_of r = None

abbrev pub bytes_of : Request → List ℕ
bytes_of (request.Put at bytes behaviour condition) = bytes
bytes_of (request.Fragment session first last total bytes) = bytes
bytes_of r = []

abbrev pub or_bytes : Option (List ℕ) → List ℕ → List ℕ
or_bytes None bytes = bytes
or_bytes (Some json) bytes = json

unfoldable pub type_text : Option (List ℕ) → List ℕ
type_text None = []
type_text (Some json) = field_text (codes "Content-Type") (codes "application/json")

unfoldable pub length_text : ℕ → List ℕ
length_text n = field_text (codes "Content-Length") (decimal n)

-- an empty line and the body
unfoldable pub body_text : List ℕ → List ℕ
body_text body = line_end ++ body

abbrev pub first_part : List ℕ → Request → List ℕ
first_part base r = line_text r ++ (host_text base ++ (condition_header r ++ range_header r))

abbrev pub last_part : Option (List ℕ) → List ℕ → List ℕ
last_part json body = type_text json ++ (length_text (length body) ++ body_text body)

-- a request's line, headers and body
unfoldable pub written_request : List ℕ → Request → List ℕ
written_request base r = first_part base r ++ last_part (json_of r) (or_bytes (json_of r) (bytes_of r))
