-- The one spelling of each target.
use Rattle.std.specs.Prelude.{ℕ, List, ◌++◌, codes, Option, Some, None}
use Rattle.std.specs.Fmt.{decimal}
use Rattle.gd_names.specs.Escapes.{escaped}
use Rattle.gd_names.specs.Paths.{path_text}
use Rattle.gd_names.specs.declared.conflict.Conflict.{Conflict}
use Rattle.gd_item.specs.declared.id.ItemId.{ItemId}
use Rattle.gd_item.specs.declared.request.Address.{Address}
use Rattle.gd_item.specs.declared.request.Address.TheVariants.{Id, ByPath, Child}
use Rattle.gd_item.specs.declared.request.Request.{Request}
use Rattle.gd_item.specs.declared.request.Request.TheVariants as request
use Rattle.gd_json.specs.Changes.{behaviour_text}
use Rattle.gd_json.specs.Numbers.{id_written}

unfoldable pub item_text : ItemId → List ℕ
item_text id = codes "/v1.0/me/drive/items/" ++ id_written id

-- a name below an item
unfoldable pub name_text : List ℕ → List ℕ
name_text name = codes ":/" ++ escaped name

-- an address, in the form in which it ends a target
unfoldable pub address_text : Address → List ℕ
address_text (Id id) = item_text id
address_text (ByPath path) = codes "/v1.0/me/drive/root:" ++ path_text path
address_text (Child id name) = item_text id ++ name_text name

-- what stands between an address and a part
abbrev pub before_part : Address → List ℕ
before_part (Id id) = codes "/"
before_part (ByPath path) = codes ":/"
before_part (Child id name) = codes ":/"

unfoldable pub part_text : Address → List ℕ → List ℕ
part_text at part = address_text at ++ (before_part at ++ part)

unfoldable pub skip_text : List ℕ → List ℕ
skip_text name = codes "?$skiptoken=" ++ escaped name

abbrev pub children_text : Address → Option (List ℕ) → List ℕ
children_text at None = part_text at (codes "children")
children_text at (Some name) = part_text at (codes "children") ++ skip_text name

unfoldable pub behaviour_query : Conflict → List ℕ
behaviour_query behaviour = codes "?@microsoft.graph.conflictBehavior=" ++ behaviour_text behaviour

abbrev pub content_text : Address → Conflict → List ℕ
content_text at behaviour = part_text at (codes "content") ++ behaviour_query behaviour

unfoldable pub downloads_text : ItemId → List ℕ
downloads_text id = codes "/v1.0/download/" ++ id_written id

unfoldable pub version_text : ℕ → List ℕ
version_text version = codes "/" ++ decimal version

abbrev pub download_text : ItemId → ℕ → List ℕ
download_text id version = downloads_text id ++ version_text version

unfoldable pub session_text : ℕ → List ℕ
session_text session = codes "/v1.0/upload/" ++ decimal session

unfoldable pub delta_text : Option (List ℕ) → List ℕ
delta_text None = codes "/v1.0/me/drive/root/delta"
delta_text (Some token) = codes "/v1.0/me/drive/root/delta?token=" ++ token

unfoldable pub target_text : Request → List ℕ
target_text (request.Get at) = address_text at
target_text (request.Children at after) = children_text at after
target_text (request.MakeFolder at name behaviour) = part_text at (codes "children")
target_text (request.Put at bytes behaviour condition) = content_text at behaviour
target_text (request.Patch at name parent condition) = address_text at
target_text (request.Delete at condition) = address_text at
target_text (request.Content at) = part_text at (codes "content")
target_text (request.Download id version) = download_text id version
target_text (request.OpenSession at name behaviour condition defer) = part_text at (codes "createUploadSession")
target_text (request.Fragment session first last total bytes) = session_text session
target_text (request.SessionStatus session) = session_text session
target_text (request.CancelSession session) = session_text session
target_text (request.Finish session) = session_text session
target_text (request.Delta token) = delta_text token
