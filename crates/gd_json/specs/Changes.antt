-- What a request asks for: a folder to be made, a change of an item, and the beginning of an upload session.
use Rattle.std.specs.Prelude.{◌≡◌, ℕ, ◌<◌, false, List, [], ◌∷◌, Option, Some, None, option_map, option_and_then, unwrap_or, Result, Ok, codes}
use Rattle.serde_json.specs.Data.{Data, no_members, put, string, boolean, object}
use Rattle.serde_json.specs.Find.{get, as_str, as_bool}
use Rattle.gd_names.specs.declared.conflict.Conflict.{Conflict}
use Rattle.gd_names.specs.declared.conflict.Conflict.TheVariants.{Fail, Replace, Rename}
use Rattle.gd_item.specs.declared.id.ItemId.{ItemId}
use Rattle.gd_json.specs.declared.fault.Member.TheVariants as of
use Rattle.gd_json.specs.declared.fault.JsonFault.{JsonFault}
use Rattle.gd_json.specs.declared.fault.JsonFault.TheVariants.{NotJson}
use Rattle.gd_json.specs.declared.folder.FolderBody.{FolderBody}
use Rattle.gd_json.specs.declared.patch.PatchBody.{PatchBody}
use Rattle.gd_json.specs.declared.begin.BeginBody.{BeginBody}
use Rattle.gd_json.specs.Faults.{◌>>=◌, ok_or}
use Rattle.gd_json.specs.Values.{object_of, one_of}
use Rattle.gd_json.specs.Members.{needed, optional, optional_as}
use Rattle.gd_json.specs.Numbers.{item_id_of}
use Rattle.gd_json.specs.Items.{id_data}
use Rattle.gd_json.specs.Writing.{put_optional, only}

abbrev pub behaviour_text : Conflict → List ℕ
behaviour_text Fail = codes "fail"
behaviour_text Replace = codes "replace"
behaviour_text Rename = codes "rename"

unfoldable pub behaviour_of : List ℕ → Option Conflict
behaviour_of = one_of ((behaviour_text Fail, Fail) ∷ (behaviour_text Replace, Replace) ∷ (behaviour_text Rename, Rename) ∷ [])

-- without the member it is `fail`
unfoldable pub behaviour_at : Option Data → Result Conflict JsonFault
behaviour_at found = do
  behaviour ← optional_as of.ConflictBehavior behaviour_of found
  Ok (unwrap_or behaviour Fail)

-- ---- a folder

unfoldable pub folder_body_at : Data → Result FolderBody JsonFault
folder_body_at d = do
  name ← needed of.Name as_str (get (codes "name") d)
  folder ← needed of.Folder object_of (get (codes "folder") d)
  behaviour ← behaviour_at (get (codes "@microsoft.graph.conflictBehavior") d)
  Ok (record { name = name; behaviour = behaviour })

abbrev pub folder_data : FolderBody → Data
folder_data v =
    object
    (put (codes "name") (string v.name)
    (put (codes "folder") (object no_members)
    (put (codes "@microsoft.graph.conflictBehavior") (string (behaviour_text v.behaviour)) no_members)))

-- ---- a change of an item. Both members may lack, so what is no object is told apart as no body.

unfoldable pub new_parent_at : Option Data → Result (Option ItemId) JsonFault
new_parent_at None = Ok None
new_parent_at (Some p) = do
  reference ← needed of.ParentId object_of (Some p)
  optional_as of.ParentId item_id_of (get (codes "id") reference)

unfoldable pub patch_at : Data → Result PatchBody JsonFault
patch_at d = do
  patch ← ok_or NotJson (object_of d)
  name ← optional of.Name as_str (get (codes "name") patch)
  parent ← new_parent_at (get (codes "parentReference") patch)
  Ok (record { name = name; parent = parent })

abbrev pub patch_data : PatchBody → Data
patch_data v =
    object
    (put_optional (codes "parentReference") (option_map (λ id. only (codes "id") (id_data id)) v.parent)
    (put_optional (codes "name") (option_map string v.name) no_members))

abbrev pub IsWritablePatch : PatchBody → Type 0
IsWritablePatch v = (id : ItemId) → v.parent ≡ Some id → 0 < id.0

-- ---- the beginning of an upload session

unfoldable pub begin_at : Data → Result BeginBody JsonFault
begin_at d = do
  begin ← ok_or NotJson (object_of d)
  item ← optional of.Item object_of (get (codes "item") begin)
  behaviour ← behaviour_at (option_and_then (get (codes "@microsoft.graph.conflictBehavior")) item)
  name ← optional of.Name as_str (option_and_then (get (codes "name")) item)
  defer ← optional of.DeferCommit as_bool (get (codes "deferCommit") begin)
  Ok (record { name = name; behaviour = behaviour; defer = unwrap_or defer false })

abbrev pub begin_item_data : BeginBody → Data
begin_item_data v =
    object
    (put_optional (codes "name") (option_map string v.name)
    (put (codes "@microsoft.graph.conflictBehavior") (string (behaviour_text v.behaviour)) no_members))

abbrev pub begin_data : BeginBody → Data
begin_data v = object (put (codes "item") (begin_item_data v) (put (codes "deferCommit") (boolean v.defer) no_members))
