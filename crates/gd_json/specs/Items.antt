-- An item as a body: its members in their order, and its one spelling.
use Rattle.std.specs.Prelude.{◌≡◌, ℕ, Bool, true, ◌||◌, cond, if◌then◌else◌, ⊤, length, ◌<◌, ◌^◌, List, [], ◌∷◌, Option, Some, None, option_map, is_none, nat_eq, Result, Ok, Err, codes}
use Rattle.std.specs.Result.{result_ok}
use Rattle.hex.specs.Hex.{IsBytes, decode_sized, encode_upper}
use Rattle.serde_json.specs.Data.{Data, Members, no_members, put, string, number, unsigned, object}
use Rattle.serde_json.specs.Find.{get, as_str}
use Rattle.gd_names.specs.Names.{name_fault}
use Rattle.gd_item.specs.declared.id.ItemId.{ItemId}
use Rattle.gd_item.specs.declared.digest.Digest.{Digest}
use Rattle.gd_item.specs.declared.item.Tag.{Tag}
use Rattle.gd_item.specs.declared.item.Item.{Item}
use Rattle.gd_item.specs.declared.item.Kind.{Kind}
use Rattle.gd_item.specs.declared.item.Kind.TheVariants.{Folder, File, Bare, Deleted}
use Rattle.gd_item.specs.Tags.{tag_of}
use Rattle.gd_json.specs.declared.fault.Member.TheVariants as of
use Rattle.gd_json.specs.declared.fault.JsonFault.{JsonFault}
use Rattle.gd_json.specs.declared.fault.JsonFault.TheVariants.{Lacks, BadMember}
use Rattle.gd_json.specs.declared.item.Reference.{Reference}
use Rattle.gd_json.specs.Faults.{◌>>=◌}
use Rattle.gd_json.specs.Values.{number_of, object_of, one_of}
use Rattle.gd_json.specs.Members.{needed, optional, text_as, optional_as}
use Rattle.gd_json.specs.Numbers.{item_id_of, id_written}
use Rattle.gd_json.specs.Writing.{put_optional, only}

-- ---- reading

-- the one drive that there is
abbrev pub drive_of : List ℕ → Option (List ℕ)
drive_of = one_of ((codes "gd1", codes "gd1") ∷ [])

-- the root may have any name
unfoldable pub may_name : ItemId → List ℕ → Bool
may_name id text = nat_eq id.0 1 || is_none (name_fault text)

abbrev pub name_for : ItemId → List ℕ → Option (List ℕ)
name_for id text = cond (may_name id text) (Some text) None

-- 64 hexadecimal digits, in either case
unfoldable pub digest_of_text : List ℕ → Option Digest
digest_of_text text = option_map (λ bytes. record { 0 = bytes }) (result_ok (decode_sized text 32))

unfoldable pub reference_at : Data → Result Reference JsonFault
reference_at p = do
  reference ← needed of.ParentReference object_of (Some p)
  drive ← optional_as of.DriveId drive_of (get (codes "driveId") reference)
  id ← text_as of.ParentId item_id_of (get (codes "id") reference)
  path ← optional of.ParentPath as_str (get (codes "path") reference)
  Ok (record { id = id; path = path })

-- the parent of an item that may be without one, or not
abbrev pub parent_at : Bool → Option Data → Result (Option Reference) JsonFault
parent_at may_lack None = if may_lack then Ok None else Err (Lacks of.ParentReference)
parent_at may_lack (Some p) = reference_at p >>= λ reference. Ok (Some reference)

-- a file, of which the digest may lack
unfoldable pub digest_at : Option Data → Result (Option Digest) JsonFault
digest_at None = Ok None
digest_at (Some h) = do
  hashes ← needed of.Sha256Hash object_of (Some h)
  optional_as of.Sha256Hash digest_of_text (get (codes "sha256Hash") hashes)

abbrev pub file_kind : Option Digest → Kind
file_kind None = Bare
file_kind (Some digest) = File digest

unfoldable pub file_at : Data → Result Kind JsonFault
file_at f = do
  file ← needed of.File object_of (Some f)
  digest ← digest_at (get (codes "hashes") file)
  Ok (file_kind digest)

unfoldable pub folder_at : Data → Result Kind JsonFault
folder_at f = do
  folder ← needed of.Folder object_of (Some f)
  count ← needed of.ChildCount number_of (get (codes "childCount") folder)
  Ok (Folder count)

-- exactly one of `file` and `folder`
abbrev pub kind_at : Option Data → Option Data → Result Kind JsonFault
kind_at None None = Err (Lacks of.File)
kind_at (Some file) None = file_at file
kind_at None (Some folder) = folder_at folder
kind_at (Some file) (Some folder) = Err (BadMember of.Folder)

abbrev pub id_in : Option Reference → Option ItemId
id_in None = None
id_in (Some reference) = Some reference.id

abbrev pub path_in : Option Reference → Option (List ℕ)
path_in None = None
path_in (Some reference) = reference.path

abbrev pub tag_or_empty : Option (List ℕ) → Tag
tag_or_empty None = tag_of []
tag_or_empty (Some text) = tag_of text

-- of a deleted item little more is read
unfoldable pub deleted_at : ItemId → Data → Result Item JsonFault
deleted_at id d = do
  etag ← optional of.ETag as_str (get (codes "eTag") d)
  parent ← parent_at true (get (codes "parentReference") d)
  Ok (record { id = id; parent = id_in parent; parent_path = path_in parent; name = []; size = 0; etag = tag_or_empty etag; ctag = None; kind = Deleted })

unfoldable pub living_at : ItemId → Data → Result Item JsonFault
living_at id d = do
  name ← text_as of.Name (name_for id) (get (codes "name") d)
  etag ← needed of.ETag as_str (get (codes "eTag") d)
  ctag ← optional of.CTag as_str (get (codes "cTag") d)
  size ← needed of.Size number_of (get (codes "size") d)
  parent ← parent_at (nat_eq id.0 1) (get (codes "parentReference") d)
  kind ← kind_at (get (codes "file") d) (get (codes "folder") d)
  root ← optional of.Root object_of (get (codes "root") d)
  Ok (record { id = id; parent = id_in parent; parent_path = path_in parent; name = name; size = size; etag = tag_of etag; ctag = option_map tag_of ctag; kind = kind })

abbrev pub either_at : ItemId → Data → Option Data → Result Item JsonFault
either_at id d None = living_at id d
either_at id d (Some deleted) = deleted_at id d

unfoldable pub item_at : Data → Result Item JsonFault
item_at d = do
  id ← text_as of.Id item_id_of (get (codes "id") d)
  deleted ← optional of.Deleted object_of (get (codes "deleted") d)
  either_at id d deleted

-- ---- writing

unfoldable pub digest_text : Digest → List ℕ
digest_text digest = encode_upper digest.0

abbrev pub id_data : ItemId → Data
id_data id = string (id_written id)

abbrev pub parent_data : ItemId → Option (List ℕ) → Data
parent_data id path =
    object (put_optional (codes "path") (option_map string path) (put (codes "id") (id_data id) (put (codes "driveId") (string (codes "gd1")) no_members)))

abbrev pub reference_data : Option ItemId → Option (List ℕ) → Option Data
reference_data None path = None
reference_data (Some id) path = Some (parent_data id path)

abbrev pub kind_name : Kind → List ℕ
kind_name (Folder count) = codes "folder"
kind_name (File digest) = codes "file"
kind_name Bare = codes "file"
kind_name Deleted = codes "deleted"

abbrev pub kind_data : Kind → Data
kind_data (Folder count) = only (codes "childCount") (number (unsigned count))
kind_data (File digest) = only (codes "hashes") (only (codes "sha256Hash") (string (digest_text digest)))
kind_data Bare = object no_members
kind_data Deleted = only (codes "state") (string (codes "deleted"))

abbrev pub root_data : ItemId → Option Data
root_data id = cond (nat_eq id.0 1) (Some (object no_members)) None

-- what deleted items have too
abbrev pub common_members : Item → Members
common_members v =
    put_optional (codes "parentReference") (reference_data v.parent v.parent_path)
    (put (kind_name v.kind) (kind_data v.kind) (put (codes "id") (id_data v.id) (put (codes "eTag") (string v.etag.0) no_members)))

abbrev pub tag_data : Tag → Data
tag_data tag = string tag.0

abbrev pub living_members : Item → Members
living_members v =
    put_optional (codes "root") (root_data v.id)
    (put (codes "size") (number (unsigned v.size)) (put (codes "name") (string v.name) (put_optional (codes "cTag") (option_map tag_data v.ctag) (common_members v))))

abbrev pub members_of_kind : Kind → Item → Members
members_of_kind (Folder count) v = living_members v
members_of_kind (File digest) v = living_members v
members_of_kind Bare v = living_members v
members_of_kind Deleted v = common_members v

unfoldable pub item_data : Item → Data
item_data v = object (members_of_kind v.kind v)

-- ---- the items that are read as they were written

-- what the types say
abbrev pub IsKnownKind : Kind → Type 0
IsKnownKind (Folder count) = ⊤
IsKnownKind (File digest) = (length digest.0 ≡ 32) × IsBytes digest.0
IsKnownKind Bare = ⊤
IsKnownKind Deleted = ⊤

pub record IsKnown (v : Item) : Type 0 where
  pub id : v.id.0 < 2 ^ 64
  pub parent : (p : ItemId) → v.parent ≡ Some p → p.0 < 2 ^ 64
  pub kind : IsKnownKind v.kind

-- a path stands beside a parent, and a deleted item has no more than is written of it
abbrev pub IsPlaced : Option ItemId → Option (List ℕ) → Type 0
IsPlaced None path = path ≡ None
IsPlaced (Some id) path = 0 < id.0

-- the root alone has no parent, and any name
pub record IsLiving (v : Item) : Type 0 where
  pub name : may_name v.id v.name ≡ true
  pub parent : v.parent ≡ None → v.id.0 ≡ 1

abbrev pub IsWritableAs : Kind → Item → Type 0
IsWritableAs (Folder count) v = IsLiving v
IsWritableAs (File digest) v = IsLiving v
IsWritableAs Bare v = IsLiving v
IsWritableAs Deleted v = (v.name ≡ []) × (v.size ≡ 0) × (v.ctag ≡ None)

pub record IsWritable (v : Item) : Type 0 where
  pub id : 0 < v.id.0
  pub placed : IsPlaced v.parent v.parent_path
  pub kind : IsWritableAs v.kind v
