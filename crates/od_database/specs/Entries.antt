-- An item as a row of the table `entry`, and back. A folder's count of children and the text of the parent's path are
-- not kept. The kind is 0 for a folder, 1 for a file with a digest and 2 for one without; a deleted item is no row.
use Rattle.std.specs.Prelude.{◌≡◌, ℕ, ◌^◌, ℤ, pos, negsuc, Bool, true, false, ◌&&◌, List, length, if◌then◌else◌, nat_eq, nat_lt, Option, Some, None}
use Rattle.std.specs.Option.{option_map}
use Rattle.gd_item.specs.declared.id.ItemId.{ItemId}
use Rattle.gd_item.specs.declared.item.Item.{Item}
use Rattle.gd_item.specs.declared.item.Kind.{Kind}
use Rattle.gd_item.specs.declared.item.Kind.TheVariants.{Folder, File, Bare, Deleted}
use Rattle.gd_item.specs.declared.item.Tag.{Tag}
use Rattle.od_database.specs.Numbers.{integer_of, natural_of, digest_blob, digest_from}
use Rattle.od_database.specs.declared.entry.EntryRow.{EntryRow}

-- what a row has of the kind
abbrev pub kind_columns : Kind → Option (ℕ × Option (List ℕ))
kind_columns (Folder count) = Some (0, None)
kind_columns (File digest) = Some (1, Some (digest_blob digest))
kind_columns Bare = Some (2, None)
kind_columns Deleted = None

-- the kind that a row has: a digest stands in a row of kind 1 and in no other
abbrev pub file_of : Option (List ℕ) → Option Kind
file_of None = None
file_of (Some blob) = option_map File (digest_from blob)

abbrev pub kind_without : ℕ → Option Kind
kind_without code = if nat_eq code 0 then Some (Folder 0) else (if nat_eq code 2 then Some Bare else None)

abbrev pub no_digest : Option (List ℕ) → Option Kind → Option Kind
no_digest None kind = kind
no_digest (Some blob) kind = None

abbrev pub kind_of : ℤ → Option (List ℕ) → Option Kind
kind_of (negsuc code) blob = None
kind_of (pos code) blob = if nat_eq code 1 then file_of blob else no_digest blob (kind_without code)

-- the parent, where there is one
abbrev pub parent_column : Option ItemId → Option (Option ℤ)
parent_column None = Some None
parent_column (Some parent) = option_map Some (integer_of parent.0)

abbrev pub parent_of : Option ℤ → Option (Option ItemId)
parent_of None = Some None
parent_of (Some number) = option_map (λ n. Some (record { 0 = n })) (natural_of number)

-- the row of an item, if its numbers fit and it is not deleted
abbrev pub row_with : Item → Option ℤ → Option (Option ℤ) → Option ℤ → Option (ℕ × Option (List ℕ)) → Option EntryRow
row_with item (Some id) (Some parent) (Some size) (Some kind) = Some (record {
  id = id;
  parent = parent;
  name = item.name;
  size = size;
  etag = item.etag.0;
  ctag = option_map (λ (tag : Tag). tag.0) item.ctag;
  kind = pos kind.0;
  digest = kind.1;
})
row_with item (Some id) (Some parent) (Some size) None = None
row_with item (Some id) (Some parent) None kind = None
row_with item (Some id) None size kind = None
row_with item None parent size kind = None

abbrev pub row_of : Item → Option EntryRow
row_of item = row_with item (integer_of item.id.0) (parent_column item.parent) (integer_of item.size) (kind_columns item.kind)

-- the item of a row, if it is one
abbrev pub item_with : EntryRow → Option ℕ → Option (Option ItemId) → Option ℕ → Option Kind → Option Item
item_with row (Some id) (Some parent) (Some size) (Some kind) = Some (record {
  id = record { 0 = id };
  parent = parent;
  parent_path = None;
  name = row.name;
  size = size;
  etag = record { 0 = row.etag };
  ctag = option_map (λ text. record { 0 = text }) row.ctag;
  kind = kind;
})
item_with row (Some id) (Some parent) (Some size) None = None
item_with row (Some id) (Some parent) None kind = None
item_with row (Some id) None size kind = None
item_with row None parent size kind = None

abbrev pub item_of : EntryRow → Option Item
item_of row = item_with row (natural_of row.id) (parent_of row.parent) (natural_of row.size) (kind_of row.kind row.digest)

-- an item as it is read back
abbrev pub kept_kind : Kind → Kind
kept_kind (Folder count) = Folder 0
kept_kind (File digest) = File digest
kept_kind Bare = Bare
kept_kind Deleted = Deleted

abbrev pub kept_item : Item → Item
kept_item item = record item { parent_path = None; kind = kept_kind item.kind }

-- a digest has 32 bytes, as the code's type says
abbrev pub HasDigest : Kind → Type 0
HasDigest (Folder count) = Unit
HasDigest (File digest) = length digest.0 ≡ 32
HasDigest Bare = Unit
HasDigest Deleted = Unit
