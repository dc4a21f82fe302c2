-- What is to be done in the local folder: what the drive has at free paths is to be made there, unless both sides had agreed
-- on it, so that the user has removed it since. The folders above what is to be made are made too.
use Rattle.std.specs.Prelude.{ℕ, Bool, true, false, not, ◌&&◌, List, filter, find, is_none, Option, Some, None}
use Rattle.std.specs.List.{filter_map, list_any}
use Rattle.od_tree.specs.Local.{is_path, is_from}
use Rattle.gd_item.specs.declared.item.Item.{Item}
use Rattle.gd_item.specs.declared.item.Kind.{Kind}
use Rattle.gd_item.specs.declared.item.Kind.TheVariants as kind
use Rattle.od_keeper.specs.declared.image.Agreed.{Agreed}
use Rattle.od_keeper.specs.declared.image.Agreed.TheVariants as agreed
use Rattle.od_keeper.specs.declared.image.BaseRow.{BaseRow}
use Rattle.od_transfer.specs.Fits.{is_digest}
use Rattle.od_sync.specs.Agreeing.{entry_on}
use Rattle.od_sync.specs.declared.planning.Fetching.{Fetching}
use Rattle.od_sync.specs.declared.scanning.Node.{Node}
use Rattle.od_sync.specs.declared.scanning.Node.TheVariants as node

-- whether a kind is what was agreed on
abbrev pub is_agreed_kind : Agreed → Kind → Bool
is_agreed_kind agreed.Nothing kind = false
is_agreed_kind agreed.Folder (kind.Folder child_count) = true
is_agreed_kind agreed.Folder (kind.File digest) = false
is_agreed_kind agreed.Folder kind.Bare = false
is_agreed_kind agreed.Folder kind.Deleted = false
is_agreed_kind (agreed.File digest) (kind.Folder child_count) = false
is_agreed_kind (agreed.File digest) (kind.File other) = is_digest digest other
is_agreed_kind (agreed.File digest) kind.Bare = false
is_agreed_kind (agreed.File digest) kind.Deleted = false

abbrev pub is_agreed_row : Option BaseRow → Kind → Bool
is_agreed_row None kind = false
is_agreed_row (Some row) kind = is_agreed_kind row.what kind

abbrev pub row_on : List BaseRow → List (List ℕ) → Option BaseRow
row_on rows path = find (λ (row : BaseRow). is_path row.path path) rows

-- whether a local entry is a file that stands at a path or above it
abbrev pub is_file : Node → Bool
is_file node.Folder = false
is_file (node.File digest) = true

abbrev pub is_file_above : List (List ℕ) → List (List ℕ) × Node → Bool
is_file_above path entry = is_file entry.1 && is_from entry.0 path

abbrev pub has_file_above : List (List (List ℕ) × Node) → List (List ℕ) → Bool
has_file_above local path = list_any (is_file_above path) local

-- whether the path of an entry of the drive is free: nothing stands there, and no file above it; and whether the entry is to be
-- made there for its own sake
abbrev pub is_free : List (List (List ℕ) × Node) → List (List ℕ) × Item → Bool
is_free local entry = is_none (entry_on local entry.0) && not (has_file_above local entry.0)

abbrev pub is_new : List BaseRow → List (List (List ℕ) × Node) → List (List ℕ) × Item → Bool
is_new rows local entry = is_free local entry && not (is_agreed_row (row_on rows entry.0) entry.1.kind)

-- whether an entry is to be made, for its own sake or for what is below it
abbrev pub is_new_below : List BaseRow → List (List (List ℕ) × Node) → List (List (List ℕ) × Item) → List (List ℕ) → Bool
is_new_below rows local remote top = list_any (λ (other : List (List ℕ) × Item). is_from top other.0 && is_new rows local other) remote

abbrev pub is_wanted : List BaseRow → List (List (List ℕ) × Node) → List (List (List ℕ) × Item) → List (List ℕ) × Item → Bool
is_wanted rows local remote entry = is_free local entry && is_new_below rows local remote entry.0

-- the folders that are to be made
abbrev pub folder_in : List (List ℕ) × Item → Kind → Option (List (List ℕ))
folder_in entry (kind.Folder child_count) = Some entry.0
folder_in entry (kind.File digest) = None
folder_in entry kind.Bare = None
folder_in entry kind.Deleted = None

abbrev pub folders_of : List (List (List ℕ) × Item) → List (List (List ℕ))
folders_of entries = filter_map (λ (entry : List (List ℕ) × Item). folder_in entry entry.1.kind) entries

abbrev pub planned_folders : List BaseRow → List (List (List ℕ) × Node) → List (List (List ℕ) × Item) → List (List (List ℕ))
planned_folders rows local remote = folders_of (filter (is_wanted rows local remote) remote)

-- the files that are to be fetched
abbrev pub file_in : List (List ℕ) × Item → Kind → Option Fetching
file_in entry (kind.Folder child_count) = None
file_in entry (kind.File digest) = Some (record { path = entry.0; id = entry.1.id; digest = digest; size = entry.1.size })
file_in entry kind.Bare = None
file_in entry kind.Deleted = None

abbrev pub fetches_of : List (List (List ℕ) × Item) → List Fetching
fetches_of entries = filter_map (λ (entry : List (List ℕ) × Item). file_in entry entry.1.kind) entries

abbrev pub planned_fetches : List BaseRow → List (List (List ℕ) × Node) → List (List (List ℕ) × Item) → List Fetching
planned_fetches rows local remote = fetches_of (filter (is_new rows local) remote)
