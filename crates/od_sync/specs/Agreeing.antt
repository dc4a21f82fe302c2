-- What both sides agree on after a look at both: a row becomes an agreement where the drive has what was on its way there,
-- and where both sides have the same; a row of a path that neither side has is dropped.
use Rattle.std.specs.Prelude.{ℕ, Bool, false, ◌&&◌, cond, List, [], ◌++◌, map, filter, find, is_none, Option, Some, None}
use Rattle.std.specs.List.{filter_map}
use Rattle.std.specs.Option.{option_map}
use Rattle.od_tree.specs.Local.{is_path}
use Rattle.gd_item.specs.declared.digest.Digest.{Digest}
use Rattle.gd_item.specs.declared.item.Item.{Item}
use Rattle.gd_item.specs.declared.item.Kind.{Kind}
use Rattle.gd_item.specs.declared.item.Kind.TheVariants as kind
use Rattle.od_keeper.specs.declared.image.Agreed.{Agreed}
use Rattle.od_keeper.specs.declared.image.Agreed.TheVariants as agreed
use Rattle.od_keeper.specs.declared.image.BaseRow.{BaseRow}
use Rattle.od_keeper.specs.declared.image.Change.{Change}
use Rattle.od_transfer.specs.Fits.{is_digest}
use Rattle.od_sync.specs.declared.scanning.Node.{Node}
use Rattle.od_sync.specs.declared.scanning.Node.TheVariants as node

-- what stands at a path of entries, if anything does
abbrev pub entry_on : {X : Type 0} → List (List (List ℕ) × X) → List (List ℕ) → Option X
entry_on entries path = option_map (λ entry. entry.1) (find (λ entry. is_path entry.0 path) entries)

-- what a local entry and one of the drive agree on, where they are the same
abbrev pub agreed_file : Digest → Kind → Option Agreed
agreed_file digest (kind.Folder child_count) = None
agreed_file digest (kind.File other) = cond (is_digest digest other) (Some (agreed.File digest)) None
agreed_file digest kind.Bare = None
agreed_file digest kind.Deleted = None

abbrev pub agreed_folder : Kind → Option Agreed
agreed_folder (kind.Folder child_count) = Some agreed.Folder
agreed_folder (kind.File digest) = None
agreed_folder kind.Bare = None
agreed_folder kind.Deleted = None

abbrev pub agreed_node : Node → Kind → Option Agreed
agreed_node node.Folder kind = agreed_folder kind
agreed_node (node.File digest) kind = agreed_file digest kind

abbrev pub agreed_on : Node → Option Item → Option Agreed
agreed_on node None = None
agreed_on node (Some item) = agreed_node node item.kind

-- the row of an agreement
abbrev pub row_of : List (List ℕ) → Agreed → BaseRow
row_of path what = record { path = path; what = what; flight = None }

-- the rows of the entries that both sides have
abbrev pub agreed_row : List (List (List ℕ) × Item) → List (List ℕ) × Node → Option BaseRow
agreed_row remote entry = option_map (row_of entry.0) (agreed_on entry.1 (entry_on remote entry.0))

abbrev pub agreed_rows : List (List (List ℕ) × Node) → List (List (List ℕ) × Item) → List BaseRow
agreed_rows local remote = filter_map (agreed_row remote) local

-- the rows whose bytes have come to the drive
abbrev pub landed_as : Option Digest → Option Item → Option Agreed
landed_as None item = None
landed_as (Some digest) None = None
landed_as (Some digest) (Some item) = agreed_file digest item.kind

abbrev pub landed_row : List (List (List ℕ) × Item) → BaseRow → Option BaseRow
landed_row remote row = option_map (row_of row.path) (landed_as row.flight (entry_on remote row.path))

abbrev pub landed_rows : List BaseRow → List (List (List ℕ) × Item) → List BaseRow
landed_rows rows remote = filter_map (landed_row remote) rows

-- the paths of rows that neither side has, and to which nothing is on its way
abbrev pub is_dropped : List (List (List ℕ) × Node) → List (List (List ℕ) × Item) → BaseRow → Bool
is_dropped local remote row = is_none row.flight && is_none (entry_on local row.path) && is_none (entry_on remote row.path)

abbrev pub dropped_paths : List BaseRow → List (List (List ℕ) × Node) → List (List (List ℕ) × Item) → List (List (List ℕ))
dropped_paths rows local remote = map (λ (row : BaseRow). row.path) (filter (is_dropped local remote) rows)

-- the change of the image
abbrev pub agreement : List BaseRow → List (List (List ℕ) × Node) → List (List (List ℕ) × Item) → Change
agreement rows local remote = record {
  reset = false;
  rules = None;
  token = None;
  gone = [];
  put = [];
  dropped = dropped_paths rows local remote;
  rows = landed_rows rows remote ++ agreed_rows local remote;
}
