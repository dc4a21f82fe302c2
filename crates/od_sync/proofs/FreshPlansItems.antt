-- The plan of items is that of the drive's entries: the numbers of children do not count, and where nothing stands in the
-- folder all is to be made.
use Rattle.std.proofs.Common.{◌≡◌, ℕ, Bool, true, ◌&&◌, ◌||◌, cond, List, [], ◌∷◌, map, filter, Option, Some, None, refl, ap, sym, ◌∙◌}
use Rattle.std.specs.List.{AllByRecursion, AllZip, cons_option, list_any}
use Rattle.gd_item.specs.Inventory.{Inventory}
use Rattle.gd_item.specs.Records.{kind_at, record_of}
use Rattle.gd_item.specs.declared.item.Item.{Item}
use Rattle.gd_item.specs.declared.item.Kind.{Kind}
use Rattle.gd_item.specs.declared.item.Kind.TheVariants as kind
use Rattle.gd_item.specs.declared.live.LiveItem.{LiveItem}
use Rattle.gd_item.specs.Views.{uncounted, uncounted_kind}
use Rattle.od_mirror.specs.Pulled.{paths_of}
use Rattle.gd_names.proofs.Each.{each-so}
use Rattle.gd_names.proofs.Ordered.{Path}
use Rattle.gd_names.proofs.Mapped.{mapped}
use Rattle.od_tree.specs.Local.{is_from}
use Rattle.od_sync.specs.Doing.{IsFileOf}
use Rattle.od_sync.specs.Planning.{fetches_of, file_in, folder_in, folders_of, is_new, is_wanted, planned_fetches, planned_folders}
use Rattle.od_sync.specs.declared.planning.Fetching.{Fetching}
use Rattle.od_tree.proofs.Below.{from-self}
use Rattle.gd_laws.proofs.PlacedItems.{IsAt, item_bytes}
use Rattle.od_sync.proofs.FreshPlansTrees.{file_of, files, folder_of, folders}
use Rattle.od_pages.proofs.Uncounted.{paths-uncounted}
use Rattle.std.proofs.lemmas.Bool.{or_right}

-- ---- the numbers of children do not count
-- the paths of items that are the same but for the numbers of children
pub same-paths : (items others : List Item) → map uncounted items ≡ map uncounted others → mapped uncounted (paths_of items) ≡ mapped uncounted (paths_of others)
same-paths items others same = sym (paths-uncounted items) ∙ ap paths_of same ∙ paths-uncounted others

folder-in-uncounted : (entry : Path × Item) (kind : Kind) → folder_in (entry.0, uncounted entry.1) (uncounted_kind kind) ≡ folder_in entry kind
folder-in-uncounted entry (kind.Folder child_count) = refl
folder-in-uncounted entry (kind.File digest) = refl
folder-in-uncounted entry kind.Bare = refl
folder-in-uncounted entry kind.Deleted = refl

folders-uncounted : (entries : List (Path × Item)) → folders_of (mapped uncounted entries) ≡ folders_of entries
folders-uncounted [] = refl
folders-uncounted (entry ∷ entries) =
    ap (λ (o : Option Path). cons_option o (folders_of (mapped uncounted entries))) (folder-in-uncounted entry entry.1.kind)
    ∙ ap (λ (rest : List Path). cons_option (folder_in entry entry.1.kind) rest) (folders-uncounted entries)

file-in-uncounted : (entry : Path × Item) (kind : Kind) → file_in (entry.0, uncounted entry.1) (uncounted_kind kind) ≡ file_in entry kind
file-in-uncounted entry (kind.Folder child_count) = refl
file-in-uncounted entry (kind.File digest) = refl
file-in-uncounted entry kind.Bare = refl
file-in-uncounted entry kind.Deleted = refl

fetches-uncounted : (entries : List (Path × Item)) → fetches_of (mapped uncounted entries) ≡ fetches_of entries
fetches-uncounted [] = refl
fetches-uncounted (entry ∷ entries) =
    ap (λ (o : Option Fetching). cons_option o (fetches_of (mapped uncounted entries))) (file-in-uncounted entry entry.1.kind)
    ∙ ap (λ (rest : List Fetching). cons_option (file_in entry entry.1.kind) rest) (fetches-uncounted entries)

pub same-folders : (entries others : List (Path × Item)) → mapped uncounted entries ≡ mapped uncounted others → folders_of entries ≡ folders_of others
same-folders entries others same = sym (folders-uncounted entries) ∙ ap folders_of same ∙ folders-uncounted others

pub same-fetches : (entries others : List (Path × Item)) → mapped uncounted entries ≡ mapped uncounted others → fetches_of entries ≡ fetches_of others
same-fetches entries others same = sym (fetches-uncounted entries) ∙ ap fetches_of same ∙ fetches-uncounted others

-- ---- all is to be made
filter-all : (test : Path × Item → Bool) (entries : List (Path × Item)) → AllByRecursion (λ (entry : Path × Item). test entry ≡ true) entries → filter test entries ≡ entries
filter-all test [] all = refl
filter-all test (entry ∷ entries) all =
    ap (λ b. cond b (entry ∷ filter test entries) (filter test entries)) all.0 ∙ ap (λ (rest : List (Path × Item)). entry ∷ rest) (filter-all test entries all.1)

abbrev is_above_any : List (Path × Item) → Path × Item → Bool
is_above_any entries entry = list_any (λ (other : Path × Item). is_from entry.0 other.0 && true) entries

all-above-any : (entries : List (Path × Item)) → AllByRecursion (λ (entry : Path × Item). is_above_any entries entry ≡ true) entries
all-above-any [] = tt
all-above-any (first ∷ entries) = (
  ap (λ b. (b && true) || is_above_any entries first) (from-self first.0),
  each-so (λ (entry : Path × Item). is_above_any entries entry ≡ true) (λ (entry : Path × Item). is_above_any (first ∷ entries) entry ≡ true)
      (λ entry is. or_right (is_from entry.0 first.0 && true) (is_above_any entries entry) is) entries (all-above-any entries),
)

pub folders-fresh : (entries : List (Path × Item)) → planned_folders [] [] entries ≡ folders_of entries
folders-fresh entries = ap folders_of (filter-all (is_wanted [] [] entries) entries (all-above-any entries))

all-new : (entries : List (Path × Item)) → AllByRecursion (λ (entry : Path × Item). is_new [] [] entry ≡ true) entries
all-new [] = tt
all-new (entry ∷ entries) = (refl, all-new entries)

pub fetches-fresh : (entries : List (Path × Item)) → planned_fetches [] [] entries ≡ fetches_of entries
fetches-fresh entries = ap fetches_of (filter-all (is_new [] []) entries (all-new entries))

-- ---- the folders and the files of what a drive holds
folder-at : (all : List LiveItem) (path : Path) (item : LiveItem) (bytes : Option (List ℕ)) → folder_in (path, record_of all item) (kind_at bytes item.number all) ≡ folder_of path bytes
folder-at all path item None = refl
folder-at all path item (Some bytes) = refl

pub folders-held : (all : List LiveItem) (entries : List (Path × LiveItem)) → folders_of (mapped (record_of all) entries) ≡ folders (mapped item_bytes entries)
folders-held all [] = refl
folders-held all (entry ∷ entries) =
    ap (λ (o : Option Path). cons_option o (folders_of (mapped (record_of all) entries))) (folder-at all entry.0 entry.1 entry.1.bytes)
    ∙ ap (λ (rest : List Path). cons_option (folder_of entry.0 entry.1.bytes) rest) (folders-held all entries)

file-at : (held : Inventory) (entry : Path × LiveItem) (bytes : Option (List ℕ)) (fetches : List Fetching) (more : List (Path × List ℕ)) → entry.1.bytes ≡ bytes → IsAt held entry
    → AllZip (IsFileOf held) fetches more
    → AllZip (IsFileOf held) (cons_option (file_in (entry.0, record_of held.items entry.1) (kind_at bytes entry.1.number held.items)) fetches) (cons_option (file_of entry.0 bytes) more)
file-at held entry None fetches more is at rest = rest
file-at held entry (Some bytes) fetches more is at rest = (
  record { path_is = refl; digest_is = refl; there = record { item = entry.1; there = at.item.live; bytes_are = is }; size_fits = at.item.size },
  rest,
)

pub files-held : (held : Inventory) (entries : List (Path × LiveItem)) → AllByRecursion (IsAt held) entries
    → AllZip (IsFileOf held) (fetches_of (mapped (record_of held.items) entries)) (files (mapped item_bytes entries))
files-held held [] all = tt
files-held held (entry ∷ entries) all =
    file-at held entry entry.1.bytes (fetches_of (mapped (record_of held.items) entries)) (files (mapped item_bytes entries)) refl all.0 (files-held held entries all.1)
