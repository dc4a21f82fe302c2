-- What is planned lies below the root, and is fetched by digests of accepted bytes.
use Rattle.std.proofs.Common.{◌≡◌, ℕ, ◌<◌, List, [], ◌∷◌, length, filter, Option, Some, None, refl, sym, subst}
use Rattle.std.proofs.lemmas.List.Elements.{All-nil, All-cons, All-head, All-tail, All-filter}
use Rattle.std.specs.List.{All, cons_option, filter_map}
use Rattle.gd_item.specs.declared.item.Item.{Item}
use Rattle.gd_item.specs.declared.item.Kind.{Kind}
use Rattle.gd_item.specs.declared.item.Kind.TheVariants as kind
use Rattle.gd_item.specs.declared.live.Version.{Version}
use Rattle.od_keeper.specs.Sound.{IsAccepted}
use Rattle.od_keeper.specs.declared.image.Agreed.TheVariants as agreed
use Rattle.od_keeper.specs.declared.image.BaseRow.{BaseRow}
use Rattle.od_sync.specs.Comparing.{IsKindAccepted}
use Rattle.od_sync.specs.Doing.{AreAcceptedFetches}
use Rattle.od_sync.specs.Planning.{file_in, folder_in, is_new, is_wanted, planned_fetches, planned_folders}
use Rattle.od_sync.specs.declared.planning.Fetching.{Fetching}
use Rattle.od_sync.specs.declared.scanning.Node.{Node}

all-kept-one : {Y : Type 0} (Q : Y → Type 0) (one : Option Y) (ys : List Y) → ((y : Y) → one ≡ Some y → Q y) → All Q ys → All Q (cons_option one ys)
all-kept-one Q None ys so all = all
all-kept-one Q (Some y) ys so all = All-cons Q y ys (so y refl) all

all-kept : {X Y : Type 0} (P : X → Type 0) (Q : Y → Type 0) (h : X → Option Y) → ((x : X) (y : Y) → P x → h x ≡ Some y → Q y) → (xs : List X) → All P xs → All Q (filter_map h xs)
all-kept P Q h so [] all = All-nil Q
all-kept P Q h so (x ∷ xs) all =
    all-kept-one Q (h x) (filter_map h xs) (λ y is. so x y (All-head P x xs all) is) (all-kept P Q h so xs (All-tail P x xs all))

abbrev Entry : Type 0
Entry = List (List ℕ) × Item

abbrev pub IsBelow : Entry → Type 0
IsBelow entry = 0 < length entry.0

abbrev pub IsKindIn : List Version → Entry → Type 0
IsKindIn versions entry = IsKindAccepted versions entry.1.kind

-- ---- folders
folder-below : (entry : Entry) (k : Kind) (folder : List (List ℕ)) → IsBelow entry → folder_in entry k ≡ Some folder → 0 < length folder
folder-below entry (kind.Folder child_count) folder below is = let same : entry.0 ≡ folder = cc is in subst (λ (path : List (List ℕ)). 0 < length path) same below
folder-below entry (kind.File digest) folder below is = absurd (cc is)
folder-below entry kind.Bare folder below is = absurd (cc is)
folder-below entry kind.Deleted folder below is = absurd (cc is)

pub folders-below : (rows : List BaseRow) (local : List (List (List ℕ) × Node)) (remote : List Entry) → All IsBelow remote → All (λ folder. 0 < length folder) (planned_folders rows local remote)
folders-below rows local remote below =
    all-kept IsBelow (λ (folder : List (List ℕ)). 0 < length folder) (λ (entry : Entry). folder_in entry entry.1.kind) (λ entry folder b is. folder-below entry entry.1.kind folder b is)
    (filter (is_wanted rows local remote) remote) (All-filter (is_wanted rows local remote) IsBelow remote below)

-- ---- files
file-below : (entry : Entry) (k : Kind) (fetch : Fetching) → IsBelow entry → file_in entry k ≡ Some fetch → 0 < length fetch.path
file-below entry (kind.Folder child_count) fetch below is = absurd (cc is)
file-below entry (kind.File digest) fetch below is =
    let same : record { path = entry.0; id = entry.1.id; digest = digest; size = entry.1.size } ≡ fetch = cc is in
    subst (λ (f : Fetching). 0 < length f.path) same below
file-below entry kind.Bare fetch below is = absurd (cc is)
file-below entry kind.Deleted fetch below is = absurd (cc is)

pub fetches-below : (rows : List BaseRow) (local : List (List (List ℕ) × Node)) (remote : List Entry) → All IsBelow remote → All (λ (fetch : Fetching). 0 < length fetch.path) (planned_fetches rows local remote)
fetches-below rows local remote below =
    all-kept IsBelow (λ (fetch : Fetching). 0 < length fetch.path) (λ (entry : Entry). file_in entry entry.1.kind) (λ entry fetch b is. file-below entry entry.1.kind fetch b is)
    (filter (is_new rows local) remote) (All-filter (is_new rows local) IsBelow remote below)

file-accepted : (versions : List Version) (entry : Entry) (k : Kind) (fetch : Fetching) → IsKindAccepted versions k → file_in entry k ≡ Some fetch → IsAccepted versions (agreed.File fetch.digest)
file-accepted versions entry (kind.Folder child_count) fetch accepted is = absurd (cc is)
file-accepted versions entry (kind.File digest) fetch accepted is =
    let same : record { path = entry.0; id = entry.1.id; digest = digest; size = entry.1.size } ≡ fetch = cc is in
    subst (λ (f : Fetching). IsAccepted versions (agreed.File f.digest)) same accepted
file-accepted versions entry kind.Bare fetch accepted is = absurd (cc is)
file-accepted versions entry kind.Deleted fetch accepted is = absurd (cc is)

pub fetches-accepted : (versions : List Version) (rows : List BaseRow) (local : List (List (List ℕ) × Node)) (remote : List Entry) → All (IsKindIn versions) remote
    → AreAcceptedFetches versions (planned_fetches rows local remote)
fetches-accepted versions rows local remote kinds =
    all-kept (IsKindIn versions) (λ (fetch : Fetching). IsAccepted versions (agreed.File fetch.digest)) (λ (entry : Entry). file_in entry entry.1.kind)
    (λ entry fetch accepted is. file-accepted versions entry entry.1.kind fetch accepted is) (filter (is_new rows local) remote) (All-filter (is_new rows local) (IsKindIn versions) remote kinds)

-- ---- the same of a plan that was made from both sides
pub plan-folders-below : (rows : List BaseRow) (local : List (List (List ℕ) × Node)) (remote shown : List Entry) (folders : List (List (List ℕ))) → shown ≡ remote → folders ≡ planned_folders rows local shown → All IsBelow remote
    → All (λ folder. 0 < length folder) folders
plan-folders-below rows local remote shown folders shown_is folders_are below =
    subst (λ (fs : List (List (List ℕ))). All (λ (folder : List (List ℕ)). 0 < length folder) fs) (sym folders_are)
    (folders-below rows local shown (subst (λ (entries : List Entry). All IsBelow entries) (sym shown_is) below))

pub plan-fetches-below : (rows : List BaseRow) (local : List (List (List ℕ) × Node)) (remote shown : List Entry) (fetches : List Fetching) → shown ≡ remote → fetches ≡ planned_fetches rows local shown → All IsBelow remote
    → All (λ (fetch : Fetching). 0 < length fetch.path) fetches
plan-fetches-below rows local remote shown fetches shown_is fetches_are below =
    subst (λ (fs : List Fetching). All (λ (fetch : Fetching). 0 < length fetch.path) fs) (sym fetches_are)
    (fetches-below rows local shown (subst (λ (entries : List Entry). All IsBelow entries) (sym shown_is) below))
