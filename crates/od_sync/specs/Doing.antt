-- What is done in the local folder: folders are made in their order, and files are placed that were fetched. What a folder
-- could not be made for waits for the next round. Where no one disturbs it, all is done.
use Rattle.std.specs.Prelude.{◌≡◌, ◌⊎◌, ℕ, ◌≤◌, Bool, true, false, not, ◌&&◌, List, [], ◌∷◌, ◌++◌, map, nat_le, nat_lt, Option, Some, None}
use Rattle.std.specs.List.{All, AllByRecursion, AllZip, Contains, list_any}
use Rattle.gd_item.specs.Inventory.{Inventory}
use Rattle.gd_item.specs.Records.{digest_record}
use Rattle.gd_item.specs.declared.live.Version.{Version}
use Rattle.od_keeper.specs.Sound.{IsAccepted}
use Rattle.od_keeper.specs.declared.image.Agreed.TheVariants as agreed
use Rattle.od_keeper.specs.Images.{by_path, put_all}
use Rattle.od_keeper.specs.declared.image.BaseRow.{BaseRow}
use Rattle.od_keeper.specs.declared.image.Image.{Image}
use Rattle.od_transfer.specs.Alone.{HasFile}
use Rattle.od_transfer.specs.Fits.{HasDigest}
use Rattle.od_transfer.specs.declared.job.Job.{Job}
use Rattle.od_transfer.specs.declared.job.Job.TheVariants.{Fetch}
use Rattle.od_transfer.specs.declared.job.Outcome.{Outcome}
use Rattle.od_transfer.specs.declared.job.Outcome.TheVariants.{Fetched}
use Rattle.od_tree.specs.Local.{local_of, has_parent, is_from, is_taken_at, with_spot}
use Rattle.od_tree.specs.Undisturbed.{NoUser}
use Rattle.od_tree.specs.declared.local.LocalFile.{LocalFile}
use Rattle.od_tree.specs.declared.local.Spot.{Spot}
use Rattle.od_tree.specs.declared.step.LocalStep.{LocalStep}
use Rattle.od_tree.specs.declared.step.LocalStep.TheVariants.{User, Op}
use Rattle.od_tree.specs.declared.step.TreeOp.TheVariants as op
use Rattle.od_sync.specs.declared.planning.Fetching.{Fetching}

-- how many bytes a file has at most that is fetched, which is also how many a batch has; and how many jobs
abbrev pub most_bytes : ℕ
most_bytes = 67108864

abbrev pub most_jobs : ℕ
most_jobs = 16

-- an edit of the user, or an operation that makes something
abbrev pub IsMaking : LocalStep → Type 0
IsMaking (User edit) = Unit {0}
IsMaking (Op (op.MakeDir at)) = Unit {0}
IsMaking (Op (op.Place at bytes)) = Unit {0}
IsMaking (Op call) = ⊥

-- the same where such folders alone are made, and such bytes alone placed at a path
abbrev pub IsMakingOf : (List (List ℕ) → Type 0) → (List (List ℕ) → List ℕ → Type 0) → LocalStep → Type 0
IsMakingOf IsFolder IsFile (User edit) = Unit {0}
IsMakingOf IsFolder IsFile (Op (op.MakeDir at)) = IsFolder at
IsMakingOf IsFolder IsFile (Op (op.Place at bytes)) = IsFile at bytes
IsMakingOf IsFolder IsFile (Op call) = ⊥

pub record Made (IsFolder : List (List ℕ) → Type 0) (IsFile : List (List ℕ) → List ℕ → Type 0) (old : List LocalStep) (after : Option (List LocalStep)) : Type 0 where
  pub part : List LocalStep
  pub makes : AllByRecursion (IsMakingOf IsFolder IsFile) part
  pub grown : after ≡ Some (old ++ part)

pub record Makes (IsFolder : List (List ℕ) → Type 0) (IsFile : List (List ℕ) → List ℕ → Type 0) (before after : Option (List LocalStep)) : Type 0 where
  pub told : (old : List LocalStep) → before ≡ Some old → Made IsFolder IsFile old after

-- none; and a folder that is among some
abbrev pub NoFolder : List (List ℕ) → Type 0
NoFolder at = ⊥

abbrev pub NoFile : List (List ℕ) → List ℕ → Type 0
NoFile at bytes = ⊥

abbrev pub IsFolderOf : List (List (List ℕ)) → List (List ℕ) → Type 0
IsFolderOf folders at = Contains folders at

-- bytes that a fetch among some asks for at its path
abbrev pub IsFetchOf : List Fetching → List (List ℕ) → List ℕ → Type 0
IsFetchOf fetches at bytes = (fetch : Fetching) × Contains fetches fetch × (fetch.path ≡ at) × (fetch.digest ≡ digest_record bytes)

-- what came of a fetch has its digest
abbrev pub IsFetchFit : Fetching → Outcome → Type 0
IsFetchFit fetch outcome = HasDigest fetch.digest outcome

-- bytes that came for a path: of one fetch, and of some
abbrev pub IsFileAt : List (List ℕ) → Option (List ℕ) → List (List ℕ) → List ℕ → Type 0
IsFileAt path came at bytes = (path ≡ at) × (came ≡ Some bytes)

abbrev pub IsBroughtTo : List Fetching → List Outcome → List (List ℕ) → List ℕ → Type 0
IsBroughtTo [] outcomes at bytes = ⊥
IsBroughtTo (fetch ∷ batch) [] at bytes = ⊥
IsBroughtTo (fetch ∷ batch) (outcome ∷ outcomes) at bytes = ((fetch.path ≡ at) × (outcome ≡ Fetched bytes)) ⊎ IsBroughtTo batch outcomes at bytes

-- whether a path is one of some paths or below one
abbrev pub is_below_any : List (List (List ℕ)) → List (List ℕ) → Bool
is_below_any tops path = list_any (λ top. is_from top path) tops

-- the entries that are made
abbrev pub folder_spot : List (List ℕ) → Spot
folder_spot path = record { path = path; file = None }

abbrev pub placed_file : List ℕ → LocalFile
placed_file bytes = record { bytes = bytes; origin = None }

abbrev pub file_spot : List (List ℕ) × List ℕ → Spot
file_spot file = record { path = file.0; file = Some (placed_file file.1) }

-- each entry can be made after those before it: its path is free, and there is a folder above it
pub record CanStand (path : List (List ℕ)) (spots : List Spot) : Type 0 where
  pub free : is_taken_at path spots ≡ false
  pub parent : has_parent path spots ≡ true

abbrev pub CanMake : List Spot → List (List (List ℕ)) → Type 0
CanMake spots [] = Unit {0}
CanMake spots (path ∷ paths) = CanStand path spots × CanMake (with_spot path None spots) paths

abbrev pub CanPlace : List Spot → List (List (List ℕ) × List ℕ) → Type 0
CanPlace spots [] = Unit {0}
CanPlace spots (file ∷ files) = CanStand file.0 spots × CanPlace (with_spot file.0 (Some (placed_file file.1)) spots) files

-- all folders are made, where the user leaves the folder alone and each can be
pub record MakesAll (folders : List (List (List ℕ))) (before after : Option (List LocalStep)) (barred : List (List (List ℕ))) : Type 0 where
  pub all : (old part : List LocalStep) → before ≡ Some old → after ≡ Some (old ++ part) → NoUser part → CanMake (local_of old).spots folders
      → (barred ≡ []) × ((local_of (old ++ part)).spots ≡ (local_of old).spots ++ map folder_spot folders)

-- a file that is to be fetched, and its path and bytes on the drive
pub record IsFileOf (held : Inventory) (fetch : Fetching) (file : List (List ℕ) × List ℕ) : Type 0 where
  pub path_is : fetch.path ≡ file.0
  pub digest_is : fetch.digest ≡ digest_record file.1
  pub there : HasFile held fetch.id.0 file.1
  pub size_fits : fetch.size ≤ most_bytes

-- what was fetched for a path are these bytes
abbrev pub IsPathOf : Fetching → List (List ℕ) × List ℕ → Type 0
IsPathOf fetch file = fetch.path ≡ file.0

abbrev pub IsBytes : Outcome → List (List ℕ) × List ℕ → Type 0
IsBytes outcome file = outcome ≡ Fetched file.1

-- all files are placed, where the user leaves the folder alone and each can be
pub record PlacesAll (batch : List Fetching) (outcomes : List Outcome) (before after : Option (List LocalStep)) : Type 0 where
  pub all : (files : List (List (List ℕ) × List ℕ)) (old part : List LocalStep) → before ≡ Some old → after ≡ Some (old ++ part) → NoUser part
      → AllZip IsPathOf batch files → AllZip IsBytes outcomes files → CanPlace (local_of old).spots files
      → (local_of (old ++ part)).spots ≡ (local_of old).spots ++ map file_spot files

-- the fetches that are tried: not below what was not made, not too large, and of an item that can be asked for
abbrev pub is_tried : List (List (List ℕ)) → Fetching → Bool
is_tried barred fetch = not (is_below_any barred fetch.path) && nat_le fetch.size most_bytes && nat_lt 0 fetch.id.0

-- the job of a fetch, and the row once its file is placed
abbrev pub job_of : Fetching → Job
job_of fetch = Fetch fetch.id fetch.digest fetch.size

abbrev pub placed_row : Fetching → BaseRow
placed_row fetch = record { path = fetch.path; what = agreed.File fetch.digest; flight = None }

-- the files that steps placed, and the rows that say so
abbrev pub placed_in : LocalStep → List (List (List ℕ) × List ℕ)
placed_in (User edit) = []
placed_in (Op (op.Place at bytes)) = (at, bytes) ∷ []
placed_in (Op call) = []

abbrev pub placed_files : List LocalStep → List (List (List ℕ) × List ℕ)
placed_files [] = []
placed_files (step ∷ steps) = placed_in step ++ placed_files steps

abbrev pub row_of_file : List (List ℕ) × List ℕ → BaseRow
row_of_file file = record { path = file.0; what = agreed.File (digest_record file.1); flight = None }

-- these files were placed and no others; these rows are those of what was placed; and an image has got those rows
pub record PlacedThese (files : List (List (List ℕ) × List ℕ)) (old : List LocalStep) (after : Option (List LocalStep)) : Type 0 where
  pub part : List LocalStep
  pub grown : after ≡ Some (old ++ part)
  pub placed : placed_files part ≡ files

pub record PlacesThese (files : List (List (List ℕ) × List ℕ)) (before after : Option (List LocalStep)) : Type 0 where
  pub told : (old : List LocalStep) → before ≡ Some old → PlacedThese files old after

pub record RowsGiven (rows : List BaseRow) (old : List LocalStep) (after : Option (List LocalStep)) : Type 0 where
  pub part : List LocalStep
  pub grown : after ≡ Some (old ++ part)
  pub rows_are : rows ≡ map row_of_file (placed_files part)

pub record GivesRows (rows : List BaseRow) (before after : Option (List LocalStep)) : Type 0 where
  pub told : (old : List LocalStep) → before ≡ Some old → RowsGiven rows old after

pub record RowsPut (image next : Image) (old : List LocalStep) (after : Option (List LocalStep)) : Type 0 where
  pub part : List LocalStep
  pub grown : after ≡ Some (old ++ part)
  pub next_is : next ≡ record image { rows = put_all by_path (map row_of_file (placed_files part)) image.rows }

pub record PutsRows (image next : Image) (before after : Option (List LocalStep)) : Type 0 where
  pub told : (old : List LocalStep) → before ≡ Some old → RowsPut image next old after

-- the digests of fetches are those of accepted bytes, and so are the agreements of rows
abbrev pub AreAcceptedFetches : List Version → List Fetching → Type 0
AreAcceptedFetches versions fetches = All (λ (fetch : Fetching). IsAccepted versions (agreed.File fetch.digest)) fetches

abbrev pub AreAcceptedRows : List Version → List BaseRow → Type 0
AreAcceptedRows versions rows = All (λ (row : BaseRow). IsAccepted versions row.what) rows

abbrev pub AreRowsOf : List Fetching → List BaseRow → Type 0
AreRowsOf fetches rows = (versions : List Version) → AreAcceptedFetches versions fetches → AreAcceptedRows versions rows
