-- Batch by batch the files of fetches are fetched and placed, and their rows are committed.
use Rattle.std.specs.Prelude.{◌≡◌, ℕ, false, List, [], ◌++◌, map, Option, Some, None}
use Rattle.std.specs.List.{All, AllByRecursion, AllZip}
use Rattle.gd_names.specs.Streams.{Rose}
use Rattle.gd_item.specs.Steps.{held_by, accepted_by}
use Rattle.gd_item.specs.declared.step.Step.{Step}
use Rattle.od_keeper.specs.Keeping.{last_image}
use Rattle.od_keeper.specs.Sound.{IsSound}
use Rattle.od_keeper.specs.declared.image.BaseRow.{BaseRow}
use Rattle.od_keeper.specs.declared.image.Change.{Change}
use Rattle.od_keeper.specs.declared.image.Image.{Image}
use Rattle.od_transfer.specs.Alone.{AreOwnServed}
use Rattle.od_transfer.specs.Asking.{OwnAre}
use Rattle.od_transfer.specs.Fits.{IsTransfer}
use Rattle.od_transfer.specs.declared.job.Outcome.{Outcome}
use Rattle.od_tree.specs.Local.{local_of}
use Rattle.od_tree.specs.Undisturbed.{NoUser}
use Rattle.od_tree.specs.declared.step.LocalStep.{LocalStep}
use Rattle.od_sync.specs.Doing.{AreAcceptedFetches, AreAcceptedRows, CanPlace, IsBytes, IsFileOf, IsMaking, file_spot}
use Rattle.od_sync.specs.declared.planning.Fetching.{Fetching}

-- the files of a batch are fetched, where this client alone asks the drive, no request is lost and the files are there
pub record BroughtFiles (batch : List Fetching) (outcomes : List Outcome) (faults_before faults_now : ℕ) (drive : List Step) (after : Option (List Step)) : Type 0 where
  pub more : List Step
  pub transfers : OwnAre IsTransfer more
  pub grown : after ≡ Some (drive ++ more)
  pub all : (¬ (Rose faults_before faults_now)) → AreOwnServed more → (files : List (List (List ℕ) × List ℕ)) → AllZip (IsFileOf (held_by drive)) batch files → AllZip IsBytes outcomes files

pub record BringsFiles (batch : List Fetching) (outcomes : List Outcome) (faults_before faults_now : ℕ) (before after : Option (List Step)) : Type 0 where
  pub told : (drive : List Step) → before ≡ Some drive → BroughtFiles batch outcomes faults_before faults_now drive after

-- and they are placed, where the user leaves the folder alone and they can be
pub record FetchedFiles (batch : List Fetching) (faults_before faults_now : ℕ) (drive : List Step) (local : List LocalStep) (drive_after : Option (List Step)) (local_after : Option (List LocalStep)) : Type 0 where
  pub more : List Step
  pub transfers : OwnAre IsTransfer more
  pub drive_grown : drive_after ≡ Some (drive ++ more)
  pub part : List LocalStep
  pub makes : AllByRecursion IsMaking part
  pub local_grown : local_after ≡ Some (local ++ part)
  pub all : (¬ (Rose faults_before faults_now)) → AreOwnServed more → NoUser part
      → (files : List (List (List ℕ) × List ℕ)) → AllZip (IsFileOf (held_by drive)) batch files → CanPlace (local_of local).spots files
      → (local_of (local ++ part)).spots ≡ (local_of local).spots ++ map file_spot files

pub record FetchesFiles (batch : List Fetching) (faults_before faults_now : ℕ) (drive_before drive_after : Option (List Step)) (local_before local_after : Option (List LocalStep)) : Type 0 where
  pub told : (drive : List Step) (local : List LocalStep) → drive_before ≡ Some drive → local_before ≡ Some local → FetchedFiles batch faults_before faults_now drive local drive_after local_after

-- the change with rows alone
abbrev pub change_of_rows : List BaseRow → Change
change_of_rows rows = record { reset = false; rules = None; token = None; gone = []; put = []; dropped = []; rows = rows }

-- rows are committed, and the images that are added are sound where the rows are those of accepted bytes
pub record CommittedRows (rows : List BaseRow) (next : Image) (images : List Image) (after : Option (List Image)) : Type 0 where
  pub added : List Image
  pub grown : after ≡ Some (images ++ added)
  pub last : last_image (images ++ added) ≡ next
  pub sound : (drive : List Step) → IsSound (last_image images) drive → AreAcceptedRows (accepted_by drive) rows → All (λ (image : Image). IsSound image drive) added × IsSound next drive

pub record CommitsRows (image : Image) (rows : List BaseRow) (next : Image) (before after : Option (List Image)) : Type 0 where
  pub told : (images : List Image) → before ≡ Some images → last_image images ≡ image → CommittedRows rows next images after

-- the same of some batches: what was fetched and placed, and the images that were added
pub record Fetched (fetches : List Fetching) (next : Image) (faults_before faults_now : ℕ) (drive : List Step) (local : List LocalStep) (images : List Image)
    (drive_after : Option (List Step)) (local_after : Option (List LocalStep)) (images_after : Option (List Image)) : Type 0 where
  pub more : List Step
  pub transfers : OwnAre IsTransfer more
  pub drive_grown : drive_after ≡ Some (drive ++ more)
  pub part : List LocalStep
  pub makes : AllByRecursion IsMaking part
  pub local_grown : local_after ≡ Some (local ++ part)
  pub added : List Image
  pub images_grown : images_after ≡ Some (images ++ added)
  pub last : last_image (images ++ added) ≡ next
  pub sound : IsSound (last_image images) drive → AreAcceptedFetches (accepted_by drive) fetches → All (λ (image : Image). IsSound image (drive ++ more)) added × IsSound next (drive ++ more)
  pub all : (¬ (Rose faults_before faults_now)) → AreOwnServed more → NoUser part
      → (files : List (List (List ℕ) × List ℕ)) → AllZip (IsFileOf (held_by drive)) fetches files → CanPlace (local_of local).spots files
      → (local_of (local ++ part)).spots ≡ (local_of local).spots ++ map file_spot files

pub record Fetches (image : Image) (fetches : List Fetching) (next : Image) (faults_before faults_now : ℕ) (drive_before drive_after : Option (List Step))
    (local_before local_after : Option (List LocalStep)) (images_before images_after : Option (List Image)) : Type 0 where
  pub told : (drive : List Step) (local : List LocalStep) (images : List Image) → drive_before ≡ Some drive → local_before ≡ Some local → images_before ≡ Some images
      → last_image images ≡ image → Fetched fetches next faults_before faults_now drive local images drive_after local_after images_after

-- how all three have grown where it stopped
pub record Stopped (fetches : List Fetching) (drive : List Step) (local : List LocalStep) (images : List Image)
    (drive_after : Option (List Step)) (local_after : Option (List LocalStep)) (images_after : Option (List Image)) : Type 0 where
  pub more : List Step
  pub transfers : OwnAre IsTransfer more
  pub drive_grown : drive_after ≡ Some (drive ++ more)
  pub part : List LocalStep
  pub makes : AllByRecursion IsMaking part
  pub local_grown : local_after ≡ Some (local ++ part)
  pub added : List Image
  pub images_grown : images_after ≡ Some (images ++ added)
  pub sound : IsSound (last_image images) drive → AreAcceptedFetches (accepted_by drive) fetches → All (λ (image : Image). IsSound image (drive ++ more)) added

pub record Stops (image : Image) (fetches : List Fetching) (drive_before drive_after : Option (List Step)) (local_before local_after : Option (List LocalStep))
    (images_before images_after : Option (List Image)) : Type 0 where
  pub told : (drive : List Step) (local : List LocalStep) (images : List Image) → drive_before ≡ Some drive → local_before ≡ Some local → images_before ≡ Some images
      → last_image images ≡ image → Stopped fetches drive local images drive_after local_after images_after
