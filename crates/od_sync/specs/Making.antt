-- What one step of doing a plan does to the folder's log.
use Rattle.std.specs.Prelude.{◌≡◌, ℕ, Bool, true, List, [], ◌++◌, Option, Some, None}
use Rattle.od_transfer.specs.declared.job.Outcome.{Outcome}
use Rattle.od_transfer.specs.declared.job.Outcome.TheVariants.{Fetched, Changed, Refused, Lost}
use Rattle.od_tree.specs.Local.{local_of, with_spot}
use Rattle.od_tree.specs.Undisturbed.{NoUser}
use Rattle.od_tree.specs.declared.step.LocalStep.{LocalStep}
use Rattle.od_sync.specs.Doing.{CanStand, placed_file}
use Rattle.od_sync.specs.declared.planning.Fetching.{Fetching}

-- a folder, or a file, is made where the user leaves the folder alone and it can be
pub record MakesOne (path : List (List ℕ)) (before after : Option (List LocalStep)) (made : Bool) : Type 0 where
  pub one : (old part : List LocalStep) → before ≡ Some old → after ≡ Some (old ++ part) → NoUser part → CanStand path (local_of old).spots
      → (made ≡ true) × ((local_of (old ++ part)).spots ≡ with_spot path None (local_of old).spots)

pub record PlacesOne (file : List (List ℕ) × List ℕ) (before after : Option (List LocalStep)) (placed : Bool) : Type 0 where
  pub one : (old part : List LocalStep) → before ≡ Some old → after ≡ Some (old ++ part) → NoUser part → CanStand file.0 (local_of old).spots
      → (placed ≡ true) × ((local_of (old ++ part)).spots ≡ with_spot file.0 (Some (placed_file file.1)) (local_of old).spots)

-- the same of a folder that is made unless it is below one that could not be made
pub record MakesNext (path : List (List ℕ)) (barred_before barred_now : List (List (List ℕ))) (before after : Option (List LocalStep)) : Type 0 where
  pub one : (old part : List LocalStep) → before ≡ Some old → after ≡ Some (old ++ part) → NoUser part → barred_before ≡ [] → CanStand path (local_of old).spots
      → (barred_now ≡ []) × ((local_of (old ++ part)).spots ≡ with_spot path None (local_of old).spots)

-- the bytes that were fetched, and the same of a file whose bytes these are
abbrev pub bytes_of : Outcome → Option (List ℕ)
bytes_of (Fetched bytes) = Some bytes
bytes_of Changed = None
bytes_of (Refused code) = None
bytes_of Lost = None

pub record PlacesFetched (fetch : Fetching) (fetched : Option (List ℕ)) (before after : Option (List LocalStep)) : Type 0 where
  pub one : (bytes : List ℕ) (old part : List LocalStep) → fetched ≡ Some bytes → before ≡ Some old → after ≡ Some (old ++ part) → NoUser part → CanStand fetch.path (local_of old).spots
      → (local_of (old ++ part)).spots ≡ with_spot fetch.path (Some (placed_file bytes)) (local_of old).spots
