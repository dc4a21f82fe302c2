-- What the phases of a sync do to the logs and images that are told: how they grow, what a look at both sides finds, and what
-- is done then.
use Rattle.std.specs.Prelude.{◌≡◌, ℕ, ◌≤◌, Bool, true, false, ◌||◌, List, [], ◌∷◌, ◌++◌, count_by, map, Option, Some}
use Rattle.std.specs.List.{All, AllByRecursion, AllZip, list_any}
use Rattle.gd_names.specs.Streams.{Rose}
use Rattle.gd_item.specs.Records.{records_of}
use Rattle.gd_item.specs.Steps.{state_of, held_by, accepted_by}
use Rattle.gd_item.specs.declared.item.Item.{Item}
use Rattle.gd_item.specs.declared.request.Request.{Request}
use Rattle.gd_item.specs.declared.request.Request.TheVariants.{Delta}
use Rattle.gd_item.specs.declared.step.Step.{Step}
use Rattle.gd_item.specs.declared.step.Step.TheVariants.{Ask}
use Rattle.gd_item.specs.declared.step.Who.TheVariants.{Own}
use Rattle.od_keeper.specs.Images.{applied}
use Rattle.od_keeper.specs.Keeping.{last_image}
use Rattle.gd_item.specs.Views.{uncounted}
use Rattle.od_keeper.specs.Sound.{IsSound}
use Rattle.od_keeper.specs.declared.image.Image.{Image}
use Rattle.od_mirror.specs.Pulled.{paths_of}
use Rattle.od_transfer.specs.Alone.{AreOwnServed}
use Rattle.od_transfer.specs.Asking.{OwnAre}
use Rattle.od_transfer.specs.Fits.{is_transfer, IsTransfer}
use Rattle.od_transfer.specs.Undisturbed.{is_servable}
use Rattle.od_tree.specs.Calls.{edited}
use Rattle.od_tree.specs.Local.{local_of, local_tree}
use Rattle.od_tree.specs.Undisturbed.{NoUser}
use Rattle.od_tree.specs.declared.edit.UserEdit.{UserEdit}
use Rattle.od_tree.specs.declared.step.LocalStep.{LocalStep}
use Rattle.od_tree.specs.declared.step.LocalStep.TheVariants.{User, Op}
use Rattle.od_tree.specs.declared.step.TreeOp.TheVariants as op
use Rattle.od_sync.specs.Agreeing.{agreement}
use Rattle.od_sync.specs.Chains.{IsChained}
use Rattle.od_sync.specs.Comparing.{scanned}
use Rattle.od_sync.specs.Deltas.{is_delta, is_own_delta, IsSpent}
use Rattle.od_sync.specs.Doing.{AreAcceptedFetches, CanMake, CanPlace, IsFileOf, folder_spot, file_spot}
use Rattle.od_sync.specs.Findings.{found_by}
use Rattle.od_sync.specs.Scans.{IsLook, is_root_listing}
use Rattle.od_sync.specs.declared.ends.SyncStop.{SyncStop}
use Rattle.od_sync.specs.declared.ends.SyncStop.TheVariants.{BadPages, Unserved}
use Rattle.od_sync.specs.declared.looking.Sides.{Sides}
use Rattle.od_sync.specs.declared.planning.Plan.{Plan}

-- the requests of a sync: for changes, and those of fetches
abbrev pub IsSyncRequest : Request → Bool → Bool → Type 0
IsSyncRequest request served heard = (is_delta request || is_transfer request) ≡ true

-- the steps of the folder's log in a sync: edits of the user, and operations that look, make folders and place files
abbrev pub IsSyncStep : LocalStep → Type 0
IsSyncStep (User edit) = Unit {0}
IsSyncStep (Op (op.List at)) = Unit {0}
IsSyncStep (Op (op.Read at)) = Unit {0}
IsSyncStep (Op (op.MakeDir at)) = Unit {0}
IsSyncStep (Op (op.Place at bytes)) = Unit {0}
IsSyncStep (Op call) = ⊥

-- how all three grow; the images that are added are sound where something holds
pub record Went (Premise : Type 0) (drive : List Step) (local : List LocalStep) (images : List Image)
    (drive_after : Option (List Step)) (local_after : Option (List LocalStep)) (images_after : Option (List Image)) : Type 0 where
  pub more : List Step
  pub asked : OwnAre IsSyncRequest more
  pub drive_grown : drive_after ≡ Some (drive ++ more)
  pub part : List LocalStep
  pub steps : AllByRecursion IsSyncStep part
  pub local_grown : local_after ≡ Some (local ++ part)
  pub added : List Image
  pub images_grown : images_after ≡ Some (images ++ added)
  pub sound : Premise → All (λ (image : Image). IsSound image (drive ++ more)) added

-- a look at both sides: a request for changes was answered, the folder was scanned, and two changes were committed
pub record Met (image : Image) (sides : Sides) (drive : List Step) (local : List LocalStep) (images : List Image)
    (drive_after : Option (List Step)) (local_after : Option (List LocalStep)) (images_after : Option (List Image)) : Type 0 where
  pub spent : List Step
  pub such : OwnAre (IsSpent (Delta image.token)) spent
  pub sent : count_by is_own_delta spent ≤ 2
  pub chained : IsChained image.token drive (spent ++ Ask Own (Delta image.token) true true ∷ []) sides.image.token
  pub drive_grown : drive_after ≡ Some ((drive ++ spent) ++ Ask Own (Delta image.token) true true ∷ [])
  pub edits : List UserEdit
  pub rest : List LocalStep
  pub looks : AllByRecursion IsLook rest
  pub once : list_any is_root_listing rest ≡ false
  pub local_grown : local_after ≡ Some (edited local edits ++ Op (op.List []) ∷ rest)
  pub pulled : Image
  pub images_grown : images_after ≡ Some (images ++ pulled ∷ sides.image ∷ [])
  pub pulled_sound : IsSound image drive → IsSound pulled (drive ++ spent)
  pub agreed_sound : IsSound image drive → IsSound sides.image (drive ++ spent)
  pub pulled_rows : pulled.rows ≡ image.rows
  pub agreed_is : sides.image ≡ applied (agreement image.rows sides.local sides.remote) pulled
  pub servable : is_servable (state_of (drive ++ spent)) (Delta sides.image.token) ≡ true
  pub items : List Item
  pub remote_is : sides.remote ≡ paths_of items
  pub mirrors : IsSound image drive → map uncounted items ≡ map uncounted (records_of (held_by (drive ++ spent)))
  pub found_is : sides.local ≡ found_by (edited local edits ++ Op (op.List []) ∷ []) rest
  pub local_is : NoUser rest → sides.local ≡ scanned (local_tree (edited local edits))

-- what was planned is done: the image that is last then, and the folder's entries where no one disturbs it
pub record Did (plan : Plan) (next : Image) (faults_before faults_now : ℕ) (drive : List Step) (local : List LocalStep) (images : List Image)
    (drive_after : Option (List Step)) (local_after : Option (List LocalStep)) (images_after : Option (List Image)) : Type 0 where
  pub more : List Step
  pub transfers : OwnAre IsTransfer more
  pub drive_grown : drive_after ≡ Some (drive ++ more)
  pub part : List LocalStep
  pub steps : AllByRecursion IsSyncStep part
  pub local_grown : local_after ≡ Some (local ++ part)
  pub added : List Image
  pub images_grown : images_after ≡ Some (images ++ added)
  pub sound : IsSound (last_image images) drive → AreAcceptedFetches (accepted_by drive) plan.fetches → All (λ (image : Image). IsSound image (drive ++ more)) added
  pub last : last_image (images ++ added) ≡ next
  pub all_done : (¬ (Rose faults_before faults_now)) → AreOwnServed more → NoUser part
      → (files : List (List (List ℕ) × List ℕ)) → AllZip (IsFileOf (held_by drive)) plan.fetches files
      → CanMake (local_of local).spots plan.folders → CanPlace ((local_of local).spots ++ map folder_spot plan.folders) files
      → (local_of (local ++ part)).spots ≡ ((local_of local).spots ++ map folder_spot plan.folders) ++ map file_spot files

-- the same where all are told, and the image is the last one
pub record Goes (Premise : List Step → Type 0) (image : Image) (drive_before drive_after : Option (List Step)) (local_before local_after : Option (List LocalStep))
    (images_before images_after : Option (List Image)) : Type 0 where
  pub told : (drive : List Step) (local : List LocalStep) (images : List Image) → drive_before ≡ Some drive → local_before ≡ Some local → images_before ≡ Some images
      → last_image images ≡ image → Went (Premise drive) drive local images drive_after local_after images_after

pub record Meets (image : Image) (sides : Sides) (drive_before drive_after : Option (List Step)) (local_before local_after : Option (List LocalStep))
    (images_before images_after : Option (List Image)) : Type 0 where
  pub told : (drive : List Step) (local : List LocalStep) (images : List Image) → drive_before ≡ Some drive → local_before ≡ Some local → images_before ≡ Some images
      → last_image images ≡ image → Met image sides drive local images drive_after local_after images_after

pub record Does (image : Image) (plan : Plan) (next : Image) (faults_before faults_now : ℕ) (drive_before drive_after : Option (List Step))
    (local_before local_after : Option (List LocalStep)) (images_before images_after : Option (List Image)) : Type 0 where
  pub told : (drive : List Step) (local : List LocalStep) (images : List Image) → drive_before ≡ Some drive → local_before ≡ Some local → images_before ≡ Some images
      → last_image images ≡ image → Did plan next faults_before faults_now drive local images drive_after local_after images_after

-- what is done stops for none of the causes of a pull but of failures
abbrev pub IsDoStop : SyncStop → Type 0
IsDoStop (BadPages id) = ⊥
IsDoStop Unserved = ⊥
IsDoStop stop = Unit {0}
