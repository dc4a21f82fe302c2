-- A round of a sync, and some rounds one after another: what they come to where all logs and images are told. Each is told
-- with the steps and images that it adds and with the logs and images then.
use Rattle.std.specs.Prelude.{◌≡◌, ℕ, ◌≤◌, Bool, true, false, List, [], ◌++◌, Option, Some, None, Result, Ok, Err, OnOk}
use Rattle.std.specs.List.{All, AllByRecursion}
use Rattle.gd_names.specs.Streams.{Rose}
use Rattle.gd_item.specs.Steps.{held_by, accepted_by}
use Rattle.gd_item.specs.Trees.{tree_of}
use Rattle.gd_item.specs.declared.id.ItemId.{ItemId}
use Rattle.gd_item.specs.declared.item.Item.{Item}
use Rattle.gd_item.specs.declared.request.Request.TheVariants.{Delta}
use Rattle.gd_item.specs.declared.step.Step.{Step}
use Rattle.gd_item.specs.declared.step.Step.TheVariants.{Ask}
use Rattle.gd_item.specs.declared.step.Who.TheVariants.{Own}
use Rattle.od_keeper.specs.Images.{empty_image}
use Rattle.od_keeper.specs.Keeping.{last_image}
use Rattle.od_keeper.specs.Sound.{IsSound}
use Rattle.od_keeper.specs.declared.image.Image.{Image}
use Rattle.od_transfer.specs.Alone.{AreOwnServed}
use Rattle.od_transfer.specs.Asking.{OwnAre, RoseBy}
use Rattle.od_transfer.specs.Undisturbed as remote_alone
use Rattle.od_tree.specs.Collisions.{NoCollision}
use Rattle.od_tree.specs.Local.{local_of, local_tree}
use Rattle.od_tree.specs.Undisturbed as tree_alone
use Rattle.od_tree.specs.Undisturbed.{NoUser}
use Rattle.od_tree.specs.declared.step.LocalStep.{LocalStep}
use Rattle.od_keeper.specs.Undisturbed as keeper_alone
use Rattle.od_sync.specs.Chains.{Chained, IsChained}
use Rattle.od_sync.specs.Comparing.{IsKindAccepted}
use Rattle.od_sync.specs.Deltas.{last_heard_after}
use Rattle.od_sync.specs.Ends.{Counts, HasStopCause, end_of_stop}
use Rattle.od_sync.specs.Planning.{planned_fetches, planned_folders}
use Rattle.od_sync.specs.Syncing.{Did, IsSyncRequest, IsSyncStep}
use Rattle.od_sync.specs.Looks.{AllUnlike, AreWhole, IsWithin, LastSame, Looked, found_until}
use Rattle.od_sync.specs.Scans.{IsLook}
use Rattle.od_sync.specs.Syncs.{AreSame, EndedBad, IsFromDrive, since_listed}
use Rattle.od_sync.specs.declared.ends.SyncEnd.{SyncEnd}
use Rattle.od_sync.specs.declared.ends.SyncEnd.TheVariants.{Settled, Unsettled}
use Rattle.od_sync.specs.declared.ends.SyncStop.{SyncStop}
use Rattle.od_sync.specs.declared.ends.SyncStop.TheVariants.{BadPages, Memory, Unserved}
use Rattle.od_sync.specs.declared.looking.Sides.{Sides}
use Rattle.od_sync.specs.declared.planning.Plan.{Plan}

-- the last request that was heard is one for changes that the drive did not serve, whatever was heard before
pub record EndsWithUnserved (more : List Step) : Type 0 where
  pub token : Option (List ℕ)
  pub last : (before : Option Step) → last_heard_after before more ≡ Some (Ask Own (Delta token) false true)

-- how the requests, the steps in the folder and the images of a sync grow
pub record Grew (drive more drive_now : List Step) (local part local_now : List LocalStep) (images added images_now : List Image) : Type 0 where
  pub drive_is : drive_now ≡ drive ++ more
  pub asked : OwnAre IsSyncRequest more
  pub local_is : local_now ≡ local ++ part
  pub steps : AllByRecursion IsSyncStep part
  pub images_are : images_now ≡ images ++ added
  pub sound : IsSound (last_image images) drive → All (λ (image : Image). IsSound image drive_now) added
  pub had : IsSound (last_image images) drive → AllByRecursion (IsFromDrive drive more) part

-- what a sync says where both sides are the same, and where they are not
abbrev pub MirrorsThen : List Step → List Step → List LocalStep → List Image → Type 0
MirrorsThen drive drive_now local_now images =
    IsSound (last_image images) drive → NoCollision local_now (accepted_by drive_now) → NoUser (since_listed local_now) → AreSame local_now drive_now

abbrev pub UnlikeThen : List Step → List Step → List LocalStep → List Image → Type 0
UnlikeThen drive drive_now local_now images =
    IsSound (last_image images) drive → NoUser (since_listed local_now) → AreSame local_now drive_now → ⊥

-- where no one else does anything, and the folder's tree is the drive's, or both begin with nothing
abbrev pub IsAlone : List Step → List LocalStep → Type 0
IsAlone more part = AreOwnServed more × NoUser part

abbrev pub NeverFromSame : List Step → List Step → List LocalStep → List LocalStep → List Image → Type 0
NeverFromSame drive more local part images =
    IsSound (last_image images) drive → IsAlone more part → local_tree local ≡ tree_of (held_by drive) → ⊥

abbrev pub FromNothing : ℕ → ℕ → List Step → List LocalStep → List LocalStep → List Image → Type 0 → Type 0
FromNothing faults_before faults_now more local part images Then =
    (¬ (Rose faults_before faults_now)) → IsAlone more part → (local_of local).spots ≡ [] → last_image images ≡ empty_image → Then

-- a round: both sides are the same, or the plan was done, or it stopped
pub record Rounded (faults_before faults_now : ℕ) (drive more drive_now : List Step) (local part local_now : List LocalStep) (images added images_now : List Image)
    (result : Result (Option Image) SyncStop) : Type 0 where
  pub grew : Grew drive more drive_now local part local_now images added images_now
  pub within : IsWithin 1 more part
  pub chained : Chained (result ≡ Err Memory) (last_image images).token drive more
  pub chained_on : OnOk result (IsChained (last_image images).token drive more (last_image images_now).token)
  pub looked : OnOk result (Looked 1 more part)
  pub begins : OnOk result (found_until local part ≡ [])
  pub whole : OnOk result (AreWhole local part)
  pub settled : result ≡ Ok None → MirrorsThen drive drive_now local_now images
  pub looks : result ≡ Ok None → AllByRecursion IsLook (since_listed local_now)
  pub found_same : result ≡ Ok None → IsSound (last_image images) drive → LastSame drive more local part
  pub found_unlike : (next : Image) → result ≡ Ok (Some next) → IsSound (last_image images) drive → AllUnlike 1 drive more local part
  pub never_bad : (id : ItemId) → result ≡ Err (BadPages id) → IsSound (last_image images) drive → ⊥
  pub bad_pages : (id : ItemId) → result ≡ Err (BadPages id) → EndedBad images_now drive_now id
  pub unserved : result ≡ Err Unserved → EndsWithUnserved more
  pub last : (next : Image) → result ≡ Ok (Some next) → last_image images_now ≡ next
  pub unlike : (next : Image) → result ≡ Ok (Some next) → NeverFromSame drive more local part images
  pub fresh : (next : Image) → result ≡ Ok (Some next)
      → FromNothing faults_before faults_now more local part images (local_tree local_now ≡ tree_of (held_by drive_now))

pub record RoundsTo (faults_before faults_now : ℕ) (drive : List Step) (local : List LocalStep) (images : List Image)
    (drive_after : Option (List Step)) (local_after : Option (List LocalStep)) (images_after : Option (List Image)) (result : Result (Option Image) SyncStop) : Type 0 where
  pub more : List Step
  pub drive_now : List Step
  pub part : List LocalStep
  pub local_now : List LocalStep
  pub added : List Image
  pub images_now : List Image
  pub drive_told : drive_after ≡ Some drive_now
  pub local_told : local_after ≡ Some local_now
  pub images_told : images_after ≡ Some images_now
  pub rounded : Rounded faults_before faults_now drive more drive_now local part local_now images added images_now result

pub record Rounds (faults_before faults_now : ℕ) (image : Image) (drive_before drive_after : Option (List Step)) (local_before local_after : Option (List LocalStep))
    (images_before images_after : Option (List Image)) (result : Result (Option Image) SyncStop) : Type 0 where
  pub told : (drive : List Step) (local : List LocalStep) (images : List Image) → drive_before ≡ Some drive → local_before ≡ Some local → images_before ≡ Some images
      → last_image images ≡ image → RoundsTo faults_before faults_now drive local images drive_after local_after images_after result

-- up to so many rounds, of which the last looks alone, to the end of a sync
pub record Ran (rounds faults_before faults_now : ℕ) (drive more drive_now : List Step) (local part local_now : List LocalStep) (images added images_now : List Image)
    (result : Result Bool SyncStop) : Type 0 where
  pub grew : Grew drive more drive_now local part local_now images added images_now
  pub within : IsWithin rounds more part
  pub chained : Chained (result ≡ Err Memory) (last_image images).token drive more
  pub chained_on : OnOk result (IsChained (last_image images).token drive more (last_image images_now).token)
  pub begins : OnOk result (found_until local part ≡ [])
  pub whole : OnOk result (AreWhole local part)
  pub looked : result ≡ Ok true → Looked 1 more part
  pub looked_by : result ≡ Ok false → Looked rounds more part
  pub settled : result ≡ Ok true → MirrorsThen drive drive_now local_now images
  pub unsettled : result ≡ Ok false → UnlikeThen drive drive_now local_now images
  pub looks : OnOk result (AllByRecursion IsLook (since_listed local_now))
  pub found_same : result ≡ Ok true → IsSound (last_image images) drive → LastSame drive more local part
  pub found_unlike : result ≡ Ok false → IsSound (last_image images) drive → AllUnlike rounds drive more local part
  pub never_bad : (id : ItemId) → result ≡ Err (BadPages id) → IsSound (last_image images) drive → ⊥
  pub bad_pages : (id : ItemId) → result ≡ Err (BadPages id) → EndedBad images_now drive_now id
  pub unserved : result ≡ Err Unserved → EndsWithUnserved more
  pub unlike : result ≡ Ok false → NeverFromSame drive more local part images
  pub fresh : 2 ≤ rounds → result ≡ Ok false → FromNothing faults_before faults_now more local part images ⊥

pub record RunsTo (rounds faults_before faults_now : ℕ) (drive : List Step) (local : List LocalStep) (images : List Image)
    (drive_after : Option (List Step)) (local_after : Option (List LocalStep)) (images_after : Option (List Image)) (result : Result Bool SyncStop) : Type 0 where
  pub more : List Step
  pub drive_now : List Step
  pub part : List LocalStep
  pub local_now : List LocalStep
  pub added : List Image
  pub images_now : List Image
  pub drive_told : drive_after ≡ Some drive_now
  pub local_told : local_after ≡ Some local_now
  pub images_told : images_after ≡ Some images_now
  pub ran : Ran rounds faults_before faults_now drive more drive_now local part local_now images added images_now result

pub record Runs (rounds faults_before faults_now : ℕ) (image : Image) (drive_before drive_after : Option (List Step)) (local_before local_after : Option (List LocalStep))
    (images_before images_after : Option (List Image)) (result : Result Bool SyncStop) : Type 0 where
  pub told : (drive : List Step) (local : List LocalStep) (images : List Image) → drive_before ≡ Some drive → local_before ≡ Some local → images_before ≡ Some images
      → last_image images ≡ image → RunsTo rounds faults_before faults_now drive local images drive_after local_after images_after result

-- the same from the image that is loaded
pub record RunsAll (rounds faults_before faults_now : ℕ) (drive_before drive_after : Option (List Step)) (local_before local_after : Option (List LocalStep))
    (images_before images_after : Option (List Image)) (result : Result Bool SyncStop) : Type 0 where
  pub told : (drive : List Step) (local : List LocalStep) (images : List Image) → drive_before ≡ Some drive → local_before ≡ Some local → images_before ≡ Some images
      → RunsTo rounds faults_before faults_now drive local images drive_after local_after images_after result

-- what is wanted after a look was done
pub record Acted (sides : Sides) (next : Image) (faults_before faults_now : ℕ) (drive : List Step) (local : List LocalStep) (images : List Image)
    (drive_after : Option (List Step)) (local_after : Option (List LocalStep)) (images_after : Option (List Image)) : Type 0 where
  pub plan : Plan
  pub folders_are : plan.folders ≡ planned_folders sides.image.rows sides.local sides.remote
  pub fetches_are : plan.fetches ≡ planned_fetches sides.image.rows sides.local sides.remote
  pub did : Did plan next faults_before faults_now drive local images drive_after local_after images_after

pub record Acts (sides : Sides) (next : Image) (faults_before faults_now : ℕ) (drive_before drive_after : Option (List Step)) (local_before local_after : Option (List LocalStep))
    (images_before images_after : Option (List Image)) : Type 0 where
  pub told : (drive : List Step) (local : List LocalStep) (images : List Image) → drive_before ≡ Some drive → local_before ≡ Some local → images_before ≡ Some images
      → last_image images ≡ sides.image → Acted sides next faults_before faults_now drive local images drive_after local_after images_after

-- the kinds of what a drive shows are those of accepted bytes
abbrev pub AreKindsAccepted : List Step → Sides → Type 0
AreKindsAccepted drive sides = All (λ (entry : List (List ℕ) × Item). IsKindAccepted (accepted_by drive) entry.1.kind) sides.remote

-- the causes of some rounds: each look had a reply
pub record HasRunCause (rounds : ℕ) (before now : Counts) (result : Result Bool SyncStop) : Type 0 where
  pub stopped : HasStopCause before now result
  pub answered : OnOk result (Rose before.answers now.answers)
  pub unsettled : result ≡ Ok false → RoseBy rounds before.answers now.answers

-- what was undisturbed stays so
pub record AllAlone (drive_undisturbed drive_undisturbed_now : Bool) (requests requests_now : Option (List Step))
    (folder_undisturbed folder_undisturbed_now : Bool) (folder_faults folder_faults_now : ℕ) (steps steps_now : Option (List LocalStep))
    (keeper_undisturbed keeper_undisturbed_now : Bool) (keeper_faults keeper_faults_now : ℕ) : Type 0 where
  pub drive : remote_alone.Undisturbed drive_undisturbed drive_undisturbed_now requests requests_now
  pub folder : tree_alone.Undisturbed folder_undisturbed folder_undisturbed_now folder_faults folder_faults_now steps steps_now
  pub keeper : keeper_alone.Undisturbed keeper_undisturbed keeper_undisturbed_now keeper_faults keeper_faults_now

-- how a sync ends
abbrev pub end_of : Result Bool SyncStop → SyncEnd
end_of (Ok true) = Settled
end_of (Ok false) = Unsettled
end_of (Err stop) = end_of_stop stop
