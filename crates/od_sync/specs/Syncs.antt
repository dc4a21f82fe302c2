-- What a sync says of the drive's log, the folder's log and the committed images, where all three are told.
use Rattle.std.specs.Prelude.{◌≡◌, ◌⊎◌, ℕ, Bool, true, false, cond, List, [], ◌∷◌, ◌++◌, Option, Some, None}
use Rattle.std.specs.List.{All, AllByRecursion, Contains, list_any}
use Rattle.gd_names.specs.Streams.{Rose}
use Rattle.gd_item.specs.Records.{digest_record}
use Rattle.gd_item.specs.Steps.{state_of, held_by, accepted_by}
use Rattle.gd_item.specs.Trees.{tree_of}
use Rattle.gd_item.specs.declared.id.ItemId.{ItemId}
use Rattle.gd_item.specs.declared.request.Request.TheVariants.{Delta}
use Rattle.gd_item.specs.declared.step.Step.{Step}
use Rattle.gd_item.specs.declared.step.Step.TheVariants.{Ask}
use Rattle.gd_item.specs.declared.step.Who.TheVariants.{Own}
use Rattle.od_keeper.specs.Images.{empty_image}
use Rattle.od_keeper.specs.Keeping.{last_image}
use Rattle.od_keeper.specs.Sound.{IsSound}
use Rattle.od_keeper.specs.declared.image.Image.{Image}
use Rattle.od_transfer.specs.Alone.{AreOwnServed}
use Rattle.od_transfer.specs.Asking.{OwnAre}
use Rattle.od_transfer.specs.Undisturbed.{is_servable}
use Rattle.od_tree.specs.Collisions.{NoCollision}
use Rattle.od_tree.specs.Local.{local_of, local_tree}
use Rattle.od_tree.specs.Loss.{no_loss}
use Rattle.od_tree.specs.Undisturbed.{NoUser}
use Rattle.od_tree.specs.declared.step.LocalStep.{LocalStep}
use Rattle.od_tree.specs.declared.step.LocalStep.TheVariants.{User, Op}
use Rattle.od_tree.specs.declared.step.TreeOp.TheVariants as op
use Rattle.od_sync.specs.Chains.{Chained, IsChained}
use Rattle.od_sync.specs.Comparing.{scanned}
use Rattle.od_sync.specs.Deltas.{is_own_delta, last_heard_after}
use Rattle.od_sync.specs.Ends.{Counts}
use Rattle.od_sync.specs.Looks.{AllUnlike, AreWhole, IsWithin, LastSame, Looked}
use Rattle.od_sync.specs.Pulls.{PullsBad}
use Rattle.od_sync.specs.Scans.{IsLook, is_root_listing}
use Rattle.od_sync.specs.Syncing.{IsSyncRequest, IsSyncStep}
use Rattle.od_sync.specs.declared.ends.SyncEnd.{SyncEnd}
use Rattle.od_sync.specs.declared.ends.SyncEnd.TheVariants.{Settled, Unsettled, BadPages, Unserved, Memory}
use Rattle.od_sync.specs.declared.scanning.Node.{Node}
use Rattle.od_sync.specs.declared.scanning.Node.TheVariants.{Folder, File}

-- what comes before the last step that is such, and what comes after it
abbrev pub before_last : {X : Type 0} → (X → Bool) → List X → List X
before_last is [] = []
before_last is (step ∷ steps) = cond (list_any is steps) (step ∷ before_last is steps) []

abbrev pub after_last : {X : Type 0} → (X → Bool) → List X → List X
after_last is [] = []
after_last is (step ∷ steps) = cond (list_any is steps) (after_last is steps) steps

-- the drive's log when this client last asked for changes, and the steps in the folder since its root was last listed
abbrev pub last_asked : List Step → List Step
last_asked drive = before_last is_own_delta drive

abbrev pub since_listed : List LocalStep → List LocalStep
since_listed local = after_last is_root_listing local

-- the folder's tree is the drive's where it was last asked
abbrev pub AreSame : List LocalStep → List Step → Type 0
AreSame local drive = local_tree local ≡ tree_of (held_by (last_asked drive))

-- the drive had this entry where it answered a request for changes
pub record HadThen (drive more : List Step) (path : List (List ℕ)) (node : Node) : Type 0 where
  pub first : List Step
  pub token : Option (List ℕ)
  pub later : List Step
  pub split : more ≡ first ++ Ask Own (Delta token) true true ∷ later
  pub had : Contains (scanned (tree_of (held_by (drive ++ first)))) (path, node)

-- what is made is what the drive had there
abbrev pub IsFromDrive : List Step → List Step → LocalStep → Type 0
IsFromDrive drive more (User edit) = Unit {0}
IsFromDrive drive more (Op (op.MakeDir at)) = HadThen drive more at Folder
IsFromDrive drive more (Op (op.Place at bytes)) = HadThen drive more at (File (digest_record bytes))
IsFromDrive drive more (Op call) = Unit {0}

-- whether the token of an image is one that the drive serves
abbrev pub HasServable : Image → List Step → Type 0
HasServable image drive = is_servable (state_of drive) (Delta image.token) ≡ true

-- no one else asked the drive or edited the folder, the drive served each request, and no count of failures rose
pub record IsQuiet (before now : Counts) (more : List Step) (part : List LocalStep) : Type 0 where
  pub own : AreOwnServed more
  pub ops : NoUser part
  pub link : ¬ (Rose before.link_faults now.link_faults)
  pub tree : ¬ (Rose before.tree_faults now.tree_faults)
  pub keeper : ¬ (Rose before.keeper_faults now.keeper_faults)

-- the last request that was heard is one for changes that the drive did not serve
pub record EndedUnserved (more : List Step) : Type 0 where
  pub token : Option (List ℕ)
  pub last : last_heard_after None more ≡ Some (Ask Own (Delta token) false true)

-- a pull over the last image had this least item that does not fit, of the page that was answered last
pub record EndedBad (images : List Image) (log : List Step) (id : ItemId) : Type 0 where
  pub old : List Step
  pub bad : PullsBad (last_image images).items (last_image images).token old (Some log) id.0

-- a sync, from logs and images to those with more of each
pub record Syncs (before now : Counts) (drive more : List Step) (local part : List LocalStep) (images added : List Image) (end : SyncEnd) : Type 0 where
  pub asked : OwnAre IsSyncRequest more
  pub steps : AllByRecursion IsSyncStep part
  pub images_are_sound : IsSound (last_image images) drive → All (λ (image : Image). IsSound image (drive ++ more)) added
  pub keeps_every_edit : no_loss local (accepted_by drive) ≡ true → no_loss (local ++ part) (accepted_by (drive ++ more)) ≡ true
  pub mirrors_the_drive : end ≡ Settled → IsSound (last_image images) drive → NoCollision (local ++ part) (accepted_by (drive ++ more))
      → NoUser (since_listed (local ++ part)) → AreSame (local ++ part) (drive ++ more)
  pub unsettled_is_unlike : end ≡ Unsettled → IsSound (last_image images) drive → NoUser (since_listed (local ++ part))
      → AreSame (local ++ part) (drive ++ more) → ⊥
  pub makes_what_the_drive_had : IsSound (last_image images) drive → AllByRecursion (IsFromDrive drive more) part
  pub within_three_looks : IsWithin 3 more part
  pub asks_with_the_last_token : Chained (end ≡ Memory) (last_image images).token drive more
  pub keeps_the_last_token : (end ≡ Settled) ⊎ (end ≡ Unsettled) → IsChained (last_image images).token drive more (last_image (images ++ added)).token
  pub settled_looks : end ≡ Settled → IsSound (last_image images) drive → LastSame drive more local part
  pub unsettled_looks : end ≡ Unsettled → IsSound (last_image images) drive → AllUnlike 3 drive more local part
  pub scans_are_whole : (end ≡ Settled) ⊎ (end ≡ Unsettled) → AreWhole local part
  pub ends_with_a_look : (end ≡ Settled) ⊎ (end ≡ Unsettled) → AllByRecursion IsLook (since_listed (local ++ part))
  pub settled_after_a_look : end ≡ Settled → Looked 1 more part
  pub unsettled_after_three : end ≡ Unsettled → Looked 3 more part
  pub never_bad : (id : ItemId) → end ≡ BadPages id → IsSound (last_image images) drive → ⊥
  pub bad_pages : (id : ItemId) → end ≡ BadPages id → EndedBad (images ++ added) (drive ++ more) id
  pub unserved : end ≡ Unserved → EndedUnserved more
  pub quiet_settles : IsQuiet before now more part → (local_of local).spots ≡ [] → last_image images ≡ empty_image → (end ≡ Settled) ⊎ (end ≡ Memory)
  pub stays_servable : AreOwnServed more → HasServable (last_image images) drive → HasServable (last_image (images ++ added)) (drive ++ more)

pub record SyncsTo (before now : Counts) (drive : List Step) (local : List LocalStep) (images : List Image)
    (drive_after : Option (List Step)) (local_after : Option (List LocalStep)) (images_after : Option (List Image)) (end : SyncEnd) : Type 0 where
  pub more : List Step
  pub part : List LocalStep
  pub added : List Image
  pub drive_grown : drive_after ≡ Some (drive ++ more)
  pub local_grown : local_after ≡ Some (local ++ part)
  pub images_grown : images_after ≡ Some (images ++ added)
  pub syncs : Syncs before now drive more local part images added end

pub record SyncsTold (before now : Counts) (drive_before drive_after : Option (List Step)) (local_before local_after : Option (List LocalStep))
    (images_before images_after : Option (List Image)) (end : SyncEnd) : Type 0 where
  pub told : (drive : List Step) (local : List LocalStep) (images : List Image) → drive_before ≡ Some drive → local_before ≡ Some local → images_before ≡ Some images
      → SyncsTo before now drive local images drive_after local_after images_after end

-- the kept image is told and its token is one that the told drive serves
pub record StartsServable (drive : Option (List Step)) (images : Option (List Image)) : Type 0 where
  pub log : List Step
  pub committed : List Image
  pub log_is : drive ≡ Some log
  pub committed_is : images ≡ Some committed
  pub servable : HasServable (last_image committed) log
