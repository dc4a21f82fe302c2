-- Agreements that were so: at some moment in the folder, and at some moment on the drive.
use Rattle.std.specs.Prelude.{◌≡◌, ◌⊎◌, ℕ, true, List, [], ◌∷◌, ◌++◌, Option, Some, None}
use Rattle.std.specs.List.{AllByRecursion, Contains}
use Rattle.gd_item.specs.Inventory.{Effect, MadeFolder, PutNew, PutOver, Moved, Removed, Inventory, live_at}
use Rattle.gd_item.specs.Records.{digest_record}
use Rattle.gd_item.specs.Steps.{effects_by, held_by, state_of}
use Rattle.gd_item.specs.declared.digest.Digest.{Digest}
use Rattle.gd_item.specs.declared.request.Request.{Request}
use Rattle.gd_item.specs.declared.step.Step.{Step}
use Rattle.gd_item.specs.declared.step.Step.TheVariants as step
use Rattle.gd_item.specs.declared.step.Who.TheVariants.{Own}
use Rattle.od_keeper.specs.declared.image.Agreed.{Agreed}
use Rattle.od_keeper.specs.declared.image.Agreed.TheVariants.{Nothing, Folder, File}
use Rattle.od_keeper.specs.declared.image.BaseRow.{BaseRow}
use Rattle.od_keeper.specs.declared.image.Image.{Image}
use Rattle.od_tree.specs.Local.{local_of, spot_at}
use Rattle.od_tree.specs.Loss.{readings}
use Rattle.od_tree.specs.declared.step.LocalStep.{LocalStep}
use Rattle.od_run.specs.Acting.{IsAt}
use Rattle.od_run.specs.Knowing.{Path, agreed_item, stands}

-- it stood at the path of the folder once
pub record StoodOnce (local : List LocalStep) (path : Path) (what : Agreed) : Type 0 where
  pub first : List LocalStep
  pub more : List LocalStep
  pub grown : local ≡ first ++ more
  pub stood : Contains (stands path (spot_at path (local_of first).spots)) (path, what)

-- it stood at the path of the drive once
pub record HadOnce (drive : List Step) (path : Path) (what : Agreed) : Type 0 where
  pub first : List Step
  pub more : List Step
  pub grown : drive ≡ first ++ more
  pub had : IsAt (held_by first) path what

-- what an effect makes of the item that it touches, and the name that it gives it
abbrev pub made_of : Inventory → Effect → Agreed
made_of held (MadeFolder parent name) = Folder
made_of held (PutNew parent name bytes) = File (digest_record bytes)
made_of held (PutOver number bytes) = File (digest_record bytes)
made_of held (Moved number parent name) = agreed_item (live_at number held.items)
made_of held (Removed number) = Nothing

abbrev pub EndsIn : Path → List ℕ → Type 0
EndsIn path name = (above : Path) × (path ≡ above ++ name ∷ [])

abbrev pub IsNamed : Path → Effect → Type 0
IsNamed path (MadeFolder parent name) = EndsIn path name
IsNamed path (PutNew parent name bytes) = EndsIn path name
IsNamed path (PutOver number bytes) = Unit {0}
IsNamed path (Moved number parent name) = EndsIn path name
IsNamed path (Removed number) = ⊥

-- an accepted request of this client brought it about. A folder above the path may have another path then, if others moved it
pub record BroughtOnce (drive : List Step) (path : Path) (what : Agreed) : Type 0 where
  pub first : List Step
  pub request : Request
  pub more : List Step
  pub grown : drive ≡ first ++ step.Ask Own request true true ∷ more
  pub effect : Effect
  pub effects : List Effect
  pub effects_are : effects_by (state_of first) (step.Ask Own request true true) ≡ effect ∷ effects
  pub named : IsNamed path effect
  pub what_is : what ≡ made_of (held_by first) effect

-- an agreement was so, unless it is one on nothing
abbrev pub AgreedOnce : List Step → List LocalStep → Path → Agreed → Type 0
AgreedOnce drive local path what = (what ≡ Nothing) ⊎ (StoodOnce local path what × (HadOnce drive path what ⊎ BroughtOnce drive path what))

-- what is on its way was read at the path
abbrev pub ReadOnce : List LocalStep → Path → Option Digest → Type 0
ReadOnce local path None = Unit {0}
ReadOnce local path (Some digest) = (bytes : List ℕ) × Contains (readings local) (path, bytes) × (digest ≡ digest_record bytes)

pub record WasSo (drive : List Step) (local : List LocalStep) (row : BaseRow) : Type 0 where
  pub what : AgreedOnce drive local row.path row.what
  pub flight : ReadOnce local row.path row.flight

abbrev pub WereSo : List Step → List LocalStep → List Image → Type 0
WereSo drive local images = AllByRecursion (λ (image : Image). AllByRecursion (WasSo drive local) image.rows) images
