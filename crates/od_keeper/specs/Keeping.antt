-- What the calls of a keeper do to the images that were committed, and why they fail.
use Rattle.std.specs.Prelude.{◌≡◌, ℕ, ◌≤◌, List, [], ◌∷◌, ◌++◌, Option, Some, Result, IfOk, OnErr, IsErrOf}
use Rattle.gd_names.specs.Streams.{Rose}
use Rattle.od_keeper.specs.Images.{empty_image, applied}
use Rattle.od_keeper.specs.declared.image.Change.{Change}
use Rattle.od_keeper.specs.declared.image.Image.{Image}
use Rattle.od_keeper.specs.declared.fault.KeeperFault.{KeeperFault}
use Rattle.od_keeper.specs.declared.fault.KeeperFault.TheVariants.{Failed}

-- the last of the images, and the empty one where there is none
abbrev pub last_image : List Image → Image
last_image [] = empty_image
last_image (image ∷ []) = image
last_image (image ∷ next ∷ images) = last_image (next ∷ images)

-- the images stay as they are
abbrev pub Stay : Option (List Image) → Option (List Image) → Type 0
Stay before after = (images : List Image) → before ≡ Some images → after ≡ Some images

-- a load changes nothing, and gives the last image
pub record Loads (before after : Option (List Image)) (result : Result Image KeeperFault) : Type 0 where
  pub ok : IfOk result (λ image. (images : List Image) → before ≡ Some images → image ≡ last_image images)
  pub same : Stay before after

-- a commit adds the last image with the change, whole, or it changes nothing
pub record Commits {T : Type 0} (change : Change) (before after : Option (List Image)) (result : Result T KeeperFault) : Type 0 where
  pub ok : IfOk result (λ _. (images : List Image) → before ≡ Some images → after ≡ Some (images ++ applied change (last_image images) ∷ []))
  pub err : OnErr result (Stay before after)

-- the count of failures never falls, and rises where a call fails for another cause than memory
pub record HasKeeperCause {T : Type 0} (before now : ℕ) (result : Result T KeeperFault) : Type 0 where
  pub later : before ≤ now
  pub failed : IsErrOf result Failed → Rose before now
