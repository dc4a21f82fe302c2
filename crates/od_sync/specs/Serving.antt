-- What a sync's calls do to the requests and images that are told, whatever the folder's log: where the drive serves each
-- request and no one else asks it, it goes on serving the token of the image that was committed last.
use Rattle.std.specs.Prelude.{◌≡◌, List, ◌++◌, Option, Some}
use Rattle.gd_item.specs.declared.step.Step.{Step}
use Rattle.od_keeper.specs.Keeping.{last_image}
use Rattle.od_keeper.specs.declared.image.Image.{Image}
use Rattle.od_transfer.specs.Alone.{AreOwnServed}
use Rattle.od_transfer.specs.Asking.{OwnAre}
use Rattle.od_sync.specs.Syncing.{IsSyncRequest}
use Rattle.od_sync.specs.Syncs.{HasServable}

-- both grow, and the token of the last image is served then
pub record Served (drive : List Step) (images : List Image) (drive_after : Option (List Step)) (images_after : Option (List Image)) : Type 0 where
  pub more : List Step
  pub asked : OwnAre IsSyncRequest more
  pub drive_grown : drive_after ≡ Some (drive ++ more)
  pub added : List Image
  pub images_grown : images_after ≡ Some (images ++ added)
  pub servable : AreOwnServed more → HasServable (last_image images) drive → HasServable (last_image (images ++ added)) (drive ++ more)

pub record Serves (image : Image) (drive_before drive_after : Option (List Step)) (images_before images_after : Option (List Image)) : Type 0 where
  pub told : (drive : List Step) (images : List Image) → drive_before ≡ Some drive → images_before ≡ Some images → last_image images ≡ image
      → Served drive images drive_after images_after

-- an image is the one that was committed last
pub record Left (next : Image) (images_after : Option (List Image)) : Type 0 where
  pub now : List Image
  pub grown : images_after ≡ Some now
  pub last : last_image now ≡ next

pub record Leaves (image next : Image) (images_before images_after : Option (List Image)) : Type 0 where
  pub told : (images : List Image) → images_before ≡ Some images → last_image images ≡ image → Left next images_after

-- the images that are committed keep the token
pub record TokenKept (image : Image) (images : List Image) (images_after : Option (List Image)) : Type 0 where
  pub added : List Image
  pub grown : images_after ≡ Some (images ++ added)
  pub same : (last_image (images ++ added)).token ≡ image.token

pub record KeepsToken (image : Image) (images_before images_after : Option (List Image)) : Type 0 where
  pub told : (images : List Image) → images_before ≡ Some images → last_image images ≡ image → TokenKept image images images_after

-- requests and images are told, this image is the last one, and its token is one that the drive serves
pub record StartsWith (image : Image) (drive_before : Option (List Step)) (images_before : Option (List Image)) : Type 0 where
  pub log : List Step
  pub committed : List Image
  pub log_is : drive_before ≡ Some log
  pub committed_is : images_before ≡ Some committed
  pub last : last_image committed ≡ image
  pub servable : HasServable image log

pub record ServesAll (drive_before drive_after : Option (List Step)) (images_before images_after : Option (List Image)) : Type 0 where
  pub told : (drive : List Step) (images : List Image) → drive_before ≡ Some drive → images_before ≡ Some images → Served drive images drive_after images_after
