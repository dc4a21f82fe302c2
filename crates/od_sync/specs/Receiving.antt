-- The parts of a look at both sides: what is pulled and committed, and what both sides agree on then.
use Rattle.std.specs.Prelude.{◌≡◌, ℕ, ◌≤◌, true, List, [], ◌∷◌, ◌++◌, count_by, map, Option, Some, Result, IfOk, OnErr}
use Rattle.gd_item.specs.Records.{records_of}
use Rattle.gd_item.specs.Steps.{state_of, held_by}
use Rattle.gd_item.specs.declared.item.Item.{Item}
use Rattle.gd_item.specs.declared.request.Request.TheVariants.{Delta}
use Rattle.gd_item.specs.declared.step.Step.{Step}
use Rattle.gd_item.specs.declared.step.Step.TheVariants.{Ask}
use Rattle.gd_item.specs.declared.step.Who.TheVariants.{Own}
use Rattle.od_keeper.specs.Images.{applied}
use Rattle.od_keeper.specs.Keeping.{Stay, last_image}
use Rattle.gd_item.specs.Views.{uncounted}
use Rattle.od_keeper.specs.Sound.{IsSound}
use Rattle.od_keeper.specs.declared.image.Image.{Image}
use Rattle.od_mirror.specs.Pulled.{paths_of}
use Rattle.od_transfer.specs.Asking.{OwnAre}
use Rattle.od_transfer.specs.Undisturbed.{is_servable}
use Rattle.od_sync.specs.Agreeing.{agreement}
use Rattle.od_sync.specs.Chains.{IsChained}
use Rattle.od_sync.specs.Deltas.{IsSpent, is_own_delta}
use Rattle.od_sync.specs.PullChanges.{ItemsRise}
use Rattle.od_sync.specs.declared.looking.Sides.{Sides}
use Rattle.od_sync.specs.declared.receiving.Received.{Received}
use Rattle.od_sync.specs.declared.scanning.Node.{Node}

-- a next image is committed over the last one
pub record AddsImage (image next : Image) (before after : Option (List Image)) : Type 0 where
  pub told : (images : List Image) → before ≡ Some images → last_image images ≡ image → after ≡ Some (images ++ next ∷ [])

-- the same, or none is
pub record Keeps {T E : Type 0} (image : Image) (next : T → Image) (before after : Option (List Image)) (result : Result T E) : Type 0 where
  pub ok : IfOk result (λ x. AddsImage image (next x) before after)
  pub err : OnErr result (Stay before after)

-- the image after items and a token were pulled over another one
pub record IsReceived (image : Image) (items : List Item) (token : List ℕ) (received : Received) : Type 0 where
  pub token_is : received.image.token ≡ Some token
  pub rows_are : received.image.rows ≡ image.rows
  pub items_are : ItemsRise image.items → ItemsRise items → received.image.items ≡ items
  pub remote_is : received.remote ≡ paths_of items

-- a request for changes was answered, and what was pulled was committed
pub record Got (image : Image) (received : Received) (drive : List Step) (images : List Image) (drive_after : Option (List Step)) (images_after : Option (List Image)) : Type 0 where
  pub spent : List Step
  pub such : OwnAre (IsSpent (Delta image.token)) spent
  pub sent : count_by is_own_delta spent ≤ 2
  pub chained : IsChained image.token drive (spent ++ Ask Own (Delta image.token) true true ∷ []) received.image.token
  pub drive_grown : drive_after ≡ Some ((drive ++ spent) ++ Ask Own (Delta image.token) true true ∷ [])
  pub images_grown : images_after ≡ Some (images ++ received.image ∷ [])
  pub sound : IsSound image drive → IsSound received.image (drive ++ spent)
  pub rows : received.image.rows ≡ image.rows
  pub servable : is_servable (state_of (drive ++ spent)) (Delta received.image.token) ≡ true
  pub items : List Item
  pub remote_is : received.remote ≡ paths_of items
  pub mirrors : IsSound image drive → map uncounted items ≡ map uncounted (records_of (held_by (drive ++ spent)))

pub record Receives (image : Image) (received : Received) (drive_before drive_after : Option (List Step)) (images_before images_after : Option (List Image)) : Type 0 where
  pub told : (drive : List Step) (images : List Image) → drive_before ≡ Some drive → images_before ≡ Some images → last_image images ≡ image
      → Got image received drive images drive_after images_after

-- what both sides have, with the image after both agreed
pub record AreSides (received : Received) (local : List (List (List ℕ) × Node)) (sides : Sides) : Type 0 where
  pub local_is : sides.local ≡ local
  pub remote_is : sides.remote ≡ received.remote
  pub image_is : sides.image ≡ applied (agreement received.image.rows local received.remote) received.image
