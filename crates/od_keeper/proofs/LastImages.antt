-- The last of some images after one was added.
use Rattle.std.proofs.Common.{◌≡◌, List, [], ◌∷◌, ◌++◌, refl}
use Rattle.od_keeper.specs.Keeping.{last_image}
use Rattle.od_keeper.specs.declared.image.Image.{Image}

pub last_added : (images : List Image) (image : Image) → last_image (images ++ image ∷ []) ≡ image
last_added [] image = refl
last_added (first ∷ []) image = refl
last_added (first ∷ next ∷ images) image = last_added (next ∷ images) image
