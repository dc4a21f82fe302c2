-- With which tokens the drive is asked for changes.
use Rattle.std.specs.Prelude.{◌≡◌, ◌⊎◌, ℕ, ◌≤◌, true, false, List, [], ◌∷◌, ◌++◌, Option, None}
use Rattle.std.specs.List.{Contains}
use Rattle.gd_item.specs.Answers.{answer_of}
use Rattle.gd_item.specs.declared.request.Request.TheVariants.{Delta}
use Rattle.gd_item.specs.declared.step.Step.{Step}
use Rattle.gd_item.specs.declared.step.Step.TheVariants.{Ask}
use Rattle.gd_item.specs.declared.step.Who.TheVariants.{Own}
use Rattle.od_keeper.specs.declared.image.Image.{Image}
use Rattle.od_run.specs.Knowing.{token_after}

-- a request of this client for changes carries the token that is to be asked with: that of the link of the last answer, none
-- where that answer was that the client begin anew, and the same again where a request was lost or not served
abbrev pub AsksWith : Option (List ℕ) → List Step → Step → Option (List ℕ) → Type 0
AsksWith token drive (Ask Own (Delta sent) true true) next =
    (sent ≡ token) × (size : ℕ) × (1 ≤ size) × (size ≤ 200) × (next ≡ token_after token (answer_of drive size (Delta sent)))
AsksWith token drive (Ask Own (Delta sent) true false) next = (sent ≡ token) × (next ≡ token)
AsksWith token drive (Ask Own (Delta sent) false heard) next = (sent ≡ token) × (next ≡ token)
AsksWith token drive step next = next ≡ token

-- step by step, to the last token
abbrev pub IsChained : Option (List ℕ) → List Step → List Step → Option (List ℕ) → Type 0
IsChained token drive [] last = token ≡ last
IsChained token drive (step ∷ more) last = (next : Option (List ℕ)) × AsksWith token drive step next × IsChained next (drive ++ step ∷ []) more last

-- it begins with the token of an image, or with none where the client began anew: it committed an image without a token
pub record AreChained (token : Option (List ℕ)) (drive more : List Step) (kept : List Image) (last : Option (List ℕ)) : Type 0 where
  pub first : Option (List ℕ)
  pub first_is : (first ≡ token) ⊎ ((first ≡ None) × (image : Image) × Contains kept image × (image.token ≡ None))
  pub chained : IsChained first drive more last
