-- With which token the drive is asked for changes: with that of the image that was loaded, and then with that of the last answer.
use Rattle.std.specs.Prelude.{◌≡◌, ◌⊎◌, ℕ, true, false, List, [], ◌∷◌, ◌++◌, Option, Some}
use Rattle.gd_item.specs.Answers.{answer_of}
use Rattle.gd_item.specs.declared.reply.PageLink.TheVariants as link
use Rattle.gd_item.specs.declared.reply.Reply.{Reply}
use Rattle.gd_item.specs.declared.reply.Reply.TheVariants as reply
use Rattle.gd_item.specs.declared.request.Request.TheVariants.{Delta}
use Rattle.gd_item.specs.declared.step.Step.{Step}
use Rattle.gd_item.specs.declared.step.Step.TheVariants.{Ask}
use Rattle.gd_item.specs.declared.step.Who.TheVariants.{Own}

-- a reply is a last page with this token
abbrev pub GivesToken : Reply → List ℕ → Type 0
GivesToken (reply.Page page) text = page.link ≡ link.Delta text
GivesToken reply text = ⊥

-- a request for changes carries the token that is to be asked with, and an answer gives the next one
abbrev pub AsksWith : Option (List ℕ) → List Step → Step → Option (List ℕ) → Type 0
AsksWith token drive (Ask Own (Delta sent) true true) next =
    (sent ≡ token) × (text : List ℕ) × (size : ℕ) × GivesToken (answer_of drive size (Delta sent)) text × (next ≡ Some text)
AsksWith token drive (Ask Own (Delta sent) true false) next = (sent ≡ token) × (next ≡ token)
AsksWith token drive (Ask Own (Delta sent) false heard) next = (sent ≡ token) × (next ≡ token)
AsksWith token drive step next = next ≡ token

-- step by step, to the last token
abbrev pub IsChained : Option (List ℕ) → List Step → List Step → Option (List ℕ) → Type 0
IsChained token drive [] last = token ≡ last
IsChained token drive (step ∷ more) last = (next : Option (List ℕ)) × AsksWith token drive step next × IsChained next (drive ++ step ∷ []) more last

-- to whichever that is; where it may be lost, one more request was answered with it, whose answer was not taken
pub record Chained (MayBeLost : Type 0) (token : Option (List ℕ)) (drive more : List Step) : Type 0 where
  pub last : Option (List ℕ)
  pub taken : List Step
  pub chained : IsChained token drive taken last
  pub rest : (more ≡ taken) ⊎ (MayBeLost × (more ≡ taken ++ Ask Own (Delta last) true true ∷ []))
