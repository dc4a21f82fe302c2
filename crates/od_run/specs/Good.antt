-- What is good of a world and of what the client knows in it, and stays so.
use Rattle.std.specs.Prelude.{◌≡◌, ℕ, ◌≤◌, true, false, List, [], ◌∷◌, ◌++◌, Option, Some, None}
use Rattle.std.specs.List.{AllByRecursion, list_any}
use Rattle.gd_item.specs.Steps.{accepted_by, number_of, state_of}
use Rattle.gd_item.specs.Tokens.{token_of_text}
use Rattle.gd_item.specs.declared.step.Step.{Step}
use Rattle.gd_item.specs.declared.token.Token.{Token}
use Rattle.od_keeper.specs.Sound.{IsAccepted, IsSound}
use Rattle.od_keeper.specs.declared.image.Agreed.{Agreed}
use Rattle.od_keeper.specs.declared.image.Image.{Image}
use Rattle.od_tree.specs.Collisions.{NoCollision}
use Rattle.od_tree.specs.Local.{Local, held_at, local_of}
use Rattle.od_tree.specs.Loss.{no_loss}
use Rattle.od_tree.specs.declared.local.HeldFile.{HeldFile}
use Rattle.od_tree.specs.declared.step.LocalStep.{LocalStep}
use Rattle.od_tree.specs.declared.step.LocalStep.TheVariants.{User, Op}
use Rattle.od_tree.specs.declared.step.TreeOp.TheVariants as op
use Rattle.od_run.specs.Knowing.{Feed, Known, Path}
use Rattle.od_run.specs.Moments.{is_root_listing, last_asked}
use Rattle.od_run.specs.Worlds.{World}

-- the text is that of a token
abbrev pub IsToken : Option (List ℕ) → Type 0
IsToken None = Unit {0}
IsToken (Some text) = (token : Token) × (token_of_text text ≡ Some token)

-- the token stands at what the drive was when the client asked for changes last
pub record IsPulledAt (drive : List Step) (token : Option (List ℕ)) (pulled : List Step) : Type 0 where
  pub more : List Step
  pub grown : drive ≡ pulled ++ more
  pub last : last_asked drive ≡ pulled
  pub text : List ℕ
  pub text_is : token ≡ Some text
  pub read : Token
  pub read_is : token_of_text text ≡ Some read
  pub epoch : read.epoch ≡ (state_of pulled).epoch
  pub position : read.position ≡ number_of pulled
  pub start : read.start ≤ read.position

abbrev pub IfPulled : (List Step → Type 0) → Option (List Step) → Type 0
IfPulled Holds None = Unit {0}
IfPulled Holds (Some drive) = Holds drive

pub record IsFeedOf (drive : List Step) (feed : Feed) : Type 0 where
  pub token : IsToken feed.token
  pub pulled : IfPulled (IsPulledAt drive feed.token) feed.pulled
  pub unasked : feed.begun ≡ false → feed.pulled ≡ None

-- what is agreed on at paths is accepted by the drive
abbrev pub AreAccepted : List Step → List (Path × Agreed) → Type 0
AreAccepted drive facts = AllByRecursion (λ (fact : Path × Agreed). IsAccepted (accepted_by drive) fact.1) facts

abbrev pub AreSound : List Step → List Image → Type 0
AreSound drive images = AllByRecursion (λ (image : Image). IsSound image drive) images

-- a held file is known with its bytes
abbrev pub IsHeldAs : Local → ℕ × List ℕ → Type 0
IsHeldAs local entry = (file : HeldFile) × (held_at entry.0 local.held ≡ Some file) × (file.file.bytes ≡ entry.1)

abbrev pub AreHeldAs : Local → List (ℕ × List ℕ) → Type 0
AreHeldAs local entries = AllByRecursion (IsHeldAs local) entries

-- since the root was listed the client only looked, and did not list it again
abbrev pub IsLook : LocalStep → Type 0
IsLook (User edit) = Unit {0}
IsLook (Op (op.List at)) = Unit {0}
IsLook (Op (op.Read at)) = Unit {0}
IsLook (Op (op.ReadAside aside)) = Unit {0}
IsLook (Op (op.Discard aside)) = Unit {0}
IsLook (Op op.Asides) = Unit {0}
IsLook (Op call) = ⊥

pub record IsScannedAt (local scanned : List LocalStep) : Type 0 where
  pub more : List LocalStep
  pub grown : local ≡ scanned ++ Op (op.List []) ∷ more
  pub looks : AllByRecursion IsLook more
  pub once : list_any is_root_listing more ≡ false

abbrev pub IfScanned : (List LocalStep → Type 0) → Option (List LocalStep) → Type 0
IfScanned Holds None = Unit {0}
IfScanned Holds (Some local) = Holds local

-- no edit is lost, if no two contents have one digest
abbrev pub LosesNothing : List LocalStep → List Step → Type 0
LosesNothing local drive = NoCollision local (accepted_by drive) → no_loss local (accepted_by drive) ≡ true

pub record Good (w : World) (k : Known) : Type 0 where
  pub sound : AreSound w.drive w.images
  pub image : IsSound k.image w.drive
  pub feed : IsFeedOf w.drive k.feed
  pub brought : AreAccepted w.drive k.there.brought
  pub held_read : AreHeldAs (local_of w.local) k.here.held_read
  pub scanned : IfScanned (IsScannedAt w.local) k.here.scanned
