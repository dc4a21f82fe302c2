-- The drive, the folder and the keeper as one world, and what happens in it, in one order.
use Rattle.std.specs.Prelude.{ℕ, List, [], ◌∷◌, ◌++◌}
use Rattle.gd_item.specs.declared.step.Step.{Step}
use Rattle.gd_item.specs.declared.step.Step.TheVariants as step
use Rattle.gd_item.specs.declared.step.Who.TheVariants.{Own, Other}
use Rattle.od_keeper.specs.declared.image.Image.{Image}
use Rattle.od_tree.specs.declared.step.LocalStep.{LocalStep}
use Rattle.od_tree.specs.declared.step.LocalStep.TheVariants.{User, Op}

pub record World : Type 0 where
  pub drive : List Step
  pub local : List LocalStep
  pub images : List Image

-- a step of the drive, a page of which has at most so many records then; a step in the folder; an image that is committed
pub data Event : Type 0 where
  Asked : (size : ℕ) (step : Step) → Event
  Worked : (step : LocalStep) → Event
  Kept : (image : Image) → Event

-- a step of others: of another client, of the drive, or of the user
abbrev pub IsOther : Event → Type 0
IsOther (Asked size (step.Ask Own request served is_heard)) = ⊥
IsOther (Asked size (step.Ask Other request served is_heard)) = Unit {0}
IsOther (Asked size (step.Event event)) = Unit {0}
IsOther (Worked (User edit)) = Unit {0}
IsOther (Worked (Op call)) = ⊥
IsOther (Kept image) = ⊥

abbrev pub happens : World → Event → World
happens w (Asked size step) = record { drive = w.drive ++ step ∷ []; local = w.local; images = w.images }
happens w (Worked step) = record { drive = w.drive; local = w.local ++ step ∷ []; images = w.images }
happens w (Kept image) = record { drive = w.drive; local = w.local; images = w.images ++ image ∷ [] }

-- the world after a history
abbrev pub now : World → List Event → World
now w [] = w
now w (event ∷ events) = now (happens w event) events

-- the steps of the drive in it
abbrev pub steps_in : List Event → List Step
steps_in [] = []
steps_in (Asked size step ∷ events) = step ∷ steps_in events
steps_in (Worked step ∷ events) = steps_in events
steps_in (Kept image ∷ events) = steps_in events

-- and the images that were committed
abbrev pub kept_in : List Event → List Image
kept_in [] = []
kept_in (Asked size step ∷ events) = kept_in events
kept_in (Worked step ∷ events) = kept_in events
kept_in (Kept image ∷ events) = image ∷ kept_in events
