-- Under which condition the client puts files on the drive.
use Rattle.std.specs.Prelude.{◌≡◌, ℕ, false, List, [], ◌∷◌, ◌++◌, Some}
use Rattle.std.specs.List.{AllByRecursion}
use Rattle.gd_names.specs.Settling.{is_taken}
use Rattle.gd_item.specs.Inventory.{Effect, MadeFolder, PutNew, PutOver, Moved, Removed, Inventory, live_at}
use Rattle.gd_item.specs.Refusals.{siblings_in}
use Rattle.gd_item.specs.Steps.{effects_by, held_by, state_of}
use Rattle.gd_item.specs.Tags.{etag_text}
use Rattle.gd_item.specs.declared.live.LiveItem.{LiveItem}
use Rattle.gd_item.specs.declared.step.Step.{Step}
use Rattle.gd_item.specs.declared.step.Step.TheVariants as step
use Rattle.gd_item.specs.declared.step.Who.TheVariants.{Own, Other}
use Rattle.od_run.specs.Moments.{last_asked}

-- an item has the tag that it had in another inventory
pub record HasSameTag (before held : Inventory) (number : ℕ) : Type 0 where
  pub old : LiveItem
  pub old_is : live_at number before.items ≡ Some old
  pub item : LiveItem
  pub item_is : live_at number held.items ≡ Some item
  pub tag : etag_text old.change ≡ etag_text item.change

-- just before it, of an item that is replaced the tag is the one of before, and of a new one no sibling has the name, also but for case
abbrev pub HasCondition : Inventory → Inventory → Effect → Type 0
HasCondition before held (MadeFolder parent name) = Unit {0}
HasCondition before held (PutNew parent name bytes) = is_taken (siblings_in parent held.items) name ≡ false
HasCondition before held (PutOver number bytes) = HasSameTag before held number
HasCondition before held (Moved number parent name) = Unit {0}
HasCondition before held (Removed number) = Unit {0}

-- each put of this client has its condition, the tag being that of when it asked for changes last
abbrev pub OwnHasCondition : List Step → Step → Type 0
OwnHasCondition drive (step.Ask Own request served is_heard) =
    AllByRecursion (HasCondition (held_by (last_asked drive)) (held_by drive)) (effects_by (state_of drive) (step.Ask Own request served is_heard))
OwnHasCondition drive (step.Ask Other request served is_heard) = Unit {0}
OwnHasCondition drive (step.Event event) = Unit {0}

abbrev pub UploadsUnderCondition : List Step → List Step → Type 0
UploadsUnderCondition drive [] = Unit {0}
UploadsUnderCondition drive (next ∷ steps) = OwnHasCondition drive next × UploadsUnderCondition (drive ++ next ∷ []) steps
