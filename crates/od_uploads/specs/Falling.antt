-- How often the puts of the client fall on one place.
use Rattle.std.specs.Prelude.{List, [], ◌∷◌, ◌++◌}
use Rattle.std.specs.List.{AllByRecursion, Contains, flat_map}
use Rattle.gd_item.specs.Ids.{item_id}
use Rattle.gd_item.specs.Inventory.{Effect, MadeFolder, PutNew, PutOver, Moved, Removed}
use Rattle.gd_item.specs.Sessions.{State}
use Rattle.gd_item.specs.Steps.{effects_by, state_of}
use Rattle.gd_item.specs.declared.live.Place.{Place}
use Rattle.gd_item.specs.declared.live.Place.TheVariants.{Over, Under}
use Rattle.gd_item.specs.declared.request.Request.TheVariants.{Delta}
use Rattle.gd_item.specs.declared.step.Step.{Step}
use Rattle.gd_item.specs.declared.step.Step.TheVariants as step
use Rattle.gd_item.specs.declared.step.Who.TheVariants.{Own, Other}

-- where an effect puts a file: over an item, or under a name in a folder
abbrev pub puts_at : Effect → List Place
puts_at (MadeFolder parent name) = []
puts_at (PutNew parent name bytes) = Under (item_id parent) name ∷ []
puts_at (PutOver number bytes) = Over (item_id number) ∷ []
puts_at (Moved number parent name) = []
puts_at (Removed number) = []

-- where puts of this client fell since it asked for changes last, after one more step
abbrev pub puts_since : State → List Place → Step → List Place
puts_since state places (step.Ask Own (Delta token) served is_heard) = []
puts_since state places (step.Ask Own request served is_heard) = flat_map puts_at (effects_by state (step.Ask Own request served is_heard)) ++ places
puts_since state places (step.Ask Other request served is_heard) = places
puts_since state places (step.Event event) = places

-- none falls where one fell
abbrev pub FallsApart : State → List Place → Step → Type 0
FallsApart state places (step.Ask Own request served is_heard) =
    AllByRecursion (λ (at : Place). Contains places at → ⊥) (flat_map puts_at (effects_by state (step.Ask Own request served is_heard)))
FallsApart state places (step.Ask Other request served is_heard) = Unit {0}
FallsApart state places (step.Event event) = Unit {0}

abbrev pub FallOnce : List Step → List Place → List Step → Type 0
FallOnce drive places [] = Unit {0}
FallOnce drive places (next ∷ steps) = FallsApart (state_of drive) places next × FallOnce (drive ++ next ∷ []) (puts_since (state_of drive) places next) steps
