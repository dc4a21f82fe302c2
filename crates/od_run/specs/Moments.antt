-- When the client last asked for changes and last listed the root, read off the logs.
use Rattle.std.specs.Prelude.{Bool, true, false, cond, List, [], ◌∷◌}
use Rattle.std.specs.List.{list_any}
use Rattle.gd_item.specs.declared.request.Request.{Request}
use Rattle.gd_item.specs.declared.request.Request.TheVariants.{Delta}
use Rattle.gd_item.specs.declared.step.Step.{Step}
use Rattle.gd_item.specs.declared.step.Step.TheVariants as step
use Rattle.gd_item.specs.declared.step.Who.TheVariants.{Own, Other}
use Rattle.od_tree.specs.Local.{is_path}
use Rattle.od_tree.specs.declared.step.LocalStep.{LocalStep}
use Rattle.od_tree.specs.declared.step.LocalStep.TheVariants.{User, Op}
use Rattle.od_tree.specs.declared.step.TreeOp.TheVariants as op

-- a request for changes, and a step that is one of this client
abbrev pub is_delta : Request → Bool
is_delta (Delta token) = true
is_delta request = false

abbrev pub is_own_delta : Step → Bool
is_own_delta (step.Ask Own request served is_heard) = is_delta request
is_own_delta (step.Ask Other request served is_heard) = false
is_own_delta (step.Event event) = false

-- a step that lists the root
abbrev pub is_root_listing : LocalStep → Bool
is_root_listing (User edit) = false
is_root_listing (Op (op.List at)) = is_path [] at
is_root_listing (Op call) = false

-- the steps before the last one that is such, and those after it
abbrev pub before_last : {X : Type 0} → (X → Bool) → List X → List X
before_last is [] = []
before_last is (step ∷ steps) = cond (list_any is steps) (step ∷ before_last is steps) []

abbrev pub after_last : {X : Type 0} → (X → Bool) → List X → List X
after_last is [] = []
after_last is (step ∷ steps) = cond (list_any is steps) (after_last is steps) steps

-- the drive's log when this client last asked for changes, and the steps in the folder since its root was last listed
abbrev pub last_asked : List Step → List Step
last_asked drive = before_last is_own_delta drive

abbrev pub since_listed : List LocalStep → List LocalStep
since_listed local = after_last is_root_listing local
