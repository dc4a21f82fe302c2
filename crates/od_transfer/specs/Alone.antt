-- A drive that this client alone asks, and that serves each of its requests, and whose replies it hears.
use Rattle.std.specs.Prelude.{◌≡◌, ℕ, Bool, true, false, ◌&&◌, List, Some}
use Rattle.std.specs.List.{AllByRecursion}
use Rattle.gd_item.specs.Inventory.{Inventory, live_at}
use Rattle.gd_item.specs.declared.live.LiveItem.{LiveItem}
use Rattle.gd_item.specs.declared.step.Step.{Step}
use Rattle.gd_item.specs.declared.step.Step.TheVariants.{Ask, Event}
use Rattle.gd_item.specs.declared.step.Who.TheVariants.{Own, Other}

-- whether a step is a request of this client that was served
abbrev pub is_own_served : Step → Bool
is_own_served (Ask Own request served heard) = served
is_own_served (Ask Other request served heard) = false
is_own_served (Event event) = false

abbrev pub AreOwnServed : List Step → Type 0
AreOwnServed steps = AllByRecursion (λ (step : Step). is_own_served step ≡ true) steps

-- whether a step is a request of this client that was served, and whose reply it heard
abbrev pub is_own_heard : Step → Bool
is_own_heard (Ask Own request served heard) = served && heard
is_own_heard (Ask Other request served heard) = false
is_own_heard (Event event) = false

abbrev pub AreOwnHeard : List Step → Type 0
AreOwnHeard steps = AllByRecursion (λ (step : Step). is_own_heard step ≡ true) steps

-- the drive has a file of this number with these bytes
pub record HasFile (held : Inventory) (number : ℕ) (bytes : List ℕ) : Type 0 where
  pub item : LiveItem
  pub there : live_at number held.items ≡ Some item
  pub bytes_are : item.bytes ≡ Some bytes
