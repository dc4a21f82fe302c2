-- What the requests of a job put on a drive.
use Rattle.std.specs.Prelude.{◌≡◌, ℕ, true, false, List, [], ◌∷◌, ◌++◌}
use Rattle.std.specs.List.{AllByRecursion}
use Rattle.gd_names.specs.Settling.{is_taken}
use Rattle.gd_item.specs.Inventory.{Effect, PutNew, PutOver, Inventory, live_at}
use Rattle.gd_item.specs.Refusals.{is_met, siblings_in}
use Rattle.gd_item.specs.Sessions.{State, held}
use Rattle.gd_item.specs.Steps.{after_step, effects_by}
use Rattle.gd_item.specs.declared.condition.Condition.TheVariants.{Match}
use Rattle.gd_item.specs.declared.step.Step.TheVariants.{Ask}
use Rattle.gd_item.specs.declared.step.Who.TheVariants.{Own}
use Rattle.od_job.specs.declared.job.SendTo.{SendTo}
use Rattle.od_job.specs.declared.job.SendTo.TheVariants.{Over, Under}
use Rattle.od_sends.specs.Told.{Marked, Mine, Between}

-- the effects of the job's requests
abbrev pub job_effects : State → List Marked → List Effect
job_effects drive [] = []
job_effects drive (Mine request served heard ∷ part) =
    effects_by drive (Ask Own request served heard) ++ job_effects (after_step drive (Ask Own request served heard)) part
job_effects drive (Between step ∷ part) = job_effects (after_step drive step) part

-- an effect puts the bytes where they are sent, under their condition: over an item that has the tag, or to a name in a folder
-- that no item there has, also but for case
abbrev pub PutsSo : SendTo → List ℕ → Inventory → Effect → Type 0
PutsSo (Over id tag) bytes before effect = (effect ≡ PutOver id.0 bytes) × (is_met (Match tag.0) (live_at id.0 before.items) ≡ true)
PutsSo (Under id name) bytes before effect = (effect ≡ PutNew id.0 name bytes) × (is_taken (siblings_in id.0 before.items) name ≡ false)

-- each effect of the job's requests does
abbrev pub JobPuts : SendTo → List ℕ → State → List Marked → Type 0
JobPuts to bytes drive [] = Unit {0}
JobPuts to bytes drive (Mine request served heard ∷ part) =
    AllByRecursion (PutsSo to bytes (held drive)) (effects_by drive (Ask Own request served heard))
    × JobPuts to bytes (after_step drive (Ask Own request served heard)) part
JobPuts to bytes drive (Between step ∷ part) = JobPuts to bytes (after_step drive step) part
