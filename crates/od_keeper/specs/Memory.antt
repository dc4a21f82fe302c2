-- What the keeper in memory tells.
use Rattle.std.specs.Prelude.{ℕ, Bool, true, false, ◌&&◌, is_none, List, [], ◌∷◌, Option, Some}
use Rattle.od_keeper.specs.declared.image.Image.{Image}
use Rattle.od_keeper.specs.declared.memory.MemoryKeeper.{MemoryKeeper}

-- the images that were committed
abbrev pub images_of : MemoryKeeper → Option (List Image)
images_of keeper = Some keeper.images

-- how often it has failed
abbrev pub faults_of : MemoryKeeper → ℕ
faults_of keeper = keeper.faults

-- the calls at which it fails
abbrev pub failing_of : MemoryKeeper → List ℕ
failing_of keeper = keeper.failing

-- the call from which on it fails, and how many calls were made
abbrev pub stop_of : MemoryKeeper → Option ℕ
stop_of keeper = keeper.stop

abbrev pub calls_of : MemoryKeeper → ℕ
calls_of keeper = keeper.calls

-- whether no calls are listed
abbrev pub is_empty : List ℕ → Bool
is_empty [] = true
is_empty (call ∷ calls) = false

-- whether none are listed, and there is no stop
abbrev pub is_undisturbed : MemoryKeeper → Bool
is_undisturbed keeper = is_empty (failing_of keeper) && is_none (stop_of keeper)
