-- How a keeper in memory goes on from call to call: it fails at exactly the listed calls and from its stop on, and images are
-- only added.
use Rattle.std.specs.Prelude.{◌≡◌, ℕ, zero, suc, ◌+◌, ◌-◌, ◌^◌, ◌≤◌, Bool, false, ◌||◌, cond, min, List, ◌++◌, nat_eq, nat_le, Option, Some, None}
use Rattle.std.specs.List.{list_any}
use Rattle.od_keeper.specs.declared.image.Image.{Image}
use Rattle.od_keeper.specs.declared.memory.MemoryKeeper.{MemoryKeeper}

-- one more, up to the last value of a u64
abbrev pub one_more : ℕ → ℕ
one_more count = min (count + 1) (2 ^ 64 - 1)

-- how many calls there were, and how many of them failed
pub record Counts : Type 0 where
  pub calls : ℕ
  pub faults : ℕ

abbrev pub counts_of : MemoryKeeper → Counts
counts_of keeper = record { calls = keeper.calls; faults = keeper.faults }

-- whether the next call is listed
abbrev pub is_listed : List ℕ → ℕ → Bool
is_listed failing calls = list_any (λ call. nat_eq call (one_more calls)) failing

-- whether so many calls have reached a stop
abbrev pub is_stopped : Option ℕ → ℕ → Bool
is_stopped None calls = false
is_stopped (Some stop) calls = nat_le stop calls

-- the counts after one more call, which fails where it is listed or a stop is reached, and after so many
abbrev pub called : List ℕ → Option ℕ → Counts → Counts
called failing stop counts = record {
  calls = one_more counts.calls;
  faults = cond (is_listed failing counts.calls || is_stopped stop (one_more counts.calls)) (one_more counts.faults) counts.faults;
}

abbrev pub called_times : ℕ → List ℕ → Option ℕ → Counts → Counts
called_times zero failing stop counts = counts
called_times (suc times) failing stop counts = called_times times failing stop (called failing stop counts)

-- the keeper after some calls
pub record GoesOn (before after : MemoryKeeper) : Type 0 where
  pub times : ℕ
  pub counts : counts_of after ≡ called_times times before.failing before.stop (counts_of before)
  pub later : before.faults ≤ after.faults
  pub failing : after.failing ≡ before.failing
  pub stop : after.stop ≡ before.stop
  pub added : List Image
  pub images : after.images ≡ before.images ++ added
