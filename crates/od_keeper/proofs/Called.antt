-- A keeper in memory at which no call is listed, and which has no stop, does not fail.
use Rattle.std.proofs.Common.{◌≡◌, ℕ, zero, suc, [], Option, None, refl, ap, ◌∙◌}
use Rattle.od_keeper.specs.Called.{Counts, counts_of, called, called_times, GoesOn}
use Rattle.od_keeper.specs.declared.memory.MemoryKeeper.{MemoryKeeper}

none-failed : (times : ℕ) (counts : Counts) → (called_times times [] None counts).faults ≡ counts.faults
none-failed zero counts = refl
none-failed (suc times) counts = none-failed times (called [] None counts)

pub none-listed : (before after : MemoryKeeper) → GoesOn before after → before.failing ≡ [] → before.stop ≡ None → after.faults ≡ before.faults
none-listed before after went none unstopped =
    ap (λ (counts : Counts). counts.faults) went.counts
    ∙ ap (λ failing. (called_times went.times failing before.stop (counts_of before)).faults) none
    ∙ ap (λ (stop : Option ℕ). (called_times went.times [] stop (counts_of before)).faults) unstopped
    ∙ none-failed went.times (counts_of before)
