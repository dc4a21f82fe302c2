-- Calls are counted from 1, and a call fails exactly where its number is listed. Both counts stand still at the last
-- value of a u64.
use Rattle.std.specs.Prelude.{ℕ, zero, suc, ◌+◌, ◌-◌, ◌^◌, min, Bool, if◌then◌else◌, nat_eq, List}
use Rattle.std.specs.List.{list_any}

-- how many calls were made, and how many of them failed
pub record Counts : Type 0 where
  pub calls : ℕ
  pub faults : ℕ

-- before the first call
abbrev pub no_calls : Counts
no_calls = record { calls = 0; faults = 0 }

-- one more, up to the last value of a u64
abbrev pub one_more : ℕ → ℕ
one_more n = min (n + 1) (2 ^ 64 - 1)

-- whether the call is one of the listed
abbrev pub is_listed : List ℕ → ℕ → Bool
is_listed failing call = list_any (λ listed. nat_eq listed call) failing

-- the counts after one more call
abbrev pub counted : List ℕ → Counts → Counts
counted failing before = record {
  calls = one_more before.calls;
  faults = if is_listed failing (one_more before.calls) then one_more before.faults else before.faults;
}

-- the counts after n more calls
abbrev pub counted_after : ℕ → List ℕ → Counts → Counts
counted_after zero failing before = before
counted_after (suc n) failing before = counted failing (counted_after n failing before)
