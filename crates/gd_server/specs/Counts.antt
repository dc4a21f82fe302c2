-- Counts that stand still at the last value of a u64.
use Rattle.std.specs.Prelude.{◌≡◌, ℕ, ◌+◌, ◌-◌, ◌^◌, min, max}

-- the count after so many more
abbrev pub risen : ℕ → ℕ → ℕ
risen n before = max before (min (before + n) (2 ^ 64 - 1))

-- so many connections were given, and as many tasks were handed on
pub record HandedOn (n given_before given_now handed_before handed_now : ℕ) : Type 0 where
  pub given : given_now ≡ risen n given_before
  pub handed : handed_now ≡ risen n handed_before
