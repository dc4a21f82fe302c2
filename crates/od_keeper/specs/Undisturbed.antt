-- A keeper whose calls do not fail.
use Rattle.std.specs.Prelude.{◌≡◌, ℕ, Bool, true}

-- what was undisturbed stays so, and no call fails
pub record Undisturbed (undisturbed_before undisturbed_now : Bool) (faults_before faults_now : ℕ) : Type 0 where
  pub stays : undisturbed_before ≡ true → undisturbed_now ≡ true
  pub no_faults : undisturbed_before ≡ true → faults_now ≡ faults_before
