-- A folder that the user leaves alone, and whose calls do not fail.
use Rattle.std.specs.Prelude.{◌≡◌, ℕ, Bool, true, List, ◌++◌, Option, Some}
use Rattle.std.specs.List.{AllByRecursion}
use Rattle.od_tree.specs.declared.step.LocalStep.{LocalStep}
use Rattle.od_tree.specs.declared.step.LocalStep.TheVariants.{User, Op}

-- without edits of the user
abbrev pub IsOp : LocalStep → Type 0
IsOp (User edit) = ⊥
IsOp (Op call) = Unit {0}

abbrev pub NoUser : List LocalStep → Type 0
NoUser steps = AllByRecursion IsOp steps

-- the log grows by operations alone
pub record GrowsByOps (old : List LocalStep) (after : Option (List LocalStep)) : Type 0 where
  pub part : List LocalStep
  pub ops : NoUser part
  pub grown : after ≡ Some (old ++ part)

-- what was undisturbed stays so: the user does nothing, and no call fails
pub record Undisturbed (undisturbed_before undisturbed_now : Bool) (faults_before faults_now : ℕ) (before after : Option (List LocalStep)) : Type 0 where
  pub stays : undisturbed_before ≡ true → undisturbed_now ≡ true
  pub no_faults : undisturbed_before ≡ true → faults_now ≡ faults_before
  pub alone : undisturbed_before ≡ true → (old : List LocalStep) → before ≡ Some old → GrowsByOps old after
