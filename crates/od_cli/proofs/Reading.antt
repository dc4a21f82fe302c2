-- What was read, and what is left, make what the source had.
use Rattle.std.proofs.Common.{◌≡◌, ℕ, ◌≤◌, List, ◌++◌, Option, Some}

pub record Reading (start now : Option (List ℕ)) (faults_before faults : ℕ) (all : List ℕ) : Type 0 where
  pub told : (left : List ℕ) → start ≡ Some left → (rest : List ℕ) × (now ≡ Some rest) × (left ≡ all ++ rest)
  pub later : faults_before ≤ faults
