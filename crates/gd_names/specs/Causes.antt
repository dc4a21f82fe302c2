-- A refusal is the first cause that holds, written as a list of tests in the order in which they are made.
use Rattle.std.specs.Prelude.{Bool, cond, List, [], ◌∷◌, Option, Some, None}

-- the first cause whose test is true
abbrev pub first_cause : {Cause : Type 0} → List (Bool × Cause) → Option Cause
first_cause [] = None
first_cause (test ∷ tests) = cond test.0 (Some test.1) (first_cause tests)
