-- What a member's value is read as.
use Rattle.std.specs.Prelude.{ℕ, cond, List, [], ◌∷◌, Option, Some, None, option_and_then, is_some, nat_eq}
use Rattle.std.specs.Cmp.Lexicographic.{pointwise}
use Rattle.serde_json.specs.Data.{Data}
use Rattle.serde_json.specs.Find.{as_number, as_u64, as_object}

-- a whole number below 2 ^ 64 in digits alone
abbrev pub number_of : Data → Option ℕ
number_of d = option_and_then as_u64 (as_number d)

-- the value itself, where it is an object
abbrev pub object_of : Data → Option Data
object_of d = cond (is_some (as_object d)) (Some d) None

-- the choice that is spelt so
abbrev pub one_of : {A : Type 0} → List (List ℕ × A) → List ℕ → Option A
one_of [] text = None
one_of (choice ∷ choices) text = cond (pointwise nat_eq text choice.0) (Some choice.1) (one_of choices text)
