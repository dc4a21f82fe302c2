-- Names of siblings are told apart without case. Only the letters of ASCII have case here: `A` to `Z` are read
-- as `a` to `z`.
use Rattle.std.specs.Prelude.{ℕ, Bool, List, map, nat_eq}
use Rattle.std.specs.Char.{to_ascii_lowercase}
use Rattle.std.specs.Cmp.Lexicographic.{pointwise}

-- the name with `A` to `Z` as `a` to `z`
abbrev pub lower_case : List ℕ → List ℕ
lower_case name = map to_ascii_lowercase name

-- whether two names are equal but for case
abbrev pub equal_caseless : List ℕ → List ℕ → Bool
equal_caseless a b = pointwise nat_eq (lower_case a) (lower_case b)
