-- A text cut in two at its first dot.
use Rattle.std.specs.Prelude.{ℕ, cond, List, [], ◌∷◌, ◌++◌, nat_eq, Option, Some, None}

-- what stands before the first dot, after what was read already, and what stands behind it
abbrev pub cut_from : List ℕ → List ℕ → Option (List ℕ × List ℕ)
cut_from current [] = None
cut_from current (b ∷ text) = cond (nat_eq b 46) (Some (current, text)) (cut_from (current ++ b ∷ []) text)

abbrev pub cut : List ℕ → Option (List ℕ × List ℕ)
cut text = cut_from [] text
