-- Texts that are cut at a byte.
use Rattle.std.specs.Prelude.{ℕ, cond, List, [], ◌∷◌, Option, Some, None, unwrap_or, nat_eq}

-- a byte before the first of two parts
abbrev pub before : ℕ → List ℕ × Option (List ℕ) → List ℕ × Option (List ℕ)
before b parts = (b ∷ parts.0, parts.1)

-- what stands before the first such byte, and what follows that, where there is one
unfoldable pub cut : ℕ → List ℕ → List ℕ × Option (List ℕ)
cut at [] = ([], None)
cut at (b ∷ text) = cond (nat_eq b at) ([], Some text) (before b (cut at text))

-- what stands before the first such byte
abbrev pub front : ℕ → List ℕ → List ℕ
front at text = (cut at text).0

-- what follows the first such byte; nothing where there is none
abbrev pub behind : ℕ → List ℕ → List ℕ
behind at text = unwrap_or (cut at text).1 []

-- a byte before the first of some parts
abbrev pub to_first : ℕ → List (List ℕ) → List (List ℕ)
to_first b [] = (b ∷ []) ∷ []
to_first b (part ∷ parts) = (b ∷ part) ∷ parts

-- the parts between such bytes
unfoldable pub parts : ℕ → List ℕ → List (List ℕ)
parts at [] = [] ∷ []
parts at (b ∷ text) = cond (nat_eq b at) ([] ∷ parts at text) (to_first b (parts at text))

abbrev pub parts_after : ℕ → Option (List ℕ) → List (List ℕ)
parts_after at None = []
parts_after at (Some text) = parts at text
