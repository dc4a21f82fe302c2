-- Parts are matched with items: of a component its bytes with those of a name, and of a rule its components with
-- the names of a path. A part that is a run matches zero or more items, and any other takes one.
use Rattle.std.specs.Prelude.{ℕ, Bool, true, false, ◌&&◌, ◌||◌, if◌then◌else◌, List, [], ◌∷◌, codes, nat_eq}
use Rattle.std.specs.Cmp.Lexicographic.{pointwise}

-- Both are empty. Or the first part is a run, and either the other parts match the items, or the same parts match
-- the items without the first. Or the first part takes the first item, and the others match the others.
abbrev pub matches : {P N : Type 0} → (P → Bool) → (P → N → Bool) → List P → List N → Bool
matches is_run takes [] [] = true
matches is_run takes [] (item ∷ items) = false
matches is_run takes (part ∷ parts) [] = is_run part && matches is_run takes parts []
matches is_run takes (part ∷ parts) (item ∷ items) =
    if is_run part
    then matches is_run takes parts (item ∷ items) || matches is_run takes (part ∷ parts) items
    else takes part item && matches is_run takes parts items

-- `*`
abbrev pub is_star : ℕ → Bool
is_star b = nat_eq b 42

-- whether a component matches a name
abbrev pub matches_name : List ℕ → List ℕ → Bool
matches_name component name = matches is_star nat_eq component name

-- `**`
abbrev pub is_any_path : List ℕ → Bool
is_any_path component = pointwise nat_eq component (codes "**")

-- whether components match the names of a path
abbrev pub matches_path : List (List ℕ) → List (List ℕ) → Bool
matches_path components names = matches is_any_path matches_name components names
