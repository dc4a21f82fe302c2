-- Matching up to an end, as the search in `matching` answers it: parts are matched with the first items, and a test
-- says of how many items are left whether that end serves.
use Rattle.std.specs.Prelude.{ℕ, Bool, false, ◌&&◌, if◌then◌else◌, List, [], ◌∷◌, length, nat_eq, nat_lt}
use Rattle.std.specs.List.{list_any}

-- the items, and what is left of them after the first, the second and so on
abbrev pub tails : {X : Type 0} → List X → List (List X)
tails [] = [] ∷ []
tails (x ∷ xs) = (x ∷ xs) ∷ tails xs

-- the part takes the first item, and the test holds of the others
abbrev pub takes_first : {P N : Type 0} → (P → N → Bool) → P → (List N → Bool) → List N → Bool
takes_first takes part test [] = false
takes_first takes part test (item ∷ items) = takes part item && test items

abbrev pub reaches : {P N : Type 0} → (P → Bool) → (P → N → Bool) → (ℕ → Bool) → List P → List N → Bool
reaches is_run takes serves [] items = serves (length items)
reaches is_run takes serves (part ∷ parts) items =
    if is_run part
    then list_any (reaches is_run takes serves parts) (tails items)
    else takes_first takes part (reaches is_run takes serves parts) items

-- an end serves where all items are matched, if they may be, or where fewer are left than this
abbrev pub is_end : Bool → ℕ → ℕ → Bool
is_end whole fewer left = if nat_eq left 0 then whole else nat_lt left fewer
