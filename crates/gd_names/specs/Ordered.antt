-- Entries at paths, in order of path. Paths are ordered by their lists of names, and names by their bytes.
use Rattle.std.specs.Prelude.{ℕ, List, [], ◌∷◌}
use Rattle.std.specs.declared.cmp.Ordering.{Ordering}
use Rattle.std.specs.Ordering.{nat_cmp}
use Rattle.std.specs.Cmp.Lexicographic.{slice_cmp}
use Rattle.std.specs.BTreeMap.{insert_entry}

-- the order of two paths
abbrev pub path_cmp : List (List ℕ) → List (List ℕ) → Ordering
path_cmp a b = slice_cmp (slice_cmp nat_cmp) a b

-- entries in order of path, those of the second list put among those of the first
abbrev pub in_order_from : {X : Type 0} → List (List (List ℕ) × X) → List (List (List ℕ) × X) → List (List (List ℕ) × X)
in_order_from placed [] = placed
in_order_from placed (entry ∷ entries) = in_order_from (insert_entry path_cmp placed entry.0 entry.1) entries

-- the entries in order of path
abbrev pub in_order : {X : Type 0} → List (List (List ℕ) × X) → List (List (List ℕ) × X)
in_order entries = in_order_from [] entries
