-- What of a tree is kept under rules: the entries that pass, and the folders above them. All else is skipped.
use Rattle.std.specs.Prelude.{ℕ, Bool, ◌&&◌, ◌||◌, List, length, filter, is_none, nat_eq, nat_lt, Option}
use Rattle.std.specs.List.{list_any, starts_with}
use Rattle.std.specs.Cmp.Lexicographic.{pointwise}
use Rattle.od_synclist.specs.Rules.{passes}
use Rattle.od_synclist.specs.declared.rule.Rule.{Rule}

-- whether an entry passes: a path, with None for a folder and the bytes of a file
abbrev pub entry_passes : List Rule → List (List ℕ) × Option (List ℕ) → Bool
entry_passes rules entry = passes rules entry.0 (is_none entry.1)

-- whether a path is below another one
abbrev pub is_below : List (List ℕ) → List (List ℕ) → Bool
is_below top path = nat_lt (length top) (length path) && starts_with (pointwise nat_eq) path top

-- whether an entry of a tree is kept
abbrev pub is_kept : List Rule → List (List (List ℕ) × Option (List ℕ)) → List (List ℕ) × Option (List ℕ) → Bool
is_kept rules tree entry =
    entry_passes rules entry || is_none entry.1 && list_any (λ (other : List (List ℕ) × Option (List ℕ)). is_below entry.0 other.0 && entry_passes rules other) tree

-- the tree of what is kept
abbrev pub kept : List Rule → List (List (List ℕ) × Option (List ℕ)) → List (List (List ℕ) × Option (List ℕ))
kept rules tree = filter (is_kept rules tree) tree
