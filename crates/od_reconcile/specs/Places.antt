-- Which rename a path moves with: the first whose source is the path or above it.
use Rattle.std.specs.Prelude.{ℕ, suc, ◌≡◌, ◌++◌, min, cond, List, [], ◌∷◌, length, drop, slice_get, Option, Some, None}
use Rattle.std.specs.Option.{option_map}
use Rattle.od_merge.specs.Sides.{Path, is_from, is_path}
use Rattle.od_reconcile.specs.Above.{fronts_from}
use Rattle.od_reconcile.specs.Holding.{stands_at}

abbrev pub Renames : Type 0
Renames = List (Path × Path)

-- the place of the first rename of a path itself
abbrev pub place_of : Renames → Path → Option ℕ
place_of [] path = None
place_of (rename ∷ renames) path = cond (is_path rename.0 path) (Some 0) (option_map (λ place. suc place) (place_of renames path))

-- an index has these places
abbrev pub HasPlaces : Renames → List (Path × ℕ) → Type 0
HasPlaces renames index = (path : Path) → stands_at index path ≡ place_of renames path

-- the first of two places, and of those of many paths
abbrev pub earlier : Option ℕ → Option ℕ → Option ℕ
earlier None other = other
earlier (Some place) None = Some place
earlier (Some place) (Some other) = Some (min place other)

abbrev pub first_place : (Path → Option ℕ) → List Path → Option ℕ
first_place places [] = None
first_place places (path ∷ paths) = earlier (places path) (first_place places paths)

-- a path and those above it, the root first
abbrev pub tops : Path → List Path
tops path = fronts_from [] path ++ path ∷ []

-- where a path is after a rename, if there is one for it
abbrev pub rename_at : Renames → Option ℕ → Option (Path × Path)
rename_at renames None = None
rename_at renames (Some place) = slice_get renames place

abbrev pub moved_by : Option (Path × Path) → Path → Path
moved_by None path = path
moved_by (Some rename) path = cond (is_from rename.0 path) (rename.1 ++ drop (length rename.0) path) path
