-- The path of a conflict copy: beside the entry, under the least copy name that no name of that folder has.
use Rattle.std.specs.Prelude.{ℕ, zero, suc, Bool, cond, List, [], ◌∷◌, ◌++◌, length, map, filter, is_none, nat_eq, nat_lt, Option, Some, None}
use Rattle.std.specs.List.{filter_map}
use Rattle.std.specs.Option.{option_map}
use Rattle.std.specs.Cmp.Lexicographic.{pointwise}
use Rattle.gd_names.specs.Copies.{copy_of, is_among}
use Rattle.od_merge.specs.Merging.{moved}
use Rattle.od_merge.specs.Pairs.{folder_of}
use Rattle.od_merge.specs.Sides.{Path, Tree, at, is_folder}
use Rattle.od_reconcile.specs.declared.types.Node.{Node}

-- the last name of a path
abbrev pub name_of : Path → List ℕ
name_of [] = []
name_of (name ∷ []) = name
name_of (name ∷ (next ∷ names)) = name_of (next ∷ names)

-- the name that a path has in a folder, if it is right in it
abbrev pub name_in : Path → Path → Option (List ℕ)
name_in [] [] = None
name_in [] (name ∷ []) = Some name
name_in [] (name ∷ (next ∷ names)) = None
name_in (top ∷ folder) [] = None
name_in (top ∷ folder) (name ∷ names) = cond (pointwise nat_eq top name) (name_in folder names) None

abbrev pub names_in : Path → List Path → List (List ℕ)
names_in folder paths = filter_map (name_in folder) paths

-- the first copy, over so many numbers from one on, that is none of the names
unfoldable pub copy_from : ℕ → ℕ → List ℕ → Bool → List ℕ → List (List ℕ) → Option (List ℕ)
copy_from zero number name folder host names = None
copy_from (suc more) number name folder host names =
    cond (is_among names (copy_of name folder host number)) (copy_from more (suc number) name folder host names) (Some (copy_of name folder host number))

-- the copy's name, unless copies of that name are too long
abbrev pub copy_among : List ℕ → Bool → List ℕ → List (List ℕ) → Option (List ℕ)
copy_among name folder host names = cond (nat_lt 255 (length (copy_of name folder host 1))) None (copy_from 9999 1 name folder host names)

abbrev pub copy_beside : List ℕ → Bool → List Path → Path → Option Path
copy_beside host folder taken [] = None
copy_beside host folder taken (top ∷ path) =
    option_map (λ copy. folder_of (top ∷ path) ++ copy ∷ []) (copy_among (name_of (top ∷ path)) folder host (names_in (folder_of (top ∷ path)) taken))

-- the path of a local entry's copy
abbrev pub copy_path : List ℕ → Tree → List Path → Path → Option Path
copy_path host tree taken path = copy_beside host (is_folder (at tree path)) taken path

-- of conflicts beside the paths that they get: those that move, and those that do not
abbrev pub moves_of : List (Path × Option Path) → List (Path × Path)
moves_of those = filter_map (λ (c : Path × Option Path). option_map (λ to. (c.0, to)) c.1) those

abbrev pub left_of : List (Path × Option Path) → List Path
left_of those = map (λ (c : Path × Option Path). c.0) (filter (λ (c : Path × Option Path). is_none c.1) those)

-- the local entries after the renames
abbrev pub renamed_entries : List (Path × Path) → List (Path × Node) → List (Path × Node)
renamed_entries renames local = map (λ (entry : Path × Node). (moved renames entry.0, entry.1)) local
