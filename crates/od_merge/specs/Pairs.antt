-- The moves: what comes to a path and what goes from another one with the same bytes, found in order of path.
use Rattle.std.specs.Prelude.{Bool, not, ◌&&◌, ◌||◌, List, [], ◌∷◌, ◌++◌, filter, find, is_none, Option, Some, None}
use Rattle.std.specs.List.{list_any}
use Rattle.od_merge.specs.Sides.{Path, Sides, is_path, at, same, is_file}
use Rattle.od_merge.specs.Merging.{Limits, all_paths, is_going, target, why_held}
use Rattle.od_merge.specs.Steps.{is_fetched, is_sent, needs_folder}

abbrev pub folder_of : Path → Path
folder_of [] = []
folder_of (name ∷ []) = []
folder_of (name ∷ (next ∷ path)) = name ∷ folder_of (next ∷ path)

-- the first source that fits and that no pair has
abbrev pub source_for : (Path → Path → Bool) → List Path → List (Path × Path) → Path → Option Path
source_for fits sources pairs to = find (λ from. fits from to && not (list_any (λ (pair : Path × Path). is_path from pair.0) pairs)) sources

abbrev pub and_pair : Option Path → Path → List (Path × Path) → List (Path × Path)
and_pair None to pairs = pairs
and_pair (Some from) to pairs = pairs ++ (from, to) ∷ []

abbrev pub pairs_from : (Path → Path → Bool) → List Path → List (Path × Path) → List Path → List (Path × Path)
pairs_from fits sources pairs [] = pairs
pairs_from fits sources pairs (to ∷ rest) = pairs_from fits sources (and_pair (source_for fits sources pairs to) to pairs) rest

abbrev pub local_pairs : Sides → List (Path × Path)
local_pairs s = pairs_from (λ from to. same (at s.local from) (target s to))
    (filter (λ path. is_going s s.local path && is_file (at s.local path)) (all_paths s)) []
    (filter (λ path. is_fetched s path && not (is_file (at s.local path))) (all_paths s))

abbrev pub is_sent_now : Limits → Sides → Path → Bool
is_sent_now limits s path = is_sent s path && is_none (why_held limits s path)

-- whether the drive gets something at a path whose name stands in the way of another one's
abbrev pub comes_there : Limits → Sides → Path → Bool
comes_there limits s path = is_sent_now limits s path || needs_folder s s.remote path && is_none (why_held limits s path)

abbrev pub may_move : Limits → Sides → Path → Path → Bool
may_move limits s from to = same (s.base from) (target s to) && not (is_going s s.remote (folder_of from))
    && not (list_any (λ other. not (is_path other to) && limits.same_caseless other from && comes_there limits s other) (all_paths s))

abbrev pub drive_pairs : Limits → Sides → List (Path × Path)
drive_pairs limits s = pairs_from (may_move limits s)
    (filter (λ path. is_going s s.remote path && is_file (at s.remote path)) (all_paths s)) []
    (filter (λ path. is_sent_now limits s path && not (is_file (at s.remote path)) && same (target s path) (target s path)) (all_paths s))
