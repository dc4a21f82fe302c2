-- The merge of two sides: which local entries get copy names, what is to stand at each path, what goes, and what is held.
use Rattle.std.specs.Prelude.{Bool, true, false, not, ◌&&◌, ◌||◌, cond, List, [], ◌∷◌, ◌++◌, length, drop, map, filter, is_some, is_none, Option, Some, None}
use Rattle.std.specs.List.{list_any, list_all, filter_map}
use Rattle.std.specs.Option.{option_map}
use Rattle.std.specs.Ordering.{is_lt}
use Rattle.std.specs.BTreeSet.{insert_key}
use Rattle.od_merge.specs.declared.content.Content.{Content}
use Rattle.od_merge.specs.declared.content.Content.TheVariants.{Folder, File}
use Rattle.od_merge.specs.declared.why.Why.{Why}
use Rattle.od_merge.specs.declared.why.Why.TheVariants.{BadName, PathTooLong, TooLarge, CaseClash, NoCopyName, Quota}
use Rattle.gd_names.specs.Causes.{first_cause}
use Rattle.gd_names.specs.Ordered.{path_cmp}
use Rattle.od_merge.specs.Sides.{Path, Tree, Sides, is_path, is_from, is_below, at, same, is_file, is_other_kind, is_kept, is_skipped, is_kept_there, paths_of}

-- CONFLICTS

-- whether a local entry is unlike the base
abbrev pub is_changed : Sides → Path → Bool
is_changed s path = not (same (at s.local path) (s.base path))

abbrev pub is_changed_or_skipped : Sides → Path → Bool
is_changed_or_skipped s path = is_changed s path || is_skipped s.passes s.local path

-- whether the user's entry at a path has to give way, by what stands there here and there
abbrev pub is_conflict_of : Sides → Path → Option Content → Option Content → Bool
is_conflict_of s path (Some (File here)) (Some (File there)) =
    s.passes path false && is_changed s path && not (same (Some (File here)) (Some (File there))) && not (same (Some (File there)) (s.base path))
is_conflict_of s path (Some (File here)) (Some Folder) = is_changed_or_skipped s path && is_kept_there s path
is_conflict_of s path (Some Folder) (Some (File there)) =
    is_kept_there s path && list_any (λ (entry : Path × Content). is_from path entry.0 && is_changed_or_skipped s entry.0) s.local
is_conflict_of s path (Some Folder) (Some Folder) = false
is_conflict_of s path (Some node) None = false
is_conflict_of s path None there = false

abbrev pub is_conflict : Sides → Path → Bool
is_conflict s path = is_conflict_of s path (at s.local path) (at s.remote path)

abbrev pub conflicts : Sides → List Path
conflicts s = filter (is_conflict s) (paths_of s.local)

-- each conflict beside the path that it gets, if one is left, among the paths that are taken
abbrev pub and_taken : Option Path → List Path → List Path
and_taken None taken = taken
and_taken (Some path) taken = taken ++ path ∷ []

abbrev pub copied : (List Path → Path → Option Path) → List Path → List Path → List (Path × Option Path)
copied copy taken [] = []
copied copy taken (path ∷ paths) = (path, copy taken path) ∷ copied copy (and_taken (copy taken path) taken) paths

abbrev pub copies : (List Path → Path → Option Path) → Sides → List (Path × Option Path)
copies copy s = copied copy (paths_of s.local ++ paths_of s.remote) (conflicts s)

abbrev pub renames : (List Path → Path → Option Path) → Sides → List (Path × Path)
renames copy s = filter_map (λ (c : Path × Option Path). option_map (λ to. (c.0, to)) c.1) (copies copy s)

abbrev pub without_copy : (List Path → Path → Option Path) → Sides → List Path
without_copy copy s = map (λ (c : Path × Option Path). c.0) (filter (λ (c : Path × Option Path). is_none c.1) (copies copy s))

-- where a path is after the renames, and the local tree after them
abbrev pub moved : List (Path × Path) → Path → Path
moved [] path = path
moved (rename ∷ renames) path = cond (is_from rename.0 path) (rename.1 ++ drop (length rename.0) path) (moved renames path)

abbrev pub renamed_tree : List (Path × Path) → Tree → Tree
renamed_tree renames tree = map (λ (entry : Path × Content). (moved renames entry.0, entry.1)) tree

-- TARGET

-- the sides after the renames; the base stays the one from before them
abbrev pub renamed : (List Path → Path → Option Path) → Sides → Sides
renamed copy s = record s { local = renamed_tree (renames copy s) s.local; left = without_copy copy s }

abbrev pub is_left : Sides → Path → Bool
is_left m path = list_any (λ top. is_from top path) m.left

-- the paths of both sides, in order
abbrev pub in_order_from : List Path → List Path → List Path
in_order_from put [] = put
in_order_from put (path ∷ paths) = in_order_from (insert_key path_cmp put path) paths

abbrev pub both_paths : Sides → List Path
both_paths m = paths_of m.local ++ paths_of m.remote

abbrev pub all_paths : Sides → List Path
all_paths m = in_order_from [] (both_paths m)

-- the first that fits
abbrev pub merged : Option Content → Option Content → Option Content → Option Content
merged base here there =
    cond (same here base) there (cond (same there base || same here there) here (cond (is_none here) there here))

-- what stands at a path on a side, where one that is skipped beside the other kind counts as absent
abbrev pub seen : Sides → Tree → Path → Option Content
seen m side path = cond (is_other_kind (at m.local path) (at m.remote path) && not (is_kept m.passes side path)) None (at side path)

-- what is to stand at a path for its own sake
abbrev pub wanted : Sides → Path → Option Content
wanted m path = cond ((is_kept m.passes m.local path || is_kept m.passes m.remote path) && not (is_left m path))
    (merged (m.base path) (seen m m.local path) (seen m m.remote path)) None

-- whether a folder passes and something in it is skipped
abbrev pub is_staying : Sides → Path → Bool
is_staying m path = m.passes path true && not (is_left m path)
    && (list_any (λ (entry : Path × Content). is_below path entry.0 && is_skipped m.passes m.local entry.0) m.local
    || list_any (λ (entry : Path × Content). is_below path entry.0 && is_skipped m.passes m.remote entry.0) m.remote)

-- whether there has to be a folder, for itself or for what stands below it
abbrev pub is_needed : Sides → Path → Bool
is_needed m path = list_any (λ other. is_below path other && is_some (wanted m other) || is_from path other && is_staying m other) (both_paths m)
    || list_any (λ top. is_below path top) m.left

abbrev pub target : Sides → Path → Option Content
target m path = cond (is_needed m path) (Some Folder) (wanted m path)

-- WHAT GOES

-- whether what a side has at a path is kept and is not to stand there, and whether that is so of all below it too
abbrev pub is_unwanted : Sides → Tree → Path → Bool
is_unwanted m side path = is_kept m.passes side path && not (is_left m path) && (is_none (target m path) || is_other_kind (at side path) (target m path))

abbrev pub is_going_node : Sides → Tree → Path → Option Content → Bool
is_going_node m side path None = false
is_going_node m side path (Some Folder) = list_all (λ (entry : Path × Content). not (is_from path entry.0) || is_unwanted m side entry.0) side
is_going_node m side path (Some (File digest)) = is_unwanted m side path

abbrev pub is_going : Sides → Tree → Path → Bool
is_going m side path = is_going_node m side path (at side path)

-- HELD

-- the tests of a path that do not look at the other paths, by their causes
pub record Limits : Type 0 where
  pub bad_name : Path → Bool
  pub too_long : Path → Bool
  pub too_large : Path → Bool
  pub quota : Path → Bool
  pub same_caseless : Path → Path → Bool

-- whether what is to stand at a path is what the local side alone has
abbrev pub is_local_alone : Sides → Path → Bool
is_local_alone m path = is_some (target m path) && not (same (target m path) (at m.remote path)) && not (is_other_kind (target m path) (at m.local path)) && is_some (at m.local path)

-- the paths from the first folder above down to the path itself
abbrev pub prefixes_from : Path → Path → List Path
prefixes_from above [] = []
prefixes_from above (name ∷ names) = (above ++ name ∷ []) ∷ prefixes_from (above ++ name ∷ []) names

abbrev pub prefixes : Path → List Path
prefixes path = prefixes_from [] path

-- whether another spelling of a path stays on the drive, or is a smaller path of the target
abbrev pub is_barred : Limits → Sides → Path → Bool
is_barred limits m path = list_any (λ other. limits.same_caseless other path && not (is_path other path)
    && (is_some (at m.remote other) && not (is_going m m.remote other) || is_some (target m other) && is_lt (path_cmp other path))) (all_paths m)

abbrev pub own_cause : Limits → Sides → Path → Option Why
own_cause limits m path = cond (is_local_alone m path) (first_cause (
    (limits.bad_name path, BadName) ∷ (limits.too_long path, PathTooLong)
    ∷ (is_file (target m path) && limits.too_large path, TooLarge)
    ∷ (list_any (is_barred limits m) (prefixes path), CaseClash) ∷ (limits.quota path, Quota) ∷ [])) None

-- the cause of the topmost that has one
abbrev pub first_held : Limits → Sides → List Path → Option Why
first_held limits m [] = None
first_held limits m (path ∷ paths) = cond (is_some (own_cause limits m path)) (own_cause limits m path) (first_held limits m paths)

abbrev pub why_held : Limits → Sides → Path → Option Why
why_held limits m path = cond (is_left m path)
    (cond (is_kept m.passes m.local path || list_any (is_path path) m.left) (Some NoCopyName) None)
    (cond (is_some (target m path)) (first_held limits m (prefixes path)) None)

abbrev pub held : Limits → Sides → List (Path × Why)
held limits m = filter_map (λ path. option_map (λ why. (path, why)) (why_held limits m path)) (all_paths m)
