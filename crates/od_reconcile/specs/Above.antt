-- Sets of folders above paths, by which it is asked whether something stands below a path.
use Rattle.std.specs.Prelude.{List, [], ◌∷◌, ◌++◌, Option, Some, None}
use Rattle.od_merge.specs.Sides.{Path}
use Rattle.od_merge.specs.Merging.{in_order_from}

-- the paths of the folders above a path, the root first; those of all paths of a list
abbrev pub fronts_from : Path → Path → List Path
fronts_from above [] = []
fronts_from above (name ∷ names) = above ∷ fronts_from (above ++ name ∷ []) names

abbrev pub fronts : List Path → List Path
fronts [] = []
fronts (path ∷ paths) = fronts_from [] path ++ fronts paths

-- keys with the folders above all paths of a list
abbrev pub with_fronts : List Path → List Path → List Path
with_fronts keys [] = keys
with_fronts keys (path ∷ paths) = with_fronts (in_order_from keys (fronts_from [] path)) paths

-- the first of two that is there
abbrev pub or_else : {X : Type 0} → Option X → Option X → Option X
or_else None other = other
or_else (Some x) other = Some x
