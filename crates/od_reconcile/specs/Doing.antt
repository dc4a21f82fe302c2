-- What doing a plan makes of both sides: maps from paths to what stands there, and the steps that the plan's lists say, in their order.
use Rattle.std.specs.Prelude.{◌≡◌, true, false, cond, length, nat_lt, is_some, List, [], ◌∷◌, ◌++◌, map, Option, Some, None}
use Rattle.std.specs.List.{filter_map}
use Rattle.gd_item.specs.declared.digest.Digest.{Digest}
use Rattle.od_merge.specs.declared.content.Content.{Content}
use Rattle.od_merge.specs.declared.content.Content.TheVariants.{Folder, File}
use Rattle.od_merge.specs.Sides.{Path, is_below, is_folder, is_path}
use Rattle.od_merge.specs.Steps.{deepest_first, done}
use Rattle.od_reconcile.specs.declared.types.Down.{Down}
use Rattle.od_reconcile.specs.declared.types.Down.TheVariants as down
use Rattle.od_reconcile.specs.declared.types.Up.{Up}
use Rattle.od_reconcile.specs.declared.types.Up.TheVariants as up

-- what stands at each path of a side
abbrev pub Standing : Type 0
Standing = Path → Option Content

-- a step leaves something, or nothing, at a path
abbrev pub Step : Type 0
Step = Path × Option Content

abbrev pub known_file : Digest → Option Content
known_file digest = Some (File (Some digest))

-- IN THE FOLDER

abbrev pub gone_here : Down → Option Path
gone_here (down.RemoveFile path digest) = Some path
gone_here (down.RemoveFolder path) = Some path
gone_here (down.MakeFolder path) = None
gone_here (down.Fetch path id digest size over) = None
gone_here (down.Move from to digest) = Some from

abbrev pub made_here : Down → Option Path
made_here (down.RemoveFile path digest) = None
made_here (down.RemoveFolder path) = None
made_here (down.MakeFolder path) = Some path
made_here (down.Fetch path id digest size over) = None
made_here (down.Move from to digest) = None

abbrev pub come_here : Down → Option Step
come_here (down.RemoveFile path digest) = None
come_here (down.RemoveFolder path) = None
come_here (down.MakeFolder path) = None
come_here (down.Fetch path id digest size over) = Some (path, known_file digest)
come_here (down.Move from to digest) = Some (to, known_file digest)

-- what goes and the sources of moves, the deepest first; then folders; then what comes and the ends of moves
abbrev pub steps_down : List Down → List Step
steps_down downs = map (λ path. (path, None)) (deepest_first (filter_map gone_here downs))
    ++ (map (λ path. (path, Some Folder)) (filter_map made_here downs) ++ filter_map come_here downs)

abbrev pub done_down : List Down → Standing → Standing
done_down downs there path = done (steps_down downs) path (there path)

-- ON THE DRIVE

-- what a step leaves, given what the folder has then, and what the drive had at first
abbrev pub step_up : Standing → Standing → Up → List Step
step_up here there (up.Remove path id etag) = (path, None) ∷ []
step_up here there (up.MakeFolder path) = (path, Some Folder) ∷ []
step_up here there (up.Move from to id etag) = (from, None) ∷ ((to, there from) ∷ [])
step_up here there (up.Send path over) = (path, here path) ∷ []

abbrev pub steps_up : Standing → Standing → List Up → List Step
steps_up here there [] = []
steps_up here there (step ∷ ups) = step_up here there step ++ steps_up here there ups

abbrev pub done_up : Standing → List Up → Standing → Standing
done_up here ups there path = done (steps_up here there ups) path (there path)

-- EACH STEP AT ITS TURN

-- whether all folders above a path stand
abbrev pub HasFolders : Standing → Path → Type 0
HasFolders there path = (top : Path) → nat_lt 0 (length top) ≡ true → is_below top path ≡ true → is_folder (there top) ≡ true

-- What goes stands there and has nothing in it; a folder comes where nothing stands; a file comes where no folder stands. What comes
-- has its folders.
abbrev pub CanStep : Standing → Path → Option Content → Type 0
CanStep there path None = (is_some (there path) ≡ true) × ((other : Path) → is_below path other ≡ true → is_some (there other) ≡ false)
CanStep there path (Some Folder) = (is_some (there path) ≡ false) × HasFolders there path
CanStep there path (Some (File digest)) = (is_folder (there path) ≡ false) × HasFolders there path

abbrev pub after : Standing → Step → Standing
after there step path = cond (is_path path step.0) step.1 (there path)

-- each step can be done when those before it are done
abbrev pub CanDo : List Step → Standing → Type 0
CanDo [] there = Unit {0}
CanDo (step ∷ steps) there = CanStep there step.0 step.1 × CanDo steps (after there step)
