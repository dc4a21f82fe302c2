-- What a plan's lists keep, for any trees.
use Rattle.std.specs.Prelude.{◌≡◌, Bool, true, false, not, ◌&&◌, is_none, is_some, ◌⊎◌, List, [], ◌∷◌, Option, Some, None, All}
use Rattle.std.specs.List.{filter_map}
use Rattle.od_merge.specs.declared.content.Content.TheVariants.{Folder}
use Rattle.od_merge.specs.Merging.{Limits, is_left, why_held}
use Rattle.od_merge.specs.Pairs.{drive_pairs, local_pairs}
use Rattle.od_merge.specs.Sides.{Path, Sides, at, is_kept_there, same}
use Rattle.od_merge.specs.Steps.{stands}
use Rattle.od_reconcile.specs.Doing.{CanDo, done_down, done_up, known_file, steps_down, steps_up}
use Rattle.od_reconcile.specs.declared.types.Down.{Down}
use Rattle.od_reconcile.specs.declared.types.Down.TheVariants as down
use Rattle.od_reconcile.specs.declared.types.Plan.{Plan}
use Rattle.od_reconcile.specs.declared.types.Up.{Up}
use Rattle.od_reconcile.specs.declared.types.Up.TheVariants as up

-- DOING IT

-- whether the merge decides what stands at a path: something is kept there, and no conflict is left at it or above
abbrev pub is_merged : Sides → Path → Bool
is_merged m path = is_kept_there m path && not (is_left m path)

-- Doing a plan makes both sides the target where the merge decides, on the drive where nothing is held; all else stays as the renames left it.
pub record Merges (limits : Limits) (m : Sides) (plan : Plan) : Type 0 where
  pub here : (path : Path) → is_merged m path ≡ true → done_down plan.down (at m.local) path ≡ stands m m.local path
  pub there : (path : Path) → is_merged m path ≡ true → is_some (why_held limits m path) ≡ false
      → done_up (done_down plan.down (at m.local)) plan.up (at m.remote) path ≡ stands m m.remote path
  pub else_here : (path : Path) → is_merged m path ≡ false → done_down plan.down (at m.local) path ≡ at m.local path
  pub else_there : (path : Path) → (is_merged m path && is_none (why_held limits m path)) ≡ false
      → done_up (done_down plan.down (at m.local)) plan.up (at m.remote) path ≡ at m.remote path

-- EACH STEP

-- a file of the folder that goes, is replaced or moves is what was agreed on
abbrev pub IsAgreedHere : Sides → Down → Type 0
IsAgreedHere m (down.RemoveFile path digest) = (at m.local path ≡ known_file digest) × (m.base path ≡ known_file digest)
IsAgreedHere m (down.RemoveFolder path) = (at m.local path ≡ Some Folder) × (m.base path ≡ Some Folder)
IsAgreedHere m (down.MakeFolder path) = Unit {0}
IsAgreedHere m (down.Fetch path id digest size None) = (at m.local path ≡ None) ⊎ (at m.local path ≡ Some Folder)
IsAgreedHere m (down.Fetch path id digest size (Some over)) = (at m.local path ≡ known_file over) × (m.base path ≡ known_file over)
IsAgreedHere m (down.Move from to digest) = (at m.local from ≡ known_file digest) × (m.base from ≡ known_file digest)

-- what is carried to a path is unlike there on both sides
abbrev pub IsUnlikeHere : Sides → Down → Type 0
IsUnlikeHere m (down.RemoveFile path digest) = Unit {0}
IsUnlikeHere m (down.RemoveFolder path) = Unit {0}
IsUnlikeHere m (down.MakeFolder path) = Unit {0}
IsUnlikeHere m (down.Fetch path id digest size over) = same (at m.local path) (at m.remote path) ≡ false
IsUnlikeHere m (down.Move from to digest) = same (at m.local to) (at m.remote to) ≡ false

abbrev pub IsUnlikeThere : Sides → Up → Type 0
IsUnlikeThere m (up.Remove path id etag) = Unit {0}
IsUnlikeThere m (up.MakeFolder path) = Unit {0}
IsUnlikeThere m (up.Move from to id etag) = same (at m.local to) (at m.remote to) ≡ false
IsUnlikeThere m (up.Send path over) = same (at m.local path) (at m.remote path) ≡ false

-- the paths at which a step does something
abbrev pub paths_here : Down → List Path
paths_here (down.RemoveFile path digest) = path ∷ []
paths_here (down.RemoveFolder path) = path ∷ []
paths_here (down.MakeFolder path) = path ∷ []
paths_here (down.Fetch path id digest size over) = path ∷ []
paths_here (down.Move from to digest) = from ∷ (to ∷ [])

abbrev pub paths_there : Up → List Path
paths_there (up.Remove path id etag) = path ∷ []
paths_there (up.MakeFolder path) = path ∷ []
paths_there (up.Move from to id etag) = from ∷ (to ∷ [])
paths_there (up.Send path over) = path ∷ []

-- no step is at or below a conflict that is left, and none on the drive at what is held
abbrev pub IsFreeHere : Sides → Down → Type 0
IsFreeHere m step = All (λ path. is_left m path ≡ false) (paths_here step)

abbrev pub IsFreeThere : Limits → Sides → Up → Type 0
IsFreeThere limits m step = All (λ path. (is_left m path ≡ false) × (why_held limits m path ≡ None)) (paths_there step)

abbrev pub pair_here : Down → Option (Path × Path)
pair_here (down.RemoveFile path digest) = None
pair_here (down.RemoveFolder path) = None
pair_here (down.MakeFolder path) = None
pair_here (down.Fetch path id digest size over) = None
pair_here (down.Move from to digest) = Some (from, to)

abbrev pub pair_there : Up → Option (Path × Path)
pair_there (up.Remove path id etag) = None
pair_there (up.MakeFolder path) = None
pair_there (up.Move from to id etag) = Some (from, to)
pair_there (up.Send path over) = None

-- what each step of a plan is about, and which of them are moves
pub record IsCareful (limits : Limits) (m : Sides) (plan : Plan) : Type 0 where
  pub agreed : All (IsAgreedHere m) plan.down
  pub unlike_here : All (IsUnlikeHere m) plan.down
  pub unlike_there : All (IsUnlikeThere m) plan.up
  pub free_here : All (IsFreeHere m) plan.down
  pub free_there : All (IsFreeThere limits m) plan.up
  pub moves_here : filter_map pair_here plan.down ≡ local_pairs m
  pub moves_there : filter_map pair_there plan.up ≡ drive_pairs limits m

-- each step can be done at its turn
pub record IsInOrder (m : Sides) (plan : Plan) : Type 0 where
  pub here : CanDo (steps_down plan.down) (at m.local)
  pub there : CanDo (steps_up (done_down plan.down (at m.local)) (at m.remote) plan.up) (at m.remote)

-- what a plan keeps where the folder and the drive are trees
pub record Keeps (limits : Limits) (m : Sides) (plan : Plan) : Type 0 where
  pub merges : Merges limits m plan
  pub careful : IsCareful limits m plan
  pub in_order : IsInOrder m plan

-- a plan with nothing to do
pub record IsEmpty (plan : Plan) : Type 0 where
  pub renames : plan.renames ≡ []
  pub down : plan.down ≡ []
  pub up : plan.up ≡ []
  pub held : plan.held ≡ []
