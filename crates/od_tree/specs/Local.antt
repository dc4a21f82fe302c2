-- What stands in a local folder and in its holding folder is read off a log of user edits and of operations of the
-- client. Each file has the user's write from which it stems, which it keeps wherever it is carried.
use Rattle.std.specs.Prelude.{ℕ, ◌+◌, ◌-◌, ◌^◌, Bool, true, false, not, ◌&&◌, ◌||◌, cond, List, [], ◌∷◌, ◌++◌, length, map, filter, drop, find, is_some, is_none, nat_eq, max, Option, Some, None}
use Rattle.std.specs.List.{list_any, starts_with}
use Rattle.std.specs.Option.{option_map}
use Rattle.std.specs.Cmp.Lexicographic.{pointwise}
use Rattle.gd_item.specs.Places.{names_above}
use Rattle.gd_names.specs.Causes.{first_cause}
use Rattle.gd_names.specs.Ordered.{in_order}
use Rattle.od_tree.specs.declared.edit.UserEdit.{UserEdit}
use Rattle.od_tree.specs.declared.edit.UserEdit.TheVariants.{Write, Remove, Move, MakeFolder}
use Rattle.od_tree.specs.declared.fault.TreeFault.{TreeFault}
use Rattle.od_tree.specs.declared.fault.TreeFault.TheVariants.{Taken, Missing, NotEmpty}
use Rattle.od_tree.specs.declared.local.HeldFile.{HeldFile}
use Rattle.od_tree.specs.declared.local.LocalFile.{LocalFile}
use Rattle.od_tree.specs.declared.local.Spot.{Spot}
use Rattle.od_tree.specs.declared.step.LocalStep.{LocalStep}
use Rattle.od_tree.specs.declared.step.LocalStep.TheVariants.{User, Op}
use Rattle.od_tree.specs.declared.step.TreeOp.{TreeOp}
use Rattle.od_tree.specs.declared.step.TreeOp.TheVariants as op

-- the entries, and the held files in order of number
pub record Local : Type 0 where
  pub spots : List Spot
  pub held : List HeldFile

abbrev pub empty_folder : Local
empty_folder = record { spots = []; held = [] }

-- whether two paths are one, and whether a path is that of the top or one below it
abbrev pub is_path : List (List ℕ) → List (List ℕ) → Bool
is_path a b = pointwise (pointwise nat_eq) a b

abbrev pub is_from : List (List ℕ) → List (List ℕ) → Bool
is_from top path = starts_with (pointwise nat_eq) path top

-- the entry at a path
abbrev pub spot_at : List (List ℕ) → List Spot → Option Spot
spot_at path spots = find (λ spot. is_path spot.path path) spots

-- whether an entry may be there and is a folder, or a file
abbrev pub is_folder_spot : Option Spot → Bool
is_folder_spot None = false
is_folder_spot (Some spot) = is_none spot.file

abbrev pub file_in : Option Spot → Option LocalFile
file_in None = None
file_in (Some spot) = spot.file

abbrev pub file_at : List (List ℕ) → List Spot → Option LocalFile
file_at path spots = file_in (spot_at path spots)

-- whether the root or a folder stands at a path, and whether a path has a folder above its last name
abbrev pub is_folder_at : List (List ℕ) → List Spot → Bool
is_folder_at [] spots = true
is_folder_at (name ∷ path) spots = is_folder_spot (spot_at (name ∷ path) spots)

abbrev pub has_parent : List (List ℕ) → List Spot → Bool
has_parent path spots = is_folder_at (names_above path) spots

-- whether the root or an entry stands at a path
abbrev pub is_taken_at : List (List ℕ) → List Spot → Bool
is_taken_at path spots = is_path [] path || is_some (spot_at path spots)

-- the held file of a number, and the greatest number held
abbrev pub held_at : ℕ → List HeldFile → Option HeldFile
held_at number held = find (λ file. nat_eq file.number number) held

abbrev pub greatest_number : List HeldFile → ℕ
greatest_number [] = 0
greatest_number (file ∷ held) = max file.number (greatest_number held)

-- the entries with one more, without the first at a path, and without all from a path on
abbrev pub with_spot : List (List ℕ) → Option LocalFile → List Spot → List Spot
with_spot path file spots = spots ++ record { path = path; file = file } ∷ []

abbrev pub without_spot : List (List ℕ) → List Spot → List Spot
without_spot path [] = []
without_spot path (spot ∷ spots) = cond (is_path spot.path path) spots (spot ∷ without_spot path spots)

abbrev pub without_from : List (List ℕ) → List Spot → List Spot
without_from top spots = filter (λ spot. not (is_from top spot.path)) spots

-- the entries of which those from a path on stand at another one
abbrev pub moved_path : List (List ℕ) → List (List ℕ) → List (List ℕ) → List (List ℕ)
moved_path from to path = cond (is_from from path) (to ++ drop (length from) path) path

abbrev pub moved_from : List (List ℕ) → List (List ℕ) → List Spot → List Spot
moved_from from to spots = map (λ (spot : Spot). record spot { path = moved_path from to spot.path }) spots

-- the held files without the first of a number
abbrev pub without_held : ℕ → List HeldFile → List HeldFile
without_held number [] = []
without_held number (file ∷ held) = cond (nat_eq file.number number) held (file ∷ without_held number held)

-- whether a user's edit has a place
abbrev pub may_move : List (List ℕ) → List (List ℕ) → List Spot → Bool
may_move from to spots =
    is_taken_at from spots && has_parent to spots && not (is_from from to) && not (is_path [] to)
    && (not (is_taken_at to spots) || is_some (file_at from spots) && is_some (file_at to spots))

abbrev pub has_place : Local → UserEdit → Bool
has_place local (Write at bytes) = not (is_path [] at) && has_parent at local.spots && not (is_folder_at at local.spots)
has_place local (Remove at) = not (is_path [] at) && is_taken_at at local.spots
has_place local (Move from to) = may_move from to local.spots
has_place local (MakeFolder at) = not (is_path [] at) && has_parent at local.spots && not (is_taken_at at local.spots)

-- the folder after a user's edit that has a place and is this step of the log
abbrev pub after_placed_edit : ℕ → Local → UserEdit → Local
after_placed_edit step local (Write at bytes) =
    record local { spots = with_spot at (Some (record { bytes = bytes; origin = Some step })) (without_spot at local.spots) }
after_placed_edit step local (Remove at) = record local { spots = without_from at local.spots }
after_placed_edit step local (Move from to) = record local { spots = moved_from from to (without_spot to local.spots) }
after_placed_edit step local (MakeFolder at) = record local { spots = with_spot at None local.spots }

abbrev pub after_edit : ℕ → Local → UserEdit → Local
after_edit step local edit = cond (has_place local edit) (after_placed_edit step local edit) local

-- why an operation is refused: the first that holds
abbrev pub op_refusal : Local → TreeOp → Option TreeFault
op_refusal local (op.List at) = first_cause ((not (is_folder_at at local.spots), Missing) ∷ [])
op_refusal local (op.Read at) = first_cause ((is_none (file_at at local.spots), Missing) ∷ [])
op_refusal local (op.MakeDir at) = first_cause ((is_taken_at at local.spots, Taken) ∷ (not (has_parent at local.spots), Missing) ∷ [])
op_refusal local (op.RemoveDir at) =
    first_cause (
    (not (is_folder_spot (spot_at at local.spots)), Missing)
    ∷ (list_any (λ spot. is_from at spot.path && not (is_path at spot.path)) local.spots, NotEmpty)
    ∷ [])
op_refusal local (op.Place at bytes) = first_cause ((is_taken_at at local.spots, Taken) ∷ (not (has_parent at local.spots), Missing) ∷ [])
op_refusal local (op.Rename from to) =
    first_cause (
    (not (is_taken_at from local.spots) || not (has_parent to local.spots) || is_from from (names_above to), Missing)
    ∷ (is_taken_at to local.spots, Taken)
    ∷ [])
op_refusal local (op.SetAside at) = first_cause ((is_none (file_at at local.spots), Missing) ∷ [])
op_refusal local (op.ReadAside aside) = first_cause ((is_none (held_at aside local.held), Missing) ∷ [])
op_refusal local (op.PutBack aside to) =
    first_cause (
    (is_none (held_at aside local.held) || not (has_parent to local.spots), Missing)
    ∷ (is_taken_at to local.spots, Taken)
    ∷ [])
op_refusal local (op.Discard aside) = first_cause ((is_none (held_at aside local.held), Missing) ∷ [])
op_refusal local op.Asides = None

-- the folder with a file in holding, unless no number is left, and with a held file at a path
abbrev pub set_aside : List (List ℕ) → Local → Option LocalFile → Local
set_aside at local None = local
set_aside at local (Some file) =
    cond (nat_eq (greatest_number local.held) (2 ^ 64 - 1)) local
    (record {
      spots = without_spot at local.spots;
      held = local.held ++ record { number = greatest_number local.held + 1; from = at; file = file } ∷ [];
    })

abbrev pub put_back : List (List ℕ) → Local → Option HeldFile → Local
put_back to local None = local
put_back to local (Some held) = record {
  spots = with_spot to (Some held.file) local.spots;
  held = without_held held.number local.held;
}

-- the folder after an operation that is not refused
abbrev pub after_done_op : Local → TreeOp → Local
after_done_op local (op.List at) = local
after_done_op local (op.Read at) = local
after_done_op local (op.MakeDir at) = record local { spots = with_spot at None local.spots }
after_done_op local (op.RemoveDir at) = record local { spots = without_spot at local.spots }
after_done_op local (op.Place at bytes) = record local { spots = with_spot at (Some (record { bytes = bytes; origin = None })) local.spots }
after_done_op local (op.Rename from to) = record local { spots = moved_from from to local.spots }
after_done_op local (op.SetAside at) = set_aside at local (file_at at local.spots)
after_done_op local (op.ReadAside aside) = local
after_done_op local (op.PutBack aside to) = put_back to local (held_at aside local.held)
after_done_op local (op.Discard aside) = record local { held = without_held aside local.held }
after_done_op local op.Asides = local

abbrev pub after_op : Local → TreeOp → Local
after_op local call = cond (is_none (op_refusal local call)) (after_done_op local call) local

-- the folder after a step, whose place in the log is counted from 0
abbrev pub after_step : ℕ → Local → LocalStep → Local
after_step step local (User edit) = after_edit step local edit
after_step step local (Op call) = after_op local call

abbrev pub after_steps : ℕ → Local → List LocalStep → Local
after_steps step local [] = local
after_steps step local (first ∷ steps) = after_steps (step + 1) (after_step step local first) steps

-- the folder whose log this is
abbrev pub local_of : List LocalStep → Local
local_of log = after_steps 0 empty_folder log

-- the tree of a folder: an entry at each path, None for a folder and the bytes of a file
abbrev pub bytes_in : Option LocalFile → Option (List ℕ)
bytes_in file = option_map (λ (f : LocalFile). f.bytes) file

abbrev pub tree_of_spots : List Spot → List (List (List ℕ) × Option (List ℕ))
tree_of_spots spots = in_order (map (λ (spot : Spot). (spot.path, bytes_in spot.file)) spots)

abbrev pub local_tree : List LocalStep → List (List (List ℕ) × Option (List ℕ))
local_tree log = tree_of_spots (local_of log).spots
