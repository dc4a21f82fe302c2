-- What the parts of a call do to the log of a folder in memory.
use Rattle.std.specs.Prelude.{◌≡◌, ◌⊎◌, ℕ, Bool, not, ◌&&◌, List, [], ◌∷◌, ◌++◌, Option, Some, None, Result, IfOk, IfErr}
use Rattle.std.specs.List.{list_any}
use Rattle.gd_names.specs.Causes.{first_cause}
use Rattle.od_tree.specs.Calls.{edited}
use Rattle.od_tree.specs.Local.{Local, is_path, is_from, spot_at, is_folder_spot, has_parent, is_taken_at, local_of, op_refusal}
use Rattle.od_tree.specs.declared.edit.UserEdit.{UserEdit}
use Rattle.od_tree.specs.declared.fault.TreeFault.{TreeFault}
use Rattle.od_tree.specs.declared.fault.TreeFault.TheVariants.{Taken, Missing, NotEmpty, Memory}
use Rattle.od_tree.specs.declared.local.HeldFile.{HeldFile}
use Rattle.od_tree.specs.declared.local.LocalFile.{LocalFile}
use Rattle.od_tree.specs.declared.local.Spot.{Spot}
use Rattle.od_tree.specs.declared.step.LocalStep.{LocalStep}
use Rattle.od_tree.specs.declared.step.LocalStep.TheVariants.{Op}
use Rattle.od_tree.specs.declared.step.TreeOp.{TreeOp}

-- why an entry is not added at a path
abbrev pub why_not_added : List (List ℕ) → List Spot → Option TreeFault
why_not_added at spots = first_cause ((is_taken_at at spots, Taken) ∷ (not (has_parent at spots), Missing) ∷ [])

-- why something is not moved to a path, and why a folder is not removed
abbrev pub why_not_moved : Bool → List (List ℕ) → List Spot → Option TreeFault
why_not_moved is_lost to spots = first_cause ((is_lost, Missing) ∷ (is_taken_at to spots, Taken) ∷ [])

abbrev pub why_not_removed : List (List ℕ) → List Spot → Option TreeFault
why_not_removed at spots =
    first_cause (
    (not (is_folder_spot (spot_at at spots)), Missing)
    ∷ (list_any (λ spot. is_from at spot.path && not (is_path at spot.path)) spots, NotEmpty)
    ∷ [])

-- the held files with the file of an entry, where it has one
abbrev pub held_with : ℕ → List (List ℕ) → Option LocalFile → List HeldFile → List HeldFile
held_with number from None held = held
held_with number from (Some file) held = held ++ record { number = number; from = from; file = file } ∷ []

-- the edits of the user that are tied to a call are made
pub record Begins (before after : List LocalStep) : Type 0 where
  pub edits : List UserEdit
  pub grown : after ≡ edited before edits

-- an operation is done, or it is refused for the first cause, or memory was wanting
pub record Does {T : Type 0} (call : TreeOp) (Value : Local → T → Type 0) (before after : List LocalStep) (result : Result T TreeFault) : Type 0 where
  pub ok : IfOk result (λ x. (after ≡ before ++ Op call ∷ []) × (op_refusal (local_of before) call ≡ None) × Value (local_of before) x)
  pub err : IfErr result (λ fault. (after ≡ before) × ((fault ≡ Memory) ⊎ (op_refusal (local_of before) call ≡ Some fault)))
