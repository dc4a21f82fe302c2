-- No edit is lost: of each write of the user the file stands in the folder or in holding, or the user replaced it, or
-- its bytes stand in a version that the drive accepted.
use Rattle.std.specs.Prelude.{ℕ, ◌+◌, Bool, false, ◌||◌, cond, List, [], ◌∷◌, ◌++◌, filter, nat_eq, Option, Some, None}
use Rattle.std.specs.List.{list_any, list_all}
use Rattle.std.specs.Cmp.Lexicographic.{pointwise}
use Rattle.gd_item.specs.declared.live.Version.{Version}
use Rattle.od_tree.specs.Local.{Local, empty_folder, is_path, is_from, file_at, has_place, after_step, local_of}
use Rattle.od_tree.specs.declared.edit.UserEdit.{UserEdit}
use Rattle.od_tree.specs.declared.edit.UserEdit.TheVariants.{Write, Remove, Move, MakeFolder}
use Rattle.od_tree.specs.declared.local.HeldFile.{HeldFile}
use Rattle.od_tree.specs.declared.local.LocalFile.{LocalFile}
use Rattle.od_tree.specs.declared.local.Spot.{Spot}
use Rattle.od_tree.specs.declared.step.LocalStep.{LocalStep}
use Rattle.od_tree.specs.declared.step.LocalStep.TheVariants.{User, Op}
use Rattle.od_tree.specs.declared.step.TreeOp.TheVariants as op

-- whether a file stems from the write that is this step
abbrev pub is_origin : ℕ → Option ℕ → Bool
is_origin step None = false
is_origin step (Some origin) = nat_eq origin step

abbrev pub stems_from : ℕ → Option LocalFile → Bool
stems_from step None = false
stems_from step (Some file) = is_origin step file.origin

-- whether such a file stands at a path or in holding
abbrev pub is_somewhere : ℕ → Local → Bool
is_somewhere step local =
    list_any (λ (spot : Spot). stems_from step spot.file) local.spots || list_any (λ (file : HeldFile). is_origin step file.file.origin) local.held

-- the entries that a user's edit overwrites or removes
abbrev pub lost_by_placed : Local → UserEdit → List Spot
lost_by_placed local (Write at bytes) = filter (λ spot. is_path spot.path at) local.spots
lost_by_placed local (Remove at) = filter (λ spot. is_from at spot.path) local.spots
lost_by_placed local (Move from to) = filter (λ spot. is_path spot.path to) local.spots
lost_by_placed local (MakeFolder at) = []

abbrev pub lost_by : Local → LocalStep → List Spot
lost_by local (User edit) = cond (has_place local edit) (lost_by_placed local edit) []
lost_by local (Op call) = []

-- whether a later edit of the user overwrote or removed the file that stems from a write
abbrev pub is_replaced_after : ℕ → Local → ℕ → List LocalStep → Bool
is_replaced_after at local step [] = false
is_replaced_after at local step (first ∷ steps) =
    list_any (λ (spot : Spot). stems_from step spot.file) (lost_by local first) || is_replaced_after (at + 1) (after_step at local first) step steps

abbrev pub is_replaced : ℕ → List LocalStep → Bool
is_replaced step log = is_replaced_after 0 empty_folder step log

-- the user's writes that have a place, each with its step
abbrev pub write_by : ℕ → Local → LocalStep → List (ℕ × List ℕ)
write_by at local (User (Write path bytes)) = cond (has_place local (Write path bytes)) ((at, bytes) ∷ []) []
write_by at local (User (Remove path)) = []
write_by at local (User (Move from to)) = []
write_by at local (User (MakeFolder path)) = []
write_by at local (Op call) = []

abbrev pub writes_after : ℕ → Local → List LocalStep → List (ℕ × List ℕ)
writes_after at local [] = []
writes_after at local (first ∷ steps) = write_by at local first ++ writes_after (at + 1) (after_step at local first) steps

abbrev pub writes : List LocalStep → List (ℕ × List ℕ)
writes log = writes_after 0 empty_folder log

-- whether bytes stand in an accepted version
abbrev pub is_accepted : List ℕ → List Version → Bool
is_accepted bytes versions = list_any (λ (version : Version). pointwise nat_eq version.bytes bytes) versions

-- whether no edit is lost
abbrev pub no_loss : List LocalStep → List Version → Bool
no_loss log versions =
    list_all (λ (write : ℕ × List ℕ). is_somewhere write.0 (local_of log) || is_replaced write.0 log || is_accepted write.1 versions) (writes log)

-- what the client read: the path and the bytes that stood there at that step
abbrev pub reading_at : List (List ℕ) → Option LocalFile → List (List (List ℕ) × List ℕ)
reading_at path None = []
reading_at path (Some file) = (path, file.bytes) ∷ []

abbrev pub reading_by : Local → LocalStep → List (List (List ℕ) × List ℕ)
reading_by local (User edit) = []
reading_by local (Op (op.Read at)) = reading_at at (file_at at local.spots)
reading_by local (Op call) = []

abbrev pub readings_after : ℕ → Local → List LocalStep → List (List (List ℕ) × List ℕ)
readings_after at local [] = []
readings_after at local (first ∷ steps) = reading_by local first ++ readings_after (at + 1) (after_step at local first) steps

abbrev pub readings : List LocalStep → List (List (List ℕ) × List ℕ)
readings log = readings_after 0 empty_folder log
