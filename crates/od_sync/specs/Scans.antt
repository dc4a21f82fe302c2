-- A scan of the local folder: it lists and reads, and changes nothing. It begins with the root, which it lists once.
use Rattle.std.specs.Prelude.{◌≡◌, ℕ, ◌≤◌, Bool, false, List, [], ◌∷◌, ◌++◌, count_by, Option, Some, Result, IsErrOf}
use Rattle.std.specs.List.{AllByRecursion, list_any}
use Rattle.gd_names.specs.Streams.{Rose}
use Rattle.od_tree.specs.Calls.{edited}
use Rattle.od_tree.specs.Local.{local_tree, is_path}
use Rattle.od_tree.specs.Undisturbed.{NoUser}
use Rattle.od_tree.specs.declared.edit.UserEdit.{UserEdit}
use Rattle.od_tree.specs.declared.step.LocalStep.{LocalStep}
use Rattle.od_tree.specs.declared.step.LocalStep.TheVariants.{User, Op}
use Rattle.od_tree.specs.declared.step.TreeOp.TheVariants as op
use Rattle.od_sync.specs.Comparing.{scanned}
use Rattle.od_sync.specs.Findings.{found_by}
use Rattle.od_sync.specs.declared.scanning.Node.{Node}
use Rattle.od_sync.specs.declared.scanning.FolderFault.{FolderFault}
use Rattle.od_sync.specs.declared.scanning.FolderFault.TheVariants.{Failed}

-- an edit of the user, or an operation that only looks
abbrev pub IsLook : LocalStep → Type 0
IsLook (User edit) = Unit {0}
IsLook (Op (op.List at)) = Unit {0}
IsLook (Op (op.Read at)) = Unit {0}
IsLook (Op call) = ⊥

-- whether a step lists the root
abbrev pub is_root_listing : LocalStep → Bool
is_root_listing (User edit) = false
is_root_listing (Op (op.List at)) = is_path [] at
is_root_listing (Op call) = false

-- the log grows by such steps, of which so many at most list the root
pub record GrownByLooks (listings : ℕ) (old : List LocalStep) (after : Option (List LocalStep)) : Type 0 where
  pub part : List LocalStep
  pub looks : AllByRecursion IsLook part
  pub listed : count_by is_root_listing part ≤ listings
  pub grown : after ≡ Some (old ++ part)

pub record GrowsByLooks (listings : ℕ) (before after : Option (List LocalStep)) : Type 0 where
  pub told : (old : List LocalStep) → before ≡ Some old → GrownByLooks listings old after

-- the count of failures never falls, and rises where the folder fails
pub record HasFolderCause (before now : ℕ) {T : Type 0} (result : Result T FolderFault) : Type 0 where
  pub later : before ≤ now
  pub failed : IsErrOf result Failed → Rose before now

-- the root is listed, and then what is below it is looked at, which finds so much; where the user leaves the folder alone from
-- then on, that is the folder's tree
pub record Found (old : List LocalStep) (after : Option (List LocalStep)) (found : List (List (List ℕ) × Node)) : Type 0 where
  pub edits : List UserEdit
  pub rest : List LocalStep
  pub grown : after ≡ Some (edited old edits ++ Op (op.List []) ∷ rest)
  pub looks : AllByRecursion IsLook rest
  pub once : list_any is_root_listing rest ≡ false
  pub found_is : found ≡ found_by (edited old edits ++ Op (op.List []) ∷ []) rest
  pub all : NoUser rest → found ≡ scanned (local_tree (edited old edits))

pub record Finds (before after : Option (List LocalStep)) (found : List (List (List ℕ) × Node)) : Type 0 where
  pub told : (old : List LocalStep) → before ≡ Some old → Found old after found
