-- What a call of the folder does to its log, and why it is refused. At each call the log grows by edits of the user, and
-- then by the operation.
use Rattle.std.specs.Prelude.{◌≡◌, ◌⊎◌, ℕ, ◌≤◌, Bool, true, false, not, List, [], ◌∷◌, ◌++◌, map, Option, Some, None, Result, IfOk, OnErr, IsErrOf}
use Rattle.gd_names.specs.Streams.{Rose}
use Rattle.od_tree.specs.Local.{Local, is_path, local_of, op_refusal}
use Rattle.od_tree.specs.declared.edit.UserEdit.{UserEdit}
use Rattle.od_tree.specs.declared.fault.TreeFault.{TreeFault}
use Rattle.od_tree.specs.declared.fault.TreeFault.TheVariants.{Taken, Missing, NotEmpty, Failed, Memory}
use Rattle.od_tree.specs.declared.step.LocalStep.{LocalStep}
use Rattle.od_tree.specs.declared.step.LocalStep.TheVariants.{User, Op}
use Rattle.od_tree.specs.declared.step.TreeOp.{TreeOp}
use Rattle.od_tree.specs.declared.step.TreeOp.TheVariants as op

-- the log with more edits of the user, and then with an operation
abbrev pub edited : List LocalStep → List UserEdit → List LocalStep
edited log edits = log ++ map (λ (edit : UserEdit). User edit) edits

abbrev pub with_op : List LocalStep → List UserEdit → TreeOp → List LocalStep
with_op log edits call = edited log edits ++ Op call ∷ []

-- the operation is refused: the log grows by edits alone, and there it is refused for this cause
abbrev pub Refuses : TreeOp → Option (List LocalStep) → Option (List LocalStep) → TreeFault → Type 0
Refuses call before after fault =
    (old : List LocalStep) → before ≡ Some old
    → (edits : List UserEdit) × (after ≡ Some (edited old edits)) × (op_refusal (local_of (edited old edits)) call ≡ Some fault)

-- nothing is done: the log grows by edits alone
abbrev pub GrowsByEdits : Option (List LocalStep) → Option (List LocalStep) → Type 0
GrowsByEdits before after =
    (old : List LocalStep) → before ≡ Some old → (edits : List UserEdit) × (after ≡ Some (edited old edits))

-- the log grows by edits, and then by the operation or not, and by none that would be refused there
abbrev pub MayGrow : TreeOp → Option (List LocalStep) → Option (List LocalStep) → Type 0
MayGrow call before after =
    (old : List LocalStep) → before ≡ Some old
    → (edits : List UserEdit)
    × ((after ≡ Some (edited old edits)) ⊎ ((after ≡ Some (with_op old edits call)) × (op_refusal (local_of (edited old edits)) call ≡ None)))

-- what a call does to the log where it is told; the value is that of the folder right before the operation. A call that
-- failed may have done it
pub record Calls {T : Type 0} (call : TreeOp) (Value : Local → T → Type 0) (before after : Option (List LocalStep)) (result : Result T TreeFault) : Type 0 where
  pub ok : IfOk result (λ x. (old : List LocalStep) → before ≡ Some old
      → (edits : List UserEdit) × (after ≡ Some (with_op old edits call)) × (op_refusal (local_of (edited old edits)) call ≡ None) × Value (local_of (edited old edits)) x)
  pub taken : IsErrOf result Taken → Refuses call before after Taken
  pub missing : IsErrOf result Missing → Refuses call before after Missing
  pub not_empty : IsErrOf result NotEmpty → Refuses call before after NotEmpty
  pub memory : IsErrOf result Memory → GrowsByEdits before after
  pub err : OnErr result (MayGrow call before after)

-- the refusals that an operation has at all; the root is always there to be listed
abbrev pub may_be : TreeFault → TreeOp → Bool
may_be Taken (op.MakeDir at) = true
may_be Taken (op.Place at bytes) = true
may_be Taken (op.Rename from to) = true
may_be Taken (op.PutBack aside to) = true
may_be Missing (op.List at) = not (is_path [] at)
may_be Missing (op.Read at) = true
may_be Missing (op.MakeDir at) = true
may_be Missing (op.RemoveDir at) = true
may_be Missing (op.Place at bytes) = true
may_be Missing (op.Rename from to) = true
may_be Missing (op.SetAside at) = true
may_be Missing (op.ReadAside aside) = true
may_be Missing (op.PutBack aside to) = true
may_be Missing (op.Discard aside) = true
may_be NotEmpty (op.RemoveDir at) = true
may_be fault call = false

-- the count of failures never falls, and rises where a call fails; a refusal is one that the operation has at all
pub record HasTreeCause {T : Type 0} (call : TreeOp) (before now : ℕ) (result : Result T TreeFault) : Type 0 where
  pub later : before ≤ now
  pub failed : IsErrOf result Failed → Rose before now
  pub taken : IsErrOf result Taken → may_be Taken call ≡ true
  pub missing : IsErrOf result Missing → may_be Missing call ≡ true
  pub not_empty : IsErrOf result NotEmpty → may_be NotEmpty call ≡ true
