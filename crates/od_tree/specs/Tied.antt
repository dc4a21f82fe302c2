-- The edits and the failures of a folder in memory are tied to its calls: to a kind of call, and to a number among the
-- calls of that kind, from 1.
use Rattle.std.specs.Prelude.{ℕ, Bool, ◌&&◌, cond, List, [], ◌∷◌, ◌++◌, nat_eq, nat_le, slice_index}
use Rattle.std.specs.List.{list_any}
use Rattle.od_tree.specs.Local.{local_of, has_place}
use Rattle.od_tree.specs.declared.call.TreeCall.{TreeCall}
use Rattle.od_tree.specs.declared.call.TreeCall.TheVariants as call
use Rattle.od_tree.specs.declared.edit.UserEdit.{UserEdit}
use Rattle.od_tree.specs.declared.step.LocalStep.{LocalStep}
use Rattle.od_tree.specs.declared.step.LocalStep.TheVariants.{User}
use Rattle.od_tree.specs.declared.step.TreeOp.{TreeOp}
use Rattle.od_tree.specs.declared.step.TreeOp.TheVariants as op

-- a number of its own for each kind of call
abbrev pub kind_of : TreeCall → ℕ
kind_of call.List = 0
kind_of call.Read = 1
kind_of call.MakeDir = 2
kind_of call.RemoveDir = 3
kind_of call.Place = 4
kind_of call.Rename = 5
kind_of call.SetAside = 6
kind_of call.ReadAside = 7
kind_of call.PutBack = 8
kind_of call.Discard = 9
kind_of call.Asides = 10

-- the call that does an operation
abbrev pub call_of : TreeOp → TreeCall
call_of (op.List at) = call.List
call_of (op.Read at) = call.Read
call_of (op.MakeDir at) = call.MakeDir
call_of (op.RemoveDir at) = call.RemoveDir
call_of (op.Place at bytes) = call.Place
call_of (op.Rename from to) = call.Rename
call_of (op.SetAside at) = call.SetAside
call_of (op.ReadAside aside) = call.ReadAside
call_of (op.PutBack aside to) = call.PutBack
call_of (op.Discard aside) = call.Discard
call_of op.Asides = call.Asides

-- whether this is the call of a kind and a number
abbrev pub is_call : TreeCall → ℕ → ℕ → ℕ → Bool
is_call tied at kind number = nat_eq (kind_of tied) kind && nat_eq at number

-- whether a call is listed as failing
abbrev pub is_listed : List (TreeCall × ℕ) → ℕ → ℕ → Bool
is_listed failing kind number = list_any (λ (listed : TreeCall × ℕ). is_call listed.0 listed.1 kind number) failing

-- whether so many calls of each kind have reached a stop
abbrev pub is_stopped : List (TreeCall × ℕ) → List ℕ → Bool
is_stopped stops calls = list_any (λ (stop : TreeCall × ℕ). nat_le stop.1 (slice_index calls (kind_of stop.0))) stops

-- the log with an edit that is due and has a place, and with those that are tied to a call
abbrev pub with_due : List LocalStep → Bool → UserEdit → List LocalStep
with_due log due edit = cond (due && has_place (local_of log) edit) (log ++ User edit ∷ []) log

abbrev pub with_tied : List LocalStep → List (TreeCall × ℕ × UserEdit) → ℕ → ℕ → List LocalStep
with_tied log [] kind number = log
with_tied log (tied ∷ edits) kind number = with_tied (with_due log (is_call tied.0 tied.1 kind number) tied.2) edits kind number
