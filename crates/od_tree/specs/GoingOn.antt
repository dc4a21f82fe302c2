-- How a folder in memory goes on by calls. Each is counted, as a failure too where it is listed; the edits that are tied to it
-- are made, and then its operation is done, unless it fails or is refused. It fails where it is listed, and where a stop is
-- reached. What is armed stays as it was.
use Rattle.std.proofs.Common.{◌≡◌, ◌⊎◌, inl, inr, ℕ, ◌≤◌, Bool, false, ◌||◌, cond, List, [], ◌∷◌, ◌++◌, take, ap, arith}
use Rattle.std.specs.Prelude.{slice_index, slice_set}
use Rattle.gd_names.specs.Counts.{one_more}
use Rattle.od_tree.specs.Tied.{kind_of, call_of, is_listed, is_stopped, with_tied}
use Rattle.od_tree.specs.declared.call.TreeCall.{TreeCall}
use Rattle.od_tree.specs.declared.edit.UserEdit.{UserEdit}
use Rattle.od_tree.specs.declared.memory.MemoryTree.{MemoryTree}
use Rattle.od_tree.specs.declared.step.LocalStep.{LocalStep}
use Rattle.od_tree.specs.declared.step.LocalStep.TheVariants.{Op}
use Rattle.od_tree.specs.declared.step.TreeOp.{TreeOp}

-- the number of the next call of a kind, how many calls there are with it, and whether it fails
abbrev pub next_call : ℕ → MemoryTree → ℕ
next_call kind tree = one_more (slice_index tree.calls kind)

abbrev pub next_calls : ℕ → MemoryTree → List ℕ
next_calls kind tree = slice_set tree.calls kind (next_call kind tree)

abbrev pub fails_next : ℕ → MemoryTree → Bool
fails_next kind tree = is_listed tree.failing kind (next_call kind tree) || is_stopped tree.stops (next_calls kind tree)

-- the count of failures after a call that fails, or does not
abbrev pub failed_by : Bool → ℕ → ℕ
failed_by fails faults = cond fails (one_more faults) faults

-- of these edits the first were looked at, and those of them made that are tied to a call
pub record FirstMade (edits : List (TreeCall × ℕ × UserEdit)) (kind number : ℕ) (before after : List LocalStep) : Type 0 where
  pub looked : ℕ
  pub made : after ≡ with_tied before (take looked edits) kind number

-- a call of a kind begins: it is counted, and of the armed edits the first are looked at: all of them, unless memory is wanting
pub record Begun (kind : ℕ) (before after : MemoryTree) : Type 0 where
  pub counted : after.calls ≡ next_calls kind before
  pub failures : after.faults ≡ failed_by (fails_next kind before) before.faults
  pub later : before.faults ≤ after.faults
  pub edits : after.edits ≡ before.edits
  pub failing : after.failing ≡ before.failing
  pub stops : after.stops ≡ before.stops
  pub first : FirstMade before.edits kind (next_call kind before) before.folder after.folder

-- a call that is not listed: it begins, all edits that are tied to it are made, and then its operation is done
pub record Operated (call : TreeOp) (before after : MemoryTree) : Type 0 where
  pub ready : MemoryTree
  pub begun : Begun (kind_of (call_of call)) before ready
  pub passes : fails_next (kind_of (call_of call)) before ≡ false
  pub made : ready.folder ≡ with_tied before.folder before.edits (kind_of (call_of call)) (next_call (kind_of (call_of call)) before)
  pub done : after ≡ record ready { folder = ready.folder ++ Op call ∷ [] }

-- one call: it does nothing but begin, or it does its operation
abbrev pub Called : MemoryTree → MemoryTree → Type 0
Called before after = (call : TreeOp) × (Begun (kind_of (call_of call)) before after ⊎ Operated call before after)

-- calls, one after another
pub data GoesOn (start : MemoryTree) : MemoryTree → Type 0 where
  Stays : GoesOn start start
  Then : (middle after : MemoryTree) → GoesOn start middle → Called middle after → GoesOn start after

-- no call is a way to go on, one way after another is one, and on none the count of failures falls
pub goes_none : (x : MemoryTree) → GoesOn x x
goes_none x = Stays

pub goes_then : (x y z : MemoryTree) → GoesOn x y → GoesOn y z → GoesOn x z
goes_then x y _ first Stays = first
goes_then x y _ first (Then middle after more call) = Then middle after (goes_then x y middle first more) call

called-later : (before after : MemoryTree) → Called before after → before.faults ≤ after.faults
called-later before after (call, inl begun) = begun.later
called-later before after (call, inr worked) =
    let same : after.faults ≡ worked.ready.faults = ap (λ (tree : MemoryTree). tree.faults) worked.done in
    omega (arith, worked.begun.later, same)

pub goes_later : (x y : MemoryTree) → GoesOn x y → x.faults ≤ y.faults
goes_later x _ Stays = omega arith
goes_later x _ (Then middle after first call) = omega (arith, goes_later x middle first, called-later middle after call)
