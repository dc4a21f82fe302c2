-- What the folder in memory tells.
use Rattle.std.specs.Prelude.{ℕ, Bool, true, false, ◌&&◌, List, [], ◌∷◌, Option, Some}
use Rattle.od_tree.specs.declared.call.TreeCall.{TreeCall}
use Rattle.od_tree.specs.declared.edit.UserEdit.{UserEdit}
use Rattle.od_tree.specs.declared.memory.MemoryTree.{MemoryTree}
use Rattle.od_tree.specs.declared.step.LocalStep.{LocalStep}

-- its log
abbrev pub log_of : MemoryTree → Option (List LocalStep)
log_of tree = Some tree.folder

-- how often it has failed
abbrev pub faults_of : MemoryTree → ℕ
faults_of tree = tree.faults

-- the edits that are tied to its calls, and the calls at which it fails
abbrev pub edits_of : MemoryTree → List (TreeCall × ℕ × UserEdit)
edits_of tree = tree.edits

abbrev pub failing_of : MemoryTree → List (TreeCall × ℕ)
failing_of tree = tree.failing

-- the calls from which on all fail
abbrev pub stops_of : MemoryTree → List (TreeCall × ℕ)
stops_of tree = tree.stops

-- how many calls of each kind were made, and that none were
abbrev pub calls_of : MemoryTree → List ℕ
calls_of tree = tree.calls

abbrev pub no_calls : List ℕ
no_calls = 0 ∷ 0 ∷ 0 ∷ 0 ∷ 0 ∷ 0 ∷ 0 ∷ 0 ∷ 0 ∷ 0 ∷ 0 ∷ []

-- whether a list has nothing
abbrev pub is_empty : {X : Type 0} → List X → Bool
is_empty [] = true
is_empty (x ∷ xs) = false

-- whether no edits, no failures and no stops are armed
abbrev pub is_undisturbed : MemoryTree → Bool
is_undisturbed tree = is_empty (edits_of tree) && is_empty (failing_of tree) && is_empty (stops_of tree)
