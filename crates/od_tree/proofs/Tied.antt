-- The edits that are tied to a call, made one after another.
use Rattle.std.proofs.Common.{◌≡◌, ℕ, ◌+◌, ◌<◌, ◌≤◌, Bool, true, List, [], ◌∷◌, ◌++◌, length, take, get_or, refl, ap, sym, ◌∙◌, arith}
use Rattle.std.proofs.lemmas.Bool.{false≢true}
use Rattle.std.proofs.lemmas.List.{take_more, take_all}
use Rattle.od_tree.specs.GoingOn.{FirstMade}
use Rattle.od_tree.specs.Memory.{is_empty}
use Rattle.od_tree.specs.Tied.{is_call, with_due, with_tied}
use Rattle.od_tree.specs.declared.call.TreeCall.{TreeCall}
use Rattle.od_tree.specs.declared.edit.UserEdit.{UserEdit}
use Rattle.od_tree.specs.declared.step.LocalStep.{LocalStep}

tied-snoc : (log : List LocalStep) (edits : List (TreeCall × ℕ × UserEdit)) (tied : TreeCall × ℕ × UserEdit) (kind number : ℕ)
    → with_tied log (edits ++ tied ∷ []) kind number ≡ with_due (with_tied log edits kind number) (is_call tied.0 tied.1 kind number) tied.2
tied-snoc log [] tied kind number = refl
tied-snoc log (first ∷ edits) tied kind number = tied-snoc (with_due log (is_call first.0 first.1 kind number) first.2) edits tied kind number

pub tied-next : (edits : List (TreeCall × ℕ × UserEdit)) (i : ℕ) (item : TreeCall × ℕ × UserEdit) (start log now : List LocalStep) (due : Bool) (kind number : ℕ)
    → i < length edits → item ≡ get_or edits i item → due ≡ is_call item.0 item.1 kind number → now ≡ with_due log due item.2
    → log ≡ with_tied start (take i edits) kind number → now ≡ with_tied start (take (i + 1) edits) kind number
tied-next edits i item start log now due kind number inside is due_is now_is so_far =
    now_is
    ∙ ap (λ b. with_due log b item.2) due_is
    ∙ ap (λ (steps : List LocalStep). with_due steps (is_call item.0 item.1 kind number) item.2) so_far
    ∙ sym (tied-snoc start (take i edits) item kind number)
    ∙ ap (λ (tied : TreeCall × ℕ × UserEdit). with_tied start (take i edits ++ tied ∷ []) kind number) is
    ∙ ap (λ (front : List (TreeCall × ℕ × UserEdit)). with_tied start front kind number) (sym (take_more edits i item inside))

-- all were looked at, or the first
pub tied-all : (edits : List (TreeCall × ℕ × UserEdit)) (i : ℕ) (start log : List LocalStep) (kind number : ℕ) → length edits ≤ i → log ≡ with_tied start (take i edits) kind number
    → log ≡ with_tied start edits kind number
tied-all edits i start log kind number all is = is ∙ ap (λ (front : List (TreeCall × ℕ × UserEdit)). with_tied start front kind number) (take_all i edits all)

pub first-made : (edits : List (TreeCall × ℕ × UserEdit)) (i : ℕ) (start log now : List LocalStep) (kind number : ℕ) → now ≡ log → log ≡ with_tied start (take i edits) kind number
    → FirstMade edits kind number start now
first-made edits i start log now kind number same is = record { looked = i; made = same ∙ is }

pub not-empty : {X : Type 0} (xs : List X) (i : ℕ) → i < length xs → is_empty xs ≡ true → ⊥
not-empty [] i inside empty = omega arith
not-empty (x ∷ xs) i inside empty = false≢true empty
