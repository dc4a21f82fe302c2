-- A folder in memory goes on by one call, and what comes of calls where nothing is armed.
use Rattle.std.proofs.Common.{◌≡◌, inl, inr, ℕ, false, ◌||◌, take, List, [], ◌∷◌, ◌++◌, Some, refl, ap, sym, subst, ◌∙◌}
use Rattle.std.proofs.Math.Seq.{take-nil}
use Rattle.std.proofs.lemmas.List.{append-nil, append_assoc}
use Rattle.gd_names.proofs.Each.{each-append}
use Rattle.od_tree.specs.GoingOn.{Begun, Called, GoesOn, Stays, Then, fails_next, failed_by, next_call, next_calls}
use Rattle.od_tree.specs.Memory.{log_of}
use Rattle.od_tree.specs.Tied.{kind_of, call_of, is_listed, is_stopped, with_tied}
use Rattle.od_tree.specs.Undisturbed.{IsOp, NoUser, GrowsByOps}
use Rattle.od_tree.specs.declared.call.TreeCall.{TreeCall}
use Rattle.od_tree.specs.declared.edit.UserEdit.{UserEdit}
use Rattle.od_tree.specs.declared.memory.MemoryTree.{MemoryTree}
use Rattle.od_tree.specs.declared.step.LocalStep.{LocalStep}
use Rattle.od_tree.specs.declared.step.LocalStep.TheVariants.{Op}
use Rattle.od_tree.specs.declared.step.TreeOp.{TreeOp}

-- ---- one call
pub idle : (call : TreeOp) (before ready : MemoryTree) (folder : List LocalStep) → Begun (kind_of (call_of call)) before ready → folder ≡ ready.folder → GoesOn before (record ready { folder = folder })
idle call before ready folder begun same =
    Then before (record ready { folder = folder }) Stays
    (call, inl (subst (λ (log : List LocalStep). Begun (kind_of (call_of call)) before (record ready { folder = log })) (sym same) begun))

pub operated : (call : TreeOp) (before ready : MemoryTree) (folder : List LocalStep) → Begun (kind_of (call_of call)) before ready → fails_next (kind_of (call_of call)) before ≡ false
    → ready.folder ≡ with_tied before.folder before.edits (kind_of (call_of call)) (next_call (kind_of (call_of call)) before) → folder ≡ ready.folder ++ Op call ∷ []
    → GoesOn before (record ready { folder = folder })
operated call before ready folder begun passes made done =
    Then before (record ready { folder = folder }) Stays
    (call, inr (record { ready = ready; begun = begun; passes = passes; made = made; done = ap (λ (log : List LocalStep). record ready { folder = log }) done }))

-- ---- without armed edits
unedited-begun : (kind : ℕ) (before after : MemoryTree) → before.edits ≡ [] → Begun kind before after → after.folder ≡ before.folder
unedited-begun kind before after none begun =
    begun.first.made
    ∙ ap (λ (edits : List (TreeCall × ℕ × UserEdit)). with_tied before.folder (take begun.first.looked edits) kind (next_call kind before)) none
    ∙ ap (λ (edits : List (TreeCall × ℕ × UserEdit)). with_tied before.folder edits kind (next_call kind before)) (take-nil begun.first.looked)

record IsUnedited (before after : MemoryTree) : Type 0 where
  edits : after.edits ≡ []
  part : List LocalStep
  ops : NoUser part
  grown : after.folder ≡ before.folder ++ part

unedited-called : (before after : MemoryTree) → before.edits ≡ [] → Called before after → IsUnedited before after
unedited-called before after none (call, inl begun) =
    record { edits = begun.edits ∙ none; part = []; ops = tt; grown = unedited-begun (kind_of (call_of call)) before after none begun ∙ sym (append-nil before.folder) }
unedited-called before after none (call, inr worked) = record {
  edits = ap (λ (tree : MemoryTree). tree.edits) worked.done ∙ worked.begun.edits ∙ none;
  part = Op call ∷ [];
  ops = (tt, tt);
  grown = ap (λ (tree : MemoryTree). tree.folder) worked.done ∙ ap (λ (log : List LocalStep). log ++ Op call ∷ []) (unedited-begun (kind_of (call_of call)) before worked.ready none worked.begun);
}

unedited-goes : (before after : MemoryTree) → before.edits ≡ [] → GoesOn before after → IsUnedited before after
unedited-goes before _ none Stays = record { edits = none; part = []; ops = tt; grown = sym (append-nil before.folder) }
unedited-goes before _ none (Then middle after first called) =
    let one = unedited-goes before middle none first in
    let next = unedited-called middle after one.edits called in
    record {
      edits = next.edits;
      part = one.part ++ next.part;
      ops = each-append IsOp one.part next.part one.ops next.ops;
      grown = next.grown ∙ ap (λ (log : List LocalStep). log ++ next.part) one.grown ∙ append_assoc before.folder one.part next.part;
    }

pub unedited : (before after : MemoryTree) (log : List LocalStep) → before.edits ≡ [] → log_of before ≡ Some log → GoesOn before after → GrowsByOps log (log_of after)
unedited before after log none told goes =
    let g = unedited-goes before after none goes in
    let same : before.folder ≡ log = cc told in
    record { part = g.part; ops = g.ops; grown = ap (λ (steps : List LocalStep). Some steps) (g.grown ∙ ap (λ (steps : List LocalStep). steps ++ g.part) same) }

-- ---- without listed calls
record IsUnlisted (before after : MemoryTree) : Type 0 where
  failing : after.failing ≡ []
  stops : after.stops ≡ []
  faults : after.faults ≡ before.faults

unlisted-begun : (kind : ℕ) (before after : MemoryTree) → before.failing ≡ [] → before.stops ≡ [] → Begun kind before after → IsUnlisted before after
unlisted-begun kind before after none unstopped begun = record {
  failing = begun.failing ∙ none;
  stops = begun.stops ∙ unstopped;
  faults =
      begun.failures
      ∙ ap (λ (failing : List (TreeCall × ℕ)). failed_by (is_listed failing kind (next_call kind before) || is_stopped before.stops (next_calls kind before)) before.faults) none
      ∙ ap (λ (stops : List (TreeCall × ℕ)). failed_by (is_stopped stops (next_calls kind before)) before.faults) unstopped;
}

unlisted-called : (before after : MemoryTree) → before.failing ≡ [] → before.stops ≡ [] → Called before after → IsUnlisted before after
unlisted-called before after none unstopped (call, inl begun) = unlisted-begun (kind_of (call_of call)) before after none unstopped begun
unlisted-called before after none unstopped (call, inr worked) =
    let begun = unlisted-begun (kind_of (call_of call)) before worked.ready none unstopped worked.begun in
    record {
      failing = ap (λ (tree : MemoryTree). tree.failing) worked.done ∙ begun.failing;
      stops = ap (λ (tree : MemoryTree). tree.stops) worked.done ∙ begun.stops;
      faults = ap (λ (tree : MemoryTree). tree.faults) worked.done ∙ begun.faults;
    }

unlisted-goes : (before after : MemoryTree) → before.failing ≡ [] → before.stops ≡ [] → GoesOn before after → IsUnlisted before after
unlisted-goes before _ none unstopped Stays = record { failing = none; stops = unstopped; faults = refl }
unlisted-goes before _ none unstopped (Then middle after first called) =
    let one = unlisted-goes before middle none unstopped first in
    let next = unlisted-called middle after one.failing one.stops called in
    record { failing = next.failing; stops = next.stops; faults = next.faults ∙ one.faults }

pub unlisted : (before after : MemoryTree) → before.failing ≡ [] → before.stops ≡ [] → GoesOn before after → after.faults ≡ before.faults
unlisted before after none unstopped goes = (unlisted-goes before after none unstopped goes).faults
