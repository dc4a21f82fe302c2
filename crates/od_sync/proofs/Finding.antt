-- What a scan has found so far, since it listed the root.
use Rattle.std.proofs.Common.{◌≡◌, ℕ, false, List, [], ◌∷◌, ◌++◌, ◌-◌, take, Option, Some, refl, ap, sym, subst, ◌∙◌, append_assoc}
use Rattle.std.proofs.lemmas.List.{append-nil, map-append}
use Rattle.std.specs.List.{AllByRecursion, list_any}
use Rattle.od_tree.specs.Calls.{edited}
use Rattle.od_tree.specs.Listing.{entries_in}
use Rattle.od_tree.specs.Local.{Local, local_of, empty_folder}
use Rattle.od_tree.specs.Undisturbed.{NoUser}
use Rattle.od_tree.specs.declared.edit.UserEdit.{UserEdit}
use Rattle.od_tree.specs.declared.local.Spot.{Spot}
use Rattle.od_tree.specs.declared.step.LocalStep.{LocalStep}
use Rattle.od_tree.specs.declared.step.LocalStep.TheVariants.{Op}
use Rattle.od_tree.specs.declared.step.TreeOp.TheVariants as op
use Rattle.od_sync.specs.Findings.{found_by}
use Rattle.od_sync.specs.Scans.{IsLook, is_root_listing, Finds}
use Rattle.od_sync.specs.Visits.{Sees, Begins, Visits, Turn, turns, pushed}
use Rattle.od_sync.specs.declared.scanning.Node.{Node}
use Rattle.od_sync.specs.declared.waiting.Waiting.{Waiting}
use Rattle.od_tree.proofs.Shaped.{folder_is_tree}
use Rattle.od_sync.proofs.Looks.{looks-append, below-append, found-append, looks-keep, alone-first, alone-second}
use Rattle.od_sync.proofs.Scanned.{Going, begins, goes-on, ends}

-- the root was listed, and then what is below it was looked at
pub record FoundSoFar (found : List (List (List ℕ) × Node)) (stack : List Turn) (old : List LocalStep) (now : Option (List LocalStep)) : Type 0 where
  pub edits : List UserEdit
  pub rest : List LocalStep
  pub grown : now ≡ Some (edited old edits ++ Op (op.List []) ∷ rest)
  pub looks : AllByRecursion IsLook rest
  pub once : list_any is_root_listing rest ≡ false
  pub found_is : found ≡ found_by (edited old edits ++ Op (op.List []) ∷ []) rest
  pub going : NoUser rest → Going (local_of (edited old edits)).spots found stack

pub record FindsSoFar (found : List (List (List ℕ) × Node)) (stack : List Turn) (before now : Option (List LocalStep)) : Type 0 where
  pub told : (old : List LocalStep) → before ≡ Some old → FoundSoFar found stack old now

pub finds-first : (stack stack_old : List Turn) (before after : Option (List LocalStep)) → stack_old ≡ [] → Begins stack_old stack before after → FindsSoFar [] stack before after
finds-first stack stack_old before after empty first = record {
  told = λ old told.
      let begun = first.told old told in
      let spots : List Spot = (local_of (edited old begun.edits)).spots in
      record {
        edits = begun.edits;
        rest = [];
        grown = begun.grown;
        looks = tt;
        once = refl;
        found_is = refl;
        going = λ alone. begins spots (folder_is_tree (edited old begun.edits)) stack
            (begun.waiting_is ∙ ap (λ (s : List Turn). pushed [] (entries_in [] spots) s) empty);
      };
}

-- one more visit
found-next : (next : Waiting) (found found_now : List (List (List ℕ) × Node)) (stack stack_now : List Turn) (old : List LocalStep) (middle after : Option (List LocalStep))
    → FoundSoFar found (stack ++ (next.path, next.folder) ∷ []) old middle → Sees found found_now (Visits next.path next.folder found found_now stack stack_now) middle after → FoundSoFar found_now stack_now old after
found-next next found found_now stack stack_now old middle after so_far visits =
    let first : List LocalStep = edited old so_far.edits in
    let root : List LocalStep = Op (op.List []) ∷ [] in
    let listed : List LocalStep = Op (op.List []) ∷ so_far.rest in
    let seen = visits.told (first ++ listed) so_far.grown in
    record {
      edits = so_far.edits;
      rest = so_far.rest ++ seen.part;
      grown = seen.grown ∙ ap (λ log. Some log) (append_assoc first listed seen.part);
      looks = looks-append so_far.rest seen.part so_far.looks seen.looks;
      once = below-append so_far.rest seen.part so_far.once seen.below;
      found_is =
          seen.found_is ∙ ap (λ (f : List (List (List ℕ) × Node)). f ++ found_by (first ++ listed) seen.part) so_far.found_is
          ∙ ap (λ (log : List LocalStep). found_by (first ++ root) so_far.rest ++ found_by log seen.part) (sym (append_assoc first root so_far.rest))
          ∙ sym (found-append (first ++ root) so_far.rest seen.part);
      going = λ alone.
          let before = alone-first so_far.rest seen.part alone in
          goes-on (local_of first).spots (folder_is_tree first) next.path next.folder found found_now stack stack_now (so_far.going before)
          (subst (λ (local : Local). Visits next.path next.folder found found_now stack stack_now local.spots) (looks-keep 0 empty_folder first listed (tt, so_far.looks) (tt, before))
          (seen.fact (alone-second so_far.rest seen.part alone)));
    }

pub finds-next : (next : Waiting) (found found_now : List (List (List ℕ) × Node)) (whole popped after_visit : List Waiting) (before middle after : Option (List LocalStep)) → whole ≡ popped ++ next ∷ []
    → FindsSoFar found (turns whole) before middle → Sees found found_now (Visits next.path next.folder found found_now (turns popped) (turns after_visit)) middle after → FindsSoFar found_now (turns after_visit) before after
finds-next next found found_now whole popped after_visit before middle after is finds visits = record {
  told = λ old told.
      found-next next found found_now (turns popped) (turns after_visit) old middle after
      (subst (λ (stack : List Turn). FoundSoFar found stack old middle) (ap turns is ∙ map-append (λ (w : Waiting). (w.path, w.folder)) popped (next ∷ [])) (finds.told old told)) visits;
}

pub finds-last : (found result : List (List (List ℕ) × Node)) (waiting : List Waiting) (before after : Option (List LocalStep)) → waiting ≡ [] → result ≡ found
    → FindsSoFar found (turns waiting) before after → Finds before after result
finds-last found result waiting before after empty same finds = record {
  told = λ old told.
      let so_far = finds.told old told in
      let spots : List Spot = (local_of (edited old so_far.edits)).spots in
      record {
        edits = so_far.edits;
        rest = so_far.rest;
        grown = so_far.grown;
        looks = so_far.looks;
        once = so_far.once;
        found_is = same ∙ so_far.found_is;
        all = λ alone. same ∙ ends spots (folder_is_tree (edited old so_far.edits)) found (subst (λ (w : List Waiting). Going spots found (turns w)) empty (so_far.going alone));
      };
}

pub none-left : (waiting popped : List Waiting) (size : ℕ) → waiting ≡ popped ++ [] → popped ≡ take (size - 1) waiting → size ≡ 0 → waiting ≡ []
none-left waiting popped size is front empty = is ∙ append-nil popped ∙ front ∙ ap (λ n. take (n - 1) waiting) empty
