-- A folder that the user leaves alone, over no call of it and over two in a row.
use Rattle.std.proofs.Common.{ℕ, Bool, List, [], ◌++◌, Option, Some, ap, sym, ◌∙◌, refl, append_assoc}
use Rattle.std.proofs.lemmas.List.{append-nil}
use Rattle.gd_names.proofs.Each.{each-append}
use Rattle.od_tree.specs.Undisturbed.{IsOp, GrowsByOps, Undisturbed}
use Rattle.od_tree.specs.declared.step.LocalStep.{LocalStep}

pub undisturbed_same : (undisturbed : Bool) (faults : ℕ) (log : Option (List LocalStep)) → Undisturbed undisturbed undisturbed faults faults log log
undisturbed_same undisturbed faults log = record {
  stays = λ is. is;
  no_faults = λ is. refl;
  alone = λ is old told. record { part = []; ops = tt; grown = told ∙ ap (λ steps. Some steps) (sym (append-nil old)) };
}

by-ops : (old : List LocalStep) (middle after : Option (List LocalStep)) (first : GrowsByOps old middle) → GrowsByOps (old ++ first.part) after → GrowsByOps old after
by-ops old middle after first second = record {
  part = first.part ++ second.part;
  ops = each-append IsOp first.part second.part first.ops second.ops;
  grown = second.grown ∙ ap (λ steps. Some steps) (append_assoc old first.part second.part);
}

pub undisturbed_then : (undisturbed_before undisturbed_middle undisturbed_after : Bool) (faults_before faults_middle faults_after : ℕ) (before middle after : Option (List LocalStep))
    → Undisturbed undisturbed_before undisturbed_middle faults_before faults_middle before middle → Undisturbed undisturbed_middle undisturbed_after faults_middle faults_after middle after
    → Undisturbed undisturbed_before undisturbed_after faults_before faults_after before after
undisturbed_then undisturbed_before undisturbed_middle undisturbed_after faults_before faults_middle faults_after before middle after first second = record {
  stays = λ is. second.stays (first.stays is);
  no_faults = λ is. second.no_faults (first.stays is) ∙ first.no_faults is;
  alone = λ is old told.
      let one = first.alone is old told in
      by-ops old middle after one (second.alone (first.stays is) (old ++ one.part) one.grown);
}
