-- What is undisturbed stays so over one call after another.
use Rattle.std.proofs.Common.{ℕ, Bool, List, [], ◌++◌, Option, Some, refl, ap, sym, ◌∙◌, append_assoc}
use Rattle.std.proofs.lemmas.List.{append-nil}
use Rattle.gd_item.specs.declared.step.Step.{Step}
use Rattle.od_keeper.specs.Undisturbed as keeper_alone
use Rattle.od_transfer.specs.Undisturbed as remote_alone
use Rattle.od_tree.specs.Undisturbed as tree_alone
use Rattle.od_tree.specs.declared.step.LocalStep.{LocalStep}
use Rattle.od_sync.specs.Rounds.{AllAlone}
use Rattle.gd_names.proofs.Each.{each-append}
use Rattle.od_sync.proofs.Undisturbing.{undisturbed-then}

-- ---- the folder
pub tree-same : (u : Bool) (faults : ℕ) (log : Option (List LocalStep)) → tree_alone.Undisturbed u u faults faults log log
tree-same u faults log = record {
  stays = λ is. is;
  no_faults = λ is. refl;
  alone = λ is old told. record { part = []; ops = tt; grown = told ∙ ap (λ steps. Some steps) (sym (append-nil old)) };
}

pub tree-then : (a b c : Bool) (m n o : ℕ) (before middle after : Option (List LocalStep)) → tree_alone.Undisturbed a b m n before middle
    → tree_alone.Undisturbed b c n o middle after → tree_alone.Undisturbed a c m o before after
tree-then a b c m n o before middle after first second = record {
  stays = λ is. second.stays (first.stays is);
  no_faults = λ is. second.no_faults (first.stays is) ∙ first.no_faults is;
  alone = λ is old told.
      let one = first.alone is old told in
      let two = second.alone (first.stays is) (old ++ one.part) one.grown in
      record {
        part = one.part ++ two.part;
        ops = each-append tree_alone.IsOp one.part two.part one.ops two.ops;
        grown = two.grown ∙ ap (λ steps. Some steps) (append_assoc old one.part two.part);
      };
}

-- ---- the keeper
pub keeper-same : (u : Bool) (faults : ℕ) → keeper_alone.Undisturbed u u faults faults
keeper-same u faults = record { stays = λ is. is; no_faults = λ is. refl }

pub keeper-then : (a b c : Bool) (m n o : ℕ) → keeper_alone.Undisturbed a b m n → keeper_alone.Undisturbed b c n o → keeper_alone.Undisturbed a c m o
keeper-then a b c m n o first second = record {
  stays = λ is. second.stays (first.stays is);
  no_faults = λ is. second.no_faults (first.stays is) ∙ first.no_faults is;
}

-- ---- all three
pub alone-then : {a b c : Bool} {r s t : Option (List Step)} {d e f : Bool} {i j k : ℕ} {l m n : Option (List LocalStep)} {g h p : Bool} {u v w : ℕ}
    → AllAlone a b r s d e i j l m g h u v → AllAlone b c s t e f j k m n h p v w → AllAlone a c r t d f i k l n g p u w
alone-then {a} {b} {c} {r} {s} {t} {d} {e} {f} {i} {j} {k} {l} {m} {n} {g} {h} {p} {u} {v} {w} first second = record {
  drive = undisturbed-then a b c r s t first.drive second.drive;
  folder = tree-then d e f i j k l m n first.folder second.folder;
  keeper = keeper-then g h p u v w first.keeper second.keeper;
}

-- a call that touches all three, told part by part
pub alone-first : {a b c : Bool} {r s t : Option (List Step)} {d e f : Bool} {i j k : ℕ} {l m n : Option (List LocalStep)} {g h p : Bool} {u v w : ℕ} → remote_alone.Undisturbed a b r s → tree_alone.Undisturbed d e i j l m
    → keeper_alone.Undisturbed g h u v → AllAlone b c s t e f j k m n h p v w → AllAlone a c r t d f i k l n g p u w
alone-first drive folder keeper second = alone-then (record { drive = drive; folder = folder; keeper = keeper }) second
