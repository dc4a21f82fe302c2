-- Each file has the bytes of the write from which it stems.
use Rattle.std.proofs.Common.{◌≡◌, ⊎_elim, ℕ, ◌+◌, ◌-◌, ◌^◌, ◌≤◌, Bool, true, false, not, cond, nat_eq, is_none, filter, List, [], ◌∷◌, ◌++◌, Option, Some, None, ap, sym, ◌∙◌, arith}
use Rattle.std.proofs.lemmas.List.Elements.{Contains-append_cases, Contains-push_cases, All-contains_itself}
use Rattle.std.specs.List.{AllByRecursion, Contains}
use Rattle.gd_names.proofs.Each.{each, each-append, each-first, each-second, each-so}
use Rattle.od_tree.specs.Local.{Local, empty_folder, is_path, is_from, spot_at, file_in, file_at, held_at, greatest_number, without_spot, moved_from, without_held, has_place, after_placed_edit, set_aside, put_back, op_refusal, after_done_op, after_step, after_steps, local_of}
use Rattle.od_tree.specs.Loss.{write_by, writes_after, writes}
use Rattle.od_tree.specs.declared.edit.UserEdit.TheVariants.{Write, Remove, Move, MakeFolder}
use Rattle.od_tree.specs.declared.fault.TreeFault.{TreeFault}
use Rattle.od_tree.specs.declared.local.HeldFile.{HeldFile}
use Rattle.od_tree.specs.declared.local.LocalFile.{LocalFile}
use Rattle.od_tree.specs.declared.local.Spot.{Spot}
use Rattle.od_tree.specs.declared.step.LocalStep.{LocalStep}
use Rattle.od_tree.specs.declared.step.LocalStep.TheVariants.{User, Op}
use Rattle.od_tree.specs.declared.step.TreeOp.{TreeOp}
use Rattle.od_tree.specs.declared.step.TreeOp.TheVariants as op
use Rattle.od_tree.proofs.Contained.{all-cut, all-kept}
use Rattle.od_run.proofs.Among.{of-each}

abbrev Written : Type 0
Written = List (ℕ × List ℕ)

-- the write from which a file stems, if any, is among these with its bytes
abbrev pub StemsIn : Written → Option ℕ → List ℕ → Type 0
StemsIn known None bytes = Unit {0}
StemsIn known (Some step) bytes = Contains known (step, bytes)

abbrev pub FileIn : Written → LocalFile → Type 0
FileIn known file = StemsIn known file.origin file.bytes

abbrev SpotIn : Written → Option LocalFile → Type 0
SpotIn known None = Unit {0}
SpotIn known (Some file) = FileIn known file

abbrev InSpots : Written → List Spot → Type 0
InSpots known spots = AllByRecursion (λ (spot : Spot). SpotIn known spot.file) spots

abbrev InHeld : Written → List HeldFile → Type 0
InHeld known held = AllByRecursion (λ (file : HeldFile). FileIn known file.file) held

pub record Stems (known : Written) (local : Local) : Type 0 where
  pub spots : InSpots known local.spots
  pub held : InHeld known local.held

without-in : (known : Written) (at : List (List ℕ)) (spots : List Spot) → InSpots known spots → InSpots known (without_spot at spots)
without-in known at [] all = tt
without-in known at (spot ∷ spots) all =
    all-cut (is_path spot.path at) (λ (s : Spot). SpotIn known s.file) spot spots (without_spot at spots) all.0 all.1 (without-in known at spots all.1)

without-held-in : (known : Written) (number : ℕ) (held : List HeldFile) → InHeld known held → InHeld known (without_held number held)
without-held-in known number [] all = tt
without-held-in known number (file ∷ held) all =
    all-cut (nat_eq file.number number) (λ (f : HeldFile). FileIn known f.file) file held (without_held number held) all.0 all.1 (without-held-in known number held all.1)

moved-in : (known : Written) (from to : List (List ℕ)) (spots : List Spot) → InSpots known spots → InSpots known (moved_from from to spots)
moved-in known from to [] all = tt
moved-in known from to (spot ∷ spots) all = (all.0, moved-in known from to spots all.1)

one-more : (known : Written) (spots : List Spot) (last : Spot) → InSpots known spots → SpotIn known last.file → InSpots known (spots ++ last ∷ [])
one-more known spots last all here = each-append (λ (s : Spot). SpotIn known s.file) spots (last ∷ []) all (here, tt)

-- ---- what is found
found-if : (b : Bool) (known : Written) (spot : Spot) (rest : Option Spot) → SpotIn known spot.file → SpotIn known (file_in rest) → SpotIn known (file_in (cond b (Some spot) rest))
found-if true known spot rest here later = here
found-if false known spot rest here later = later

file-in : (known : Written) (at : List (List ℕ)) (spots : List Spot) → InSpots known spots → SpotIn known (file_at at spots)
file-in known at [] all = tt
file-in known at (spot ∷ spots) all = found-if (is_path spot.path at) known spot (spot_at at spots) all.0 (file-in known at spots all.1)

abbrev pub HeldIn : Written → Option HeldFile → Type 0
HeldIn known None = Unit {0}
HeldIn known (Some file) = FileIn known file.file

held-if : (b : Bool) (known : Written) (file : HeldFile) (rest : Option HeldFile) → FileIn known file.file → HeldIn known rest → HeldIn known (cond b (Some file) rest)
held-if true known file rest here later = here
held-if false known file rest here later = later

pub held-in : (known : Written) (number : ℕ) (held : List HeldFile) → InHeld known held → HeldIn known (held_at number held)
held-in known number [] all = tt
held-in known number (file ∷ held) all = held-if (nat_eq file.number number) known file (held_at number held) all.0 (held-in known number held all.1)

-- ---- each edit and operation
by_write : (place : Bool) (known : Written) (at : ℕ) (bytes : List ℕ) (done local : Local) → AllByRecursion (Contains known) (cond place ((at, bytes) ∷ []) []) → Stems known local
    → (Contains known (at, bytes) → Stems known done) → Stems known (cond place done local)
by_write true known at bytes done local wrote is then = then wrote.0
by_write false known at bytes done local wrote is then = is

by_place : (place : Bool) (known : Written) (done local : Local) → Stems known local → Stems known done → Stems known (cond place done local)
by_place true known done local is then = then
by_place false known done local is then = is

by_refusal : (refusal : Option TreeFault) (known : Written) (done local : Local) → Stems known local → Stems known done → Stems known (cond (is_none refusal) done local)
by_refusal None known done local is then = then
by_refusal (Some fault) known done local is then = is

aside : (known : Written) (at : List (List ℕ)) (local : Local) (found : Option LocalFile) → SpotIn known found → Stems known local → Stems known (set_aside at local found)
aside known at local None here is = is
aside known at local (Some file) here is =
    let last : HeldFile = record { number = greatest_number local.held + 1; from = at; file = file } in
    let after : Local = record { spots = without_spot at local.spots; held = local.held ++ last ∷ [] } in
    let done : Stems known after = record {
      spots = without-in known at local.spots is.spots;
      held = each-append (λ (f : HeldFile). FileIn known f.file) local.held (last ∷ []) is.held (here, tt);
    } in
    elim (nat_eq (greatest_number local.held) (2 ^ 64 - 1)) as (λ b. Stems known (cond b local after)) [ true ↦ is | false ↦ done ]

back : (known : Written) (to : List (List ℕ)) (local : Local) (found : Option HeldFile) → HeldIn known found → Stems known local → Stems known (put_back to local found)
back known to local None here is = is
back known to local (Some file) here is = record {
  spots = one-more known local.spots (record { path = to; file = Some file.file }) is.spots here;
  held = without-held-in known file.number local.held is.held;
}

done-stems : (known : Written) (local : Local) (call : TreeOp) → Stems known local → Stems known (after_done_op local call)
done-stems known local (op.List at) is = is
done-stems known local (op.Read at) is = is
done-stems known local (op.MakeDir at) is = record { spots = one-more known local.spots (record { path = at; file = None }) is.spots tt; held = is.held }
done-stems known local (op.RemoveDir at) is = record { spots = without-in known at local.spots is.spots; held = is.held }
done-stems known local (op.Place at bytes) is =
    record { spots = one-more known local.spots (record { path = at; file = Some (record { bytes = bytes; origin = None }) }) is.spots tt; held = is.held }
done-stems known local (op.Rename from to) is = record { spots = moved-in known from to local.spots is.spots; held = is.held }
done-stems known local (op.SetAside at) is = aside known at local (file_at at local.spots) (file-in known at local.spots is.spots) is
done-stems known local (op.ReadAside number) is = is
done-stems known local (op.PutBack number to) is = back known to local (held_at number local.held) (held-in known number local.held is.held) is
done-stems known local (op.Discard number) is = record { spots = is.spots; held = without-held-in known number local.held is.held }
done-stems known local op.Asides is = is

stepped : (known : Written) (at : ℕ) (local : Local) (step : LocalStep) → AllByRecursion (Contains known) (write_by at local step) → Stems known local → Stems known (after_step at local step)
stepped known at local (User (Write path bytes)) wrote is =
    by_write (has_place local (Write path bytes)) known at bytes (after_placed_edit at local (Write path bytes)) local wrote is
    (λ here. record {
      spots = one-more known (without_spot path local.spots) (record { path = path; file = Some (record { bytes = bytes; origin = Some at }) }) (without-in known path local.spots is.spots) here;
      held = is.held;
    })
stepped known at local (User (Remove path)) wrote is =
    by_place (has_place local (Remove path)) known (after_placed_edit at local (Remove path)) local is
    (record { spots = all-kept (λ (s : Spot). SpotIn known s.file) (λ (s : Spot). not (is_from path s.path)) local.spots is.spots; held = is.held })
stepped known at local (User (Move from to)) wrote is =
    by_place (has_place local (Move from to)) known (after_placed_edit at local (Move from to)) local is
    (record { spots = moved-in known from to (without_spot to local.spots) (without-in known to local.spots is.spots); held = is.held })
stepped known at local (User (MakeFolder path)) wrote is =
    by_place (has_place local (MakeFolder path)) known (after_placed_edit at local (MakeFolder path)) local is
    (record { spots = one-more known local.spots (record { path = path; file = None }) is.spots tt; held = is.held })
stepped known at local (Op call) wrote is = by_refusal (op_refusal local call) known (after_done_op local call) local is (done-stems known local call is)

-- ---- the log
all-stepped : (known : Written) (at : ℕ) (local : Local) (steps : List LocalStep) → AllByRecursion (Contains known) (writes_after at local steps) → Stems known local → Stems known (after_steps at local steps)
all-stepped known at local [] wrote is = is
all-stepped known at local (step ∷ steps) wrote is =
    let after : Local = after_step at local step in
    all-stepped known (at + 1) after steps (each-second (Contains known) (write_by at local step) (writes_after (at + 1) after steps) wrote)
    (stepped known at local step (each-first (Contains known) (write_by at local step) (writes_after (at + 1) after steps) wrote) is)

pub stems : (log : List LocalStep) → Stems (writes log) (local_of log)
stems log = all-stepped (writes log) 0 empty_folder log (each (Contains (writes log)) (writes log) (All-contains_itself (writes log))) (record { spots = tt; held = tt })

-- ---- a step writes once
abbrev IsWriteAt : ℕ → List ℕ → ℕ × List ℕ → Type 0
IsWriteAt at bytes write = (at, bytes) ≡ write

at-most-one : (place : Bool) (at : ℕ) (bytes : List ℕ) (write : ℕ × List ℕ) → Contains (cond place ((at, bytes) ∷ []) []) write → IsWriteAt at bytes write
at-most-one true at bytes write there = ⊎_elim (λ (none : Contains [] write). absurd (omega (arith, none.1))) (λ same. same) (Contains-push_cases [] (at, bytes) write there)
at-most-one false at bytes write there = absurd (omega (arith, there.1))

-- the bytes that a step writes, if any
abbrev bytes_written : LocalStep → List ℕ
bytes_written (User (Write path bytes)) = bytes
bytes_written step = []

one-write : (at : ℕ) (local : Local) (step : LocalStep) (write : ℕ × List ℕ) → Contains (write_by at local step) write → IsWriteAt at (bytes_written step) write
one-write at local (User (Write path bytes)) write there = at-most-one (has_place local (Write path bytes)) at bytes write there
one-write at local (User (Remove path)) write there = absurd (omega (arith, there.1))
one-write at local (User (Move from to)) write there = absurd (omega (arith, there.1))
one-write at local (User (MakeFolder path)) write there = absurd (omega (arith, there.1))
one-write at local (Op call) write there = absurd (omega (arith, there.1))

write-number : (place : Bool) (at : ℕ) (bytes : List ℕ) → AllByRecursion (λ (write : ℕ × List ℕ). at ≤ write.0) (cond place ((at, bytes) ∷ []) [])
write-number true at bytes = (omega arith, tt)
write-number false at bytes = tt

step-number : (at : ℕ) (local : Local) (step : LocalStep) → AllByRecursion (λ (write : ℕ × List ℕ). at ≤ write.0) (write_by at local step)
step-number at local (User (Write path bytes)) = write-number (has_place local (Write path bytes)) at bytes
step-number at local (User (Remove path)) = tt
step-number at local (User (Move from to)) = tt
step-number at local (User (MakeFolder path)) = tt
step-number at local (Op call) = tt

later-number : (at : ℕ) (local : Local) (log : List LocalStep) → AllByRecursion (λ (write : ℕ × List ℕ). at ≤ write.0) (writes_after at local log)
later-number at local [] = tt
later-number at local (step ∷ log) =
    let after : Local = after_step at local step in
    each-append (λ (write : ℕ × List ℕ). at ≤ write.0) (write_by at local step) (writes_after (at + 1) after log) (step-number at local step)
    (each-so (λ (write : ℕ × List ℕ). at + 1 ≤ write.0) (λ (write : ℕ × List ℕ). at ≤ write.0) (λ write low. omega (arith, low)) (writes_after (at + 1) after log) (later-number (at + 1) after log))

once-after : (at : ℕ) (local : Local) (log : List LocalStep) (step : ℕ) (a b : List ℕ) → Contains (writes_after at local log) (step, a) → Contains (writes_after at local log) (step, b) → a ≡ b
once-after at local [] step a b first second = absurd (omega (arith, first.1))
once-after at local (head ∷ log) step a b first second =
    let after : Local = after_step at local head in
    let here : List (ℕ × List ℕ) = write_by at local head in
    let later : List (ℕ × List ℕ) = writes_after (at + 1) after log in
    let above : (write : ℕ × List ℕ) → Contains later write → at + 1 ≤ write.0 = λ write there. of-each (λ (write : ℕ × List ℕ). at + 1 ≤ write.0) later write (later-number (at + 1) after log) there in
    let clash : (c d : List ℕ) → Contains here (step, c) → Contains later (step, d) → a ≡ b = λ c d now then.
    absurd (let is : at ≡ step = ap (λ (write : ℕ × List ℕ). write.0) (one-write at local head (step, c) now) in omega (arith, is, above (step, d) then)) in
    ⊎_elim
    (λ now. ⊎_elim (λ again. ap (λ (write : ℕ × List ℕ). write.1) (sym (one-write at local head (step, a) now) ∙ one-write at local head (step, b) again)) (λ then. clash a b now then)
    (Contains-append_cases here later (step, b) second))
    (λ then. ⊎_elim (λ now. clash b a now then) (λ again. once-after (at + 1) after log step a b then again) (Contains-append_cases here later (step, b) second))
    (Contains-append_cases here later (step, a) first)

pub written-once : (log : List LocalStep) (step : ℕ) (a b : List ℕ) → Contains (writes log) (step, a) → Contains (writes log) (step, b) → a ≡ b
written-once log step a b first second = once-after 0 empty_folder log step a b first second
