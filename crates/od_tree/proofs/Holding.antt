-- The held files of every log: they stand in order of number, none came from the root, and no number is greater than the log is
-- long.
use Rattle.std.proofs.Common.{◌≡◌, ℕ, ◌+◌, ◌-◌, ◌^◌, ◌<◌, ◌≤◌, max, Bool, true, false, cond, nat_eq, is_none, List, [], ◌∷◌, ◌++◌, length, Option, Some, None, refl, ap, sym, subst, ◌∙◌, arith}
use Rattle.std.specs.List.{AllByRecursion}
use Rattle.gd_names.proofs.Each.{each-append}
use Rattle.od_tree.specs.Holding.{ByNumber, NotFromRoot, asides_of}
use Rattle.od_tree.specs.Local.{Local, empty_folder, spot_at, file_in, file_at, held_at, greatest_number, without_spot, without_held, has_place, after_placed_edit, set_aside, put_back, op_refusal, after_done_op, after_step, after_steps, local_of}
use Rattle.od_tree.specs.declared.aside.Aside.{Aside}
use Rattle.od_tree.specs.declared.fault.TreeFault.{TreeFault}
use Rattle.od_tree.specs.declared.local.HeldFile.{HeldFile}
use Rattle.od_tree.specs.declared.local.LocalFile.{LocalFile}
use Rattle.od_tree.specs.declared.local.Spot.{Spot}
use Rattle.od_tree.specs.declared.step.LocalStep.{LocalStep}
use Rattle.od_tree.specs.declared.step.LocalStep.TheVariants.{User, Op}
use Rattle.od_tree.specs.declared.step.TreeOp.{TreeOp}
use Rattle.od_tree.specs.declared.step.TreeOp.TheVariants as op
use Rattle.od_tree.proofs.Contained.{all-cut}
use Rattle.od_tree.proofs.Entries.{found-in}
use Rattle.od_tree.proofs.Shaped.{Standing, nothing-stands, stepped}
use Rattle.od_tree.proofs.Steps.{placed-held}

-- of so many steps
pub record Holds (steps : ℕ) (held : List HeldFile) : Type 0 where
  pub low : greatest_number held ≤ steps
  pub numbers : ByNumber held
  pub from : AllByRecursion (λ (file : HeldFile). 0 < length file.from) held

-- ---- without one
each-without : (P : HeldFile → Type 0) (number : ℕ) (held : List HeldFile) → AllByRecursion P held → AllByRecursion P (without_held number held)
each-without P number [] all = tt
each-without P number (file ∷ held) all = all-cut (nat_eq file.number number) P file held (without_held number held) all.0 all.1 (each-without P number held all.1)

cut-low : (b : Bool) (file : HeldFile) (held rest : List HeldFile) → greatest_number rest ≤ greatest_number held → greatest_number (cond b held (file ∷ rest)) ≤ max file.number (greatest_number held)
cut-low true file held rest low = omega arith
cut-low false file held rest low = omega arith

without-low : (number : ℕ) (held : List HeldFile) → greatest_number (without_held number held) ≤ greatest_number held
without-low number [] = omega arith
without-low number (file ∷ held) = cut-low (nat_eq file.number number) file held (without_held number held) (without-low number held)

cut-numbers : (b : Bool) (file : HeldFile) (held rest : List HeldFile) → ByNumber held → AllByRecursion (λ (other : HeldFile). file.number < other.number) rest → ByNumber rest → ByNumber (cond b held (file ∷ rest))
cut-numbers true file held rest numbers above left = numbers
cut-numbers false file held rest numbers above left = (above, left)

without-numbers : (number : ℕ) (held : List HeldFile) → ByNumber held → ByNumber (without_held number held)
without-numbers number [] numbers = tt
without-numbers number (file ∷ held) numbers =
    cut-numbers (nat_eq file.number number) file held (without_held number held) numbers.1 (each-without (λ (other : HeldFile). file.number < other.number) number held numbers.0)
    (without-numbers number held numbers.1)

without-one : (steps number : ℕ) (held : List HeldFile) → Holds steps held → Holds steps (without_held number held)
without-one steps number held is =
    let low = without-low number held in
    let most = is.low in
    record {
      low = omega arith;
      numbers = without-numbers number held is.numbers;
      from = each-without (λ (file : HeldFile). 0 < length file.from) number held is.from;
    }

-- ---- one more, last
last-greatest : (held : List HeldFile) (last : HeldFile) → greatest_number held ≤ last.number → greatest_number (held ++ last ∷ []) ≡ last.number
last-greatest [] last low = omega arith
last-greatest (file ∷ held) last low =
    let rest : greatest_number held ≤ last.number = omega arith in
    let more = last-greatest held last rest in
    omega arith

last-numbers : (held : List HeldFile) (last : HeldFile) → ByNumber held → greatest_number held < last.number → ByNumber (held ++ last ∷ [])
last-numbers [] last numbers low = (tt, tt)
last-numbers (file ∷ held) last numbers low =
    let here : file.number < last.number = omega arith in
    (each-append (λ (other : HeldFile). file.number < other.number) held (last ∷ []) numbers.0 (here, tt), last-numbers held last numbers.1 (omega arith))

one-last : (steps : ℕ) (held : List HeldFile) (at : List (List ℕ)) (file : LocalFile) → 0 < length at → Holds steps held
    → Holds (steps + 1) (held ++ record { number = greatest_number held + 1; from = at; file = file } ∷ [])
one-last steps held at file some is =
    let last : HeldFile = record { number = greatest_number held + 1; from = at; file = file } in
    let greatest = last-greatest held last (omega arith) in
    let most = is.low in
    record {
      low = omega arith;
      numbers = last-numbers held last is.numbers (omega arith);
      from = each-append (λ (f : HeldFile). 0 < length f.from) held (last ∷ []) is.from (some, tt);
    }

-- ---- each step
later : (steps : ℕ) (held : List HeldFile) → Holds steps held → Holds (steps + 1) held
later steps held is = let most = is.low in record { low = omega arith; numbers = is.numbers; from = is.from }

rootless : (spots : List Spot) → Standing spots → (found : Option Spot) → spot_at [] spots ≡ found → (file : LocalFile) → file_in found ≡ Some file → ⊥
rootless spots standing None found file is = cc
rootless spots standing (Some spot) found file is = let there = found-in [] spots spot found in standing.named spot there.0 there.1

not-root : (at : List (List ℕ)) (spots : List Spot) → Standing spots → (file : LocalFile) → file_at at spots ≡ Some file → 0 < length at
not-root [] spots standing file is = absurd (rootless spots standing (spot_at [] spots) refl file is)
not-root (name ∷ at) spots standing file is = omega arith

aside : (steps : ℕ) (at : List (List ℕ)) (local : Local) (found : Option LocalFile) → file_at at local.spots ≡ found → Standing local.spots → Holds steps local.held → Holds (steps + 1) (set_aside at local found).held
aside steps at local None same standing is = later steps local.held is
aside steps at local (Some file) same standing is =
    let after : Local = record { spots = without_spot at local.spots; held = local.held ++ record { number = greatest_number local.held + 1; from = at; file = file } ∷ [] } in
    elim (nat_eq (greatest_number local.held) (2 ^ 64 - 1)) as (λ b. Holds (steps + 1) (cond b local after).held)
    [ true ↦ later steps local.held is | false ↦ one-last steps local.held at file (not-root at local.spots standing file same) is ]

back : (steps : ℕ) (to : List (List ℕ)) (local : Local) (found : Option HeldFile) → Holds steps local.held → Holds (steps + 1) (put_back to local found).held
back steps to local None is = later steps local.held is
back steps to local (Some file) is = later steps (without_held file.number local.held) (without-one steps file.number local.held is)

by_refusal : (refusal : Option TreeFault) (steps : ℕ) (done local : Local) → Holds (steps + 1) local.held → Holds (steps + 1) done.held → Holds (steps + 1) (cond (is_none refusal) done local).held
by_refusal None steps done local is then = then
by_refusal (Some fault) steps done local is then = is

done-op : (steps : ℕ) (local : Local) (call : TreeOp) → Standing local.spots → Holds steps local.held → Holds (steps + 1) (after_done_op local call).held
done-op steps local (op.List at) standing is = later steps local.held is
done-op steps local (op.Read at) standing is = later steps local.held is
done-op steps local (op.MakeDir at) standing is = later steps local.held is
done-op steps local (op.RemoveDir at) standing is = later steps local.held is
done-op steps local (op.Place at bytes) standing is = later steps local.held is
done-op steps local (op.Rename from to) standing is = later steps local.held is
done-op steps local (op.SetAside at) standing is = aside steps at local (file_at at local.spots) refl standing is
done-op steps local (op.ReadAside number) standing is = later steps local.held is
done-op steps local (op.PutBack number to) standing is = back steps to local (held_at number local.held) is
done-op steps local (op.Discard number) standing is = later steps (without_held number local.held) (without-one steps number local.held is)
done-op steps local op.Asides standing is = later steps local.held is

edited : (place : Bool) (steps : ℕ) (done local : Local) → done.held ≡ local.held → Holds (steps + 1) local.held → Holds (steps + 1) (cond place done local).held
edited true steps done local same is = subst (λ held. Holds (steps + 1) held) (sym same) is
edited false steps done local same is = is

step-holds : (step steps : ℕ) (local : Local) (first : LocalStep) → Standing local.spots → Holds steps local.held → Holds (steps + 1) (after_step step local first).held
step-holds step steps local (User edit) standing is =
    edited (has_place local edit) steps (after_placed_edit step local edit) local (ap (λ (l : Local). l.held) (placed-held step local edit)) (later steps local.held is)
step-holds step steps local (Op call) standing is =
    by_refusal (op_refusal local call) steps (after_done_op local call) local (later steps local.held is) (done-op steps local call standing is)

-- ---- the log
all-hold : (step steps : ℕ) (local : Local) (log : List LocalStep) → Standing local.spots → Holds steps local.held → Holds (steps + length log) (after_steps step local log).held
all-hold step steps local [] standing is = let e : steps ≡ steps + 0 = omega arith in subst (λ n. Holds n local.held) e is
all-hold step steps local (first ∷ log) standing is =
    let e : steps + 1 + length log ≡ steps + length (first ∷ log) = omega arith in
    let after : Local = after_step step local first in
    subst (λ n. Holds n (after_steps (step + 1) after log).held) e (all-hold (step + 1) (steps + 1) after log (stepped step local first standing) (step-holds step steps local first standing is))

pub folder_holds : (log : List LocalStep) → Holds (length log) (local_of log).held
folder_holds log =
    let e : 0 + length log ≡ length log = omega arith in
    subst (λ n. Holds n (local_of log).held) e (all-hold 0 0 empty_folder log nothing-stands (record { low = omega arith; numbers = tt; from = tt }))

pub by_number : (log : List LocalStep) → ByNumber (local_of log).held
by_number log = (folder_holds log).numbers

-- ---- what is listed of them, and the next number
asides-from : (held : List HeldFile) → AllByRecursion (λ (file : HeldFile). 0 < length file.from) held → NotFromRoot (asides_of held)
asides-from [] all = tt
asides-from (file ∷ held) all = (all.0, asides-from held all.1)

-- `slice` is the list of held files
pub not_from_root : (log : List LocalStep) (slice : List HeldFile) (asides : List Aside) → slice ≡ (local_of log).held → asides ≡ asides_of slice → NotFromRoot asides
not_from_root log slice asides same is = subst NotFromRoot (sym (is ∙ ap asides_of same)) (asides-from (local_of log).held (folder_holds log).from)

pub number_is_low : (log steps : List LocalStep) (spots : List Spot) (held slice : List HeldFile) → local_of log ≡ record { spots = spots; held = held } → steps ≡ log → slice ≡ held
    → greatest_number slice ≤ length steps
number_is_low log steps spots held slice is same_steps same =
    let low : greatest_number (local_of log).held ≤ length log = (folder_holds log).low in
    let greatest : greatest_number (local_of log).held ≡ greatest_number slice = ap (λ (local : Local). greatest_number local.held) is ∙ ap greatest_number (sym same) in
    let long : length steps ≡ length log = ap (λ (xs : List LocalStep). length xs) same_steps in
    omega arith
