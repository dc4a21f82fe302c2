-- The bytes of each file in the folder and in holding were written by the user or placed by the client.
use Rattle.std.proofs.Common.{◌≡◌, ⊎_elim, ℕ, ◌+◌, ◌-◌, ◌^◌, Bool, true, false, not, cond, nat_eq, is_none, map, filter, List, [], ◌∷◌, ◌++◌, Option, Some, None, refl, ap, sym, subst, ◌∙◌, arith}
use Rattle.std.proofs.lemmas.Grind.{flat_map-append}
use Rattle.std.proofs.lemmas.List.{append_assoc, map-append}
use Rattle.std.proofs.lemmas.List.Elements.{Contains-append_left, Contains-append_right, Contains-append_cases, All-contains_itself, All-weaker, recursion_from_All}
use Rattle.std.specs.List.{AllByRecursion, Contains, flat_map}
use Rattle.gd_names.proofs.Each.{each-append, each-first, each-second}
use Rattle.gd_item.specs.declared.live.Version.{Version}
use Rattle.od_tree.specs.Collisions.{placed_by, contents}
use Rattle.od_tree.specs.Local.{Local, empty_folder, is_path, is_from, spot_at, file_in, file_at, held_at, greatest_number, without_spot, moved_from, without_held, has_place, after_placed_edit, set_aside, put_back, op_refusal, after_done_op, after_op, after_step, after_steps, local_of}
use Rattle.od_tree.specs.Loss.{write_by, writes_after, writes}
use Rattle.od_tree.specs.Shape.{IsOneOf}
use Rattle.od_tree.specs.declared.edit.UserEdit.TheVariants.{Write, Remove, Move, MakeFolder}
use Rattle.od_tree.specs.declared.fault.TreeFault.{TreeFault}
use Rattle.od_tree.specs.declared.local.HeldFile.{HeldFile}
use Rattle.od_tree.specs.declared.local.LocalFile.{LocalFile}
use Rattle.od_tree.specs.declared.local.Spot.{Spot}
use Rattle.od_tree.specs.declared.step.LocalStep.{LocalStep}
use Rattle.od_tree.specs.declared.step.LocalStep.TheVariants.{User, Op}
use Rattle.od_tree.specs.declared.step.TreeOp.{TreeOp}
use Rattle.od_tree.specs.declared.step.TreeOp.TheVariants as op

abbrev InSpots : List (List ℕ) → List Spot → Type 0
InSpots known spots = AllByRecursion (λ (spot : Spot). IsOneOf known spot.file) spots

abbrev InHeld : List (List ℕ) → List HeldFile → Type 0
InHeld known held = AllByRecursion (λ (file : HeldFile). Contains known file.file.bytes) held

record Known (known : List (List ℕ)) (local : Local) : Type 0 where
  pub spots : InSpots known local.spots
  pub held : InHeld known local.held

-- ---- lists
module _ {X : Type 0} where
  pub all-cut : (b : Bool) (Q : X → Type 0) (x : X) (xs rest : List X) → Q x → AllByRecursion Q xs → AllByRecursion Q rest → AllByRecursion Q (cond b xs (x ∷ rest))
  all-cut true Q x xs rest here all left = all
  all-cut false Q x xs rest here all left = (here, left)

  pub all-kept-if : (b : Bool) (Q : X → Type 0) (x : X) (rest : List X) → Q x → AllByRecursion Q rest → AllByRecursion Q (cond b (x ∷ rest) rest)
  all-kept-if true Q x rest here left = (here, left)
  all-kept-if false Q x rest here left = left

  pub all-kept : (Q : X → Type 0) (test : X → Bool) (xs : List X) → AllByRecursion Q xs → AllByRecursion Q (filter test xs)
  all-kept Q test [] all = tt
  all-kept Q test (x ∷ xs) all = all-kept-if (test x) Q x (filter test xs) all.0 (all-kept Q test xs all.1)

without-known : (known : List (List ℕ)) (at : List (List ℕ)) (spots : List Spot) → InSpots known spots → InSpots known (without_spot at spots)
without-known known at [] all = tt
without-known known at (spot ∷ spots) all =
    all-cut (is_path spot.path at) (λ (s : Spot). IsOneOf known s.file) spot spots (without_spot at spots) all.0 all.1 (without-known known at spots all.1)

without-held-known : (known : List (List ℕ)) (number : ℕ) (held : List HeldFile) → InHeld known held → InHeld known (without_held number held)
without-held-known known number [] all = tt
without-held-known known number (file ∷ held) all =
    all-cut (nat_eq file.number number) (λ (f : HeldFile). Contains known f.file.bytes) file held (without_held number held) all.0 all.1 (without-held-known known number held all.1)

moved-known : (known : List (List ℕ)) (from to : List (List ℕ)) (spots : List Spot) → InSpots known spots → InSpots known (moved_from from to spots)
moved-known known from to [] all = tt
moved-known known from to (spot ∷ spots) all = (all.0, moved-known known from to spots all.1)

one-more : (known : List (List ℕ)) (spots : List Spot) (last : Spot) → InSpots known spots → IsOneOf known last.file → InSpots known (spots ++ last ∷ [])
one-more known spots last all here = each-append (λ (s : Spot). IsOneOf known s.file) spots (last ∷ []) all (here, tt)

-- ---- what is found
found-if : (b : Bool) (known : List (List ℕ)) (spot : Spot) (rest : Option Spot) → IsOneOf known spot.file → IsOneOf known (file_in rest) → IsOneOf known (file_in (cond b (Some spot) rest))
found-if true known spot rest here later = here
found-if false known spot rest here later = later

file-known : (known : List (List ℕ)) (at : List (List ℕ)) (spots : List Spot) → InSpots known spots → IsOneOf known (file_at at spots)
file-known known at [] all = tt
file-known known at (spot ∷ spots) all = found-if (is_path spot.path at) known spot (spot_at at spots) all.0 (file-known known at spots all.1)

abbrev HeldIn : List (List ℕ) → Option HeldFile → Type 0
HeldIn known None = Unit {0}
HeldIn known (Some file) = Contains known file.file.bytes

held-if : (b : Bool) (known : List (List ℕ)) (file : HeldFile) (rest : Option HeldFile) → Contains known file.file.bytes → HeldIn known rest → HeldIn known (cond b (Some file) rest)
held-if true known file rest here later = here
held-if false known file rest here later = later

held-known : (known : List (List ℕ)) (number : ℕ) (held : List HeldFile) → InHeld known held → HeldIn known (held_at number held)
held-known known number [] all = tt
held-known known number (file ∷ held) all = held-if (nat_eq file.number number) known file (held_at number held) all.0 (held-known known number held all.1)

-- ---- each edit of the user
abbrev WriteIn : List (List ℕ) → ℕ × List ℕ → Type 0
WriteIn known write = Contains known write.1

by_write : (place : Bool) (known : List (List ℕ)) (at : ℕ) (bytes : List ℕ) (done local : Local) → AllByRecursion (WriteIn known) (cond place ((at, bytes) ∷ []) []) → Known known local
    → (Contains known bytes → Known known done) → Known known (cond place done local)
by_write true known at bytes done local wrote is then = then wrote.0
by_write false known at bytes done local wrote is then = is

by_place : (place : Bool) (known : List (List ℕ)) (done local : Local) → Known known local → Known known done → Known known (cond place done local)
by_place true known done local is then = then
by_place false known done local is then = is

by_refusal : (refusal : Option TreeFault) (known : List (List ℕ)) (done local : Local) → Known known local → Known known done → Known known (cond (is_none refusal) done local)
by_refusal None known done local is then = then
by_refusal (Some fault) known done local is then = is

-- ---- each operation
aside : (known : List (List ℕ)) (at : List (List ℕ)) (local : Local) (found : Option LocalFile) → IsOneOf known found → Known known local → Known known (set_aside at local found)
aside known at local None here is = is
aside known at local (Some file) here is =
    let last : HeldFile = record { number = greatest_number local.held + 1; from = at; file = file } in
    let after : Local = record { spots = without_spot at local.spots; held = local.held ++ last ∷ [] } in
    let done : Known known after = record {
      spots = without-known known at local.spots is.spots;
      held = each-append (λ (f : HeldFile). Contains known f.file.bytes) local.held (last ∷ []) is.held (here, tt);
    } in
    elim (nat_eq (greatest_number local.held) (2 ^ 64 - 1)) as (λ b. Known known (cond b local after)) [ true ↦ is | false ↦ done ]

back : (known : List (List ℕ)) (to : List (List ℕ)) (local : Local) (found : Option HeldFile) → HeldIn known found → Known known local → Known known (put_back to local found)
back known to local None here is = is
back known to local (Some file) here is = record {
  spots = one-more known local.spots (record { path = to; file = Some file.file }) is.spots here;
  held = without-held-known known file.number local.held is.held;
}

operated : (known : List (List ℕ)) (local : Local) (call : TreeOp) → AllByRecursion (Contains known) (placed_by (Op call)) → Known known local → Known known (after_op local call)
operated known local (op.List at) put is = by_refusal (op_refusal local (op.List at)) known local local is is
operated known local (op.Read at) put is = by_refusal (op_refusal local (op.Read at)) known local local is is
operated known local (op.MakeDir at) put is =
    by_refusal (op_refusal local (op.MakeDir at)) known (after_done_op local (op.MakeDir at)) local is
    (record { spots = one-more known local.spots (record { path = at; file = None }) is.spots tt; held = is.held })
operated known local (op.RemoveDir at) put is =
    by_refusal (op_refusal local (op.RemoveDir at)) known (after_done_op local (op.RemoveDir at)) local is (record { spots = without-known known at local.spots is.spots; held = is.held })
operated known local (op.Place at bytes) put is =
    by_refusal (op_refusal local (op.Place at bytes)) known (after_done_op local (op.Place at bytes)) local is
    (record { spots = one-more known local.spots (record { path = at; file = Some (record { bytes = bytes; origin = None }) }) is.spots put.0; held = is.held })
operated known local (op.Rename from to) put is =
    by_refusal (op_refusal local (op.Rename from to)) known (after_done_op local (op.Rename from to)) local is (record { spots = moved-known known from to local.spots is.spots; held = is.held })
operated known local (op.SetAside at) put is =
    by_refusal (op_refusal local (op.SetAside at)) known (after_done_op local (op.SetAside at)) local is (aside known at local (file_at at local.spots) (file-known known at local.spots is.spots) is)
operated known local (op.ReadAside number) put is = by_refusal (op_refusal local (op.ReadAside number)) known local local is is
operated known local (op.PutBack number to) put is =
    by_refusal (op_refusal local (op.PutBack number to)) known (after_done_op local (op.PutBack number to)) local is
    (back known to local (held_at number local.held) (held-known known number local.held is.held) is)
operated known local (op.Discard number) put is =
    by_refusal (op_refusal local (op.Discard number)) known (after_done_op local (op.Discard number)) local is
    (record { spots = is.spots; held = without-held-known known number local.held is.held })
operated known local op.Asides put is = is

-- ---- the log
stepped : (known : List (List ℕ)) (at : ℕ) (local : Local) (step : LocalStep) → AllByRecursion (WriteIn known) (write_by at local step) → AllByRecursion (Contains known) (placed_by step)
    → Known known local → Known known (after_step at local step)
stepped known at local (User (Write path bytes)) wrote put is =
    by_write (has_place local (Write path bytes)) known at bytes (after_placed_edit at local (Write path bytes)) local wrote is
    (λ here. record {
      spots = one-more known (without_spot path local.spots) (record { path = path; file = Some (record { bytes = bytes; origin = Some at }) }) (without-known known path local.spots is.spots) here;
      held = is.held;
    })
stepped known at local (User (Remove path)) wrote put is =
    by_place (has_place local (Remove path)) known (after_placed_edit at local (Remove path)) local is
    (record { spots = all-kept (λ (s : Spot). IsOneOf known s.file) (λ (s : Spot). not (is_from path s.path)) local.spots is.spots; held = is.held })
stepped known at local (User (Move from to)) wrote put is =
    by_place (has_place local (Move from to)) known (after_placed_edit at local (Move from to)) local is
    (record { spots = moved-known known from to (without_spot to local.spots) (without-known known to local.spots is.spots); held = is.held })
stepped known at local (User (MakeFolder path)) wrote put is =
    by_place (has_place local (MakeFolder path)) known (after_placed_edit at local (MakeFolder path)) local is
    (record { spots = one-more known local.spots (record { path = path; file = None }) is.spots tt; held = is.held })
stepped known at local (Op call) wrote put is = operated known local call put is

all-stepped : (known : List (List ℕ)) (at : ℕ) (local : Local) (steps : List LocalStep) → AllByRecursion (WriteIn known) (writes_after at local steps) → AllByRecursion (Contains known) (flat_map placed_by steps)
    → Known known local → Known known (after_steps at local steps)
all-stepped known at local [] wrote put is = is
all-stepped known at local (step ∷ steps) wrote put is =
    let after : Local = after_step at local step in
    all-stepped known (at + 1) after steps (each-second (WriteIn known) (write_by at local step) (writes_after (at + 1) after steps) wrote)
    (each-second (Contains known) (placed_by step) (flat_map placed_by steps) put)
    (stepped known at local step (each-first (WriteIn known) (write_by at local step) (writes_after (at + 1) after steps) wrote) (each-first (Contains known) (placed_by step) (flat_map placed_by steps) put) is)

-- ---- the contents
abbrev bytes_of : List (ℕ × List ℕ) → List (List ℕ)
bytes_of some = map (λ (write : ℕ × List ℕ). write.1) some

abbrev accepted : List Version → List (List ℕ)
accepted versions = map (λ (version : Version). version.bytes) versions

writes-in : (known : List (List ℕ)) (some : List (ℕ × List ℕ)) → ((bytes : List ℕ) → Contains (bytes_of some) bytes → Contains known bytes) → AllByRecursion (WriteIn known) some
writes-in known [] told = tt
writes-in known (write ∷ some) told =
    (told write.1 (0, omega arith, refl), writes-in known some (λ bytes is. told bytes (Contains-append_right (write.1 ∷ []) (bytes_of some) bytes is)))

pub contents_known : (log : List LocalStep) (versions : List Version) → AllByRecursion (λ (spot : Spot). IsOneOf (contents log versions) spot.file) (local_of log).spots
contents_known log versions =
    let known : List (List ℕ) = contents log versions in
    let wrote : List (List ℕ) = bytes_of (writes log) in
    let put : List (List ℕ) = flat_map placed_by log in
    let all = all-stepped known 0 empty_folder log
    (writes-in known (writes log) (λ bytes is. Contains-append_left (wrote ++ put) (accepted versions) bytes (Contains-append_left wrote put bytes is)))
    (recursion_from_All (Contains known) put
    (All-weaker (Contains put) (Contains known) (λ bytes is. Contains-append_left (wrote ++ put) (accepted versions) bytes (Contains-append_right wrote put bytes is)) put (All-contains_itself put)))
    (record { spots = tt; held = tt }) in
    all.spots

more-writes : (at : ℕ) (local : Local) (log more : List LocalStep) → (rest : List (ℕ × List ℕ)) × (writes_after at local (log ++ more) ≡ writes_after at local log ++ rest)
more-writes at local [] more = (writes_after at local more, refl)
more-writes at local (first ∷ log) more =
    let after : Local = after_step at local first in
    let next = more-writes (at + 1) after log more in
    (next.0, ap (λ xs. write_by at local first ++ xs) next.1 ∙ sym (append_assoc (write_by at local first) (writes_after (at + 1) after log) next.0))

in-longer : (xs ys longer : List (List ℕ)) → longer ≡ xs ++ ys → (bytes : List ℕ) → Contains xs bytes → Contains longer bytes
in-longer xs ys longer same bytes is = subst (λ (all : List (List ℕ)). Contains all bytes) (sym same) (Contains-append_left xs ys bytes is)

in-each : (a b c d e f : List (List ℕ)) (bytes : List ℕ) → (Contains a bytes → Contains d bytes) → (Contains b bytes → Contains e bytes) → (Contains c bytes → Contains f bytes) → Contains (a ++ b ++ c) bytes
    → Contains (d ++ e ++ f) bytes
in-each a b c d e f bytes first second third is =
    ⊎_elim
    (λ front.
    Contains-append_left (d ++ e) f bytes
    (⊎_elim (λ one. Contains-append_left d e bytes (first one)) (λ two. Contains-append_right d e bytes (second two)) (Contains-append_cases a b bytes front)))
    (λ last. Contains-append_right (d ++ e) f bytes (third last)) (Contains-append_cases (a ++ b) c bytes is)

pub more_contents : (log more : List LocalStep) (versions later : List Version) (bytes : List ℕ) → Contains (contents log versions) bytes → Contains (contents (log ++ more) (versions ++ later)) bytes
more_contents log more versions later bytes is =
    let next = more-writes 0 empty_folder log more in
    in-each (bytes_of (writes log)) (flat_map placed_by log) (accepted versions) (bytes_of (writes (log ++ more))) (flat_map placed_by (log ++ more)) (accepted (versions ++ later)) bytes
    (in-longer (bytes_of (writes log)) (bytes_of next.0) (bytes_of (writes (log ++ more))) (ap bytes_of next.1 ∙ map-append (λ (write : ℕ × List ℕ). write.1) (writes log) next.0) bytes)
    (in-longer (flat_map placed_by log) (flat_map placed_by more) (flat_map placed_by (log ++ more)) (flat_map-append placed_by log more) bytes)
    (in-longer (accepted versions) (accepted later) (accepted (versions ++ later)) (map-append (λ (version : Version). version.bytes) versions later) bytes) is
