-- A file that stems from a write stays somewhere, but for the steps that can take one away.
use Rattle.std.proofs.Common.{◌≡◌, ◌⊎◌, inl, inr, ℕ, ◌+◌, Bool, true, false, not, ◌||◌, cond, nat_eq, is_none, List, [], ◌∷◌, ◌++◌, length, Option, Some, None, refl, ap, sym, ◌∙◌, subst, ⊎_elim, ◌-◌, ◌^◌}
use Rattle.std.specs.List.{list_any}
use Rattle.std.proofs.lemmas.Bool.{eqb-true}
use Rattle.std.proofs.lemmas.List.Folds.{list_any-append}
use Rattle.od_tree.specs.Local.{Local, is_path, spot_at, file_in, file_at, is_folder_spot, held_at, has_place, without_spot, without_held, moved_from, greatest_number, set_aside, put_back, after_done_op, after_op, after_step, op_refusal, local_of}
use Rattle.od_tree.specs.Loss.{is_origin, stems_from, is_somewhere}
use Rattle.od_tree.specs.Taking.{may_take}
use Rattle.od_tree.specs.declared.edit.UserEdit.TheVariants.{Write, Remove, Move, MakeFolder}
use Rattle.od_tree.specs.declared.fault.TreeFault.{TreeFault}
use Rattle.od_tree.specs.declared.local.HeldFile.{HeldFile}
use Rattle.od_tree.specs.declared.local.LocalFile.{LocalFile}
use Rattle.od_tree.specs.declared.local.Spot.{Spot}
use Rattle.od_tree.specs.declared.step.LocalStep.{LocalStep}
use Rattle.od_tree.specs.declared.step.LocalStep.TheVariants.{User, Op}
use Rattle.od_tree.specs.declared.step.TreeOp.{TreeOp}
use Rattle.od_tree.specs.declared.step.TreeOp.TheVariants as op
use Rattle.od_tree.proofs.Steps.{local-snoc}
use Rattle.std.proofs.lemmas.Bool.{or_cases, or_left, or_right}

-- whether such a file stands at a path, or in holding
abbrev pub in_spots : ℕ → List Spot → Bool
in_spots n spots = list_any (λ (spot : Spot). stems_from n spot.file) spots

abbrev pub in_held : ℕ → List HeldFile → Bool
in_held n held = list_any (λ (file : HeldFile). is_origin n file.file.origin) held

pub at_path : (n : ℕ) (local : Local) → in_spots n local.spots ≡ true → is_somewhere n local ≡ true
at_path n local is = or_left (in_spots n local.spots) (in_held n local.held) is

pub in_holding : (n : ℕ) (local : Local) → in_held n local.held ≡ true → is_somewhere n local ≡ true
in_holding n local is = or_right (in_spots n local.spots) (in_held n local.held) is

pub somewhere : (n : ℕ) (local : Local) → is_somewhere n local ≡ true → (in_spots n local.spots ≡ true) ⊎ (in_held n local.held ≡ true)
somewhere n local is = or_cases (in_spots n local.spots) (in_held n local.held) is

pub any-front : {X : Type 0} (p : X → Bool) (xs ys : List X) → list_any p xs ≡ true → list_any p (xs ++ ys) ≡ true
any-front p xs ys is = list_any-append p xs ys ∙ or_left (list_any p xs) (list_any p ys) is

pub any-last : {X : Type 0} (p : X → Bool) (xs : List X) (y : X) → p y ≡ true → list_any p (xs ++ y ∷ []) ≡ true
any-last p xs y is = list_any-append p xs (y ∷ []) ∙ or_right (list_any p xs) (p y || false) (or_left (p y) false is)

pub any-moved : (n : ℕ) (from to : List (List ℕ)) (spots : List Spot) → in_spots n (moved_from from to spots) ≡ in_spots n spots
any-moved n from to [] = refl
any-moved n from to (spot ∷ spots) = ap (λ b. stems_from n spot.file || b) (any-moved n from to spots)

-- of the entries without the first at a path, or of that first one
without_first : (n : ℕ) (spot : Spot) (spots rest : List Spot) (here : Bool) (found : Option Spot) → (in_spots n spots ≡ true → (in_spots n rest ≡ true) ⊎ (stems_from n (file_in found) ≡ true))
    → in_spots n (spot ∷ spots) ≡ true → (in_spots n (cond here spots (spot ∷ rest)) ≡ true) ⊎ (stems_from n (file_in (cond here (Some spot) found)) ≡ true)
without_first n spot spots rest true found later is = ⊎_elim (λ first. inr first) (λ more. inl more) (or_cases (stems_from n spot.file) (in_spots n spots) is)
without_first n spot spots rest false found later is =
    ⊎_elim (λ first. inl (or_left (stems_from n spot.file) (in_spots n rest) first)) (λ more. ⊎_elim (λ a. inl (or_right (stems_from n spot.file) (in_spots n rest) a)) (λ b. inr b) (later more))
    (or_cases (stems_from n spot.file) (in_spots n spots) is)

pub any-without : (n : ℕ) (at : List (List ℕ)) (spots : List Spot) → in_spots n spots ≡ true → (in_spots n (without_spot at spots) ≡ true) ⊎ (stems_from n (file_at at spots) ≡ true)
any-without n at [] is = inl is
any-without n at (spot ∷ spots) is = without_first n spot spots (without_spot at spots) (is_path spot.path at) (spot_at at spots) (any-without n at spots) is

-- likewise of the held files
abbrev stems_held : ℕ → Option HeldFile → Bool
stems_held n None = false
stems_held n (Some file) = is_origin n file.file.origin

pub without_first_held : (n : ℕ) (file : HeldFile) (held rest : List HeldFile) (here : Bool) (found : Option HeldFile) → (in_held n held ≡ true → (in_held n rest ≡ true) ⊎ (stems_held n found ≡ true))
    → in_held n (file ∷ held) ≡ true → (in_held n (cond here held (file ∷ rest)) ≡ true) ⊎ (stems_held n (cond here (Some file) found) ≡ true)
without_first_held n file held rest true found later is = ⊎_elim (λ first. inr first) (λ more. inl more) (or_cases (is_origin n file.file.origin) (in_held n held) is)
without_first_held n file held rest false found later is =
    ⊎_elim (λ first. inl (or_left (is_origin n file.file.origin) (in_held n rest) first))
    (λ more. ⊎_elim (λ a. inl (or_right (is_origin n file.file.origin) (in_held n rest) a)) (λ b. inr b) (later more)) (or_cases (is_origin n file.file.origin) (in_held n held) is)

any-without_held : (n number : ℕ) (held : List HeldFile) → in_held n held ≡ true → (in_held n (without_held number held) ≡ true) ⊎ (stems_held n (held_at number held) ≡ true)
any-without_held n number [] is = inl is
any-without_held n number (file ∷ held) is =
    without_first_held n file held (without_held number held) (nat_eq file.number number) (held_at number held) (any-without_held n number held) is

-- the number of the held file that was found
found_first : (file found : HeldFile) (number : ℕ) (here : Bool) (rest : Option HeldFile) → here ≡ nat_eq file.number number → (rest ≡ Some found → found.number ≡ number) → cond here (Some file) rest ≡ Some found
    → found.number ≡ number
found_first file found number true rest same later is = let e : file ≡ found = cc in subst (λ (f : HeldFile). f.number ≡ number) e (eqb-true file.number number (sym same))
found_first file found number false rest same later is = later is

pub found_number : (number : ℕ) (held : List HeldFile) (found : HeldFile) → held_at number held ≡ Some found → found.number ≡ number
found_number number [] found is = cc
found_number number (file ∷ held) found is = found_first file found number (nat_eq file.number number) (held_at number held) refl (found_number number held found) is

-- ---- each step

by_refusal : (n : ℕ) (refusal : Option TreeFault) (done local : Local) → is_somewhere n local ≡ true → (refusal ≡ None → is_somewhere n done ≡ true) → is_somewhere n (cond (is_none refusal) done local) ≡ true
by_refusal n None done local is then = then refl
by_refusal n (Some fault) done local is then = is

passed : (fits : Bool) (fault : TreeFault) (rest : Option TreeFault) → cond (not fits) (Some fault) rest ≡ None → fits ≡ true
passed true fault rest is = refl
passed false fault rest is = cc

pub more_spots : (n : ℕ) (local : Local) (more : List Spot) → is_somewhere n local ≡ true → is_somewhere n (record local { spots = local.spots ++ more }) ≡ true
more_spots n local more is =
    ⊎_elim (λ here. at_path n (record local { spots = local.spots ++ more }) (any-front (λ (spot : Spot). stems_from n spot.file) local.spots more here))
    (λ held. in_holding n (record local { spots = local.spots ++ more }) held) (somewhere n local is)

no_file : (n : ℕ) (file : Option LocalFile) → is_none file ≡ true → stems_from n file ≡ true → ⊥
no_file n None none stems = cc
no_file n (Some file) none stems = cc

no_folder : (n : ℕ) (found : Option Spot) → is_folder_spot found ≡ true → stems_from n (file_in found) ≡ true → ⊥
no_folder n None folder stems = cc
no_folder n (Some spot) folder stems = no_file n spot.file folder stems

removed_dir : (n : ℕ) (at : List (List ℕ)) (local : Local) → is_somewhere n local ≡ true → is_folder_spot (spot_at at local.spots) ≡ true → is_somewhere n (record local { spots = without_spot at local.spots }) ≡ true
removed_dir n at local is folder =
    let after : Local = record local { spots = without_spot at local.spots } in
    ⊎_elim (λ here. ⊎_elim (λ kept. at_path n after kept) (λ gone. absurd (no_folder n (spot_at at local.spots) folder gone)) (any-without n at local.spots here)) (λ held. in_holding n after held)
    (somewhere n local is)

renamed : (n : ℕ) (from to : List (List ℕ)) (local : Local) → is_somewhere n local ≡ true → is_somewhere n (record local { spots = moved_from from to local.spots }) ≡ true
renamed n from to local is =
    let after : Local = record local { spots = moved_from from to local.spots } in
    ⊎_elim (λ here. at_path n after (any-moved n from to local.spots ∙ here)) (λ held. in_holding n after held) (somewhere n local is)

aside : (n : ℕ) (at : List (List ℕ)) (local : Local) (found : Option LocalFile) → found ≡ file_at at local.spots → is_somewhere n local ≡ true → is_somewhere n (set_aside at local found) ≡ true
aside n at local None same is = is
aside n at local (Some file) same is =
    let last : HeldFile = record { number = greatest_number local.held + 1; from = at; file = file } in
    let after : Local = record { spots = without_spot at local.spots; held = local.held ++ last ∷ [] } in
    let carried : is_somewhere n after ≡ true =
    ⊎_elim
    (λ here.
    ⊎_elim (λ kept. at_path n after kept)
    (λ gone. in_holding n after (any-last (λ (f : HeldFile). is_origin n f.file.origin) local.held last (subst (λ f. stems_from n f ≡ true) (sym same) gone)))
    (any-without n at local.spots here))
    (λ held. in_holding n after (any-front (λ (f : HeldFile). is_origin n f.file.origin) local.held (last ∷ []) held)) (somewhere n local is) in
    elim (nat_eq (greatest_number local.held) (2 ^ 64 - 1)) as (λ b. is_somewhere n (cond b local after) ≡ true) [ true ↦ is | false ↦ carried ]

back : (n : ℕ) (to : List (List ℕ)) (number : ℕ) (local : Local) (found : Option HeldFile) → held_at number local.held ≡ found → is_somewhere n local ≡ true → is_somewhere n (put_back to local found) ≡ true
back n to number local None same is = is
back n to number local (Some file) same is =
    let spot : Spot = record { path = to; file = Some file.file } in
    let after : Local = record { spots = local.spots ++ spot ∷ []; held = without_held file.number local.held } in
    let is_number : file.number ≡ number = found_number number local.held file same in
    ⊎_elim (λ here. at_path n after (any-front (λ (s : Spot). stems_from n s.file) local.spots (spot ∷ []) here))
    (λ held.
    ⊎_elim (λ kept. in_holding n after (subst (λ k. in_held n (without_held k local.held) ≡ true) (sym is_number) kept))
    (λ gone. at_path n after (any-last (λ (s : Spot). stems_from n s.file) local.spots spot (subst (λ f. stems_held n f ≡ true) same gone)))
    (any-without_held n number local.held held)) (somewhere n local is)

pub stays_op : (n : ℕ) (local : Local) (call : TreeOp) → may_take (Op call) ≡ false → is_somewhere n local ≡ true → is_somewhere n (after_op local call) ≡ true
stays_op n local (op.List at) keeps is = by_refusal n (op_refusal local (op.List at)) local local is (λ none. is)
stays_op n local (op.Read at) keeps is = by_refusal n (op_refusal local (op.Read at)) local local is (λ none. is)
stays_op n local (op.MakeDir at) keeps is = by_refusal n (op_refusal local (op.MakeDir at)) (after_done_op local (op.MakeDir at)) local is (λ none. more_spots n local _ is)
stays_op n local (op.RemoveDir at) keeps is =
    by_refusal n (op_refusal local (op.RemoveDir at)) (after_done_op local (op.RemoveDir at)) local is (λ none. removed_dir n at local is (passed _ _ _ none))
stays_op n local (op.Place at bytes) keeps is = by_refusal n (op_refusal local (op.Place at bytes)) (after_done_op local (op.Place at bytes)) local is (λ none. more_spots n local _ is)
stays_op n local (op.Rename from to) keeps is = by_refusal n (op_refusal local (op.Rename from to)) (after_done_op local (op.Rename from to)) local is (λ none. renamed n from to local is)
stays_op n local (op.SetAside at) keeps is =
    by_refusal n (op_refusal local (op.SetAside at)) (after_done_op local (op.SetAside at)) local is (λ none. aside n at local (file_at at local.spots) refl is)
stays_op n local (op.ReadAside number) keeps is = by_refusal n (op_refusal local (op.ReadAside number)) local local is (λ none. is)
stays_op n local (op.PutBack number to) keeps is =
    by_refusal n (op_refusal local (op.PutBack number to)) (after_done_op local (op.PutBack number to)) local is (λ none. back n to number local (held_at number local.held) refl is)
stays_op n local (op.Discard number) keeps is = cc
stays_op n local op.Asides keeps is = is

by_place : (n : ℕ) (place : Bool) (done local : Local) → is_somewhere n local ≡ true → is_somewhere n done ≡ true → is_somewhere n (cond place done local) ≡ true
by_place n true done local is then = then
by_place n false done local is then = is

stays_step : (at n : ℕ) (local : Local) (step : LocalStep) → may_take step ≡ false → is_somewhere n local ≡ true → is_somewhere n (after_step at local step) ≡ true
stays_step at n local (User (Write path bytes)) keeps is = cc
stays_step at n local (User (Remove path)) keeps is = cc
stays_step at n local (User (Move from to)) keeps is = cc
stays_step at n local (User (MakeFolder path)) keeps is = by_place n (has_place local (MakeFolder path)) _ local is (more_spots n local (record { path = path; file = None } ∷ []) is)
stays_step at n local (Op call) keeps is = stays_op n local call keeps is

pub stays : (log : List LocalStep) (step : LocalStep) (n : ℕ) → may_take step ≡ false → is_somewhere n (local_of log) ≡ true → is_somewhere n (local_of (log ++ step ∷ [])) ≡ true
stays log step n keeps is = subst (λ (local : Local). is_somewhere n local ≡ true) (sym (local-snoc log step)) (stays_step (length log) n (local_of log) step keeps is)
