-- A file that stems from a write stays somewhere, or the user's edit overwrites or removes it.
use Rattle.std.proofs.Common.{◌≡◌, ◌⊎◌, inl, inr, ℕ, ◌+◌, Bool, true, false, not, ◌||◌, cond, filter, nat_eq, List, [], ◌∷◌, ◌++◌, length, Option, Some, refl, ap, ◌∙◌, ⊎_elim}
use Rattle.std.proofs.lemmas.Bool.{cond-true, eq-eqb}
use Rattle.od_tree.specs.Local.{Local, empty_folder, is_path, is_from, spot_at, file_in, file_at, has_place, without_spot, without_from, moved_from, after_placed_edit, after_step, after_steps, local_of}
use Rattle.od_tree.specs.Loss.{stems_from, is_somewhere, lost_by_placed, lost_by, is_replaced_after, is_replaced}
use Rattle.od_tree.specs.Taking.{is_discard}
use Rattle.od_tree.specs.declared.edit.UserEdit.{UserEdit}
use Rattle.od_tree.specs.declared.edit.UserEdit.TheVariants.{Write, Remove, Move, MakeFolder}
use Rattle.od_tree.specs.declared.local.Spot.{Spot}
use Rattle.od_tree.specs.declared.step.LocalStep.{LocalStep}
use Rattle.od_tree.specs.declared.step.LocalStep.TheVariants.{User, Op}
use Rattle.od_tree.proofs.Staying.{in_spots, at_path, in_holding, somewhere, any-front, any-last, any-moved, any-without, more_spots, stays_op}
use Rattle.od_tree.proofs.Steps.{local-snoc}
use Rattle.std.proofs.lemmas.Bool.{or_cases, or_left, or_right}

-- the first entry at a path is one of those at it
first_here : (n : ℕ) (spot : Spot) (others : List Spot) (here : Bool) (found : Option Spot) → (stems_from n (file_in found) ≡ true → in_spots n others ≡ true) → stems_from n (file_in (cond here (Some spot) found)) ≡ true
    → in_spots n (cond here (spot ∷ others) others) ≡ true
first_here n spot others true found later is = or_left (stems_from n spot.file) (in_spots n others) is
first_here n spot others false found later is = later is

found-there : (n : ℕ) (at : List (List ℕ)) (spots : List Spot) → stems_from n (file_at at spots) ≡ true → in_spots n (filter (λ (spot : Spot). is_path spot.path at) spots) ≡ true
found-there n at [] is = cc
found-there n at (spot ∷ spots) is = first_here n spot (filter (λ (s : Spot). is_path s.path at) spots) (is_path spot.path at) (spot_at at spots) (found-there n at spots) is

-- of two parts of the entries one has the file
parted : (n : ℕ) (spot : Spot) (ins outs : List Spot) (here : Bool) → (stems_from n spot.file ≡ true) ⊎ ((in_spots n outs ≡ true) ⊎ (in_spots n ins ≡ true))
    → (in_spots n (cond (not here) (spot ∷ outs) outs) ≡ true) ⊎ (in_spots n (cond here (spot ∷ ins) ins) ≡ true)
parted n spot ins outs true some =
    ⊎_elim (λ first. inr (or_left (stems_from n spot.file) (in_spots n ins) first)) (λ later. ⊎_elim (λ out. inl out) (λ inside. inr (or_right (stems_from n spot.file) (in_spots n ins) inside)) later) some
parted n spot ins outs false some =
    ⊎_elim (λ first. inl (or_left (stems_from n spot.file) (in_spots n outs) first)) (λ later. ⊎_elim (λ out. inl (or_right (stems_from n spot.file) (in_spots n outs) out)) (λ inside. inr inside) later) some

any-parted : (n : ℕ) (p : Spot → Bool) (spots : List Spot) → in_spots n spots ≡ true → (in_spots n (filter (λ (spot : Spot). not (p spot)) spots) ≡ true) ⊎ (in_spots n (filter p spots) ≡ true)
any-parted n p [] is = inl is
any-parted n p (spot ∷ spots) is =
    parted n spot (filter p spots) (filter (λ (s : Spot). not (p s)) spots) (p spot)
    (⊎_elim (λ first. inl first) (λ later. inr (any-parted n p spots later)) (or_cases (stems_from n spot.file) (in_spots n spots) is))

-- ---- an edit

abbrev Keeps : ℕ → Local → List Spot → Type 0
Keeps n local lost = (is_somewhere n local ≡ true) ⊎ (in_spots n lost ≡ true)

overwritten : (n : ℕ) (at : List (List ℕ)) (local : Local) (more : List Spot) → is_somewhere n local ≡ true
    → Keeps n (record local { spots = without_spot at local.spots ++ more }) (filter (λ (spot : Spot). is_path spot.path at) local.spots)
overwritten n at local more is =
    let after : Local = record local { spots = without_spot at local.spots ++ more } in
    ⊎_elim
    (λ here.
    ⊎_elim (λ kept. inl (at_path n after (any-front (λ (s : Spot). stems_from n s.file) (without_spot at local.spots) more kept))) (λ gone. inr (found-there n at local.spots gone))
    (any-without n at local.spots here))
    (λ held. inl (in_holding n after held)) (somewhere n local is)

removed : (n : ℕ) (top : List (List ℕ)) (local : Local) → is_somewhere n local ≡ true → Keeps n (record local { spots = without_from top local.spots }) (filter (λ (spot : Spot). is_from top spot.path) local.spots)
removed n top local is =
    let after : Local = record local { spots = without_from top local.spots } in
    ⊎_elim (λ here. ⊎_elim (λ kept. inl (at_path n after kept)) (λ gone. inr gone) (any-parted n (λ (spot : Spot). is_from top spot.path) local.spots here)) (λ held. inl (in_holding n after held))
    (somewhere n local is)

moved : (n : ℕ) (from to : List (List ℕ)) (local : Local) → is_somewhere n local ≡ true
    → Keeps n (record local { spots = moved_from from to (without_spot to local.spots) }) (filter (λ (spot : Spot). is_path spot.path to) local.spots)
moved n from to local is =
    let after : Local = record local { spots = moved_from from to (without_spot to local.spots) } in
    ⊎_elim
    (λ here.
    ⊎_elim (λ kept. inl (at_path n after (any-moved n from to (without_spot to local.spots) ∙ kept))) (λ gone. inr (found-there n to local.spots gone)) (any-without n to local.spots here))
    (λ held. inl (in_holding n after held)) (somewhere n local is)

placed-keeps : (at n : ℕ) (local : Local) (edit : UserEdit) → is_somewhere n local ≡ true → Keeps n (after_placed_edit at local edit) (lost_by_placed local edit)
placed-keeps at n local (Write path bytes) is = overwritten n path local _ is
placed-keeps at n local (Remove path) is = removed n path local is
placed-keeps at n local (Move from to) is = moved n from to local is
placed-keeps at n local (MakeFolder path) is = inl (more_spots n local _ is)

by_place : (n : ℕ) (place : Bool) (done local : Local) (lost : List Spot) → is_somewhere n local ≡ true → Keeps n done lost → Keeps n (cond place done local) (cond place lost [])
by_place n true done local lost is then = then
by_place n false done local lost is then = inl is

step-keeps : (at n : ℕ) (local : Local) (step : LocalStep) → is_discard step ≡ false → is_somewhere n local ≡ true → Keeps n (after_step at local step) (lost_by local step)
step-keeps at n local (User edit) keeps is = by_place n (has_place local edit) (after_placed_edit at local edit) local (lost_by_placed local edit) is (placed-keeps at n local edit is)
step-keeps at n local (Op call) keeps is = inl (stays_op n local call keeps is)

-- ---- the log

or_none : (a : Bool) → (a || false) ≡ a
or_none true = refl
or_none false = refl

or_assoc : (a b c : Bool) → (a || (b || c)) ≡ ((a || b) || c)
or_assoc true b c = refl
or_assoc false b c = refl

replaced-snoc : (at : ℕ) (local : Local) (n : ℕ) (log : List LocalStep) (last : LocalStep)
    → is_replaced_after at local n (log ++ last ∷ []) ≡ (is_replaced_after at local n log || in_spots n (lost_by (after_steps at local log) last))
replaced-snoc at local n [] last = or_none (in_spots n (lost_by local last))
replaced-snoc at local n (first ∷ log) last =
    ap (λ b. in_spots n (lost_by local first) || b) (replaced-snoc (at + 1) (after_step at local first) n log last)
    ∙ or_assoc (in_spots n (lost_by local first)) (is_replaced_after (at + 1) (after_step at local first) n log) (in_spots n (lost_by (after_steps at local (first ∷ log)) last))

pub stays_or_replaced : (log : List LocalStep) (step : LocalStep) (n : ℕ) → is_discard step ≡ false → (is_somewhere n (local_of log) || is_replaced n log) ≡ true
    → (is_somewhere n (local_of (log ++ step ∷ [])) || is_replaced n (log ++ step ∷ [])) ≡ true
stays_or_replaced log step n keeps is =
    let now : Local = local_of (log ++ step ∷ []) in
    let lost : Bool = in_spots n (lost_by (local_of log) step) in
    let again : is_replaced n (log ++ step ∷ []) ≡ (is_replaced n log || lost) = replaced-snoc 0 empty_folder n log step in
    ⊎_elim
    (λ there.
    ⊎_elim (λ kept. or_left (is_somewhere n now) (is_replaced n (log ++ step ∷ [])) (ap (λ (local : Local). is_somewhere n local) (local-snoc log step) ∙ kept))
    (λ gone. or_right (is_somewhere n now) (is_replaced n (log ++ step ∷ [])) (again ∙ or_right (is_replaced n log) lost gone)) (step-keeps (length log) n (local_of log) step keeps there))
    (λ before. or_right (is_somewhere n now) (is_replaced n (log ++ step ∷ [])) (again ∙ or_left (is_replaced n log) lost before)) (or_cases (is_somewhere n (local_of log)) (is_replaced n log) is)

same_number : (n : ℕ) → nat_eq n n ≡ true
same_number n = eq-eqb n n refl

pub write_stands : (log : List LocalStep) (at : List (List ℕ)) (bytes : List ℕ) → has_place (local_of log) (Write at bytes) ≡ true → is_somewhere (length log) (local_of (log ++ User (Write at bytes) ∷ [])) ≡ true
write_stands log at bytes place =
    let written : Spot = record { path = at; file = Some (record { bytes = bytes; origin = Some (length log) }) } in
    let after : Local = record (local_of log) { spots = without_spot at (local_of log).spots ++ written ∷ [] } in
    ap (λ (local : Local). is_somewhere (length log) local) (local-snoc log (User (Write at bytes)) ∙ cond-true (has_place (local_of log) (Write at bytes)) _ _ place)
    ∙ at_path (length log) after (any-last (λ (s : Spot). stems_from (length log) s.file) (without_spot at (local_of log).spots) written (same_number (length log)))
