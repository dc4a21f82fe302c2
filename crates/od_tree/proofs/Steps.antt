-- What one more step of a log does to the folder.
use Rattle.std.proofs.Common.{◌≡◌, ℕ, ◌+◌, Bool, true, false, cond, is_none, List, [], ◌∷◌, ◌++◌, length, map, Option, None, refl, ap, sym, ◌∙◌, subst, arith}
use Rattle.std.proofs.lemmas.List.{append-nil, append_assoc, map-append}
use Rattle.std.proofs.lemmas.Bool.{cond-true}
use Rattle.od_tree.specs.Doing.{Begins}
use Rattle.od_tree.specs.Local.{Local, has_place, after_placed_edit, after_done_op, op_refusal, after_step, after_steps, empty_folder, local_of}
use Rattle.od_tree.specs.declared.edit.UserEdit.{UserEdit}
use Rattle.od_tree.specs.declared.edit.UserEdit.TheVariants.{Write, Remove, Move, MakeFolder}
use Rattle.od_tree.specs.declared.fault.TreeFault.{TreeFault}
use Rattle.od_tree.specs.declared.local.HeldFile.{HeldFile}
use Rattle.od_tree.specs.declared.local.Spot.{Spot}
use Rattle.od_tree.specs.declared.step.LocalStep.{LocalStep}
use Rattle.od_tree.specs.declared.step.LocalStep.TheVariants.{User, Op}
use Rattle.od_tree.specs.declared.step.TreeOp.{TreeOp}

after_steps-snoc : (step : ℕ) (local : Local) (log : List LocalStep) (last : LocalStep) → after_steps step local (log ++ last ∷ []) ≡ after_step (step + length log) (after_steps step local log) last
after_steps-snoc step local [] last = let e : step ≡ step + 0 = omega arith in ap (λ n. after_step n local last) e
after_steps-snoc step local (first ∷ log) last =
    let e : step + 1 + length log ≡ step + length (first ∷ log) = omega arith in
    after_steps-snoc (step + 1) (after_step step local first) log last ∙ ap (λ n. after_step n (after_steps (step + 1) (after_step step local first) log) last) e

pub local-snoc : (log : List LocalStep) (last : LocalStep) → local_of (log ++ last ∷ []) ≡ after_step (length log) (local_of log) last
local-snoc log last = after_steps-snoc 0 empty_folder log last ∙ (let e : 0 + length log ≡ length log = omega arith in ap (λ n. after_step n (local_of log) last) e)

-- a user's edit leaves what is held
pub placed-held : (step : ℕ) (local : Local) (edit : UserEdit) → after_placed_edit step local edit ≡ record { spots = (after_placed_edit step local edit).spots; held = local.held }
placed-held step local (Write at bytes) = refl
placed-held step local (Remove at) = refl
placed-held step local (Move from to) = refl
placed-held step local (MakeFolder at) = refl

-- the folder after a user's edit, and after an operation: `value` is the log before, `room` the same log with more room
pub made : (value log room now : List LocalStep) (edit copy : UserEdit) (step : ℕ) (spots built : List Spot) (held : List HeldFile) → log ≡ value → room ≡ log → copy ≡ edit → now ≡ room ++ User copy ∷ []
    → local_of log ≡ record { spots = spots; held = held } → has_place (local_of value) edit ≡ true → step ≡ length room
    → ((others : List HeldFile) → built ≡ (after_placed_edit step (record { spots = spots; held = others }) edit).spots) → local_of now ≡ record { spots = built; held = held }
made value log room now edit copy step spots built held same same_room same_edit is_now is place is_step are =
    let before : Local = record { spots = spots; held = held } in
    let place_here : has_place (local_of log) edit ≡ true = subst (λ xs. has_place (local_of xs) edit ≡ true) (sym same) place in
    let step_here : step ≡ length log = is_step ∙ ap (λ (xs : List LocalStep). length xs) same_room in
    ap local_of (is_now ∙ (ap (λ xs. xs ++ User copy ∷ []) same_room ∙ ap (λ e. log ++ User e ∷ []) same_edit))
    ∙ (local-snoc log (User edit)
    ∙ (cond-true (has_place (local_of log) edit) _ _ place_here
    ∙ (ap (λ local. after_placed_edit (length log) local edit) is
    ∙ (placed-held (length log) before edit
    ∙ ap (λ (xs : List Spot). record { spots = xs; held = held }) (sym (subst (λ n. built ≡ (after_placed_edit n before edit).spots) step_here (are held)))))))

-- `call` is not refused, and leads from the entries and the held files to those that are made
pub operated : (value log room now : List LocalStep) (call : TreeOp) (spots made : List Spot) (held kept : List HeldFile) → log ≡ value → room ≡ log → now ≡ room ++ Op call ∷ []
    → local_of log ≡ record { spots = spots; held = held } → op_refusal (local_of value) call ≡ None
    → after_done_op (record { spots = spots; held = held }) call ≡ record { spots = made; held = kept } → local_of now ≡ record { spots = made; held = kept }
operated value log room now call spots made held kept same same_room is_now is passes done =
    let here : op_refusal (local_of log) call ≡ None = subst (λ xs. op_refusal (local_of xs) call ≡ None) (sym same) passes in
    ap local_of (is_now ∙ ap (λ xs. xs ++ Op call ∷ []) same_room)
    ∙ (local-snoc log (Op call)
    ∙ (cond-true (is_none (op_refusal (local_of log) call)) (after_done_op (local_of log) call) (local_of log) (ap (λ (refusal : Option TreeFault). is_none refusal) here)
    ∙ (ap (λ (local : Local). after_done_op local call) is ∙ done)))

-- ---- the edits that are tied to a call

pub nothing_yet : (log now : List LocalStep) → now ≡ log → Begins log now
nothing_yet log now same = record { edits = []; grown = same ∙ sym (append-nil log) }

pub placed : (log now : List LocalStep) (edit : UserEdit) (place : Bool) → now ≡ cond place (log ++ User edit ∷ []) log → Begins log now
placed log now edit true is = record { edits = edit ∷ []; grown = is }
placed log now edit false is = nothing_yet log now is

pub begins-more : (before mid after : List LocalStep) → Begins before mid → Begins mid after → Begins before after
begins-more before mid after first more = record {
  edits = first.edits ++ more.edits;
  grown =
      more.grown
      ∙ (ap (λ xs. xs ++ map (λ (e : UserEdit). User e) more.edits) first.grown
      ∙ (append_assoc before (map (λ (e : UserEdit). User e) first.edits) (map (λ (e : UserEdit). User e) more.edits)
      ∙ ap (λ xs. before ++ xs) (sym (map-append (λ (e : UserEdit). User e) first.edits more.edits))));
}
