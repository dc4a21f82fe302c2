-- What was scanned last is what the folder has, where no one changed it since.
use Rattle.std.proofs.Common.{◌≡◌, false, cond, is_none, List, [], ◌∷◌, ◌++◌, Option, Some, None, refl, ap, sym, subst, ◌∙◌, append_assoc}
use Rattle.std.proofs.lemmas.List.{append-nil}
use Rattle.std.specs.List.{AllByRecursion}
use Rattle.gd_names.proofs.Each.{each-append}
use Rattle.od_synclist.specs.Kept.{kept}
use Rattle.od_synclist.specs.declared.rule.Rule.{Rule}
use Rattle.od_tree.specs.Local.{Local, after_done_op, after_op, local_of, op_refusal, tree_of_spots}
use Rattle.od_tree.specs.Undisturbed.{IsOp, NoUser}
use Rattle.od_tree.specs.declared.edit.UserEdit.{UserEdit}
use Rattle.od_tree.specs.declared.fault.TreeFault.{TreeFault}
use Rattle.od_tree.specs.declared.local.Spot.{Spot}
use Rattle.od_tree.specs.declared.step.LocalStep.{LocalStep}
use Rattle.od_tree.specs.declared.step.LocalStep.TheVariants.{User, Op}
use Rattle.od_tree.specs.declared.step.TreeOp.{TreeOp}
use Rattle.od_tree.specs.declared.step.TreeOp.TheVariants as op
use Rattle.od_tree.proofs.Steps.{local-snoc}
use Rattle.od_run.specs.Good.{IfPulled, IfScanned, IsFeedOf, IsLook, IsPulledAt, IsScannedAt}
use Rattle.od_run.specs.Knowing.{Here, Known, here_after}
use Rattle.od_run.specs.Moments.{is_root_listing, since_listed}
use Rattle.od_run.specs.Settling.{AreEqual, IsSettled, kept_here, kept_there}
use Rattle.od_run.specs.Worlds.{World}
use Rattle.od_run.proofs.Lasts.{after-none, any-missed}

-- ---- one more step
looked : (local : List LocalStep) (step : LocalStep) (scanned : Option (List LocalStep)) → IsLook step → is_root_listing step ≡ false → IfScanned (IsScannedAt local) scanned
    → IfScanned (IsScannedAt (local ++ step ∷ [])) scanned
looked local step None look other at = tt
looked local step (Some scanned) look other at = record {
  more = at.more ++ step ∷ [];
  grown = ap (λ log. log ++ step ∷ []) at.grown ∙ append_assoc scanned (Op (op.List []) ∷ at.more) (step ∷ []);
  looks = each-append IsLook at.more (step ∷ []) at.looks (look, tt);
  once = any-missed is_root_listing at.more step other ∙ at.once;
}

pub scanned-edited : (local : List LocalStep) (edit : UserEdit) (scanned : Option (List LocalStep)) → IfScanned (IsScannedAt local) scanned → IfScanned (IsScannedAt (local ++ User edit ∷ [])) scanned
scanned-edited local edit scanned at = looked local (User edit) scanned tt refl at

pub scanned-called : (log : List LocalStep) (local after : Local) (here : Here) (call : TreeOp) → IfScanned (IsScannedAt log) here.scanned
    → IfScanned (IsScannedAt (log ++ Op call ∷ [])) (here_after log local after here call).scanned
scanned-called log local after here (op.List []) at = record { more = []; grown = refl; looks = tt; once = refl }
scanned-called log local after here (op.List (name ∷ path)) at = looked log (Op (op.List (name ∷ path))) here.scanned tt refl at
scanned-called log local after here (op.Read path) at = looked log (Op (op.Read path)) here.scanned tt refl at
scanned-called log local after here (op.MakeDir path) at = tt
scanned-called log local after here (op.RemoveDir path) at = tt
scanned-called log local after here (op.Place path bytes) at = tt
scanned-called log local after here (op.Rename from to) at = tt
scanned-called log local after here (op.SetAside path) at = tt
scanned-called log local after here (op.ReadAside aside) at = looked log (Op (op.ReadAside aside)) here.scanned tt refl at
scanned-called log local after here (op.PutBack aside to) at = tt
scanned-called log local after here (op.Discard aside) at = looked log (Op (op.Discard aside)) here.scanned tt refl at
scanned-called log local after here op.Asides at = looked log (Op op.Asides) here.scanned tt refl at

-- ---- looks leave the entries
refusal-if : (refusal : Option TreeFault) (local done : Local) → done.spots ≡ local.spots → (cond (is_none refusal) done local).spots ≡ local.spots
refusal-if None local done same = same
refusal-if (Some fault) local done same = refl

look-spots : (local : Local) (call : TreeOp) → IsLook (Op call) → (after_op local call).spots ≡ local.spots
look-spots local (op.List at) look = refusal-if (op_refusal local (op.List at)) local local refl
look-spots local (op.Read at) look = refusal-if (op_refusal local (op.Read at)) local local refl
look-spots local (op.MakeDir at) look = absurd look
look-spots local (op.RemoveDir at) look = absurd look
look-spots local (op.Place at bytes) look = absurd look
look-spots local (op.Rename from to) look = absurd look
look-spots local (op.SetAside at) look = absurd look
look-spots local (op.ReadAside aside) look = refusal-if (op_refusal local (op.ReadAside aside)) local local refl
look-spots local (op.PutBack aside to) look = absurd look
look-spots local (op.Discard aside) look = refusal-if (op_refusal local (op.Discard aside)) local (after_done_op local (op.Discard aside)) refl
look-spots local op.Asides look = refl

step-spots : (log : List LocalStep) (step : LocalStep) → IsLook step → IsOp step → (local_of (log ++ step ∷ [])).spots ≡ (local_of log).spots
step-spots log (User edit) look alone = absurd alone
step-spots log (Op call) look alone = ap (λ (local : Local). local.spots) (local-snoc log (Op call)) ∙ look-spots (local_of log) call look

all-spots : (log more : List LocalStep) → AllByRecursion IsLook more → NoUser more → (local_of (log ++ more)).spots ≡ (local_of log).spots
all-spots log [] looks alone = ap (λ steps. (local_of steps).spots) (append-nil log)
all-spots log (step ∷ more) looks alone =
    ap (λ steps. (local_of steps).spots) (sym (append_assoc log (step ∷ []) more))
    ∙ (all-spots (log ++ step ∷ []) more looks.1 alone.1 ∙ step-spots log step looks.0 alone.0)

-- ---- settled
scanned-now : (rules : List Rule) (now scanned : List LocalStep) → IsScannedAt now scanned → NoUser (since_listed now) → kept_here rules now ≡ kept_here rules scanned
scanned-now rules now scanned at alone =
    let since : since_listed now ≡ at.more = ap since_listed at.grown ∙ after-none is_root_listing scanned at.more (Op (op.List [])) refl at.once in
    let left : NoUser at.more = subst NoUser since alone in
    let spots : (local_of now).spots ≡ (local_of scanned).spots =
    ap (λ steps. (local_of steps).spots) at.grown ∙ all-spots scanned (Op (op.List []) ∷ at.more) (tt, at.looks) (tt, left) in
    ap (λ (entries : List Spot). kept rules (tree_of_spots entries)) spots

scanned-if : (rules : List Rule) (now scanned : List LocalStep) (known : Option (List LocalStep)) → known ≡ Some scanned → IfScanned (IsScannedAt now) known → NoUser (since_listed now)
    → kept_here rules now ≡ kept_here rules scanned
scanned-if rules now scanned known is at alone = scanned-now rules now scanned (subst (IfScanned (IsScannedAt now)) is at) alone

pub settled : (rules : List Rule) (w : World) (k : Known) → IsFeedOf w.drive k.feed → IfScanned (IsScannedAt w.local) k.here.scanned → IsSettled rules k → NoUser (since_listed w.local) → AreEqual rules w
settled rules w k feed scanned is alone =
    let pulled : IsPulledAt w.drive k.feed.token is.drive = subst (IfPulled (IsPulledAt w.drive k.feed.token)) is.drive_is feed.pulled in
    scanned-if rules w.local is.local k.here.scanned is.local_is scanned alone ∙ (is.same ∙ ap (kept_there rules) (sym pulled.last))
