-- What a sync says, from what its rounds come to.
use Rattle.std.proofs.Common.{◌≡◌, ◌⊎◌, inl, inr, ℕ, Bool, true, false, ◌||◌, List, [], ◌∷◌, ◌++◌, Option, Some, None, Result, Ok, Err, refl, ap, sym, subst, ◌∙◌, arith}
use Rattle.std.specs.List.{AllByRecursion, list_any}
use Rattle.std.specs.Prelude.{OnOk}
use Rattle.gd_item.specs.Steps.{accepted_by}
use Rattle.gd_item.specs.declared.id.ItemId.{ItemId}
use Rattle.gd_item.specs.declared.live.Version.{Version}
use Rattle.gd_item.specs.declared.step.Step.{Step}
use Rattle.gd_item.specs.declared.step.Step.TheVariants.{Ask, Event}
use Rattle.gd_item.specs.declared.step.Who.TheVariants.{Own, Other}
use Rattle.gd_item.proofs.LogsGrow.{accepted-log}
use Rattle.od_keeper.proofs.Growing.{sound-empty}
use Rattle.od_keeper.specs.Images.{empty_image}
use Rattle.od_keeper.specs.Keeping.{last_image}
use Rattle.od_keeper.specs.Sound.{IsSound}
use Rattle.od_keeper.specs.declared.image.Image.{Image}
use Rattle.od_transfer.specs.Alone.{AreOwnServed, is_own_served}
use Rattle.od_tree.specs.Local.{local_of}
use Rattle.od_tree.proofs.Lossless.{no_more_lost}
use Rattle.od_tree.specs.Loss.{no_loss}
use Rattle.od_tree.specs.Taking.{is_discard}
use Rattle.od_tree.specs.declared.step.LocalStep.{LocalStep}
use Rattle.od_tree.specs.declared.step.LocalStep.TheVariants.{User, Op}
use Rattle.od_tree.specs.declared.step.TreeOp.TheVariants as op
use Rattle.od_sync.specs.Chains.{IsChained}
use Rattle.od_sync.specs.Deltas.{heard_step, last_heard_after}
use Rattle.od_sync.specs.Ends.{Counts, HasStopCause, end_of_stop}
use Rattle.od_sync.specs.Rounds.{EndsWithUnserved, HasRunCause, Ran, RunsAll, RunsTo, end_of}
use Rattle.od_sync.specs.Looks.{AreWhole}
use Rattle.od_sync.specs.Scans.{IsLook}
use Rattle.od_sync.specs.Serving.{Served, ServesAll}
use Rattle.od_sync.specs.Syncing.{IsSyncStep}
use Rattle.od_sync.specs.Syncs.{HasServable, IsQuiet, Syncs, SyncsTo, SyncsTold, since_listed}
use Rattle.od_sync.specs.declared.ends.SyncEnd.TheVariants as end
use Rattle.od_sync.specs.declared.ends.SyncStop.{SyncStop}
use Rattle.od_sync.specs.declared.ends.SyncStop.TheVariants as stop
use Rattle.od_sync.proofs.Chained.{chained-also}
use Rattle.od_sync.proofs.Growth.{same-more}
use Rattle.od_transfer.proofs.CountsRose.{rose-some}

-- ---- nothing is discarded
discards-none : (step : LocalStep) → IsSyncStep step → is_discard step ≡ false
discards-none (User edit) is = refl
discards-none (Op (op.List at)) is = refl
discards-none (Op (op.Read at)) is = refl
discards-none (Op (op.MakeDir at)) is = refl
discards-none (Op (op.RemoveDir at)) is = refl
discards-none (Op (op.Place at bytes)) is = refl
discards-none (Op (op.Rename from to)) is = refl
discards-none (Op (op.SetAside at)) is = refl
discards-none (Op (op.ReadAside aside)) is = refl
discards-none (Op (op.PutBack aside to)) is = refl
discards-none (Op (op.Discard aside)) is = absurd is
discards-none (Op op.Asides) is = refl

no-discards : (steps : List LocalStep) → AllByRecursion IsSyncStep steps → list_any is_discard steps ≡ false
no-discards [] all = refl
no-discards (step ∷ steps) all = ap (λ b. b || list_any is_discard steps) (discards-none step all.0) ∙ no-discards steps all.1

keeps-edits : (drive more : List Step) (local part : List LocalStep) → AllByRecursion IsSyncStep part → no_loss local (accepted_by drive) ≡ true → no_loss (local ++ part) (accepted_by (drive ++ more)) ≡ true
keeps-edits drive more local part steps kept =
    let later = accepted-log drive more in
    subst (λ (versions : List Version). no_loss (local ++ part) versions ≡ true) (sym later.1) (no_more_lost local part (accepted_by drive) later.0 (no-discards part steps) kept)

-- ---- a drive that serves each request
abbrev IsServedLast : Option Step → Type 0
IsServedLast None = Unit {0}
IsServedLast (Some step) = is_own_served step ≡ true

heard-served : (before : Option Step) (step : Step) → is_own_served step ≡ true → IsServedLast before → IsServedLast (heard_step before step)
heard-served before (Ask Own request served true) own so_far = own
heard-served before (Ask Own request served false) own so_far = so_far
heard-served before (Ask Other request served heard) own so_far = so_far
heard-served before (Event event) own so_far = so_far

last-served : (before : Option Step) (more : List Step) → AreOwnServed more → IsServedLast before → IsServedLast (last_heard_after before more)
last-served before [] own so_far = so_far
last-served before (step ∷ more) own so_far = last-served (heard_step before step) more own.1 (heard-served before step own.0 so_far)

never-unserved : (more : List Step) → AreOwnServed more → EndsWithUnserved more → ⊥
never-unserved more own ends = let served : false ≡ true = subst IsServedLast (ends.last None) (last-served None more own tt) in cc served

-- ---- the ends
ended-settled : (result : Result Bool SyncStop) → end_of result ≡ end.Settled → result ≡ Ok true
ended-settled (Ok true) is = refl
ended-settled (Ok false) is = absurd (cc is)
ended-settled (Err stop.LinkFault) is = absurd (cc is)
ended-settled (Err stop.TreeFault) is = absurd (cc is)
ended-settled (Err stop.KeeperFault) is = absurd (cc is)
ended-settled (Err (stop.BadPages id)) is = absurd (cc is)
ended-settled (Err stop.Unserved) is = absurd (cc is)
ended-settled (Err stop.Memory) is = absurd (cc is)

ended-unsettled : (result : Result Bool SyncStop) → end_of result ≡ end.Unsettled → result ≡ Ok false
ended-unsettled (Ok true) is = absurd (cc is)
ended-unsettled (Ok false) is = refl
ended-unsettled (Err stop.LinkFault) is = absurd (cc is)
ended-unsettled (Err stop.TreeFault) is = absurd (cc is)
ended-unsettled (Err stop.KeeperFault) is = absurd (cc is)
ended-unsettled (Err (stop.BadPages id)) is = absurd (cc is)
ended-unsettled (Err stop.Unserved) is = absurd (cc is)
ended-unsettled (Err stop.Memory) is = absurd (cc is)

ended-bad : (result : Result Bool SyncStop) (number : ItemId) → end_of result ≡ end.BadPages number → result ≡ Err (stop.BadPages number)
ended-bad (Ok true) number is = absurd (cc is)
ended-bad (Ok false) number is = absurd (cc is)
ended-bad (Err stop.LinkFault) number is = absurd (cc is)
ended-bad (Err stop.TreeFault) number is = absurd (cc is)
ended-bad (Err stop.KeeperFault) number is = absurd (cc is)
ended-bad (Err (stop.BadPages id)) number is = let same : id ≡ number = cc is in ap (λ n. Err (stop.BadPages n)) same
ended-bad (Err stop.Unserved) number is = absurd (cc is)
ended-bad (Err stop.Memory) number is = absurd (cc is)

ended-unserved : (result : Result Bool SyncStop) → end_of result ≡ end.Unserved → result ≡ Err stop.Unserved
ended-unserved (Ok true) is = absurd (cc is)
ended-unserved (Ok false) is = absurd (cc is)
ended-unserved (Err stop.LinkFault) is = absurd (cc is)
ended-unserved (Err stop.TreeFault) is = absurd (cc is)
ended-unserved (Err stop.KeeperFault) is = absurd (cc is)
ended-unserved (Err (stop.BadPages id)) is = absurd (cc is)
ended-unserved (Err stop.Unserved) is = refl
ended-unserved (Err stop.Memory) is = absurd (cc is)

on-end : (result : Result Bool SyncStop) (X : Type 0) → (end_of result ≡ end.Settled) ⊎ (end_of result ≡ end.Unsettled) → OnOk result X → X
on-end result X (inl is) so = subst (λ (r : Result Bool SyncStop). OnOk r X) (ended-settled result is) so
on-end result X (inr is) so = subst (λ (r : Result Bool SyncStop). OnOk r X) (ended-unsettled result is) so

-- ---- a sync that no one disturbs
quiet-stop : {drive more now : List Step} {local part lnow : List LocalStep} {images added inow : List Image} (fb fn : ℕ) (before after : Counts) (s : SyncStop)
    → Ran 3 fb fn drive more now local part lnow images added inow (Err s) → HasStopCause before after {T = Bool} (Err s) → IsQuiet before after more part → last_image images ≡ empty_image
    → (end_of_stop s ≡ end.Settled) ⊎ (end_of_stop s ≡ end.Memory)
quiet-stop fb fn before after stop.LinkFault ran cause quiet empty = absurd (quiet.link (rose-some before.link_faults after.link_faults (cause.link refl).0))
quiet-stop fb fn before after stop.TreeFault ran cause quiet empty = absurd (quiet.tree (cause.tree refl))
quiet-stop fb fn before after stop.KeeperFault ran cause quiet empty = absurd (quiet.keeper (cause.keeper refl))
quiet-stop {drive} fb fn before after (stop.BadPages number) ran cause quiet empty =
    absurd (ran.never_bad number refl (subst (λ (i : Image). IsSound i drive) (sym empty) (sound-empty drive)))
quiet-stop {drive} {more} fb fn before after stop.Unserved ran cause quiet empty = absurd (never-unserved more quiet.own (ran.unserved refl))
quiet-stop fb fn before after stop.Memory ran cause quiet empty = inr refl

quiet-ends : {drive more now : List Step} {local part lnow : List LocalStep} {images added inow : List Image} (before after : Counts) (result : Result Bool SyncStop)
    → Ran 3 before.link_faults after.link_faults drive more now local part lnow images added inow result → HasRunCause 3 before after result → IsQuiet before after more part
    → (local_of local).spots ≡ [] → last_image images ≡ empty_image → (end_of result ≡ end.Settled) ⊎ (end_of result ≡ end.Memory)
quiet-ends before after (Ok true) ran cause quiet none empty = inl refl
quiet-ends before after (Ok false) ran cause quiet none empty = absurd (ran.fresh (omega arith) refl quiet.link (quiet.own, quiet.ops) none empty)
quiet-ends before after (Err s) ran cause quiet none empty = quiet-stop before.link_faults after.link_faults before after s ran cause.stopped quiet empty

-- ---- all of it
stays-servable : (drive more served_more : List Step) (images added served_added : List Image) → served_more ≡ more → served_added ≡ added
    → (AreOwnServed served_more → HasServable (last_image images) drive → HasServable (last_image (images ++ served_added)) (drive ++ served_more))
    → AreOwnServed more → HasServable (last_image images) drive → HasServable (last_image (images ++ added)) (drive ++ more)
stays-servable drive more served_more images added served_added same same_images stays own has =
    subst (λ (m : List Step). HasServable (last_image (images ++ added)) (drive ++ m)) same
    (subst (λ (a : List Image). HasServable (last_image (images ++ a)) (drive ++ served_more)) same_images (stays (subst AreOwnServed (sym same) own) has))

syncs : {drive more : List Step} {local part : List LocalStep} {images added : List Image} (before now : Counts) (result : Result Bool SyncStop)
    → Ran 3 before.link_faults now.link_faults drive more (drive ++ more) local part (local ++ part) images added (images ++ added) result → HasRunCause 3 before now result
    → (AreOwnServed more → HasServable (last_image images) drive → HasServable (last_image (images ++ added)) (drive ++ more))
    → Syncs before now drive more local part images added (end_of result)
syncs {drive} {more} {local} {part} {images} {added} before now result ran cause stays = record {
  asked = ran.grew.asked;
  steps = ran.grew.steps;
  images_are_sound = ran.grew.sound;
  keeps_every_edit = λ kept. keeps-edits drive more local part ran.grew.steps kept;
  mirrors_the_drive = λ is. ran.settled (ended-settled result is);
  unsettled_is_unlike = λ is. ran.unsettled (ended-unsettled result is);
  makes_what_the_drive_had = ran.grew.had;
  within_three_looks = ran.within;
  asks_with_the_last_token = chained-also (last_image images).token drive more (λ is. ap (λ r. end_of r) is) ran.chained;
  keeps_the_last_token = λ is. on-end result (IsChained (last_image images).token drive more (last_image (images ++ added)).token) is ran.chained_on;
  settled_looks = λ is. ran.found_same (ended-settled result is);
  unsettled_looks = λ is. ran.found_unlike (ended-unsettled result is);
  scans_are_whole = λ is. on-end result (AreWhole local part) is ran.whole;
  ends_with_a_look = λ is. on-end result (AllByRecursion IsLook (since_listed (local ++ part))) is ran.looks;
  settled_after_a_look = λ is. ran.looked (ended-settled result is);
  unsettled_after_three = λ is. ran.looked_by (ended-unsettled result is);
  never_bad = λ id is. ran.never_bad id (ended-bad result id is);
  bad_pages = λ id is. ran.bad_pages id (ended-bad result id is);
  unserved = λ is. let ends = ran.unserved (ended-unserved result is) in record { token = ends.token; last = ends.last None };
  quiet_settles = λ quiet none empty. quiet-ends before now result ran cause quiet none empty;
  stays_servable = stays;
}

in-full : (before now : Counts) (result : Result Bool SyncStop) (drive more drive_now : List Step) (local part local_now : List LocalStep) (images added images_now : List Image)
    → Ran 3 before.link_faults now.link_faults drive more drive_now local part local_now images added images_now result
    → Ran 3 before.link_faults now.link_faults drive more (drive ++ more) local part (local ++ part) images added (images ++ added) result
in-full before now result drive more drive_now local part local_now images added images_now ran =
    subst (λ (d : List Step). Ran 3 before.link_faults now.link_faults drive more d local part (local ++ part) images added (images ++ added) result) ran.grew.drive_is
    (subst (λ (l : List LocalStep). Ran 3 before.link_faults now.link_faults drive more drive_now local part l images added (images ++ added) result) ran.grew.local_is
    (subst (λ (i : List Image). Ran 3 before.link_faults now.link_faults drive more drive_now local part local_now images added i result) ran.grew.images_are ran))

syncs-to : (before now : Counts) (result : Result Bool SyncStop) (drive : List Step) (local : List LocalStep) (images : List Image) (drive_after : Option (List Step)) (local_after : Option (List LocalStep))
    (images_after : Option (List Image)) → RunsTo 3 before.link_faults now.link_faults drive local images drive_after local_after images_after result → HasRunCause 3 before now result
    → Served drive images drive_after images_after → SyncsTo before now drive local images drive_after local_after images_after (end_of result)
syncs-to before now result drive local images drive_after local_after images_after r cause served =
    let grew = r.ran.grew in
    let drive_grown : drive_after ≡ Some (drive ++ r.more) = r.drive_told ∙ ap (λ d. Some d) grew.drive_is in
    let images_grown : images_after ≡ Some (images ++ r.added) = r.images_told ∙ ap (λ i. Some i) grew.images_are in
    record {
      more = r.more;
      part = r.part;
      added = r.added;
      drive_grown = drive_grown;
      local_grown = r.local_told ∙ ap (λ l. Some l) grew.local_is;
      images_grown = images_grown;
      syncs = syncs before now result (in-full before now result drive r.more r.drive_now local r.part r.local_now images r.added r.images_now r.ran) cause
          (stays-servable drive r.more served.more images r.added served.added (same-more drive_after drive served.more r.more served.drive_grown drive_grown)
          (same-more images_after images served.added r.added served.images_grown images_grown) served.servable);
    }

pub syncs-told : (before now : Counts) (result : Result Bool SyncStop) (drive_before drive_after : Option (List Step)) (local_before local_after : Option (List LocalStep)) (images_before images_after : Option (List Image))
    → RunsAll 3 before.link_faults now.link_faults drive_before drive_after local_before local_after images_before images_after result → HasRunCause 3 before now result
    → ServesAll drive_before drive_after images_before images_after → SyncsTold before now drive_before drive_after local_before local_after images_before images_after (end_of result)
syncs-told before now result drive_before drive_after local_before local_after images_before images_after runs cause serves = record {
  told = λ drive local images told local_told images_told.
      syncs-to before now result drive local images drive_after local_after images_after (runs.told drive local images told local_told images_told) cause (serves.told drive images told images_told);
}
