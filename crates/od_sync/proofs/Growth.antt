-- How logs and images grow over one call after another.
use Rattle.std.proofs.Common.{◌≡◌, ℕ, ◌+◌, Bool, true, cond, ◌||◌, List, [], ◌∷◌, ◌++◌, map, count_by, Option, Some, refl, ap, sym, subst, ◌∙◌, append_assoc}
use Rattle.std.proofs.lemmas.List.{append-nil, append_cancel_left}
use Rattle.std.proofs.lemmas.List.Elements.{All-append, All-weaker}
use Rattle.std.proofs.lemmas.List.Sums.{sum_by-append}
use Rattle.std.specs.List.{All, AllByRecursion}
use Rattle.gd_item.specs.declared.request.Request.{Request}
use Rattle.gd_item.specs.declared.request.Request.TheVariants.{Delta}
use Rattle.gd_item.specs.declared.step.Step.{Step}
use Rattle.gd_item.specs.declared.step.Step.TheVariants.{Ask}
use Rattle.gd_item.specs.declared.step.Who.TheVariants.{Own}
use Rattle.gd_names.proofs.Each.{each, each-append, each-so}
use Rattle.od_keeper.proofs.Growing.{sound-stays}
use Rattle.od_keeper.specs.Keeping.{last_image}
use Rattle.od_keeper.specs.Sound.{IsSound}
use Rattle.od_keeper.specs.declared.image.Image.{Image}
use Rattle.od_transfer.proofs.Logs.{such-also, such-append}
use Rattle.od_transfer.specs.Asking.{OwnAre}
use Rattle.od_transfer.specs.Fits.{IsTransfer, is_transfer}
use Rattle.od_tree.specs.declared.edit.UserEdit.{UserEdit}
use Rattle.od_tree.specs.declared.step.LocalStep.{LocalStep}
use Rattle.od_tree.specs.declared.step.LocalStep.TheVariants.{User, Op}
use Rattle.od_tree.specs.declared.step.TreeOp.TheVariants as op
use Rattle.od_sync.specs.Deltas.{IsAskedWith, IsSpent, is_delta}
use Rattle.od_sync.specs.Rounds.{Grew}
use Rattle.od_sync.specs.Scans.{IsLook}
use Rattle.od_sync.specs.Syncing.{IsSyncRequest, IsSyncStep}
use Rattle.od_sync.specs.Syncs.{IsFromDrive}
use Rattle.od_sync.proofs.HadThen.{had-earlier, had-longer}
use Rattle.std.proofs.lemmas.Bool.{or_right}
use Rattle.od_sync.proofs.Looks.{looks-edits}
use Rattle.od_keeper.proofs.LastImages.{last_added}

-- ---- lists in general
pub none-more : {X : Type 0} (log : Option (List X)) (old : List X) → log ≡ Some old → log ≡ Some (old ++ [])
none-more log old told = told ∙ ap (λ xs. Some xs) (sym (append-nil old))

pub same-log : {X : Type 0} (log : Option (List X)) (a b : List X) → log ≡ Some a → log ≡ Some b → a ≡ b
same-log log a b first second = let both : Some a ≡ Some b = sym first ∙ second in cc both

pub same-more : {X : Type 0} (log : Option (List X)) (old a b : List X) → log ≡ Some (old ++ a) → log ≡ Some (old ++ b) → a ≡ b
same-more log old a b first second = append_cancel_left old a b (same-log log (old ++ a) (old ++ b) first second)

pub each-first : {X : Type 0} (P : X → Type 0) (xs ys : List X) → AllByRecursion P (xs ++ ys) → AllByRecursion P xs
each-first P [] ys all = tt
each-first P (x ∷ xs) ys all = (all.0, each-first P xs ys all.1)

pub each-second : {X : Type 0} (P : X → Type 0) (xs ys : List X) → AllByRecursion P (xs ++ ys) → AllByRecursion P ys
each-second P [] ys all = all
each-second P (x ∷ xs) ys all = each-second P xs ys all.1

pub count-append : {X : Type 0} (p : X → Bool) (xs ys : List X) → count_by p (xs ++ ys) ≡ count_by p xs + count_by p ys
count-append p xs ys = sum_by-append (λ x. cond (p x) 1 0) xs ys

-- ---- the last image
last-each : (P : Image → Type 0) (images added : List Image) → P (last_image images) → AllByRecursion P added → P (last_image (images ++ added))
last-each P images [] first all = subst (λ (all_images : List Image). P (last_image all_images)) (sym (append-nil images)) first
last-each P images (image ∷ added) first all =
    subst (λ (all_images : List Image). P (last_image all_images)) (append_assoc images (image ∷ []) added)
    (last-each P (images ++ image ∷ []) added (subst P (sym (last_added images image)) all.0) all.1)

-- ---- the requests of a sync
delta-asked : (token : Option (List ℕ)) (sent : Request) → sent ≡ Delta token → (is_delta sent || is_transfer sent) ≡ true
delta-asked token sent is = ap (λ (request : Request). is_delta request || is_transfer request) is

pub asked-spent : (token : Option (List ℕ)) (steps : List Step) → OwnAre (IsSpent (Delta token)) steps → OwnAre IsSyncRequest steps
asked-spent token steps such = such-also (IsSpent (Delta token)) IsSyncRequest (λ sent served heard spent. delta-asked token sent spent.0) steps such

pub asked-with : (token : Option (List ℕ)) (steps : List Step) → OwnAre (IsAskedWith token) steps → OwnAre IsSyncRequest steps
asked-with token steps such = such-also (IsAskedWith token) IsSyncRequest (λ sent served heard is. delta-asked token sent is) steps such

pub asked-transfers : (steps : List Step) → OwnAre IsTransfer steps → OwnAre IsSyncRequest steps
asked-transfers steps such = such-also IsTransfer IsSyncRequest (λ sent served heard is. or_right (is_delta sent) (is_transfer sent) is) steps such

-- a request for changes that was answered, after those that were not
abbrev pub answered : Option (List ℕ) → List Step
answered token = Ask Own (Delta token) true true ∷ []

pub asked-answered : (token : Option (List ℕ)) (spent : List Step) → OwnAre (IsSpent (Delta token)) spent → OwnAre IsSyncRequest (spent ++ answered token)
asked-answered token spent such = such-append IsSyncRequest spent (answered token) (asked-spent token spent such) (refl, tt)

-- ---- the steps of a sync in the folder
look-step : (step : LocalStep) → IsLook step → IsSyncStep step
look-step (User edit) look = tt
look-step (Op (op.List at)) look = tt
look-step (Op (op.Read at)) look = tt
look-step (Op (op.MakeDir at)) look = absurd look
look-step (Op (op.RemoveDir at)) look = absurd look
look-step (Op (op.Place at bytes)) look = absurd look
look-step (Op (op.Rename from to)) look = absurd look
look-step (Op (op.SetAside at)) look = absurd look
look-step (Op (op.ReadAside aside)) look = absurd look
look-step (Op (op.PutBack aside to)) look = absurd look
look-step (Op (op.Discard aside)) look = absurd look
look-step (Op op.Asides) look = absurd look

pub look-steps : (steps : List LocalStep) → AllByRecursion IsLook steps → AllByRecursion IsSyncStep steps
look-steps steps looks = each-so IsLook IsSyncStep look-step steps looks

-- the steps of a scan: edits of the user, the listing of the root, and the looks below it
abbrev pub scan-steps : List UserEdit → List LocalStep → List LocalStep
scan-steps edits rest = map (λ (edit : UserEdit). User edit) edits ++ Op (op.List []) ∷ rest

pub scan-looks : (edits : List UserEdit) (rest : List LocalStep) → AllByRecursion IsLook rest → AllByRecursion IsLook (scan-steps edits rest)
scan-looks edits rest looks = each-append IsLook (map (λ (edit : UserEdit). User edit) edits) (Op (op.List []) ∷ rest) (looks-edits edits) (tt, looks)

pub scan-is-steps : (edits : List UserEdit) (rest : List LocalStep) → AllByRecursion IsLook rest → AllByRecursion IsSyncStep (scan-steps edits rest)
scan-is-steps edits rest looks = look-steps (scan-steps edits rest) (scan-looks edits rest looks)

-- ---- growth after growth
later-sound : (mid more now : List Step) (added : List Image) → now ≡ mid ++ more → All (λ (image : Image). IsSound image mid) added → All (λ (image : Image). IsSound image now) added
later-sound mid more now added is all =
    All-weaker (λ (image : Image). IsSound image mid) (λ (image : Image). IsSound image now)
    (λ image sound. subst (λ (log : List Step). IsSound image log) (sym is) (sound-stays image mid more sound)) added all

pub mid-sound : (drive more mid : List Step) (images added images_mid : List Image) → mid ≡ drive ++ more → images_mid ≡ images ++ added → IsSound (last_image images) drive
    → All (λ (image : Image). IsSound image mid) added → IsSound (last_image images_mid) mid
mid-sound drive more mid images added images_mid mid_is images_are sound all =
    subst (λ (all_images : List Image). IsSound (last_image all_images) mid) (sym images_are)
    (last-each (λ (image : Image). IsSound image mid) images added
    (subst (λ (log : List Step). IsSound (last_image images) log) (sym mid_is) (sound-stays (last_image images) drive more sound))
    (each (λ (image : Image). IsSound image mid) added all))

pub grew-sound : {drive more now : List Step} {local part lnow : List LocalStep} {images added inow : List Image} → Grew drive more now local part lnow images added inow
    → IsSound (last_image images) drive → IsSound (last_image inow) now
grew-sound {drive} {more} {now} {local} {part} {lnow} {images} {added} {inow} grew sound =
    mid-sound drive more now images added inow grew.drive_is grew.images_are sound (grew.sound sound)

-- more that comes after it
pub grew-more : {drive m1 mid : List Step} {local p1 lmid : List LocalStep} {images a1 imid : List Image} (m2 : List Step) (p2 : List LocalStep) (a2 : List Image)
    → Grew drive m1 mid local p1 lmid images a1 imid → OwnAre IsSyncRequest m2 → AllByRecursion IsSyncStep p2
    → (IsSound (last_image images) drive → All (λ (image : Image). IsSound image (mid ++ m2)) a2) → (IsSound (last_image images) drive → AllByRecursion (IsFromDrive drive (m1 ++ m2)) p2)
    → Grew drive (m1 ++ m2) (mid ++ m2) local (p1 ++ p2) (lmid ++ p2) images (a1 ++ a2) (imid ++ a2)
grew-more {drive} {m1} {mid} {local} {p1} {lmid} {images} {a1} {imid} m2 p2 a2 first asked steps sounds had = record {
  drive_is = ap (λ log. log ++ m2) first.drive_is ∙ append_assoc drive m1 m2;
  asked = such-append IsSyncRequest m1 m2 first.asked asked;
  local_is = ap (λ log. log ++ p2) first.local_is ∙ append_assoc local p1 p2;
  steps = each-append IsSyncStep p1 p2 first.steps steps;
  images_are = ap (λ all_images. all_images ++ a2) first.images_are ∙ append_assoc images a1 a2;
  sound = λ sound. All-append (λ (image : Image). IsSound image (mid ++ m2)) a1 a2 (later-sound mid m2 (mid ++ m2) a1 refl (first.sound sound)) (sounds sound);
  had = λ sound. each-append (IsFromDrive drive (m1 ++ m2)) p1 p2 (had-longer drive m1 m2 p1 (first.had sound)) (had sound);
}

pub grew-then : {drive m1 mid m2 now : List Step} {local p1 lmid p2 lnow : List LocalStep} {images a1 imid a2 inow : List Image}
    → Grew drive m1 mid local p1 lmid images a1 imid → Grew mid m2 now lmid p2 lnow imid a2 inow → Grew drive (m1 ++ m2) now local (p1 ++ p2) lnow images (a1 ++ a2) inow
grew-then {drive} {m1} {mid} {m2} {now} {local} {p1} {lmid} {p2} {lnow} {images} {a1} {imid} {a2} {inow} first second = record {
  drive_is = second.drive_is ∙ (ap (λ steps. steps ++ m2) first.drive_is ∙ append_assoc drive m1 m2);
  asked = such-append IsSyncRequest m1 m2 first.asked second.asked;
  local_is = second.local_is ∙ (ap (λ steps. steps ++ p2) first.local_is ∙ append_assoc local p1 p2);
  steps = each-append IsSyncStep p1 p2 first.steps second.steps;
  images_are = second.images_are ∙ (ap (λ all_images. all_images ++ a2) first.images_are ∙ append_assoc images a1 a2);
  sound = λ sound.
      All-append (λ (image : Image). IsSound image now) a1 a2
      (later-sound mid m2 now a1 second.drive_is (first.sound sound))
      (second.sound (grew-sound first sound));
  had = λ sound.
      each-append (IsFromDrive drive (m1 ++ m2)) p1 p2 (had-longer drive m1 m2 p1 (first.had sound))
      (had-earlier drive m1 m2 p2 (subst (λ (log : List Step). AllByRecursion (IsFromDrive log m2) p2) first.drive_is (second.had (grew-sound first sound))));
}
