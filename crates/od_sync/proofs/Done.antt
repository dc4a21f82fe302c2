-- A plan that is done: the folders, and then the files that are tried.
use Rattle.std.proofs.Common.{◌≡◌, ℕ, ◌<◌, ◌≤◌, Bool, true, not, ◌&&◌, cond, nat_lt, List, [], ◌∷◌, ◌++◌, map, filter, nat_le, Option, Some, refl, ap, sym, subst, ◌∙◌, append_assoc, arith}
use Rattle.std.proofs.lemmas.Bool.{le-leb, leb-true, lt-ltb, ltb-true, and_parts, and_from, or_right}
use Rattle.std.proofs.lemmas.List.Elements.{All-contains, All-contains_itself, All-filter, All-weaker, filter_passes}
use Rattle.std.specs.List.{All, AllByRecursion, AllZip, Contains}
use Rattle.gd_item.specs.Steps.{held_by, accepted_by}
use Rattle.gd_item.specs.declared.request.Request.{Request}
use Rattle.gd_item.specs.declared.step.Step.{Step}
use Rattle.od_keeper.specs.Sound.{IsAccepted, IsSound}
use Rattle.od_keeper.specs.declared.image.Agreed.TheVariants as agreed
use Rattle.od_keeper.specs.declared.image.Image.{Image}
use Rattle.od_transfer.specs.Fits.{IsTransfer, is_transfer}
use Rattle.gd_names.proofs.Each.{each-so, each-append, each-first, each-second}
use Rattle.od_transfer.proofs.Alone.{found-item}
use Rattle.od_transfer.proofs.Logs.{such-also}
use Rattle.od_tree.specs.Local.{local_of}
use Rattle.od_tree.specs.Undisturbed.{IsOp}
use Rattle.od_tree.specs.declared.step.LocalStep.{LocalStep}
use Rattle.od_tree.specs.declared.step.LocalStep.TheVariants.{User, Op}
use Rattle.od_tree.specs.declared.step.TreeOp.TheVariants as op
use Rattle.od_sync.specs.Batches.{Fetches, Stops}
use Rattle.od_sync.specs.Deltas.{is_delta}
use Rattle.od_sync.specs.Doing.{AreAcceptedFetches, CanPlace, IsFetchOf, IsFileOf, IsFolderOf, IsMaking, Makes, MakesAll, NoFile, NoFolder, file_spot, is_below_any, is_tried, most_bytes}
use Rattle.od_sync.specs.Syncing.{Does, Goes, IsSyncRequest, IsSyncStep}
use Rattle.od_sync.specs.declared.planning.Fetching.{Fetching}
use Rattle.od_sync.specs.declared.planning.Plan.{Plan}
use Rattle.od_sync.proofs.Batched.{fetch-among}
use Rattle.od_sync.proofs.Made.{makes-so, makes-steps, makes-then}

sync-step : (step : LocalStep) → IsMaking step → IsSyncStep step
sync-step (User edit) makes = tt
sync-step (Op (op.List at)) makes = tt
sync-step (Op (op.Read at)) makes = tt
sync-step (Op (op.MakeDir at)) makes = tt
sync-step (Op (op.RemoveDir at)) makes = makes
sync-step (Op (op.Place at bytes)) makes = tt
sync-step (Op (op.Rename from to)) makes = makes
sync-step (Op (op.SetAside at)) makes = makes
sync-step (Op (op.ReadAside aside)) makes = makes
sync-step (Op (op.PutBack aside to)) makes = makes
sync-step (Op (op.Discard aside)) makes = makes
sync-step (Op op.Asides) makes = makes

sync-steps : (steps : List LocalStep) → AllByRecursion IsMaking steps → AllByRecursion IsSyncStep steps
sync-steps steps makes = each-so IsMaking IsSyncStep sync-step steps makes

sync-request : (request : Request) (served heard : Bool) → IsTransfer request served heard → IsSyncRequest request served heard
sync-request request served heard transfer = or_right (is_delta request) (is_transfer request) transfer

-- the fetches that are tried are some of those that are planned, and all where nothing is barred
pub tried-below : (barred : List (List (List ℕ))) (P : Fetching → Type 0) (fetches : List Fetching) → All P fetches → All P (filter (is_tried barred) fetches)
tried-below barred P fetches all = All-filter (is_tried barred) P fetches all

light : (barred : List (List (List ℕ))) (fetch : Fetching) → is_tried barred fetch ≡ true → fetch.size ≤ most_bytes
light barred fetch tried =
    let first = and_parts (not (is_below_any barred fetch.path) && nat_le fetch.size most_bytes) (nat_lt 0 fetch.id.0) tried in
    leb-true fetch.size most_bytes (and_parts (not (is_below_any barred fetch.path)) (nat_le fetch.size most_bytes) first.0).1

written : (barred : List (List (List ℕ))) (fetch : Fetching) → is_tried barred fetch ≡ true → 0 < fetch.id.0
written barred fetch tried = ltb-true 0 fetch.id.0 (and_parts (not (is_below_any barred fetch.path) && nat_le fetch.size most_bytes) (nat_lt 0 fetch.id.0) tried).1

pub tried-light : (barred : List (List (List ℕ))) (fetches : List Fetching) → All (λ (fetch : Fetching). fetch.size ≤ most_bytes) (filter (is_tried barred) fetches)
tried-light barred fetches =
    All-weaker (λ (fetch : Fetching). is_tried barred fetch ≡ true) (λ (fetch : Fetching). fetch.size ≤ most_bytes) (light barred) (filter (is_tried barred) fetches) (filter_passes (is_tried barred) fetches)

pub tried-written : (barred : List (List (List ℕ))) (fetches : List Fetching) → All (λ (fetch : Fetching). 0 < fetch.id.0) (filter (is_tried barred) fetches)
tried-written barred fetches =
    All-weaker (λ (fetch : Fetching). is_tried barred fetch ≡ true) (λ (fetch : Fetching). 0 < fetch.id.0) (written barred) (filter (is_tried barred) fetches) (filter_passes (is_tried barred) fetches)

all-tried : (drive : List Step) (fetches : List Fetching) (files : List (List (List ℕ) × List ℕ)) → AllZip (IsFileOf (held_by drive)) fetches files → filter (is_tried []) fetches ≡ fetches
all-tried drive [] files zip = refl
all-tried drive (fetch ∷ fetches) [] zip = absurd zip
all-tried drive (fetch ∷ fetches) (file ∷ files) zip =
    let found = found-item drive fetch.id.0 zip.0.there.item zip.0.there.there in
    ap (λ b. cond b (fetch ∷ filter (is_tried []) fetches) (filter (is_tried []) fetches))
    (and_from (nat_le fetch.size most_bytes) (nat_lt 0 fetch.id.0) (le-leb fetch.size most_bytes zip.0.size_fits) (lt-ltb 0 fetch.id.0 (omega (arith, found.above))))
    ∙ ap (λ fs. fetch ∷ fs) (all-tried drive fetches files zip.1)

-- ---- the steps in the folder
pub makes-folders : (folders made : List (List (List ℕ))) (fetches : List Fetching) (before after : Option (List LocalStep)) → made ≡ folders → Makes (IsFolderOf made) NoFile before after
    → Makes (IsFolderOf folders) (IsFetchOf fetches) before after
makes-folders folders made fetches before after same makes =
    makes-so before after (λ at among. subst (λ (those : List (List (List ℕ))). Contains those at) same among) (λ at bytes none. absurd none) makes

tried-among : (barred : List (List (List ℕ))) (fetches : List Fetching) (fetch : Fetching) → Contains (filter (is_tried barred) fetches) fetch → Contains fetches fetch
tried-among barred fetches fetch among =
    All-contains (Contains fetches) (filter (is_tried barred) fetches) fetch (All-filter (is_tried barred) (Contains fetches) fetches (All-contains_itself fetches)) among

pub makes-plan : (folders made : List (List (List ℕ))) (fetches tried : List Fetching) (barred : List (List (List ℕ))) (before now after : Option (List LocalStep)) → made ≡ folders → tried ≡ filter (is_tried barred) fetches
    → Makes (IsFolderOf made) NoFile before now → Makes NoFolder (IsFetchOf tried) now after → Makes (IsFolderOf folders) (IsFetchOf fetches) before after
makes-plan folders made fetches tried barred before now after same tried_are first second =
    let among : (fetch : Fetching) → Contains tried fetch → Contains fetches fetch =
    λ fetch inside. tried-among barred fetches fetch (subst (λ those. Contains those fetch) tried_are inside)
    in
    makes-then before now after (makes-folders folders made fetches before now same first) (makes-so now after (λ at none. absurd none) (fetch-among tried fetches among) second)

-- ---- how all three grow
pub goes-plan : {IsFolder : List (List ℕ) → Type 0} {IsFile : List (List ℕ) → List ℕ → Type 0} (image : Image) (fetches tried : List Fetching) (barred : List (List (List ℕ))) (drive_before drive_after : Option (List Step)) (local_before local_mid local_after : Option (List LocalStep))
    (images_before images_after : Option (List Image)) → tried ≡ filter (is_tried barred) fetches → Makes IsFolder IsFile local_before local_mid
    → Stops image tried drive_before drive_after local_mid local_after images_before images_after
    → Goes (λ drive. IsSound image drive × AreAcceptedFetches (accepted_by drive) fetches) image drive_before drive_after local_before local_after images_before images_after
goes-plan {IsFolder} {IsFile} image fetches tried barred drive_before drive_after local_before local_mid local_after images_before images_after tried_are makes stops = record {
  told = λ drive local images told told_local told_images is.
      let made = makes.told local told_local in
      let stopped = stops.told drive (local ++ made.part) images told made.grown told_images is in
      record {
        more = stopped.more;
        asked = such-also IsTransfer IsSyncRequest sync-request stopped.more stopped.transfers;
        drive_grown = stopped.drive_grown;
        part = made.part ++ stopped.part;
        steps = sync-steps (made.part ++ stopped.part) (each-append IsMaking made.part stopped.part (makes-steps IsFolder IsFile made.part made.makes) stopped.makes);
        local_grown = stopped.local_grown ∙ ap (λ those. Some those) (append_assoc local made.part stopped.part);
        added = stopped.added;
        images_grown = stopped.images_grown;
        sound = λ holds.
            stopped.sound (subst (λ (i : Image). IsSound i drive) (sym is) holds.0)
            (subst (λ (fs : List Fetching). AreAcceptedFetches (accepted_by drive) fs) (sym tried_are)
            (tried-below barred (λ (fetch : Fetching). IsAccepted (accepted_by drive) (agreed.File fetch.digest)) fetches holds.1));
      };
}

-- ---- what is done
pub does-plan : {IsFolder : List (List ℕ) → Type 0} {IsFile : List (List ℕ) → List ℕ → Type 0} (image : Image) (plan : Plan) (tried : List Fetching) (barred : List (List (List ℕ))) (next : Image) (faults_before faults_now : ℕ) (drive_before drive_after : Option (List Step))
    (local_before local_mid local_after : Option (List LocalStep)) (images_before images_after : Option (List Image)) → tried ≡ filter (is_tried barred) plan.fetches → Makes IsFolder IsFile local_before local_mid
    → MakesAll plan.folders local_before local_mid barred → Fetches image tried next faults_before faults_now drive_before drive_after local_mid local_after images_before images_after
    → Does image plan next faults_before faults_now drive_before drive_after local_before local_after images_before images_after
does-plan {IsFolder} {IsFile} image plan tried barred next faults_before faults_now drive_before drive_after local_before local_mid local_after images_before images_after tried_are makes all_made fetches = record {
  told = λ drive local images told told_local told_images is.
      let made = makes.told local told_local in
      let done = fetches.told drive (local ++ made.part) images told made.grown told_images is in
      record {
        more = done.more;
        transfers = done.transfers;
        drive_grown = done.drive_grown;
        part = made.part ++ done.part;
        steps = sync-steps (made.part ++ done.part) (each-append IsMaking made.part done.part (makes-steps IsFolder IsFile made.part made.makes) done.makes);
        local_grown = done.local_grown ∙ ap (λ those. Some those) (append_assoc local made.part done.part);
        added = done.added;
        images_grown = done.images_grown;
        sound = λ sound are.
            (done.sound sound
            (subst (λ (fs : List Fetching). AreAcceptedFetches (accepted_by drive) fs) (sym tried_are)
            (tried-below barred (λ (fetch : Fetching). IsAccepted (accepted_by drive) (agreed.File fetch.digest)) plan.fetches are))).0;
        last = done.last;
        all_done = λ no_fault own alone files zip can_make can_place.
            let front = all_made.all local made.part told_local made.grown (each-first IsOp made.part done.part alone) can_make in
            let here : tried ≡ plan.fetches = tried_are ∙ (ap (λ tops. filter (is_tried tops) plan.fetches) front.0 ∙ all-tried drive plan.fetches files zip) in
            let back =
            done.all no_fault own (each-second IsOp made.part done.part alone) files (subst (λ (fs : List Fetching). AllZip (IsFileOf (held_by drive)) fs files) (sym here) zip)
            (subst (λ spots. CanPlace spots files) (sym front.1) can_place)
            in
            ap (λ steps. (local_of steps).spots) (sym (append_assoc local made.part done.part)) ∙ (back ∙ ap (λ spots. spots ++ map file_spot files) front.1);
      };
}
