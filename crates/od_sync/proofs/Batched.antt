-- Batch after batch of fetches: what one does to the logs and to the images, and what all of them do.
use Rattle.std.proofs.Common.{◌≡◌, inl, inr, ℕ, ◌<◌, ◌≤◌, Bool, true, false, List, [], ◌∷◌, ◌++◌, map, Option, Some, None, Ok, Err, refl, ap, sym, subst, ◌∙◌, append_assoc, arith}
use Rattle.std.proofs.lemmas.List.{append-nil, map-append}
use Rattle.std.proofs.lemmas.List.Elements.{All-nil, All-cons, All-head, All-tail, All-append, All-map, All-weaker, Contains-append_left, Contains-append_right}
use Rattle.std.specs.List.{All, AllZip, Contains, list_any}
use Rattle.std.specs.Prelude.{Result, OnErr}
use Rattle.gd_names.specs.Streams.{Rose}
use Rattle.gd_item.specs.Inventory.{Inventory}
use Rattle.gd_item.specs.Sessions.{held}
use Rattle.gd_item.specs.Steps.{held_by, accepted_by}
use Rattle.gd_item.specs.declared.digest.Digest.{Digest}
use Rattle.gd_item.specs.declared.step.Step.{Step}
use Rattle.od_keeper.specs.Images.{applied}
use Rattle.od_keeper.specs.Keeping.{Commits, Stay, last_image}
use Rattle.od_keeper.specs.Sound.{IsAccepted, IsSound}
use Rattle.od_keeper.specs.declared.image.Agreed.TheVariants as agreed
use Rattle.od_keeper.specs.declared.image.BaseRow.{BaseRow}
use Rattle.od_keeper.specs.declared.image.Change.{Change}
use Rattle.od_keeper.specs.declared.image.Image.{Image}
use Rattle.gd_names.proofs.Each.{each-append, each-first, each-second}
use Rattle.od_keeper.proofs.Growing.{sound-stays}
use Rattle.od_transfer.specs.Alone.{AreOwnServed, is_own_served}
use Rattle.od_transfer.specs.Asking.{Grows, IsSuch, OwnAre}
use Rattle.od_transfer.specs.Explained.{GrowsSo, IsExplained, IsFetchExplained, IsOfJobs}
use Rattle.od_transfer.specs.Fits.{Fits, HasDigest, IsTransfer, IsWrittenJob, is_lost}
use Rattle.od_transfer.specs.declared.job.Job.{Job}
use Rattle.od_transfer.specs.declared.job.Outcome.{Outcome}
use Rattle.od_tree.specs.Local.{local_of}
use Rattle.od_tree.specs.Undisturbed.{IsOp}
use Rattle.od_tree.specs.declared.local.Spot.{Spot}
use Rattle.od_tree.specs.declared.step.LocalStep.{LocalStep}
use Rattle.od_sync.specs.Batches.{BringsFiles, CommitsRows, FetchesFiles, Fetches, Stops, change_of_rows}
use Rattle.od_sync.specs.Doing.{AreAcceptedFetches, AreRowsOf, CanPlace, IsBroughtTo, IsBytes, IsFetchFit, IsFetchOf, IsFileOf, IsMaking, IsPathOf, Makes, NoFolder, PlacesAll, file_spot, job_of, placed_row}
use Rattle.od_sync.specs.declared.planning.Fetching.{Fetching}
use Rattle.od_sync.proofs.ImagesAfter.{rows_sound}
use Rattle.od_keeper.proofs.LastImages.{last_added}
use Rattle.od_sync.proofs.Made.{makes-so, makes-steps, makes-then}
use Rattle.od_sync.proofs.Placed.{all-back, all-front}
use Rattle.od_transfer.proofs.Alone.{fetched_there, transfers_keep}
use Rattle.od_transfer.proofs.Jobs.{jobs_transfers}
use Rattle.gd_names.proofs.Small.{neither}
use Rattle.gd_names.proofs.Streams.{rose-later, rose-on}

-- ---- the steps in the folder
fits-batch : (batch : List Fetching) (outcomes : List Outcome) → AllZip Fits (map job_of batch) outcomes → AllZip IsFetchFit batch outcomes
fits-batch [] [] fits = tt
fits-batch [] (outcome ∷ outcomes) fits = absurd fits
fits-batch (fetch ∷ batch) [] fits = absurd fits
fits-batch (fetch ∷ batch) (outcome ∷ outcomes) fits = (fits.0, fits-batch batch outcomes fits.1)

pub fits-jobs : (batch : List Fetching) (jobs : List Job) (outcomes : List Outcome) → jobs ≡ map job_of batch → AllZip Fits jobs outcomes → AllZip IsFetchFit batch outcomes
fits-jobs batch jobs outcomes are fits = fits-batch batch outcomes (subst (λ (those : List Job). AllZip Fits those outcomes) are fits)

pub fetch-among : (part whole : List Fetching) → ((fetch : Fetching) → Contains part fetch → Contains whole fetch) → (at : List (List ℕ)) (bytes : List ℕ) → IsFetchOf part at bytes → IsFetchOf whole at bytes
fetch-among part whole among at bytes of_part = (of_part.0, among of_part.0 of_part.1, of_part.2, of_part.3)

brought-fetched : (batch : List Fetching) (outcomes : List Outcome) → AllZip IsFetchFit batch outcomes → (at : List (List ℕ)) (bytes : List ℕ) → IsBroughtTo batch outcomes at bytes → IsFetchOf batch at bytes
brought-fetched [] outcomes fits at bytes came = absurd came
brought-fetched (fetch ∷ batch) [] fits at bytes came = absurd came
brought-fetched (fetch ∷ batch) (outcome ∷ outcomes) fits at bytes (inl here) =
    (fetch, Contains-append_left (fetch ∷ []) batch fetch (0, omega arith, refl), here.0, sym (subst (HasDigest fetch.digest) here.1 fits.0))
brought-fetched (fetch ∷ batch) (outcome ∷ outcomes) fits at bytes (inr there) =
    fetch-among batch (fetch ∷ batch) (λ other among. Contains-append_right (fetch ∷ []) batch other among) at bytes (brought-fetched batch outcomes fits.1 at bytes there)

pub makes-brought : (batch : List Fetching) (outcomes came : List Outcome) (before after : Option (List LocalStep)) → came ≡ outcomes → AllZip IsFetchFit batch outcomes
    → Makes NoFolder (IsBroughtTo batch came) before after → Makes NoFolder (IsFetchOf batch) before after
makes-brought batch outcomes came before after same fits makes =
    makes-so before after (λ at none. none) (brought-fetched batch came (subst (λ (those : List Outcome). AllZip IsFetchFit batch those) (sym same) fits)) makes

pub makes-batch : (whole done left batch rest : List Fetching) (before now after : Option (List LocalStep)) → whole ≡ done ++ left → left ≡ batch ++ rest
    → Makes NoFolder (IsFetchOf whole) before now → Makes NoFolder (IsFetchOf batch) now after → Makes NoFolder (IsFetchOf whole) before after
makes-batch whole done left batch rest before now after whole_is left_is first second =
    let among : (fetch : Fetching) → Contains batch fetch → Contains whole fetch =
    λ fetch inside.
    subst (λ fetches. Contains fetches fetch) (sym whole_is)
    (Contains-append_right done left fetch (subst (λ fetches. Contains fetches fetch) (sym left_is) (Contains-append_left batch rest fetch inside)))
    in
    makes-then before now after first (makes-so now after (λ at none. none) (fetch-among batch whole among) second)

-- ---- the bytes of a batch
bytes-come : (drive more : List Step) (batch : List Fetching) (outcomes : List Outcome) (files : List (List (List ℕ) × List ℕ)) → AreOwnServed more → OwnAre IsTransfer more
    → AllZip (IsExplained drive more) (map job_of batch) outcomes → list_any is_lost outcomes ≡ false → AllZip (IsFileOf (held_by drive)) batch files → AllZip IsBytes outcomes files
bytes-come drive more [] [] [] own transfers explained kept zip = tt
bytes-come drive more [] [] (file ∷ files) own transfers explained kept zip = absurd zip
bytes-come drive more [] (outcome ∷ outcomes) files own transfers explained kept zip = absurd explained
bytes-come drive more (fetch ∷ batch) [] files own transfers explained kept zip = absurd explained
bytes-come drive more (fetch ∷ batch) (outcome ∷ outcomes) [] own transfers explained kept zip = absurd zip
bytes-come drive more (fetch ∷ batch) (outcome ∷ outcomes) (file ∷ files) own transfers explained kept zip =
    let lost = neither (is_lost outcome) (list_any is_lost outcomes) kept in (
      fetched_there drive more fetch.id.0 file.1 outcome own transfers zip.0.there
          (subst (λ (digest : Digest). IsFetchExplained drive more fetch.id digest outcome) zip.0.digest_is explained.0) lost.0,
      bytes-come drive more batch outcomes files own transfers explained.1 lost.1 zip.1,
    )

not-so : (b : Bool) (P : Type 0) → (b ≡ true → P) → (P → ⊥) → b ≡ false
not-so true P gives none = absurd (none (gives refl))
not-so false P gives none = refl

-- the requests of a batch are those of fetches
jobs-written : (batch : List Fetching) (jobs : List Job) → jobs ≡ map job_of batch → All (λ (fetch : Fetching). 0 < fetch.id.0) batch → All IsWrittenJob jobs
jobs-written batch jobs are written = subst (λ (js : List Job). All IsWrittenJob js) (sym are) (All-map IsWrittenJob job_of batch written)

pub carries-transfers : {Holds : List Step → List Step → Type 0} (batch : List Fetching) (jobs : List Job) (before after : Option (List Step)) → jobs ≡ map job_of batch
    → All (λ (fetch : Fetching). 0 < fetch.id.0) batch → GrowsSo (IsOfJobs jobs) Holds before after → Grows IsTransfer before after
carries-transfers batch jobs before after are written carries = record {
  told = λ drive told.
      let carried = carries.told drive told in
      record { part = carried.part; such = jobs_transfers jobs drive carried.part (jobs-written batch jobs are written) carried.such; grown = carried.grown };
}

pub brings : (batch : List Fetching) (jobs : List Job) (outcomes : List Outcome) (faults_before faults_now : ℕ) (before after : Option (List Step)) → jobs ≡ map job_of batch
    → All (λ (fetch : Fetching). 0 < fetch.id.0) batch → GrowsSo (IsOfJobs jobs) (λ old part. AllZip (IsExplained old part) jobs outcomes) before after
    → (list_any is_lost outcomes ≡ true → Rose faults_before faults_now) → BringsFiles batch outcomes faults_before faults_now before after
brings batch jobs outcomes faults_before faults_now before after are written carries cause = record {
  told = λ drive told.
      let carried = carries.told drive told in
      let transfers = jobs_transfers jobs drive carried.part (jobs-written batch jobs are written) carried.such in
      record {
        more = carried.part;
        transfers = transfers;
        grown = carried.grown;
        all = λ no_fault own files zip.
            bytes-come drive carried.part batch outcomes files own transfers (subst (λ (js : List Job). AllZip (IsExplained drive carried.part) js outcomes) are carried.holds)
            (not-so (list_any is_lost outcomes) (Rose faults_before faults_now) cause no_fault) zip;
      };
}

-- ---- the files of a batch
paths-of : (inventory : Inventory) (batch : List Fetching) (files : List (List (List ℕ) × List ℕ)) → AllZip (IsFileOf inventory) batch files → AllZip IsPathOf batch files
paths-of inventory [] [] zip = tt
paths-of inventory [] (file ∷ files) zip = absurd zip
paths-of inventory (fetch ∷ batch) [] zip = absurd zip
paths-of inventory (fetch ∷ batch) (file ∷ files) zip = (zip.0.path_is, paths-of inventory batch files zip.1)

pub fetches-files : {IsFolder : List (List ℕ) → Type 0} {IsFile : List (List ℕ) → List ℕ → Type 0} (batch : List Fetching) (outcomes : List Outcome) (faults_before faults_now : ℕ) (drive_before drive_after : Option (List Step)) (local_before local_after : Option (List LocalStep))
    → BringsFiles batch outcomes faults_before faults_now drive_before drive_after → Makes IsFolder IsFile local_before local_after → PlacesAll batch outcomes local_before local_after
    → FetchesFiles batch faults_before faults_now drive_before drive_after local_before local_after
fetches-files {IsFolder} {IsFile} batch outcomes faults_before faults_now drive_before drive_after local_before local_after brought makes placed = record {
  told = λ drive local told told_local.
      let came = brought.told drive told in
      let made = makes.told local told_local in
      record {
        more = came.more;
        transfers = came.transfers;
        drive_grown = came.grown;
        part = made.part;
        makes = makes-steps IsFolder IsFile made.part made.makes;
        local_grown = made.grown;
        all = λ no_fault own alone files zip can.
            placed.all files local made.part told_local made.grown alone (paths-of (held_by drive) batch files zip) (came.all no_fault own files zip) can;
      };
}

-- ---- the rows of a batch
pub commits-none : (image : Image) (rows : List BaseRow) (images : Option (List Image)) → CommitsRows image rows image images images
commits-none image rows images = record {
  told = λ old told is. record {
    added = [];
    grown = told ∙ ap (λ those. Some those) (sym (append-nil old));
    last = ap last_image (append-nil old) ∙ is;
    sound = λ drive sound accepted. (All-nil (λ (i : Image). IsSound i drive), subst (λ (i : Image). IsSound i drive) is sound);
  };
}

pub commits-rows : {T : Type 0} (image : Image) (rows : List BaseRow) (change : Change) (next : Image) (before after : Option (List Image)) (x : T) → change ≡ change_of_rows rows → next ≡ applied change image
    → Commits change before after (Ok x) → CommitsRows image rows next before after
commits-rows image rows change next before after x change_is next_is commits = record {
  told = λ old told is.
      let added : Image = applied (change_of_rows rows) (last_image old) in
      let same : added ≡ next = ap (applied (change_of_rows rows)) is ∙ (ap (λ (c : Change). applied c image) (sym change_is) ∙ sym next_is) in
      record {
        added = added ∷ [];
        grown = commits.ok old told ∙ ap (λ (c : Change). Some (old ++ applied c (last_image old) ∷ [])) change_is;
        last = last_added old added ∙ same;
        sound = λ drive sound accepted.
            let here : IsSound added drive = rows_sound (last_image old) drive rows sound accepted in
            (All-cons (λ (i : Image). IsSound i drive) added [] here (All-nil (λ (i : Image). IsSound i drive)), subst (λ (i : Image). IsSound i drive) same here);
      };
}

-- ---- one batch
pub fetched-batch : (image : Image) (batch : List Fetching) (rows : List BaseRow) (next : Image) (faults_before faults_now : ℕ) (drive_before drive_after : Option (List Step))
    (local_before local_after : Option (List LocalStep)) (images_before images_after : Option (List Image)) → FetchesFiles batch faults_before faults_now drive_before drive_after local_before local_after
    → AreRowsOf batch rows → CommitsRows image rows next images_before images_after
    → Fetches image batch next faults_before faults_now drive_before drive_after local_before local_after images_before images_after
fetched-batch image batch rows next faults_before faults_now drive_before drive_after local_before local_after images_before images_after files accepted commits = record {
  told = λ drive local images told told_local told_images is.
      let done = files.told drive local told told_local in
      let committed = commits.told images told_images is in
      record {
        more = done.more;
        transfers = done.transfers;
        drive_grown = done.drive_grown;
        part = done.part;
        makes = done.makes;
        local_grown = done.local_grown;
        added = committed.added;
        images_grown = committed.grown;
        last = committed.last;
        sound = λ sound are.
            let both = committed.sound drive sound (accepted (accepted_by drive) are) in (
              All-weaker (λ (i : Image). IsSound i drive) (λ (i : Image). IsSound i (drive ++ done.more)) (λ i here. sound-stays i drive done.more here) committed.added both.0,
              sound-stays next drive done.more both.1,
            );
        all = done.all;
      };
}

-- ---- no batch, and one more
no-files : (inventory : Inventory) (files : List (List (List ℕ) × List ℕ)) → AllZip (IsFileOf inventory) [] files → files ≡ []
no-files inventory [] zip = refl
no-files inventory (file ∷ files) zip = absurd zip

pub fetches-none : (image : Image) (faults : ℕ) (drive : Option (List Step)) (local : Option (List LocalStep)) (images : Option (List Image)) → Fetches image [] image faults faults drive drive local local images images
fetches-none image faults drive local images = record {
  told = λ log steps old told told_local told_images is. record {
    more = [];
    transfers = tt;
    drive_grown = told ∙ ap (λ those. Some those) (sym (append-nil log));
    part = [];
    makes = tt;
    local_grown = told_local ∙ ap (λ those. Some those) (sym (append-nil steps));
    added = [];
    images_grown = told_images ∙ ap (λ those. Some those) (sym (append-nil old));
    last = ap last_image (append-nil old) ∙ is;
    sound = λ sound are.
        (All-nil (λ (i : Image). IsSound i (log ++ [])), subst (λ those. IsSound image those) (sym (append-nil log)) (subst (λ (i : Image). IsSound i log) is sound));
    all = λ no_fault own alone files zip can.
        ap (λ those. (local_of those).spots) (append-nil steps)
        ∙ (sym (append-nil (local_of steps).spots) ∙ ap (λ (fs : List (List (List ℕ) × List ℕ)). (local_of steps).spots ++ map file_spot fs) (sym (no-files (held_by log) files zip)));
  };
}

record InParts (inventory : Inventory) (first second : List Fetching) (files : List (List (List ℕ) × List ℕ)) : Type 0 where
  those : List (List (List ℕ) × List ℕ)
  others : List (List (List ℕ) × List ℕ)
  files_are : files ≡ those ++ others
  zip_first : AllZip (IsFileOf inventory) first those
  zip_second : AllZip (IsFileOf inventory) second others

in-parts : (inventory : Inventory) (first second : List Fetching) (files : List (List (List ℕ) × List ℕ)) → AllZip (IsFileOf inventory) (first ++ second) files → InParts inventory first second files
in-parts inventory [] second files zip = record { those = []; others = files; files_are = refl; zip_first = tt; zip_second = zip }
in-parts inventory (fetch ∷ first) second [] zip = absurd zip
in-parts inventory (fetch ∷ first) second (file ∷ files) zip =
    let rest : InParts inventory first second files = in-parts inventory first second files zip.1 in
    record {
      those = file ∷ rest.those;
      others = rest.others;
      files_are = ap (λ fs. file ∷ fs) rest.files_are;
      zip_first = (zip.0, rest.zip_first);
      zip_second = rest.zip_second;
    }

can-parts : (spots : List Spot) (those others : List (List (List ℕ) × List ℕ)) → CanPlace spots (those ++ others) → CanPlace spots those × CanPlace (spots ++ map file_spot those) others
can-parts spots [] others can = (tt, subst (λ ss. CanPlace ss others) (sym (append-nil spots)) can)
can-parts spots (file ∷ those) others can =
    let rest = can-parts (spots ++ file_spot file ∷ []) those others can.1 in
    ((can.0, rest.0), subst (λ ss. CanPlace ss others) (append_assoc spots (file_spot file ∷ []) (map file_spot those)) rest.1)

-- what is accepted stays so while the drive's log grows
all-from-map : {X Y : Type 0} (P : Y → Type 0) (f : X → Y) (xs : List X) → All P (map f xs) → All (λ x. P (f x)) xs
all-from-map P f [] all = All-nil (λ x. P (f x))
all-from-map P f (x ∷ xs) all = All-cons (λ y. P (f y)) x xs (All-head P (f x) (map f xs) all) (all-from-map P f xs (All-tail P (f x) (map f xs) all))

pub accepted-stays : (drive more : List Step) (fetches : List Fetching) → AreAcceptedFetches (accepted_by drive) fetches → AreAcceptedFetches (accepted_by (drive ++ more)) fetches
accepted-stays drive more fetches accepted =
    let image : Image = record { token = None; items = []; rows = map placed_row fetches; rules = None } in
    let sound : IsSound image drive = record { rows = All-map (λ (row : BaseRow). IsAccepted (accepted_by drive) row.what) placed_row fetches accepted; items = refl } in
    all-from-map (λ (row : BaseRow). IsAccepted (accepted_by (drive ++ more)) row.what) placed_row fetches (sound-stays image drive more sound).rows

pub fetches-then : (image : Image) (done : List Fetching) (mid : Image) (batch : List Fetching) (next : Image) (f g h : ℕ) (drive_before drive_mid drive_after : Option (List Step))
    (local_before local_mid local_after : Option (List LocalStep)) (images_before images_mid images_after : Option (List Image)) → f ≤ g → g ≤ h
    → Fetches image done mid f g drive_before drive_mid local_before local_mid images_before images_mid → Fetches mid batch next g h drive_mid drive_after local_mid local_after images_mid images_after
    → Fetches image (done ++ batch) next f h drive_before drive_after local_before local_after images_before images_after
fetches-then image done mid batch next f g h drive_before drive_mid drive_after local_before local_mid local_after images_before images_mid images_after early late first second = record {
  told = λ drive local images told told_local told_images is.
      let one = first.told drive local images told told_local told_images is in
      let two = second.told (drive ++ one.more) (local ++ one.part) (images ++ one.added) one.drive_grown one.local_grown one.images_grown one.last in
      record {
        more = one.more ++ two.more;
        transfers = each-append (IsSuch IsTransfer) one.more two.more one.transfers two.transfers;
        drive_grown = two.drive_grown ∙ ap (λ those. Some those) (append_assoc drive one.more two.more);
        part = one.part ++ two.part;
        makes = each-append IsMaking one.part two.part one.makes two.makes;
        local_grown = two.local_grown ∙ ap (λ those. Some those) (append_assoc local one.part two.part);
        added = one.added ++ two.added;
        images_grown = two.images_grown ∙ ap (λ those. Some those) (append_assoc images one.added two.added);
        last = ap last_image (sym (append_assoc images one.added two.added)) ∙ two.last;
        sound = λ sound are.
            let front = one.sound sound (all-front (λ (fetch : Fetching). IsAccepted (accepted_by drive) (agreed.File fetch.digest)) done batch are) in
            let back =
            two.sound (subst (λ (i : Image). IsSound i (drive ++ one.more)) (sym one.last) front.1)
            (accepted-stays drive one.more batch (all-back (λ (fetch : Fetching). IsAccepted (accepted_by drive) (agreed.File fetch.digest)) done batch are))
            in
            subst (λ log. All (λ (i : Image). IsSound i log) (one.added ++ two.added) × IsSound next log) (append_assoc drive one.more two.more) (
              All-append (λ (i : Image). IsSound i ((drive ++ one.more) ++ two.more)) one.added two.added
                  (All-weaker (λ (i : Image). IsSound i (drive ++ one.more)) (λ (i : Image). IsSound i ((drive ++ one.more) ++ two.more)) (λ i here. sound-stays i (drive ++ one.more) two.more here) one.added front.0)
                  back.0,
              back.1,
            );
        all = λ no_fault own alone files zip can.
            let own_first : AreOwnServed one.more = each-first (λ (step : Step). is_own_served step ≡ true) one.more two.more own in
            let parts : InParts (held_by drive) done batch files = in-parts (held_by drive) done batch files zip in
            let cans = can-parts (local_of local).spots parts.those parts.others (subst (λ fs. CanPlace (local_of local).spots fs) parts.files_are can) in
            let front : (local_of (local ++ one.part)).spots ≡ (local_of local).spots ++ map file_spot parts.those =
            one.all (λ rose. no_fault (rose-on f g h rose late)) own_first (each-first IsOp one.part two.part alone) parts.those parts.zip_first cans.0
            in
            let same : held_by drive ≡ held_by (drive ++ one.more) = sym (ap held (transfers_keep drive one.more own_first one.transfers)) in
            let back =
            two.all (λ rose. no_fault (rose-later f g h early rose)) (each-second (λ (step : Step). is_own_served step ≡ true) one.more two.more own) (each-second IsOp one.part two.part alone) parts.others
            (subst (λ (inventory : Inventory). AllZip (IsFileOf inventory) batch parts.others) same parts.zip_second) (subst (λ ss. CanPlace ss parts.others) (sym front) cans.1)
            in
            ap (λ steps. (local_of steps).spots) (sym (append_assoc local one.part two.part))
            ∙ (back
            ∙ (ap (λ ss. ss ++ map file_spot parts.others) front
            ∙ (append_assoc (local_of local).spots (map file_spot parts.those) (map file_spot parts.others)
            ∙ ap (λ ss. (local_of local).spots ++ ss) (sym (map-append file_spot parts.those parts.others) ∙ ap (λ (fs : List (List (List ℕ) × List ℕ)). map file_spot fs) (sym parts.files_are)))));
      };
}

-- ---- where it stopped
pub stops-none : (image : Image) (fetches : List Fetching) (drive : Option (List Step)) (local : Option (List LocalStep)) (images : Option (List Image)) → Stops image fetches drive drive local local images images
stops-none image fetches drive local images = record {
  told = λ log steps old told told_local told_images is. record {
    more = [];
    transfers = tt;
    drive_grown = told ∙ ap (λ those. Some those) (sym (append-nil log));
    part = [];
    makes = tt;
    local_grown = told_local ∙ ap (λ those. Some those) (sym (append-nil steps));
    added = [];
    images_grown = told_images ∙ ap (λ those. Some those) (sym (append-nil old));
    sound = λ sound are. All-nil (λ (i : Image). IsSound i (log ++ []));
  };
}

pub stops-by : {IsFolder : List (List ℕ) → Type 0} {IsFile : List (List ℕ) → List ℕ → Type 0} (image : Image) (fetches : List Fetching) (drive_before drive_after : Option (List Step)) (local_before local_after : Option (List LocalStep)) (images_before images_after : Option (List Image))
    → Grows IsTransfer drive_before drive_after → Makes IsFolder IsFile local_before local_after → Stay images_before images_after → Stops image fetches drive_before drive_after local_before local_after images_before images_after
stops-by {IsFolder} {IsFile} image fetches drive_before drive_after local_before local_after images_before images_after grows makes stay = record {
  told = λ drive local images told told_local told_images is.
      let grown = grows.told drive told in
      let made = makes.told local told_local in
      record {
        more = grown.part;
        transfers = grown.such;
        drive_grown = grown.grown;
        part = made.part;
        makes = makes-steps IsFolder IsFile made.part made.makes;
        local_grown = made.grown;
        added = [];
        images_grown = stay images told_images ∙ ap (λ those. Some those) (sym (append-nil images));
        sound = λ sound are. All-nil (λ (i : Image). IsSound i (drive ++ grown.part));
      };
}

on-err : {T E : Type 0} (result : Result T E) (P : Type 0) → P → OnErr result P
on-err (Ok x) P holds = tt
on-err (Err e) P holds = holds

pub stops-at : {T E : Type 0} {IsFolder : List (List ℕ) → Type 0} {IsFile : List (List ℕ) → List ℕ → Type 0} (result : Result T E) (image : Image) (fetches : List Fetching) (drive_before drive_after : Option (List Step)) (local_before local_after : Option (List LocalStep))
    (images_before images_after : Option (List Image)) → Grows IsTransfer drive_before drive_after → Makes IsFolder IsFile local_before local_after → Stay images_before images_after
    → OnErr result (Stops image fetches drive_before drive_after local_before local_after images_before images_after)
stops-at result image fetches drive_before drive_after local_before local_after images_before images_after grows makes stay =
    on-err result (Stops image fetches drive_before drive_after local_before local_after images_before images_after)
    (stops-by image fetches drive_before drive_after local_before local_after images_before images_after grows makes stay)

pub stops-of : (image : Image) (fetches : List Fetching) (next : Image) (faults_before faults_now : ℕ) (drive_before drive_after : Option (List Step)) (local_before local_after : Option (List LocalStep))
    (images_before images_after : Option (List Image)) → Fetches image fetches next faults_before faults_now drive_before drive_after local_before local_after images_before images_after
    → Stops image fetches drive_before drive_after local_before local_after images_before images_after
stops-of image fetches next faults_before faults_now drive_before drive_after local_before local_after images_before images_after done = record {
  told = λ drive local images told told_local told_images is.
      let one = done.told drive local images told told_local told_images is in
      record {
        more = one.more;
        transfers = one.transfers;
        drive_grown = one.drive_grown;
        part = one.part;
        makes = one.makes;
        local_grown = one.local_grown;
        added = one.added;
        images_grown = one.images_grown;
        sound = λ sound are. (one.sound sound are).0;
      };
}

pub stops-then : (image : Image) (whole done left : List Fetching) (mid : Image) (faults_before faults_now : ℕ) (drive_before drive_mid drive_after : Option (List Step))
    (local_before local_mid local_after : Option (List LocalStep)) (images_before images_mid images_after : Option (List Image)) → whole ≡ done ++ left
    → Fetches image done mid faults_before faults_now drive_before drive_mid local_before local_mid images_before images_mid → Stops mid [] drive_mid drive_after local_mid local_after images_mid images_after
    → Stops image whole drive_before drive_after local_before local_after images_before images_after
stops-then image whole done left mid faults_before faults_now drive_before drive_mid drive_after local_before local_mid local_after images_before images_mid images_after whole_is first second = record {
  told = λ drive local images told told_local told_images is.
      let one = first.told drive local images told told_local told_images is in
      let two = second.told (drive ++ one.more) (local ++ one.part) (images ++ one.added) one.drive_grown one.local_grown one.images_grown one.last in
      record {
        more = one.more ++ two.more;
        transfers = each-append (IsSuch IsTransfer) one.more two.more one.transfers two.transfers;
        drive_grown = two.drive_grown ∙ ap (λ those. Some those) (append_assoc drive one.more two.more);
        part = one.part ++ two.part;
        makes = each-append IsMaking one.part two.part one.makes two.makes;
        local_grown = two.local_grown ∙ ap (λ those. Some those) (append_assoc local one.part two.part);
        added = one.added ++ two.added;
        images_grown = two.images_grown ∙ ap (λ those. Some those) (append_assoc images one.added two.added);
        sound = λ sound are.
            let front =
            one.sound sound
            (all-front (λ (fetch : Fetching). IsAccepted (accepted_by drive) (agreed.File fetch.digest)) done left (subst (λ (fetches : List Fetching). AreAcceptedFetches (accepted_by drive) fetches) whole_is are))
            in
            let back =
            two.sound (subst (λ (i : Image). IsSound i (drive ++ one.more)) (sym one.last) front.1)
            (All-nil (λ (fetch : Fetching). IsAccepted (accepted_by (drive ++ one.more)) (agreed.File fetch.digest)))
            in
            subst (λ log. All (λ (i : Image). IsSound i log) (one.added ++ two.added)) (append_assoc drive one.more two.more)
            (All-append (λ (i : Image). IsSound i ((drive ++ one.more) ++ two.more)) one.added two.added
            (All-weaker (λ (i : Image). IsSound i (drive ++ one.more)) (λ (i : Image). IsSound i ((drive ++ one.more) ++ two.more)) (λ i here. sound-stays i (drive ++ one.more) two.more here) one.added front.0)
            back);
      };
}

-- ---- batch after batch
pub record FetchesSoFar (image : Image) (whole left : List Fetching) (next : Image) (faults_before faults_now : ℕ) (drive_before drive_after : Option (List Step))
    (local_before local_after : Option (List LocalStep)) (images_before images_after : Option (List Image)) : Type 0 where
  pub done : List Fetching
  pub whole_is : whole ≡ done ++ left
  pub fetches : Fetches image done next faults_before faults_now drive_before drive_after local_before local_after images_before images_after

pub so-far-first : (image : Image) (whole : List Fetching) (faults : ℕ) (drive : Option (List Step)) (local : Option (List LocalStep)) (images : Option (List Image))
    → FetchesSoFar image whole whole image faults faults drive drive local local images images
so-far-first image whole faults drive local images = record { done = []; whole_is = refl; fetches = fetches-none image faults drive local images }

pub so-far-next : (image : Image) (whole left batch rest : List Fetching) (mid next : Image) (f g h : ℕ) (drive_before drive_mid drive_after : Option (List Step))
    (local_before local_mid local_after : Option (List LocalStep)) (images_before images_mid images_after : Option (List Image)) → left ≡ batch ++ rest → f ≤ g → g ≤ h
    → FetchesSoFar image whole left mid f g drive_before drive_mid local_before local_mid images_before images_mid
    → Fetches mid batch next g h drive_mid drive_after local_mid local_after images_mid images_after
    → FetchesSoFar image whole rest next f h drive_before drive_after local_before local_after images_before images_after
so-far-next image whole left batch rest mid next f g h drive_before drive_mid drive_after local_before local_mid local_after images_before images_mid images_after left_is early late first second = record {
  done = first.done ++ batch;
  whole_is = first.whole_is ∙ (ap (λ fetches. first.done ++ fetches) left_is ∙ sym (append_assoc first.done batch rest));
  fetches =
      fetches-then image first.done mid batch next f g h drive_before drive_mid drive_after local_before local_mid local_after images_before images_mid images_after early late
      first.fetches second;
}

pub so-far-stops : (image : Image) (whole left : List Fetching) (mid : Image) (faults_before faults_now : ℕ) (drive_before drive_mid drive_after : Option (List Step))
    (local_before local_mid local_after : Option (List LocalStep)) (images_before images_mid images_after : Option (List Image))
    → FetchesSoFar image whole left mid faults_before faults_now drive_before drive_mid local_before local_mid images_before images_mid
    → Stops mid [] drive_mid drive_after local_mid local_after images_mid images_after → Stops image whole drive_before drive_after local_before local_after images_before images_after
so-far-stops image whole left mid faults_before faults_now drive_before drive_mid drive_after local_before local_mid local_after images_before images_mid images_after first second =
    stops-then image whole first.done left mid faults_before faults_now drive_before drive_mid drive_after local_before local_mid local_after images_before images_mid images_after first.whole_is
    first.fetches second

pub so-far-last : (image : Image) (whole left : List Fetching) (next : Image) (faults_before faults_now : ℕ) (drive_before drive_after : Option (List Step)) (local_before local_after : Option (List LocalStep))
    (images_before images_after : Option (List Image)) → left ≡ [] → FetchesSoFar image whole left next faults_before faults_now drive_before drive_after local_before local_after images_before images_after
    → Fetches image whole next faults_before faults_now drive_before drive_after local_before local_after images_before images_after
so-far-last image whole left next faults_before faults_now drive_before drive_after local_before local_after images_before images_after none so_far =
    subst (λ (fetches : List Fetching). Fetches image fetches next faults_before faults_now drive_before drive_after local_before local_after images_before images_after)
    (sym (so_far.whole_is ∙ (ap (λ fetches. so_far.done ++ fetches) none ∙ append-nil so_far.done))) so_far.fetches
