-- What a round comes to, where all logs and images are told.
use Rattle.std.proofs.Common.{◌≡◌, ℕ, ◌+◌, ◌≤◌, true, false, cond, List, [], ◌∷◌, ◌++◌, map, count_by, Option, Some, None, Ok, Err, refl, ap, sym, subst, ◌∙◌, append_assoc, arith}
use Rattle.std.proofs.lemmas.List.Sums.{sum_by-cons}
use Rattle.std.proofs.lemmas.List.Elements.{All-nil, All-cons}
use Rattle.std.specs.List.{All, AllByRecursion, AllZip}
use Rattle.std.specs.Prelude.{IsErrOf}
use Rattle.gd_names.specs.Streams.{Rose}
use Rattle.gd_item.specs.Ids.{item_id}
use Rattle.gd_item.specs.Inventory.{Inventory}
use Rattle.gd_item.specs.Records.{records_of}
use Rattle.gd_item.specs.Sessions.{State, held}
use Rattle.gd_item.specs.Steps.{held_by, accepted_by}
use Rattle.gd_item.specs.Trees.{tree_of}
use Rattle.gd_item.specs.declared.id.ItemId.{ItemId}
use Rattle.gd_item.specs.declared.item.Item.{Item}
use Rattle.gd_item.specs.declared.request.Request.TheVariants.{Delta}
use Rattle.gd_item.specs.declared.step.Step.{Step}
use Rattle.od_keeper.proofs.Growing.{sound-stays, sound-empty}
use Rattle.od_keeper.specs.Images.{applied, by_path, empty_image, put_all, without_paths}
use Rattle.od_keeper.specs.Keeping.{Stay, last_image}
use Rattle.gd_item.specs.Views.{uncounted}
use Rattle.od_keeper.specs.Sound.{IsSound}
use Rattle.od_keeper.specs.declared.image.BaseRow.{BaseRow}
use Rattle.od_keeper.specs.declared.image.Image.{Image}
use Rattle.od_mirror.specs.Pulled.{paths_of}
use Rattle.od_transfer.specs.Alone.{AreOwnServed}
use Rattle.od_transfer.specs.Asking.{Grown, Grows, OwnAre}
use Rattle.od_transfer.specs.Fits.{IsTransfer}
use Rattle.od_tree.specs.Calls.{edited}
use Rattle.od_tree.specs.Local.{Local, local_of, local_tree, tree_of_spots}
use Rattle.od_tree.specs.Undisturbed.{IsOp, NoUser}
use Rattle.od_tree.specs.declared.edit.UserEdit.{UserEdit}
use Rattle.od_tree.specs.declared.local.Spot.{Spot}
use Rattle.od_tree.specs.declared.step.LocalStep.{LocalStep}
use Rattle.od_tree.specs.declared.step.LocalStep.TheVariants.{User, Op}
use Rattle.od_tree.specs.declared.step.TreeOp.TheVariants as op
use Rattle.od_sync.specs.Agreeing.{agreed_rows, agreement, dropped_paths, landed_rows}
use Rattle.od_sync.specs.Chains.{Chained, IsChained}
use Rattle.od_sync.specs.Comparing.{is_same, scanned}
use Rattle.od_sync.specs.Deltas.{AskedDelta, AsksDelta, EndsUnserved, is_answered_delta, is_own_delta, last_heard_after}
use Rattle.od_sync.specs.Doing.{AreAcceptedFetches, CanMake, CanPlace, IsFetchOf, IsFileOf, IsFolderOf, IsMaking, Made, Makes, file_spot, folder_spot}
use Rattle.od_sync.specs.FreshPlans.{FreshPlan}
use Rattle.od_sync.specs.Planning.{planned_fetches, planned_folders}
use Rattle.od_sync.specs.Rounds.{Acted, Acts, AreKindsAccepted, EndsWithUnserved, Grew, Rounds, RoundsTo}
use Rattle.od_sync.specs.Serving.{KeepsToken, TokenKept}
use Rattle.od_sync.specs.Syncing.{Goes, IsDoStop, Meets, Met, Went}
use Rattle.od_sync.specs.Scans as scan
use Rattle.od_sync.specs.Scans.{IsLook, is_root_listing}
use Rattle.od_sync.specs.Pulls.{PullsBad, StopsBad}
use Rattle.od_sync.specs.Looks.{AllUnlike, AreWhole, IsWithin, Looked, found_until}
use Rattle.od_sync.specs.Syncs.{EndedBad, IsFromDrive, since_listed}
use Rattle.od_sync.specs.declared.ends.SyncStop.{SyncStop}
use Rattle.od_sync.specs.declared.ends.SyncStop.TheVariants.{BadPages, Memory, Unserved}
use Rattle.od_sync.specs.declared.looking.Sides.{Sides}
use Rattle.od_sync.specs.declared.planning.Fetching.{Fetching}
use Rattle.od_sync.specs.declared.scanning.Node.{Node}
use Rattle.od_sync.proofs.Chained.{chain-then, chain-transfers, chained-all, chained-also}
use Rattle.od_sync.proofs.Compares.{answered-keeps, compared-same, edited-none, listed-last, look-same, look-unlike, looks-keep, none-unlike, rest-alone, unlike-before}
use Rattle.od_sync.proofs.FreshPlans.{fresh_plan}
use Rattle.od_sync.proofs.HadThen.{had-looks, planned-had}
use Rattle.od_sync.proofs.KeptPull as pull
use Rattle.od_sync.proofs.OwnRequests.{own_requests_keep}
use Rattle.od_sync.proofs.RecordDigests.{record_digest_accepted}
use Rattle.od_sync.proofs.Growth.{answered, asked-answered, asked-transfers, count-append, each-first, each-second, grew-more, same-log, same-more, scan-is-steps, scan-looks, scan-steps}
use Rattle.od_sync.proofs.LooksFound.{unlike-then, until-append, until-makes, until-scan, whole-makes, whole-scan, whole-then, within-done, within-look}
use Rattle.od_sync.proofs.Made.{makes-steps}
use Rattle.od_sync.proofs.PlannedKinds.{IsKindIn, fetches-accepted}
use Rattle.od_sync.proofs.Sends.{asked-also}
use Rattle.od_sync.proofs.ServedTokens.{is-served}
use Rattle.gd_names.proofs.Streams.{rose-later}

-- the folder's log grows by what a plan makes after a look
abbrev PlanMade : Sides → List LocalStep → Option (List LocalStep) → Type 0
PlanMade sides old after = Made (IsFolderOf (planned_folders sides.image.rows sides.local sides.remote)) (IsFetchOf (planned_fetches sides.image.rows sides.local sides.remote)) old after

abbrev PlanMakes : Sides → Option (List LocalStep) → Option (List LocalStep) → Type 0
PlanMakes sides before after = Makes (IsFolderOf (planned_folders sides.image.rows sides.local sides.remote)) (IsFetchOf (planned_fetches sides.image.rows sides.local sides.remote)) before after

last-of-two : (images : List Image) (a b : Image) → last_image (images ++ a ∷ b ∷ []) ≡ b
last-of-two [] a b = refl
last-of-two (first ∷ []) a b = refl
last-of-two (first ∷ next ∷ images) a b = last-of-two (next ∷ images) a b

-- the agreements after a look in an empty folder from nothing
no-rows : (rows : List BaseRow) (local : List (List (List ℕ) × Node)) (remote : List (List (List ℕ) × Item)) (pulled : Image) → rows ≡ [] → local ≡ [] → pulled.rows ≡ []
    → (applied (agreement rows local remote) pulled).rows ≡ []
no-rows rows local remote pulled rows_none local_none pulled_none =
    ap (λ (rs : List BaseRow). put_all by_path (landed_rows rs remote ++ agreed_rows local remote) (without_paths (dropped_paths rs local remote) pulled.rows)) rows_none
    ∙ ap (λ (l : List (List (List ℕ) × Node)). put_all by_path (agreed_rows l remote) (without_paths [] pulled.rows)) local_none
    ∙ ap (λ (rs : List BaseRow). put_all by_path [] (without_paths [] rs)) pulled_none

-- the plan of an empty folder from nothing is fresh
fresh-plan : (held : Inventory) (rows : List BaseRow) (local : List (List (List ℕ) × Node)) (remote shown : List (List (List ℕ) × Item)) (folders : List (List (List ℕ))) (fetches : List Fetching)
    → rows ≡ [] → local ≡ [] → remote ≡ shown → folders ≡ planned_folders rows local remote → fetches ≡ planned_fetches rows local remote
    → FreshPlan held (planned_folders [] [] shown) (planned_fetches [] [] shown) → FreshPlan held folders fetches
fresh-plan held rows local remote shown folders fetches rows_none local_none remote_is folders_are fetches_are plan =
    let folders_same : planned_folders [] [] shown ≡ folders =
    sym (folders_are ∙ ap (λ rs. planned_folders rs local remote) rows_none ∙ ap (λ l. planned_folders [] l remote) local_none ∙ ap (λ r. planned_folders [] [] r) remote_is) in
    let fetches_same : planned_fetches [] [] shown ≡ fetches =
    sym (fetches_are ∙ ap (λ rs. planned_fetches rs local remote) rows_none ∙ ap (λ l. planned_fetches [] l remote) local_none ∙ ap (λ r. planned_fetches [] [] r) remote_is) in
    subst (λ (fs : List (List (List ℕ))). FreshPlan held fs fetches) folders_same (subst (λ (fs : List Fetching). FreshPlan held (planned_folders [] [] shown) fs) fetches_same plan)

do-stop-bad : (stop : SyncStop) (id : ItemId) → IsDoStop stop → stop ≡ BadPages id → ⊥
do-stop-bad stop id is_do is = subst IsDoStop is is_do

do-stop-unserved : (stop : SyncStop) → IsDoStop stop → stop ≡ Unserved → ⊥
do-stop-unserved stop is_do is = subst IsDoStop is is_do

-- a fresh plan that is done in an empty folder makes there what the drive has
fresh-done : (held : Inventory) (spots now : List Spot) (folders : List (List (List ℕ))) (fetches : List Fetching) → spots ≡ [] → (plan : FreshPlan held folders fetches)
    → ((files : List (List (List ℕ) × List ℕ)) → AllZip (IsFileOf held) fetches files → CanMake spots folders → CanPlace (spots ++ map folder_spot folders) files → now ≡ (spots ++ map folder_spot folders) ++ map file_spot files)
    → tree_of_spots now ≡ tree_of held
fresh-done held spots now folders fetches none plan done =
    ap tree_of_spots (done plan.files plan.are (subst (λ (s : List Spot). CanMake s folders) (sym none) plan.can_make)
    (subst (λ (s : List Spot). CanPlace (s ++ map folder_spot folders) plan.files) (sym none) plan.can_place))
    ∙ ap (λ (s : List Spot). tree_of_spots ((s ++ map folder_spot folders) ++ map file_spot plan.files)) none
    ∙ plan.tree

-- a scan lists the root
one-listed-after : (before rest : List LocalStep) → 1 ≤ count_by is_root_listing (before ++ Op (op.List []) ∷ rest)
one-listed-after before rest =
    let one : count_by is_root_listing (Op (op.List []) ∷ rest) ≡ 1 + count_by is_root_listing rest =
    sum_by-cons (λ (step : LocalStep). cond (is_root_listing step) 1 0) (Op (op.List [])) rest in
    omega (arith, one, count-append is_root_listing before (Op (op.List []) ∷ rest))

one-listed : (edits : List UserEdit) (rest : List LocalStep) → 1 ≤ count_by is_root_listing (scan-steps edits rest)
one-listed edits rest = one-listed-after (map (λ (edit : UserEdit). User edit) edits) rest

-- ---- after a look
module _ {image : Image} {sides : Sides} {drive : List Step} {local : List LocalStep} {images : List Image} {after : Option (List Step)} {local_after : Option (List LocalStep)} {images_after : Option (List Image)}
    (m : Met image sides drive local images after local_after images_after) (last : last_image images ≡ image) where
  -- the logs and the images then
  abbrev pub drive-then : List Step
  drive-then = (drive ++ m.spent) ++ answered image.token

  abbrev pub local-then : List LocalStep
  local-then = edited local m.edits ++ Op (op.List []) ∷ m.rest

  abbrev pub images-then : List Image
  images-then = images ++ m.pulled ∷ sides.image ∷ []

  pub met-last : last_image images-then ≡ sides.image
  met-last = last-of-two images m.pulled sides.image

  pub met-sound : IsSound (last_image images) drive → IsSound image drive
  met-sound sound = subst (λ (i : Image). IsSound i drive) last sound

  agreed-sound-then : IsSound (last_image images) drive → IsSound sides.image drive-then
  agreed-sound-then sound = sound-stays sides.image (drive ++ m.spent) (answered image.token) (m.agreed_sound (met-sound sound))

  pub met-grew : Grew drive (m.spent ++ answered image.token) drive-then local (scan-steps m.edits m.rest) local-then images (m.pulled ∷ sides.image ∷ []) images-then
  met-grew = record {
    drive_is = append_assoc drive m.spent (answered image.token);
    asked = asked-answered image.token m.spent m.such;
    local_is = append_assoc local (map (λ (edit : UserEdit). User edit) m.edits) (Op (op.List []) ∷ m.rest);
    steps = scan-is-steps m.edits m.rest m.looks;
    images_are = refl;
    sound = λ sound.
        All-cons (λ (i : Image). IsSound i drive-then) m.pulled (sides.image ∷ []) (sound-stays m.pulled (drive ++ m.spent) (answered image.token) (m.pulled_sound (met-sound sound)))
        (All-cons (λ (i : Image). IsSound i drive-then) sides.image [] (agreed-sound-then sound) (All-nil (λ (i : Image). IsSound i drive-then)));
    had = λ sound. had-looks drive (m.spent ++ answered image.token) (scan-steps m.edits m.rest) (scan-looks m.edits m.rest m.looks);
  }

  pub met-looked : Looked 1 (m.spent ++ answered image.token) (scan-steps m.edits m.rest)
  met-looked = record {
    answered = omega (arith, count-append is_answered_delta m.spent (answered image.token));
    listed = one-listed m.edits m.rest;
  }

  met-mirrors : IsSound (last_image images) drive → map uncounted m.items ≡ map uncounted (records_of (held_by drive-then))
  met-mirrors sound = m.mirrors (met-sound sound) ∙ ap (λ (state : State). map uncounted (records_of (held state))) (sym (answered-keeps image.token (drive ++ m.spent)))

  met-kinds : IsSound (last_image images) drive → AreKindsAccepted drive-then sides
  met-kinds sound =
      subst (λ (entries : List (List (List ℕ) × Item)). All (IsKindIn (accepted_by drive-then)) entries) (sym m.remote_is) (record_digest_accepted drive-then m.items (met-mirrors sound))

  pub met-unlike : is_same sides.local sides.remote ≡ false → IsSound (last_image images) drive → AreOwnServed (m.spent ++ answered image.token) → NoUser (scan-steps m.edits m.rest)
      → local_tree local ≡ tree_of (held_by drive) → ⊥
  met-unlike unlike sound own alone same =
      unlike-before local m.edits m.rest drive m.spent image.token m.items sides.local sides.remote m.such (m.mirrors (met-sound sound)) m.remote_is m.local_is unlike own alone same

  -- the drive is asked with the token of the last image, and the next token is that of the image that is last then
  pub met-chained : IsChained (last_image images).token drive (m.spent ++ answered image.token) sides.image.token
  met-chained = subst (λ (i : Image). IsChained i.token drive (m.spent ++ answered image.token) sides.image.token) (sym last) m.chained

  pub met-chained-on : IsChained (last_image images).token drive (m.spent ++ answered image.token) (last_image images-then).token
  met-chained-on = subst (λ (i : Image). IsChained (last_image images).token drive (m.spent ++ answered image.token) i.token) (sym met-last) met-chained

  -- it is one look, which begins with the listing of the root and ends in looks
  pub met-within : IsWithin 1 (m.spent ++ answered image.token) (scan-steps m.edits m.rest)
  met-within = within-look m.spent image.token m.edits m.rest m.such m.sent m.once

  pub met-begins : found_until local (scan-steps m.edits m.rest) ≡ []
  met-begins = until-scan local m.edits m.rest

  -- where the user left the folder alone, it found the whole tree
  pub met-whole : AreWhole local (scan-steps m.edits m.rest)
  met-whole = whole-scan local m.edits m.rest m.once (λ alone. sym m.found_is ∙ m.local_is alone)

  pub met-looks : AllByRecursion IsLook (since_listed local-then)
  met-looks = subst (λ (steps : List LocalStep). AllByRecursion IsLook steps) (sym (listed-last (edited local m.edits) m.rest m.once)) m.looks

  pub met-found-unlike : is_same sides.local sides.remote ≡ false → IsSound (last_image images) drive → AllUnlike 1 drive (m.spent ++ answered image.token) local (scan-steps m.edits m.rest)
  met-found-unlike unlike sound =
      look-unlike drive m.spent image.token local m.edits m.rest m.items sides.local sides.remote m.such m.once (m.mirrors (met-sound sound)) m.remote_is m.found_is unlike

  -- what is planned then is what the drive had
  made-had : {local_later : Option (List LocalStep)} (later : List Step) (part : List LocalStep)
      → PlanMade sides local-then local_later
      → local_later ≡ Some (local-then ++ part) → IsSound (last_image images) drive → AllByRecursion (IsFromDrive drive ((m.spent ++ answered image.token) ++ later)) part
  made-had {local_later} later part made grown sound =
      subst (λ (more : List Step). AllByRecursion (IsFromDrive drive more) part) (sym (append_assoc m.spent (answered image.token) later))
      (subst (λ (steps : List LocalStep). AllByRecursion (IsFromDrive drive (m.spent ++ (answered image.token ++ later))) steps) (same-more local_later local-then made.part part made.grown grown)
      (planned-had drive m.spent image.token later m.items sides.image.rows sides.local sides.remote made.part (m.mirrors (met-sound sound)) m.remote_is made.makes))

  made-steps : {local_later : Option (List LocalStep)} (part : List LocalStep) → PlanMade sides local-then local_later → local_later ≡ Some (local-then ++ part) → AllByRecursion IsMaking part
  made-steps {local_later} part made grown =
      subst (λ (steps : List LocalStep). AllByRecursion IsMaking steps) (same-more local_later local-then made.part part made.grown grown)
      (makes-steps (IsFolderOf (planned_folders sides.image.rows sides.local sides.remote)) (IsFetchOf (planned_fetches sides.image.rows sides.local sides.remote)) made.part made.makes)

  -- the requests of a plan leave the token as it is
  transfers-chained : (later : List Step) → OwnAre IsTransfer later → IsChained (last_image images).token drive ((m.spent ++ answered image.token) ++ later) sides.image.token
  transfers-chained later transfers =
      chain-then (last_image images).token sides.image.token sides.image.token drive (m.spent ++ answered image.token) later met-chained
      (chain-transfers sides.image.token (drive ++ (m.spent ++ answered image.token)) later transfers)

  token-kept : {images_later : Option (List Image)} (added : List Image) → TokenKept sides.image images-then images_later → images_later ≡ Some (images-then ++ added)
      → (last_image (images-then ++ added)).token ≡ sides.image.token
  token-kept {images_later} added kept grown =
      ap (λ (more : List Image). (last_image (images-then ++ more)).token) (same-more images_later images-then added kept.added grown kept.grown) ∙ kept.same

  -- both sides are the same
  pub round-settled : (fb fn : ℕ) → is_same sides.local sides.remote ≡ true → RoundsTo fb fn drive local images after local_after images_after (Ok None)
  round-settled fb fn same = record {
    more = m.spent ++ answered image.token;
    drive_now = drive-then;
    part = scan-steps m.edits m.rest;
    local_now = local-then;
    added = m.pulled ∷ sides.image ∷ [];
    images_now = images-then;
    drive_told = m.drive_grown;
    local_told = m.local_grown;
    images_told = m.images_grown;
    rounded = record {
      grew = met-grew;
      within = met-within;
      chained = chained-all (last_image images).token sides.image.token drive (m.spent ++ answered image.token) met-chained;
      chained_on = met-chained-on;
      looked = met-looked;
      begins = met-begins;
      whole = met-whole;
      settled = λ is sound apart alone.
          compared-same (edited local m.edits) m.rest (drive ++ m.spent) image.token m.items sides.local sides.remote m.looks m.once (m.mirrors (met-sound sound)) m.remote_is m.local_is same apart alone;
      looks = λ is. met-looks;
      found_same = λ is sound.
          look-same drive m.spent image.token local m.edits m.rest m.items sides.local sides.remote m.such m.once (m.mirrors (met-sound sound)) m.remote_is m.found_is same;
      found_unlike = λ next is. absurd (cc is);
      never_bad = λ id is. absurd (cc is);
      bad_pages = λ id is. absurd (cc is);
      unserved = λ is. absurd (cc is);
      last = λ next is. absurd (cc is);
      unlike = λ next is. absurd (cc is);
      fresh = λ next is. absurd (cc is);
    };
  }

  -- the plan was done
  acted-sound : {next : Image} {fb fn : ℕ} {later : Option (List Step)} {local_later : Option (List LocalStep)} {images_later : Option (List Image)}
      (a : Acted sides next fb fn drive-then local-then images-then later local_later images_later) → IsSound (last_image images) drive → All (λ (i : Image). IsSound i (drive-then ++ a.did.more)) a.did.added
  acted-sound a sound =
      a.did.sound (subst (λ (i : Image). IsSound i drive-then) (sym met-last) (agreed-sound-then sound))
      (subst (λ (fetches : List Fetching). AreAcceptedFetches (accepted_by drive-then) fetches) (sym a.fetches_are)
      (fetches-accepted (accepted_by drive-then) sides.image.rows sides.local sides.remote (met-kinds sound)))

  acted-grew : {next : Image} {fb fn : ℕ} {later : Option (List Step)} {local_later : Option (List LocalStep)} {images_later : Option (List Image)}
      (a : Acted sides next fb fn drive-then local-then images-then later local_later images_later)
      → PlanMade sides local-then local_later
      → Grew drive ((m.spent ++ answered image.token) ++ a.did.more) (drive-then ++ a.did.more) local (scan-steps m.edits m.rest ++ a.did.part) (local-then ++ a.did.part) images
      ((m.pulled ∷ sides.image ∷ []) ++ a.did.added) (images-then ++ a.did.added)
  acted-grew a made =
      grew-more a.did.more a.did.part a.did.added met-grew (asked-transfers a.did.more a.did.transfers) a.did.steps (acted-sound a) (made-had a.did.more a.did.part made a.did.local_grown)

  acted-fresh : {next : Image} {fb fn : ℕ} {later : Option (List Step)} {local_later : Option (List LocalStep)} {images_later : Option (List Image)}
      (a : Acted sides next fb fn drive-then local-then images-then later local_later images_later) → (¬ (Rose fb fn)) → AreOwnServed (m.spent ++ answered image.token) → AreOwnServed a.did.more
      → NoUser (scan-steps m.edits m.rest) → NoUser a.did.part → (local_of local).spots ≡ [] → last_image images ≡ empty_image → local_tree (local-then ++ a.did.part) ≡ tree_of (held_by (drive-then ++ a.did.more))
  acted-fresh {next} {fb} {fn} {later} {local_later} {images_later} a quiet own own_later alone alone_later none empty =
      let sound : IsSound (last_image images) drive = subst (λ (i : Image). IsSound i drive) (sym empty) (sound-empty drive) in
      let rest_alone : NoUser m.rest = rest-alone m.edits m.rest alone in
      let same : edited local m.edits ≡ local = edited-none local m.edits m.rest alone in
      let rows_none : image.rows ≡ [] = ap (λ (i : Image). i.rows) (sym last ∙ empty) in
      let local_none : sides.local ≡ [] = m.local_is rest_alone ∙ ap (λ (log : List LocalStep). scanned (local_tree log)) same ∙ ap (λ (spots : List Spot). scanned (tree_of_spots spots)) none in
      let agreed_none : sides.image.rows ≡ [] =
      ap (λ (i : Image). i.rows) m.agreed_is ∙ no-rows image.rows sides.local sides.remote m.pulled rows_none local_none (m.pulled_rows ∙ rows_none) in
      let spots_none : (local_of local-then).spots ≡ [] =
      ap (λ (l : Local). l.spots) (looks-keep (edited local m.edits) (Op (op.List []) ∷ m.rest) (tt, m.looks) (tt, rest_alone)) ∙ ap (λ (log : List LocalStep). (local_of log).spots) same ∙ none in
      let plan = fresh-plan (held_by drive-then) sides.image.rows sides.local sides.remote (paths_of m.items) a.plan.folders a.plan.fetches agreed_none local_none m.remote_is a.folders_are a.fetches_are
      (fresh_plan drive-then m.items (met-mirrors sound)) in
      fresh-done (held_by drive-then) (local_of local-then).spots (local_of (local-then ++ a.did.part)).spots a.plan.folders a.plan.fetches spots_none plan (a.did.all_done quiet own_later alone_later)
      ∙ ap (λ (state : State). tree_of (held state)) (sym (own_requests_keep drive-then a.did.more (asked-transfers a.did.more a.did.transfers) own_later))

  pub round-acted : {next : Image} {later : Option (List Step)} {local_later : Option (List LocalStep)} {images_later : Option (List Image)} (fa fb fn : ℕ) → fa ≤ fb → is_same sides.local sides.remote ≡ false
      → Acted sides next fb fn drive-then local-then images-then later local_later images_later
      → PlanMade sides local-then local_later
      → TokenKept sides.image images-then images_later
      → RoundsTo fa fn drive local images later local_later images_later (Ok (Some next))
  round-acted {next} {later} {local_later} {images_later} fa fb fn rises unlike a made kept = record {
    more = (m.spent ++ answered image.token) ++ a.did.more;
    drive_now = drive-then ++ a.did.more;
    part = scan-steps m.edits m.rest ++ a.did.part;
    local_now = local-then ++ a.did.part;
    added = (m.pulled ∷ sides.image ∷ []) ++ a.did.added;
    images_now = images-then ++ a.did.added;
    drive_told = a.did.drive_grown;
    local_told = a.did.local_grown;
    images_told = a.did.images_grown;
    rounded = record {
      grew = acted-grew a made;
      within = within-done (m.spent ++ answered image.token) a.did.more (scan-steps m.edits m.rest) a.did.part met-within a.did.transfers (made-steps a.did.part made a.did.local_grown);
      chained = chained-all (last_image images).token sides.image.token drive ((m.spent ++ answered image.token) ++ a.did.more) (transfers-chained a.did.more a.did.transfers);
      chained_on =
          subst (λ (token : Option (List ℕ)). IsChained (last_image images).token drive ((m.spent ++ answered image.token) ++ a.did.more) token)
          (sym (token-kept a.did.added kept a.did.images_grown)) (transfers-chained a.did.more a.did.transfers);
      looked = record {
        answered = omega (arith, met-looked.answered, count-append is_answered_delta (m.spent ++ answered image.token) a.did.more);
        listed = omega (arith, met-looked.listed, count-append is_root_listing (scan-steps m.edits m.rest) a.did.part);
      };
      begins =
          until-append local (scan-steps m.edits m.rest) a.did.part (until-makes (local ++ scan-steps m.edits m.rest) a.did.part (made-steps a.did.part made a.did.local_grown))
          ∙ met-begins;
      whole =
          let makes : AllByRecursion IsMaking a.did.part = made-steps a.did.part made a.did.local_grown in
          whole-then local (scan-steps m.edits m.rest) a.did.part (until-makes (local ++ scan-steps m.edits m.rest) a.did.part makes) met-whole
          (whole-makes (local ++ scan-steps m.edits m.rest) a.did.part makes);
      settled = λ is. absurd (cc is);
      looks = λ is. absurd (cc is);
      found_same = λ is. absurd (cc is);
      found_unlike = λ other is sound.
          let makes : AllByRecursion IsMaking a.did.part = made-steps a.did.part made a.did.local_grown in
          unlike-then drive (m.spent ++ answered image.token) a.did.more local (scan-steps m.edits m.rest) a.did.part (until-makes (local ++ scan-steps m.edits m.rest) a.did.part makes)
          (met-found-unlike unlike sound) (none-unlike (drive ++ (m.spent ++ answered image.token)) a.did.more (local ++ scan-steps m.edits m.rest) a.did.part a.did.transfers makes);
      never_bad = λ id is. absurd (cc is);
      bad_pages = λ id is. absurd (cc is);
      unserved = λ is. absurd (cc is);
      last = λ other is. let same : next ≡ other = cc is in a.did.last ∙ same;
      unlike = λ other is sound alone same.
          met-unlike unlike sound (each-first is-served (m.spent ++ answered image.token) a.did.more alone.0) (each-first IsOp (scan-steps m.edits m.rest) a.did.part alone.1) same;
      fresh = λ other is quiet alone none empty.
          acted-fresh a (λ rose. quiet (rose-later fa fb fn rises rose)) (each-first is-served (m.spent ++ answered image.token) a.did.more alone.0)
          (each-second is-served (m.spent ++ answered image.token) a.did.more alone.0) (each-first IsOp (scan-steps m.edits m.rest) a.did.part alone.1)
          (each-second IsOp (scan-steps m.edits m.rest) a.did.part alone.1) none empty;
    };
  }

  -- the plan was stopped
  went-transfers : {later : Option (List Step)} (more : List Step) → Grown IsTransfer drive-then later → later ≡ Some (drive-then ++ more) → OwnAre IsTransfer more
  went-transfers {later} more transfers grown =
      subst (λ (steps : List Step). OwnAre IsTransfer steps) (same-more later drive-then transfers.part more transfers.grown grown) transfers.such

  pub round-act-stopped : {later : Option (List Step)} {local_later : Option (List LocalStep)} {images_later : Option (List Image)} (fa fn : ℕ) (stop : SyncStop) → IsDoStop stop
      → Went (IsSound sides.image drive-then × AreKindsAccepted drive-then sides) drive-then local-then images-then later local_later images_later
      → Grown IsTransfer drive-then later
      → PlanMade sides local-then local_later
      → RoundsTo fa fn drive local images later local_later images_later (Err stop)
  round-act-stopped {later} {local_later} {images_later} fa fn stop is_do w transfers made = record {
    more = (m.spent ++ answered image.token) ++ w.more;
    drive_now = drive-then ++ w.more;
    part = scan-steps m.edits m.rest ++ w.part;
    local_now = local-then ++ w.part;
    added = (m.pulled ∷ sides.image ∷ []) ++ w.added;
    images_now = images-then ++ w.added;
    drive_told = w.drive_grown;
    local_told = w.local_grown;
    images_told = w.images_grown;
    rounded = record {
      grew = grew-more w.more w.part w.added met-grew w.asked w.steps (λ sound. w.sound (agreed-sound-then sound, met-kinds sound)) (made-had w.more w.part made w.local_grown);
      within =
          within-done (m.spent ++ answered image.token) w.more (scan-steps m.edits m.rest) w.part met-within (went-transfers w.more transfers w.drive_grown) (made-steps w.part made w.local_grown);
      chained = chained-all (last_image images).token sides.image.token drive ((m.spent ++ answered image.token) ++ w.more) (transfers-chained w.more (went-transfers w.more transfers w.drive_grown));
      chained_on = tt;
      looked = tt;
      begins = tt;
      whole = tt;
      settled = λ is. absurd (cc is);
      looks = λ is. absurd (cc is);
      found_same = λ is. absurd (cc is);
      found_unlike = λ next is. absurd (cc is);
      never_bad = λ id is. absurd (do-stop-bad stop id is_do (cc is));
      bad_pages = λ id is. absurd (do-stop-bad stop id is_do (cc is));
      unserved = λ is. absurd (do-stop-unserved stop is_do (cc is));
      last = λ next is. absurd (cc is);
      unlike = λ next is. absurd (cc is);
      fresh = λ next is. absurd (cc is);
    };
  }

-- ---- a look that stopped
ended-unserved : (token : Option (List ℕ)) (drive more : List Step) (after : Option (List Step)) → after ≡ Some (drive ++ more) → EndsUnserved (Delta token) drive after → EndsWithUnserved more
ended-unserved token drive more after grown ends = record {
  token = token;
  last = λ before. ap (λ (steps : List Step). last_heard_after before steps) (same-more after drive more ends.part grown ends.grown) ∙ ends.last before;
}

went-grew : {P : Type 0} {drive : List Step} {local : List LocalStep} {images : List Image} {after : Option (List Step)} {local_after : Option (List LocalStep)} {images_after : Option (List Image)}
    (w : Went P drive local images after local_after images_after) → (IsSound (last_image images) drive → P) → AllByRecursion IsLook w.part → Grew drive w.more (drive ++ w.more) local w.part (local ++ w.part) images w.added (images ++ w.added)
went-grew {drive = drive} w premise looks = record {
  drive_is = refl;
  asked = w.asked;
  local_is = refl;
  steps = w.steps;
  images_are = refl;
  sound = λ sound. w.sound (premise sound);
  had = λ sound. had-looks drive w.more w.part looks;
}

-- a pull that had a bad item, over the image that is last
ended-bad : (image : Image) (drive more : List Step) (images : List Image) (after : Option (List Step)) (id : ItemId) → last_image images ≡ image → after ≡ Some (drive ++ more)
    → PullsBad image.items image.token drive after id.0 → EndedBad images (drive ++ more) id
ended-bad image drive more images after id last grown bad = record {
  old = drive;
  bad = subst (λ (i : Image). PullsBad i.items i.token drive (Some (drive ++ more)) id.0) (sym last)
      (subst (λ (a : Option (List Step)). PullsBad image.items image.token drive a id.0) grown bad);
}

-- it is one look at most
stopped-within : {MayBeLost : Type 0} (token : Option (List ℕ)) (drive more : List Step) (local part : List LocalStep) (after : Option (List Step)) (local_after : Option (List LocalStep)) → AskedDelta MayBeLost token drive after → scan.GrownByLooks 1 local local_after
    → after ≡ Some (drive ++ more) → local_after ≡ Some (local ++ part) → IsWithin 1 more part
stopped-within token drive more local part after local_after asked looked grown local_grown =
    let asks : asked.part ≡ more = same-more after drive asked.part more asked.grown grown in
    record {
      answered = subst (λ (steps : List Step). count_by is_answered_delta steps ≤ 1) asks asked.answered;
      sent = subst (λ (steps : List Step). count_by is_own_delta steps ≤ 3) asks asked.sent;
      listed = subst (λ (steps : List LocalStep). count_by is_root_listing steps ≤ 1) (same-more local_after local looked.part part looked.grown local_grown) looked.listed;
    }

-- the drive was asked with the token of the image that is last
stopped-chained : {MayBeLost : Type 0} (image : Image) (drive more : List Step) (images : List Image) (after : Option (List Step)) → last_image images ≡ image → AskedDelta MayBeLost image.token drive after
    → after ≡ Some (drive ++ more) → Chained MayBeLost (last_image images).token drive more
stopped-chained {MayBeLost} image drive more images after last asked grown =
    subst (λ (i : Image). Chained MayBeLost i.token drive more) (sym last)
    (subst (λ (steps : List Step). Chained MayBeLost image.token drive steps) (same-more after drive asked.part more asked.grown grown) asked.chained)

round-look-stopped : {drive : List Step} {local : List LocalStep} {images : List Image} {after : Option (List Step)} {local_after : Option (List LocalStep)} {images_after : Option (List Image)} (fb fn : ℕ) (image : Image) (stop : SyncStop)
    → last_image images ≡ image → Went (IsSound image drive) drive local images after local_after images_after → scan.GrownByLooks 1 local local_after → AskedDelta (stop ≡ Memory) image.token drive after
    → ((n : ℕ) → stop ≡ BadPages (item_id n) → PullsBad image.items image.token drive after n) → ((n : ℕ) → stop ≡ BadPages (item_id n) → images_after ≡ Some images)
    → (stop ≡ Unserved → EndsUnserved (Delta image.token) drive after) → RoundsTo fb fn drive local images after local_after images_after (Err stop)
round-look-stopped {drive} {local} {images} {after} {local_after} {images_after} fb fn image stop last w looked asked bad stays unserved = record {
  more = w.more;
  drive_now = drive ++ w.more;
  part = w.part;
  local_now = local ++ w.part;
  added = w.added;
  images_now = images ++ w.added;
  drive_told = w.drive_grown;
  local_told = w.local_grown;
  images_told = w.images_grown;
  rounded = record {
    grew = went-grew w (λ sound. subst (λ (i : Image). IsSound i drive) last sound)
        (subst (λ (steps : List LocalStep). AllByRecursion IsLook steps) (same-more local_after local looked.part w.part looked.grown w.local_grown) looked.looks);
    within = stopped-within image.token drive w.more local w.part after local_after asked looked w.drive_grown w.local_grown;
    chained = chained-also (last_image images).token drive w.more (λ is. ap (λ s. Err s) is) (stopped-chained image drive w.more images after last asked w.drive_grown);
    chained_on = tt;
    looked = tt;
    begins = tt;
    whole = tt;
    settled = λ is. absurd (cc is);
    looks = λ is. absurd (cc is);
    found_same = λ is. absurd (cc is);
    found_unlike = λ next is. absurd (cc is);
    never_bad = λ id is sound.
        let kept : IsSound image drive = subst (λ (i : Image). IsSound i drive) last sound in
        pull.never-bad image.items image.token drive after kept.items id.0 (bad id.0 (cc is));
    bad_pages = λ id is.
        ended-bad image drive w.more (images ++ w.added) after id (ap last_image (same-log images_after (images ++ w.added) images w.images_grown (stays id.0 (cc is))) ∙ last) w.drive_grown
        (bad id.0 (cc is));
    unserved = λ is. ended-unserved image.token drive w.more after w.drive_grown (unserved (cc is));
    last = λ next is. absurd (cc is);
    unlike = λ next is. absurd (cc is);
    fresh = λ next is. absurd (cc is);
  };
}

-- ---- the same, where the logs and images may be told
pub rounds-stopped : {T : Type 0} (fb fn : ℕ) (image : Image) (stop : SyncStop) (before after : Option (List Step)) (local_before local_after : Option (List LocalStep)) (images_before images_after : Option (List Image))
    → Goes (λ drive. IsSound image drive) image before after local_before local_after images_before images_after → scan.GrowsByLooks 1 local_before local_after
    → AsksDelta (IsErrOf {T = T} (Err stop) Memory) image.token before after
    → ((n : ℕ) → IsErrOf {T = T} (Err stop) (BadPages (item_id n)) → StopsBad image.items image.token before after n)
    → ((n : ℕ) → IsErrOf {T = T} (Err stop) (BadPages (item_id n)) → Stay images_before images_after)
    → (IsErrOf {T = T} (Err stop) Unserved → (drive : List Step) → before ≡ Some drive → EndsUnserved (Delta image.token) drive after)
    → Rounds fb fn image before after local_before local_after images_before images_after (Err stop)
rounds-stopped {T} fb fn image stop before after local_before local_after images_before images_after goes looks asks bad stays unserved = record {
  told = λ drive local images told local_told images_told last.
      round-look-stopped fb fn image stop last (goes.told drive local images told local_told images_told last) (looks.told local local_told)
      (asked-also image.token drive after (λ is. cc is) (asks.told drive told))
      (λ n is. (bad n (ap (λ s. Err s) is)).told drive told) (λ n is. stays n (ap (λ s. Err s) is) images images_told) (λ is. unserved (ap (λ s. Err s) is) drive told);
}

pub rounds-settled : (fb fn : ℕ) (image : Image) (sides : Sides) (before after : Option (List Step)) (local_before local_after : Option (List LocalStep)) (images_before images_after : Option (List Image))
    → Meets image sides before after local_before local_after images_before images_after → is_same sides.local sides.remote ≡ true
    → Rounds fb fn image before after local_before local_after images_before images_after (Ok None)
rounds-settled fb fn image sides before after local_before local_after images_before images_after meets same = record {
  told = λ drive local images told local_told images_told last.
      round-settled (meets.told drive local images told local_told images_told last) last fb fn same;
}

pub rounds-acted : (fa fb fn : ℕ) (image : Image) (sides : Sides) (next : Image) (before middle after : Option (List Step)) (local_before local_middle local_after : Option (List LocalStep))
    (images_before images_middle images_after : Option (List Image)) → fa ≤ fb → Meets image sides before middle local_before local_middle images_before images_middle → is_same sides.local sides.remote ≡ false
    → Acts sides next fb fn middle after local_middle local_after images_middle images_after
    → PlanMakes sides local_middle local_after → KeepsToken sides.image images_middle images_after
    → Rounds fa fn image before after local_before local_after images_before images_after (Ok (Some next))
rounds-acted fa fb fn image sides next before middle after local_before local_middle local_after images_before images_middle images_after rises meets unlike acts makes keeps = record {
  told = λ drive local images told local_told images_told last.
      let m = meets.told drive local images told local_told images_told last in
      round-acted m last fa fb fn rises unlike (acts.told (drive-then m last) (local-then m last) (images-then m last) m.drive_grown m.local_grown m.images_grown (met-last m last))
      (makes.told (local-then m last) m.local_grown) (keeps.told (images-then m last) m.images_grown (met-last m last));
}

pub rounds-act-stopped : (fa fn : ℕ) (image : Image) (sides : Sides) (stop : SyncStop) (before middle after : Option (List Step)) (local_before local_middle local_after : Option (List LocalStep))
    (images_before images_middle images_after : Option (List Image)) → Meets image sides before middle local_before local_middle images_before images_middle → IsDoStop stop
    → Goes (λ drive. IsSound sides.image drive × AreKindsAccepted drive sides) sides.image middle after local_middle local_after images_middle images_after
    → Grows IsTransfer middle after → PlanMakes sides local_middle local_after
    → Rounds fa fn image before after local_before local_after images_before images_after (Err stop)
rounds-act-stopped fa fn image sides stop before middle after local_before local_middle local_after images_before images_middle images_after meets is_do goes grows makes = record {
  told = λ drive local images told local_told images_told last.
      let m = meets.told drive local images told local_told images_told last in
      round-act-stopped m last fa fn stop is_do (goes.told (drive-then m last) (local-then m last) (images-then m last) m.drive_grown m.local_grown m.images_grown (met-last m last))
      (grows.told (drive-then m last) m.drive_grown) (makes.told (local-then m last) m.local_grown);
}
