-- How logs and images grow in the parts of a look at both sides.
use Rattle.std.proofs.Common.{◌≡◌, ℕ, true, List, [], ◌∷◌, ◌++◌, map, Option, Some, Ok, refl, ap, sym, subst, ◌∙◌, append_assoc}
use Rattle.std.proofs.lemmas.List.Elements.{All-nil, All-cons}
use Rattle.std.specs.List.{All}
use Rattle.gd_item.specs.declared.request.Request.TheVariants.{Delta}
use Rattle.gd_item.specs.declared.step.Step.{Step}
use Rattle.gd_item.specs.declared.step.Step.TheVariants.{Ask}
use Rattle.gd_item.specs.declared.step.Who.TheVariants.{Own}
use Rattle.od_keeper.proofs.Growing.{sound-stays}
use Rattle.od_keeper.specs.Images.{applied}
use Rattle.od_keeper.specs.Keeping.{Stay}
use Rattle.od_keeper.specs.Sound.{IsSound}
use Rattle.od_keeper.specs.declared.image.BaseRow.{BaseRow}
use Rattle.od_keeper.specs.declared.image.Change.{Change}
use Rattle.od_keeper.specs.declared.image.Image.{Image}
use Rattle.od_transfer.specs.Undisturbed.{is_servable}
use Rattle.gd_item.specs.Steps.{state_of, accepted_by}
use Rattle.gd_item.specs.declared.item.Item.{Item}
use Rattle.od_tree.specs.declared.edit.UserEdit.{UserEdit}
use Rattle.od_tree.specs.declared.step.LocalStep.{LocalStep}
use Rattle.od_tree.specs.declared.step.LocalStep.TheVariants.{User, Op}
use Rattle.od_tree.specs.declared.step.TreeOp.TheVariants as op
use Rattle.od_sync.specs.Agreeing.{agreement}
use Rattle.od_sync.specs.Chains.{IsChained}
use Rattle.od_sync.specs.Comparing.{IsKindAccepted}
use Rattle.od_sync.specs.Deltas.{AsksDelta}
use Rattle.od_sync.specs.Doing.{AreAcceptedFetches}
use Rattle.od_sync.specs.Planning.{planned_fetches}
use Rattle.od_sync.specs.Receiving.{AreSides, Got, Keeps, Receives}
use Rattle.od_sync.specs.Rounds.{AreKindsAccepted}
use Rattle.od_sync.specs.Scans.{Finds, Found, GrownByLooks, GrowsByLooks}
use Rattle.od_sync.specs.Syncing.{Goes, Meets, Met, Went}
use Rattle.od_sync.specs.declared.looking.Sides.{Sides}
use Rattle.od_sync.specs.declared.planning.Fetching.{Fetching}
use Rattle.od_sync.specs.declared.receiving.Received.{Received}
use Rattle.od_sync.specs.declared.scanning.Node.{Node}
use Rattle.od_sync.proofs.ImagesAfter.{agreement_sound}
use Rattle.od_sync.proofs.Looks.{looks-none}
use Rattle.od_sync.proofs.RecordDigests.{record_digest_accepted}
use Rattle.od_sync.proofs.Growth.{answered, asked-answered, asked-with, look-steps, none-more, scan-steps, scan-is-steps}
use Rattle.od_sync.proofs.PlannedKinds.{IsKindIn, fetches-accepted}
use Rattle.od_keeper.proofs.LastImages.{last_added}

abbrev IsSoundIn : Image → List Step → Type 0
IsSoundIn image drive = IsSound image drive

-- ---- a pull without a commit
pub goes-pull : {MayBeLost : Type 0} (image : Image) (before after : Option (List Step)) (local : Option (List LocalStep)) (images_before images_after : Option (List Image))
    → AsksDelta MayBeLost image.token before after → Stay images_before images_after → Goes (IsSoundIn image) image before after local local images_before images_after
goes-pull image before after local images_before images_after asks stay = record {
  told = λ drive steps images told local_told images_told last.
      let g = asks.told drive told in
      record {
        more = g.part;
        asked = asked-with image.token g.part g.such;
        drive_grown = g.grown;
        part = [];
        steps = tt;
        local_grown = none-more local steps local_told;
        added = [];
        images_grown = none-more images_after images (stay images images_told);
        sound = λ sound. All-nil (λ (i : Image). IsSound i (drive ++ g.part));
      };
}

-- ---- with its commit, and with a scan or none
one-sound : (image : Image) (drive spent last : List Step) → IsSound image (drive ++ spent) → IsSound image (drive ++ (spent ++ last))
one-sound image drive spent last sound = subst (λ (log : List Step). IsSound image log) (append_assoc drive spent last) (sound-stays image (drive ++ spent) last sound)

went-got : (listings : ℕ) (image : Image) (received : Received) (drive : List Step) (local : List LocalStep) (images : List Image) (after : Option (List Step)) (local_after : Option (List LocalStep)) (images_between images_after : Option (List Image))
    → Got image received drive images after images_between → Stay images_between images_after → GrownByLooks listings local local_after → Went (IsSound image drive) drive local images after local_after images_after
went-got listings image received drive local images after local_after images_between images_after g stay looked = record {
  more = g.spent ++ answered image.token;
  asked = asked-answered image.token g.spent g.such;
  drive_grown = g.drive_grown ∙ ap (λ log. Some log) (append_assoc drive g.spent (answered image.token));
  part = looked.part;
  steps = look-steps looked.part looked.looks;
  local_grown = looked.grown;
  added = received.image ∷ [];
  images_grown = stay (images ++ received.image ∷ []) g.images_grown;
  sound = λ sound.
      let log = drive ++ (g.spent ++ answered image.token) in
      All-cons (λ (i : Image). IsSound i log) received.image [] (one-sound received.image drive g.spent (answered image.token) (g.sound sound)) (All-nil (λ (i : Image). IsSound i log));
}

pub stays : (images : Option (List Image)) → Stay images images
stays images all told = told

pub goes-got : (image : Image) (received : Received) (before after : Option (List Step)) (local : Option (List LocalStep)) (images_before images_after : Option (List Image))
    → Receives image received before after images_before images_after → Goes (IsSoundIn image) image before after local local images_before images_after
goes-got image received before after local images_before images_after receives = record {
  told = λ drive steps images told local_told images_told last.
      went-got 0 image received drive steps images after local images_after images_after (receives.told drive images told images_told last) (stays images_after) ((looks-none local).told steps local_told);
}

pub goes-scanned : (image : Image) (received : Received) (before after : Option (List Step)) (local_before local_after : Option (List LocalStep)) (images_before images_between images_after : Option (List Image))
    → Receives image received before after images_before images_between → GrowsByLooks 1 local_before local_after → Stay images_between images_after
    → Goes (IsSoundIn image) image before after local_before local_after images_before images_after
goes-scanned image received before after local_before local_after images_before images_between images_after receives looks stay = record {
  told = λ drive steps images told local_told images_told last.
      went-got 1 image received drive steps images after local_after images_between images_after (receives.told drive images told images_told last) stay (looks.told steps local_told);
}

-- ---- the whole look
pub are-sides : (received : Received) (local shown : List (List (List ℕ) × Node)) (rows : List BaseRow) (remote : List (List (List ℕ) × Item)) (next : Image) (change : Change) → rows ≡ received.image.rows → shown ≡ local
    → remote ≡ received.remote → change ≡ agreement rows shown remote → next ≡ applied change received.image → AreSides received local (record { image = next; local = local; remote = received.remote })
are-sides received local shown rows remote next change rows_is local_is remote_is change_is next_is = record {
  local_is = refl;
  remote_is = refl;
  image_is =
      next_is ∙ ap (λ (c : Change). applied c received.image) change_is
      ∙ ap (λ (rs : List BaseRow). applied (agreement rs shown remote) received.image) rows_is
      ∙ ap (λ (l : List (List (List ℕ) × Node)). applied (agreement received.image.rows l remote) received.image) local_is
      ∙ ap (λ (r : List (List (List ℕ) × Item)). applied (agreement received.image.rows local r) received.image) remote_is;
}

agreed-is : (image : Image) (received : Received) (local : List (List (List ℕ) × Node)) (sides : Sides) → AreSides received local sides → received.image.rows ≡ image.rows
    → sides.image ≡ applied (agreement image.rows sides.local sides.remote) received.image
agreed-is image received local sides are rows =
    are.image_is
    ∙ ap (λ rs. applied (agreement rs local received.remote) received.image) rows
    ∙ ap (λ (l : List (List (List ℕ) × Node)). applied (agreement image.rows l received.remote) received.image) (sym are.local_is)
    ∙ ap (λ (r : List (List (List ℕ) × Item)). applied (agreement image.rows sides.local r) received.image) (sym are.remote_is)

agreed-sound : (image : Image) (received : Received) (local : List (List (List ℕ) × Node)) (sides : Sides) (drive : List Step) (images : List Image) (after : Option (List Step)) (images_after : Option (List Image))
    (g : Got image received drive images after images_after) → AreSides received local sides → IsSound image drive → IsSound sides.image (drive ++ g.spent)
agreed-sound image received local sides drive images after images_after g are sound =
    let log = drive ++ g.spent in
    let kinds : All (λ (entry : List (List ℕ) × Item). IsKindAccepted (accepted_by log) entry.1.kind) received.remote =
    subst (λ (entries : List (List (List ℕ) × Item)). All (λ (entry : List (List ℕ) × Item). IsKindAccepted (accepted_by log) entry.1.kind) entries) (sym g.remote_is)
    (record_digest_accepted log g.items (g.mirrors sound)) in
    subst (λ (i : Image). IsSound i log) (sym are.image_is) (agreement_sound received.image log local received.remote (g.sound sound) kinds)

pub agreed-token : (received : Received) (local : List (List (List ℕ) × Node)) (sides : Sides) → AreSides received local sides → sides.image.token ≡ received.image.token
agreed-token received local sides are = ap (λ (i : Image). i.token) are.image_is

met : (image : Image) (received : Received) (found : List (List (List ℕ) × Node)) (sides : Sides) (drive : List Step) (local : List LocalStep) (images : List Image) (after : Option (List Step))
    (local_after : Option (List LocalStep)) (images_between images_after : Option (List Image)) → Got image received drive images after images_between → Found local local_after found → AreSides received found sides
    → images_after ≡ Some ((images ++ received.image ∷ []) ++ sides.image ∷ []) → Met image sides drive local images after local_after images_after
met image received found sides drive local images after local_after images_between images_after g f are grown = record {
  spent = g.spent;
  such = g.such;
  sent = g.sent;
  chained = subst (λ (token : Option (List ℕ)). IsChained image.token drive (g.spent ++ Ask Own (Delta image.token) true true ∷ []) token) (sym (agreed-token received found sides are)) g.chained;
  drive_grown = g.drive_grown;
  edits = f.edits;
  rest = f.rest;
  looks = f.looks;
  once = f.once;
  local_grown = f.grown;
  pulled = received.image;
  images_grown = grown ∙ ap (λ is. Some is) (append_assoc images (received.image ∷ []) (sides.image ∷ []));
  pulled_sound = g.sound;
  agreed_sound = λ sound. agreed-sound image received found sides drive images after images_between g are sound;
  pulled_rows = g.rows;
  agreed_is = agreed-is image received found sides are g.rows;
  servable = subst (λ (token : Option (List ℕ)). is_servable (state_of (drive ++ g.spent)) (Delta token) ≡ true) (sym (agreed-token received found sides are)) g.servable;
  items = g.items;
  remote_is = are.remote_is ∙ g.remote_is;
  mirrors = g.mirrors;
  found_is = are.local_is ∙ f.found_is;
  local_is = λ alone. are.local_is ∙ f.all alone;
}

pub meets : {E : Type 0} (image : Image) (received : Received) (found : List (List (List ℕ) × Node)) (sides : Sides) (before after : Option (List Step)) (local_before local_after : Option (List LocalStep))
    (images_before images_between images_after : Option (List Image)) → Receives image received before after images_before images_between → Finds local_before local_after found → AreSides received found sides
    → Keeps {E = E} received.image (λ (s : Sides). s.image) images_between images_after (Ok sides) → Meets image sides before after local_before local_after images_before images_after
meets image received found sides before after local_before local_after images_before images_between images_after receives finds are keeps = record {
  told = λ drive local images told local_told images_told last.
      let g = receives.told drive images told images_told last in
      met image received found sides drive local images after local_after images_between images_after g (finds.told local local_told) are
      (keeps.ok.told (images ++ received.image ∷ []) g.images_grown (last_added images received.image));
}

pub went-met : (image : Image) (sides : Sides) (drive : List Step) (local : List LocalStep) (images : List Image) (after : Option (List Step)) (local_after : Option (List LocalStep)) (images_after : Option (List Image))
    → Met image sides drive local images after local_after images_after → Went (IsSound image drive) drive local images after local_after images_after
went-met image sides drive local images after local_after images_after m = record {
  more = m.spent ++ answered image.token;
  asked = asked-answered image.token m.spent m.such;
  drive_grown = m.drive_grown ∙ ap (λ log. Some log) (append_assoc drive m.spent (answered image.token));
  part = scan-steps m.edits m.rest;
  steps = scan-is-steps m.edits m.rest m.looks;
  local_grown = m.local_grown ∙ ap (λ log. Some log) (append_assoc local (map (λ (edit : UserEdit). User edit) m.edits) (Op (op.List []) ∷ m.rest));
  added = m.pulled ∷ sides.image ∷ [];
  images_grown = m.images_grown;
  sound = λ sound.
      let log = drive ++ (m.spent ++ answered image.token) in
      All-cons (λ (i : Image). IsSound i log) m.pulled (sides.image ∷ []) (one-sound m.pulled drive m.spent (answered image.token) (m.pulled_sound sound))
      (All-cons (λ (i : Image). IsSound i log) sides.image [] (one-sound sides.image drive m.spent (answered image.token) (m.agreed_sound sound)) (All-nil (λ (i : Image). IsSound i log)));
}

pub goes-met : (image : Image) (sides : Sides) (before after : Option (List Step)) (local_before local_after : Option (List LocalStep)) (images_before images_after : Option (List Image))
    → Meets image sides before after local_before local_after images_before images_after → Goes (IsSoundIn image) image before after local_before local_after images_before images_after
goes-met image sides before after local_before local_after images_before images_after m = record {
  told = λ drive local images told local_told images_told last.
      went-met image sides drive local images after local_after images_after (m.told drive local images told local_told images_told last);
}

-- ---- what is done then
pub goes-none : (Premise : List Step → Type 0) (image : Image) (log : Option (List Step)) (local_log : Option (List LocalStep)) (images_log : Option (List Image)) → Goes Premise image log log local_log local_log images_log images_log
goes-none Premise image log local_log images_log = record {
  told = λ drive local images told local_told images_told last. record {
    more = [];
    asked = tt;
    drive_grown = none-more log drive told;
    part = [];
    steps = tt;
    local_grown = none-more local_log local local_told;
    added = [];
    images_grown = none-more images_log images images_told;
    sound = λ premise. All-nil (λ (i : Image). IsSound i (drive ++ []));
  };
}

went-so : (P Q : Type 0) (drive : List Step) (local : List LocalStep) (images : List Image) (after : Option (List Step)) (local_after : Option (List LocalStep)) (images_after : Option (List Image)) → (Q → P)
    → Went P drive local images after local_after images_after → Went Q drive local images after local_after images_after
went-so P Q drive local images after local_after images_after so w = record {
  more = w.more;
  asked = w.asked;
  drive_grown = w.drive_grown;
  part = w.part;
  steps = w.steps;
  local_grown = w.local_grown;
  added = w.added;
  images_grown = w.images_grown;
  sound = λ premise. w.sound (so premise);
}

pub goes-acted : (sides : Sides) (fetches : List Fetching) (rows : List BaseRow) (local : List (List (List ℕ) × Node)) (remote : List (List (List ℕ) × Item)) (before after : Option (List Step))
    (local_before local_after : Option (List LocalStep)) (images_before images_after : Option (List Image)) → rows ≡ sides.image.rows → local ≡ sides.local → remote ≡ sides.remote → fetches ≡ planned_fetches rows local remote
    → Goes (λ drive. IsSound sides.image drive × AreAcceptedFetches (accepted_by drive) fetches) sides.image before after local_before local_after images_before images_after
    → Goes (λ drive. IsSound sides.image drive × AreKindsAccepted drive sides) sides.image before after local_before local_after images_before images_after
goes-acted sides fetches rows local remote before after local_before local_after images_before images_after rows_are local_is remote_is fetches_are goes = record {
  told = λ drive steps images told local_told images_told last.
      went-so (IsSound sides.image drive × AreAcceptedFetches (accepted_by drive) fetches) (IsSound sides.image drive × AreKindsAccepted drive sides) drive steps images after local_after images_after
      (λ premise. (
        premise.0,
        subst (λ (fs : List Fetching). AreAcceptedFetches (accepted_by drive) fs) (sym fetches_are)
            (fetches-accepted (accepted_by drive) rows local remote (subst (λ (entries : List (List (List ℕ) × Item)). All (IsKindIn (accepted_by drive)) entries) (sym remote_is) premise.1)),
      ))
      (goes.told drive steps images told local_told images_told last);
}
