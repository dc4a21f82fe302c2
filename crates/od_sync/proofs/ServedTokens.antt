-- The drive goes on serving the token of the last image while only this client asks it and each request is served.
use Rattle.std.proofs.Common.{◌≡◌, ℕ, Bool, true, List, [], ◌∷◌, ◌++◌, Option, Some, Ok, refl, ap, sym, subst, ◌∙◌, append_assoc}
use Rattle.std.proofs.lemmas.List.{append-nil}
use Rattle.gd_item.specs.Steps.{state_of}
use Rattle.gd_item.specs.Sessions.{State}
use Rattle.gd_item.specs.declared.request.Request.TheVariants.{Delta}
use Rattle.gd_item.specs.declared.step.Step.{Step}
use Rattle.od_keeper.specs.Keeping.{Stay, last_image}
use Rattle.od_keeper.specs.declared.image.Image.{Image}
use Rattle.od_transfer.proofs.Logs.{such-append}
use Rattle.od_transfer.specs.Alone.{AreOwnServed, is_own_served}
use Rattle.od_transfer.specs.Asking.{Grows, OwnAre}
use Rattle.od_transfer.specs.Fits.{IsTransfer}
use Rattle.od_transfer.specs.Undisturbed as remote_alone
use Rattle.od_transfer.specs.Undisturbed.{is_servable}
use Rattle.od_sync.specs.Deltas.{AsksDelta}
use Rattle.od_sync.specs.Receiving.{AddsImage, Got, Keeps, Receives}
use Rattle.od_sync.specs.Serving.{KeepsToken, Leaves, Left, Served, Serves, ServesAll, StartsWith}
use Rattle.od_sync.specs.Syncing.{IsSyncRequest}
use Rattle.od_sync.specs.Syncs.{HasServable}
use Rattle.od_sync.specs.declared.looking.Sides.{Sides}
use Rattle.od_sync.specs.declared.receiving.Received.{Received}
use Rattle.od_sync.proofs.OwnRequests.{own_requests_keep}
use Rattle.od_sync.proofs.Growth.{answered, asked-answered, asked-transfers, asked-with, each-first, each-second, none-more, same-log, same-more}
use Rattle.od_keeper.proofs.LastImages.{last_added}

abbrev pub is-served : Step → Type 0
is-served step = is_own_served step ≡ true

-- ---- such requests keep what the drive serves
pub servable-later : (drive more : List Step) (token : Option (List ℕ)) → OwnAre IsSyncRequest more → AreOwnServed more → is_servable (state_of drive) (Delta token) ≡ true
    → is_servable (state_of (drive ++ more)) (Delta token) ≡ true
servable-later drive more token asked own has =
    subst (λ (state : State). is_servable state (Delta token) ≡ true) (sym (own_requests_keep drive more asked own)) has

-- ---- the parts of a look
pub serves-pull : {MayBeLost : Type 0} (image : Image) (before after : Option (List Step)) (images_before images_after : Option (List Image)) → AsksDelta MayBeLost image.token before after
    → Stay images_before images_after → Serves image before after images_before images_after
serves-pull image before after images_before images_after asks stay = record {
  told = λ drive images told images_told last.
      let g = asks.told drive told in
      record {
        more = g.part;
        asked = asked-with image.token g.part g.such;
        drive_grown = g.grown;
        added = [];
        images_grown = none-more images_after images (stay images images_told);
        servable = λ own has.
            subst (λ (is : List Image). HasServable (last_image is) (drive ++ g.part)) (sym (append-nil images))
            (servable-later drive g.part (last_image images).token (asked-with image.token g.part g.such) own has);
      };
}

-- the token of the image that is last then is served
served-next : (image next : Image) (received : Received) (drive : List Step) (images added : List Image) (after : Option (List Step)) (images_between images_after : Option (List Image))
    (g : Got image received drive images after images_between) → images_after ≡ Some (images ++ added) → last_image (images ++ added) ≡ next → next.token ≡ received.image.token → Served drive images after images_after
served-next image next received drive images added after images_between images_after g grown last token = record {
  more = g.spent ++ answered image.token;
  asked = asked-answered image.token g.spent g.such;
  drive_grown = g.drive_grown ∙ ap (λ log. Some log) (append_assoc drive g.spent (answered image.token));
  added = added;
  images_grown = grown;
  servable = λ own has.
      subst (λ (i : Image). HasServable i (drive ++ (g.spent ++ answered image.token))) (sym last)
      (subst (λ (t : Option (List ℕ)). is_servable (state_of (drive ++ (g.spent ++ answered image.token))) (Delta t) ≡ true) (sym token)
      (subst (λ (log : List Step). is_servable (state_of log) (Delta received.image.token) ≡ true) (append_assoc drive g.spent (answered image.token))
      (servable-later (drive ++ g.spent) (answered image.token) received.image.token (refl, tt) (refl, tt) g.servable)));
}

pub serves-kept : (image : Image) (received : Received) (before after : Option (List Step)) (images_before images_between images_after : Option (List Image))
    → Receives image received before after images_before images_between → Stay images_between images_after → Serves image before after images_before images_after
serves-kept image received before after images_before images_between images_after receives stay = record {
  told = λ drive images told images_told last.
      let g = receives.told drive images told images_told last in
      served-next image received.image received drive images (received.image ∷ []) after images_between images_after g (stay (images ++ received.image ∷ []) g.images_grown)
      (last_added images received.image) refl;
}

pub serves-agreed : {E : Type 0} (image : Image) (received : Received) (sides : Sides) (before after : Option (List Step)) (images_before images_between images_after : Option (List Image))
    → Receives image received before after images_before images_between → Keeps {E = E} received.image (λ (s : Sides). s.image) images_between images_after (Ok sides)
    → sides.image.token ≡ received.image.token → Serves image before after images_before images_after
serves-agreed image received sides before after images_before images_between images_after receives keeps token = record {
  told = λ drive images told images_told last.
      let g = receives.told drive images told images_told last in
      let grown = keeps.ok.told (images ++ received.image ∷ []) g.images_grown (last_added images received.image) in
      served-next image sides.image received drive images (received.image ∷ sides.image ∷ []) after images_between images_after g
      (grown ∙ ap (λ is. Some is) (append_assoc images (received.image ∷ []) (sides.image ∷ [])))
      (ap last_image (sym (append_assoc images (received.image ∷ []) (sides.image ∷ []))) ∙ last_added (images ++ received.image ∷ []) sides.image) token;
}

-- the image that is last
pub leaves-agreed : {E : Type 0} (image : Image) (received : Received) (sides : Sides) (images_before images_between images_after : Option (List Image)) → AddsImage image received.image images_before images_between
    → Keeps {E = E} received.image (λ (s : Sides). s.image) images_between images_after (Ok sides) → Leaves image sides.image images_before images_after
leaves-agreed image received sides images_before images_between images_after adds keeps = record {
  told = λ images told last. record {
    now = (images ++ received.image ∷ []) ++ sides.image ∷ [];
    grown = keeps.ok.told (images ++ received.image ∷ []) (adds.told images told last) (last_added images received.image);
    last = last_added (images ++ received.image ∷ []) sides.image;
  };
}

pub last-then : (next : Image) (images_after : Option (List Image)) (images_now : List Image) → Left next images_after → images_after ≡ Some images_now → last_image images_now ≡ next
last-then next images_after images_now left now = ap last_image (same-log images_after images_now left.now now left.grown) ∙ left.last

-- ---- nothing, and what is done
pub serves-none : (image : Image) (drive_log : Option (List Step)) (images_log : Option (List Image)) → Serves image drive_log drive_log images_log images_log
serves-none image drive_log images_log = record {
  told = λ drive images told images_told last. record {
    more = [];
    asked = tt;
    drive_grown = none-more drive_log drive told;
    added = [];
    images_grown = none-more images_log images images_told;
    servable = λ own has.
        subst (λ (log : List Step). HasServable (last_image (images ++ [])) log) (sym (append-nil drive))
        (subst (λ (is : List Image). HasServable (last_image is) drive) (sym (append-nil images)) has);
  };
}

pub serves-done : (image : Image) (before after : Option (List Step)) (images_before images_after : Option (List Image)) → Grows IsTransfer before after → KeepsToken image images_before images_after
    → Serves image before after images_before images_after
serves-done image before after images_before images_after grows keeps = record {
  told = λ drive images told images_told last.
      let g = grows.told drive told in
      let k = keeps.told images images_told last in
      record {
        more = g.part;
        asked = asked-transfers g.part g.such;
        drive_grown = g.grown;
        added = k.added;
        images_grown = k.grown;
        servable = λ own has.
            subst (λ (t : Option (List ℕ)). is_servable (state_of (drive ++ g.part)) (Delta t) ≡ true)
            (ap (λ (i : Image). i.token) last ∙ sym k.same)
            (servable-later drive g.part (last_image images).token (asked-transfers g.part g.such) own has);
      };
}

-- ---- one after another
pub serves-then : (image next : Image) (before middle after : Option (List Step)) (images_before images_middle images_after : Option (List Image)) → Serves image before middle images_before images_middle
    → Leaves image next images_before images_middle → Serves next middle after images_middle images_after → Serves image before after images_before images_after
serves-then image next before middle after images_before images_middle images_after first leaves second = record {
  told = λ drive images told images_told last.
      let a = first.told drive images told images_told last in
      let b = second.told (drive ++ a.more) (images ++ a.added) a.drive_grown a.images_grown (last-then next images_middle (images ++ a.added) (leaves.told images images_told last) a.images_grown) in
      record {
        more = a.more ++ b.more;
        asked = such-append IsSyncRequest a.more b.more a.asked b.asked;
        drive_grown = b.drive_grown ∙ ap (λ log. Some log) (append_assoc drive a.more b.more);
        added = a.added ++ b.added;
        images_grown = b.images_grown ∙ ap (λ is. Some is) (append_assoc images a.added b.added);
        servable = λ own has.
            subst (λ (log : List Step). HasServable (last_image (images ++ (a.added ++ b.added))) log) (append_assoc drive a.more b.more)
            (subst (λ (is : List Image). HasServable (last_image is) ((drive ++ a.more) ++ b.more)) (append_assoc images a.added b.added)
            (b.servable (each-second is-served a.more b.more own) (a.servable (each-first is-served a.more b.more own) has)));
      };
}

-- ---- while no one disturbs it
pub starts-next : (undisturbed undisturbed_now : Bool) (image next : Image) (before middle : Option (List Step)) (images_before images_middle : Option (List Image))
    → remote_alone.Undisturbed undisturbed undisturbed_now before middle → Serves image before middle images_before images_middle → Leaves image next images_before images_middle
    → undisturbed ≡ true → StartsWith image before images_before → StartsWith next middle images_middle
starts-next undisturbed undisturbed_now image next before middle images_before images_middle alone serves leaves is starts =
    let a = serves.told starts.log starts.committed starts.log_is starts.committed_is starts.last in
    let g = alone.alone is starts.log starts.log_is in
    let own : AreOwnServed a.more = subst AreOwnServed (same-more middle starts.log g.part a.more g.grown a.drive_grown) g.own in
    let last : last_image (starts.committed ++ a.added) ≡ next =
    last-then next images_middle (starts.committed ++ a.added) (leaves.told starts.committed starts.committed_is starts.last) a.images_grown in
    record {
      log = starts.log ++ a.more;
      committed = starts.committed ++ a.added;
      log_is = a.drive_grown;
      committed_is = a.images_grown;
      last = last;
      servable = subst (λ (i : Image). HasServable i (starts.log ++ a.more)) last
          (a.servable own (subst (λ (i : Image). HasServable i starts.log) (sym starts.last) starts.servable));
    }

pub serves-not-loaded : (before : Option (List Step)) (images_before images_after : Option (List Image)) → Stay images_before images_after → ServesAll before before images_before images_after
serves-not-loaded before images_before images_after stay = record {
  told = λ drive images told images_told.
      (serves-none (last_image images) before images_after).told drive images told (stay images images_told) refl;
}
