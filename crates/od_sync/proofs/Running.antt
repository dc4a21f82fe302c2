-- What some rounds come to one after another, where all logs and images are told.
use Rattle.std.proofs.Common.{◌≡◌, ℕ, ◌+◌, ◌≤◌, Bool, true, false, List, [], ◌∷◌, ◌++◌, Option, Some, None, Result, Ok, Err, refl, ap, sym, subst, ◌∙◌, arith}
use Rattle.std.proofs.lemmas.List.{append-nil}
use Rattle.std.proofs.lemmas.List.Elements.{All-nil}
use Rattle.std.specs.Prelude.{IsErrOf, OnOk}
use Rattle.gd_item.specs.declared.id.ItemId.{ItemId}
use Rattle.gd_item.specs.declared.step.Step.{Step}
use Rattle.od_keeper.proofs.Growing.{sound-empty}
use Rattle.od_keeper.specs.Keeping.{Stay, last_image}
use Rattle.od_keeper.specs.Sound.{IsSound}
use Rattle.od_keeper.specs.declared.fault.KeeperFault.{KeeperFault}
use Rattle.od_keeper.specs.declared.fault.KeeperFault.TheVariants as keeper
use Rattle.od_keeper.specs.declared.image.Image.{Image}
use Rattle.od_tree.specs.Calls.{edited}
use Rattle.od_tree.specs.Undisturbed.{IsOp}
use Rattle.od_tree.specs.declared.step.LocalStep.{LocalStep}
use Rattle.od_sync.specs.Chains.{Chained, IsChained}
use Rattle.od_sync.specs.Comparing.{is_same}
use Rattle.od_sync.specs.Deltas.{is_answered_delta, last_heard_after}
use Rattle.od_sync.specs.Ends.{stop_of_keeper}
use Rattle.od_sync.specs.Rounds.{EndsWithUnserved, Ran, Rounded, Rounds, Runs, RunsAll, RunsTo, RoundsTo}
use Rattle.od_sync.specs.Syncing.{Meets, Met}
use Rattle.od_sync.specs.Scans.{is_root_listing}
use Rattle.od_sync.specs.Looks.{AllUnlike, AreWhole, IsWithin, LastSame, found_until}
use Rattle.od_sync.specs.declared.ends.SyncStop.{SyncStop}
use Rattle.od_sync.specs.declared.ends.SyncStop.TheVariants.{BadPages, Unserved}
use Rattle.od_sync.specs.declared.looking.Sides.{Sides}
use Rattle.od_sync.proofs.Chained.{chain-then, chained-all, chained-also, chained-then}
use Rattle.od_sync.proofs.Compares.{compared-unlike}
use Rattle.od_sync.proofs.Growth.{answered, count-append, each-first, each-second, grew-sound, grew-then, scan-steps}
use Rattle.od_sync.proofs.Rounding.{drive-then, images-then, local-then, met-begins, met-chained, met-chained-on, met-found-unlike, met-grew, met-looked, met-looks, met-sound, met-unlike, met-whole, met-within}
use Rattle.od_sync.proofs.Sends.{last-append}
use Rattle.od_sync.proofs.LooksFound.{same-then, unlike-then, until-append, whole-then, within-then}
use Rattle.od_sync.proofs.ServedTokens.{is-served}
use Rattle.gd_names.proofs.Streams.{rose-on}

-- ---- one round more, after which the others are known
later-unserved : (first second : List Step) → EndsWithUnserved second → EndsWithUnserved (first ++ second)
later-unserved first second ends =
    record { token = ends.token; last = λ before. last-append before first second ∙ ends.last (last_heard_after before first) }

within-weaker : {a b : ℕ} (more : List Step) (part : List LocalStep) → a ≤ b → IsWithin a more part → IsWithin b more part
within-weaker more part less within =
    record { answered = omega (arith, less, within.answered); sent = omega (arith, less, within.sent); listed = omega (arith, less, within.listed) }

begins-then : (result : Result Bool SyncStop) (local p1 lmid p2 : List LocalStep) → lmid ≡ local ++ p1 → found_until local p1 ≡ [] → OnOk result (found_until lmid p2 ≡ []) → OnOk result (found_until local (p1 ++ p2) ≡ [])
begins-then (Ok settled) local p1 lmid p2 is first second = until-append local p1 p2 (ap (λ (log : List LocalStep). found_until log p2) (sym is) ∙ second) ∙ first
begins-then (Err stop) local p1 lmid p2 is first second = tt

begun : (result : Result Bool SyncStop) (settled : Bool) (lmid log part : List LocalStep) → result ≡ Ok settled → lmid ≡ log → OnOk result (found_until lmid part ≡ []) → found_until log part ≡ []
begun result settled lmid log part is same begins =
    ap (λ (l : List LocalStep). found_until l part) (sym same) ∙ subst (λ (r : Result Bool SyncStop). OnOk r (found_until lmid part ≡ [])) is begins

whole-on : (result : Result Bool SyncStop) (local p1 lmid p2 : List LocalStep) → lmid ≡ local ++ p1 → OnOk result (found_until lmid p2 ≡ []) → AreWhole local p1 → OnOk result (AreWhole lmid p2) → OnOk result (AreWhole local (p1 ++ p2))
whole-on (Ok settled) local p1 lmid p2 is begins first second =
    whole-then local p1 p2 (ap (λ (log : List LocalStep). found_until log p2) (sym is) ∙ begins) first (subst (λ (log : List LocalStep). AreWhole log p2) is second)
whole-on (Err stop) local p1 lmid p2 is begins first second = tt

-- the drive is asked on with the token of the image that a round left
chained-more : (a b c : Option (List ℕ)) (drive m1 mid m2 : List Step) → mid ≡ drive ++ m1 → IsChained a drive m1 b → IsChained b mid m2 c → IsChained a drive (m1 ++ m2) c
chained-more a b c drive m1 mid m2 is first second = chain-then a b c drive m1 m2 first (subst (λ (log : List Step). IsChained b log m2 c) is second)

chained-last : {MayBeLost : Type 0} (a b : Option (List ℕ)) (drive m1 mid m2 : List Step) → mid ≡ drive ++ m1 → IsChained a drive m1 b → Chained MayBeLost b mid m2 → Chained MayBeLost a drive (m1 ++ m2)
chained-last {MayBeLost} a b drive m1 mid m2 is first second = chained-then a b drive m1 m2 first (subst (λ (log : List Step). Chained MayBeLost b log m2) is second)

chained-on : (result : Result Bool SyncStop) (a b c : Option (List ℕ)) (drive m1 mid m2 : List Step) → mid ≡ drive ++ m1 → IsChained a drive m1 b → OnOk result (IsChained b mid m2 c) → OnOk result (IsChained a drive (m1 ++ m2) c)
chained-on (Ok settled) a b c drive m1 mid m2 is first second = chained-more a b c drive m1 mid m2 is first second
chained-on (Err stop) a b c drive m1 mid m2 is first second = tt

ran-more : {drive m1 mid m2 now : List Step} {local p1 lmid p2 lnow : List LocalStep} {images a1 imid a2 inow : List Image} {next : Image} {result : Result Bool SyncStop} (k fa fb fc : ℕ) → fa ≤ fb → fb ≤ fc
    → Rounded fa fb drive m1 mid local p1 lmid images a1 imid (Ok (Some next)) → Ran k fb fc mid m2 now lmid p2 lnow imid a2 inow result
    → Ran (k + 1) fa fc drive (m1 ++ m2) now local (p1 ++ p2) lnow images (a1 ++ a2) inow result
ran-more {drive} {m1} {mid} {m2} {now} {local} {p1} {lmid} {p2} {lnow} {images} {a1} {imid} {a2} {inow} {next} {result} k fa fb fc rises later first second = record {
  grew = grew-then first.grew second.grew;
  within = within-then m1 m2 p1 p2 first.within second.within;
  chained = chained-last (last_image images).token (last_image imid).token drive m1 mid m2 first.grew.drive_is first.chained_on second.chained;
  chained_on = chained-on result (last_image images).token (last_image imid).token (last_image inow).token drive m1 mid m2 first.grew.drive_is first.chained_on second.chained_on;
  begins = begins-then result local p1 lmid p2 first.grew.local_is first.begins second.begins;
  whole = whole-on result local p1 lmid p2 first.grew.local_is second.begins first.whole second.whole;
  looked = λ is. record {
    answered = omega (arith, first.looked.answered, count-append is_answered_delta m1 m2);
    listed = omega (arith, first.looked.listed, count-append is_root_listing p1 p2);
  };
  looked_by = λ is. record {
    answered = omega (arith, first.looked.answered, (second.looked_by is).answered, count-append is_answered_delta m1 m2);
    listed = omega (arith, first.looked.listed, (second.looked_by is).listed, count-append is_root_listing p1 p2);
  };
  settled = λ is sound. second.settled is (grew-sound first.grew sound);
  unsettled = λ is sound. second.unsettled is (grew-sound first.grew sound);
  looks = second.looks;
  found_same = λ is sound.
      same-then drive m1 m2 local p1 p2 (begun result true lmid (local ++ p1) p2 is first.grew.local_is second.begins) (first.found_unlike next refl sound)
      (subst (λ (log : List LocalStep). LastSame (drive ++ m1) m2 log p2) first.grew.local_is
      (subst (λ (log : List Step). LastSame log m2 lmid p2) first.grew.drive_is (second.found_same is (grew-sound first.grew sound))));
  found_unlike = λ is sound.
      unlike-then drive m1 m2 local p1 p2 (begun result false lmid (local ++ p1) p2 is first.grew.local_is second.begins) (first.found_unlike next refl sound)
      (subst (λ (log : List LocalStep). AllUnlike k (drive ++ m1) m2 log p2) first.grew.local_is
      (subst (λ (log : List Step). AllUnlike k log m2 lmid p2) first.grew.drive_is (second.found_unlike is (grew-sound first.grew sound))));
  never_bad = λ id is sound. second.never_bad id is (grew-sound first.grew sound);
  bad_pages = second.bad_pages;
  unserved = λ is. later-unserved m1 m2 (second.unserved is);
  unlike = λ is sound alone same.
      first.unlike next refl sound (each-first is-served m1 m2 alone.0, each-first IsOp p1 p2 alone.1) same;
  fresh = λ two is quiet alone none empty.
      second.unlike is (grew-sound first.grew (subst (λ (i : Image). IsSound i drive) (sym empty) (sound-empty drive)))
      (each-second is-served m1 m2 alone.0, each-second IsOp p1 p2 alone.1)
      (first.fresh next refl (λ rose. quiet (rose-on fa fb fc rose later)) (each-first is-served m1 m2 alone.0, each-first IsOp p1 p2 alone.1) none empty);
}

ran-settled : {drive more now : List Step} {local part lnow : List LocalStep} {images added inow : List Image} (k fb fn : ℕ) → 1 ≤ k → Rounded fb fn drive more now local part lnow images added inow (Ok None)
    → Ran k fb fn drive more now local part lnow images added inow (Ok true)
ran-settled {drive = drive} {more = more} {part = part} {images = images} k fb fn some r = record {
  grew = r.grew;
  within = within-weaker more part some r.within;
  chained = chained-also (last_image images).token drive more (λ is. absurd (cc is)) r.chained;
  chained_on = r.chained_on;
  begins = r.begins;
  whole = r.whole;
  looked = λ is. r.looked;
  looked_by = λ is. absurd (cc is);
  settled = λ is. r.settled refl;
  unsettled = λ is. absurd (cc is);
  looks = r.looks refl;
  found_same = λ is. r.found_same refl;
  found_unlike = λ is. absurd (cc is);
  never_bad = λ id is. absurd (cc is);
  bad_pages = λ id is. absurd (cc is);
  unserved = λ is. absurd (cc is);
  unlike = λ is. absurd (cc is);
  fresh = λ two is. absurd (cc is);
}

ran-stopped : {drive more now : List Step} {local part lnow : List LocalStep} {images added inow : List Image} {stop : SyncStop} (k fb fn : ℕ) → 1 ≤ k → Rounded fb fn drive more now local part lnow images added inow (Err stop)
    → Ran k fb fn drive more now local part lnow images added inow (Err stop)
ran-stopped {drive = drive} {more = more} {part = part} {images = images} k fb fn some r = record {
  grew = r.grew;
  within = within-weaker more part some r.within;
  chained = chained-also (last_image images).token drive more (λ is. cc is) r.chained;
  chained_on = tt;
  begins = tt;
  whole = tt;
  looked = λ is. absurd (cc is);
  looked_by = λ is. absurd (cc is);
  settled = λ is. absurd (cc is);
  unsettled = λ is. absurd (cc is);
  looks = tt;
  found_same = λ is. absurd (cc is);
  found_unlike = λ is. absurd (cc is);
  never_bad = λ id is. r.never_bad id (cc is);
  bad_pages = λ id is. r.bad_pages id (cc is);
  unserved = λ is. r.unserved (cc is);
  unlike = λ is. absurd (cc is);
  fresh = λ two is. absurd (cc is);
}

-- the last look, where both sides are not the same
runs-unlike : {image : Image} {sides : Sides} {drive : List Step} {local : List LocalStep} {images : List Image} {after : Option (List Step)} {local_after : Option (List LocalStep)} {images_after : Option (List Image)} (fb fn : ℕ)
    (m : Met image sides drive local images after local_after images_after) (last : last_image images ≡ image) → is_same sides.local sides.remote ≡ false → RunsTo 1 fb fn drive local images after local_after images_after (Ok false)
runs-unlike {image} {sides} {drive} {local} {images} {after} {local_after} {images_after} fb fn m last unlike = record {
  more = m.spent ++ answered image.token;
  drive_now = drive-then m last;
  part = scan-steps m.edits m.rest;
  local_now = local-then m last;
  added = m.pulled ∷ sides.image ∷ [];
  images_now = images-then m last;
  drive_told = m.drive_grown;
  local_told = m.local_grown;
  images_told = m.images_grown;
  ran = record {
    grew = met-grew m last;
    within = met-within m last;
    chained = chained-all (last_image images).token sides.image.token drive (m.spent ++ answered image.token) (met-chained m last);
    chained_on = met-chained-on m last;
    begins = met-begins m last;
    whole = met-whole m last;
    looked = λ is. absurd (cc is);
    looked_by = λ is. met-looked m last;
    settled = λ is. absurd (cc is);
    unsettled = λ is sound alone same.
        compared-unlike (edited local m.edits) m.rest (drive ++ m.spent) image.token m.items sides.local sides.remote m.looks m.once (m.mirrors (met-sound m last sound)) m.remote_is m.local_is unlike alone same;
    looks = met-looks m last;
    found_same = λ is. absurd (cc is);
    found_unlike = λ is sound. met-found-unlike m last unlike sound;
    never_bad = λ id is. absurd (cc is);
    bad_pages = λ id is. absurd (cc is);
    unserved = λ is. absurd (cc is);
    unlike = λ is sound alone same. met-unlike m last unlike sound alone.0 alone.1 same;
    fresh = λ two. absurd (omega (arith, two));
  };
}

-- ---- the same, where the logs and images may be told
runs-to-settled : {drive : List Step} {local : List LocalStep} {images : List Image} {after : Option (List Step)} {local_after : Option (List LocalStep)} {images_after : Option (List Image)} (k fb fn : ℕ) → 1 ≤ k
    → RoundsTo fb fn drive local images after local_after images_after (Ok None) → RunsTo k fb fn drive local images after local_after images_after (Ok true)
runs-to-settled k fb fn some r = record {
  more = r.more;
  drive_now = r.drive_now;
  part = r.part;
  local_now = r.local_now;
  added = r.added;
  images_now = r.images_now;
  drive_told = r.drive_told;
  local_told = r.local_told;
  images_told = r.images_told;
  ran = ran-settled k fb fn some r.rounded;
}

runs-to-stopped : {drive : List Step} {local : List LocalStep} {images : List Image} {after : Option (List Step)} {local_after : Option (List LocalStep)} {images_after : Option (List Image)} {stop : SyncStop} (k fb fn : ℕ) → 1 ≤ k
    → RoundsTo fb fn drive local images after local_after images_after (Err stop) → RunsTo k fb fn drive local images after local_after images_after (Err stop)
runs-to-stopped k fb fn some r = record {
  more = r.more;
  drive_now = r.drive_now;
  part = r.part;
  local_now = r.local_now;
  added = r.added;
  images_now = r.images_now;
  drive_told = r.drive_told;
  local_told = r.local_told;
  images_told = r.images_told;
  ran = ran-stopped k fb fn some r.rounded;
}

runs-to-more : {drive : List Step} {local : List LocalStep} {images : List Image} {middle after : Option (List Step)} {local_middle local_after : Option (List LocalStep)} {images_middle images_after : Option (List Image)}
    {next : Image} {result : Result Bool SyncStop} (k fa fb fc : ℕ) → fa ≤ fb → fb ≤ fc → RoundsTo fa fb drive local images middle local_middle images_middle (Ok (Some next))
    → Runs k fb fc next middle after local_middle local_after images_middle images_after result → RunsTo (k + 1) fa fc drive local images after local_after images_after result
runs-to-more {next = next} k fa fb fc rises later r runs =
    let s = runs.told r.drive_now r.local_now r.images_now r.drive_told r.local_told r.images_told (r.rounded.last next refl) in
    record {
      more = r.more ++ s.more;
      drive_now = s.drive_now;
      part = r.part ++ s.part;
      local_now = s.local_now;
      added = r.added ++ s.added;
      images_now = s.images_now;
      drive_told = s.drive_told;
      local_told = s.local_told;
      images_told = s.images_told;
      ran = ran-more k fa fb fc rises later r.rounded s.ran;
    }

pub runs-settled : (k fb fn : ℕ) (image : Image) (before after : Option (List Step)) (local_before local_after : Option (List LocalStep)) (images_before images_after : Option (List Image))
    → 1 ≤ k → Rounds fb fn image before after local_before local_after images_before images_after (Ok None) → Runs k fb fn image before after local_before local_after images_before images_after (Ok true)
runs-settled k fb fn image before after local_before local_after images_before images_after some rounds = record {
  told = λ drive local images told local_told images_told last. runs-to-settled k fb fn some (rounds.told drive local images told local_told images_told last);
}

pub runs-stopped : (k fb fn : ℕ) (image : Image) (stop : SyncStop) (before after : Option (List Step)) (local_before local_after : Option (List LocalStep)) (images_before images_after : Option (List Image))
    → 1 ≤ k → Rounds fb fn image before after local_before local_after images_before images_after (Err stop) → Runs k fb fn image before after local_before local_after images_before images_after (Err stop)
runs-stopped k fb fn image stop before after local_before local_after images_before images_after some rounds = record {
  told = λ drive local images told local_told images_told last. runs-to-stopped k fb fn some (rounds.told drive local images told local_told images_told last);
}

pub runs-unsettled : (fb fn : ℕ) (image : Image) (sides : Sides) (before after : Option (List Step)) (local_before local_after : Option (List LocalStep)) (images_before images_after : Option (List Image))
    → Meets image sides before after local_before local_after images_before images_after → is_same sides.local sides.remote ≡ false
    → Runs 1 fb fn image before after local_before local_after images_before images_after (Ok false)
runs-unsettled fb fn image sides before after local_before local_after images_before images_after meets unlike = record {
  told = λ drive local images told local_told images_told last. runs-unlike fb fn (meets.told drive local images told local_told images_told last) last unlike;
}

pub runs-more : (k fa fb fc : ℕ) (image next : Image) (result : Result Bool SyncStop) (before middle after : Option (List Step)) (local_before local_middle local_after : Option (List LocalStep))
    (images_before images_middle images_after : Option (List Image)) → fa ≤ fb → fb ≤ fc → Rounds fa fb image before middle local_before local_middle images_before images_middle (Ok (Some next))
    → Runs k fb fc next middle after local_middle local_after images_middle images_after result → Runs (k + 1) fa fc image before after local_before local_after images_before images_after result
runs-more k fa fb fc image next result before middle after local_before local_middle local_after images_before images_middle images_after rises later rounds runs = record {
  told = λ drive local images told local_told images_told last.
      runs-to-more k fa fb fc rises later (rounds.told drive local images told local_told images_told last) runs;
}

-- ---- where no image is loaded
keeper-not-bad : (fault : KeeperFault) (stop : SyncStop) → stop ≡ stop_of_keeper fault → (number : ItemId) → IsErrOf {T = Bool} (Err stop) (BadPages number) → ⊥
keeper-not-bad keeper.Failed stop is number bad = cc (is, bad)
keeper-not-bad keeper.Memory stop is number bad = cc (is, bad)

keeper-not-unserved : (fault : KeeperFault) (stop : SyncStop) → stop ≡ stop_of_keeper fault → IsErrOf {T = Bool} (Err stop) Unserved → ⊥
keeper-not-unserved keeper.Failed stop is bad = cc (is, bad)
keeper-not-unserved keeper.Memory stop is bad = cc (is, bad)

pub runs-not-loaded : (k fb fn : ℕ) (fault : KeeperFault) (stop : SyncStop) (log : Option (List Step)) (local_log : Option (List LocalStep)) (images_before images_after : Option (List Image)) → stop ≡ stop_of_keeper fault
    → Stay images_before images_after → RunsAll k fb fn log log local_log local_log images_before images_after (Err stop)
runs-not-loaded k fb fn fault stop log local_log images_before images_after is stay = record {
  told = λ drive local images told local_told images_told. record {
    more = [];
    drive_now = drive;
    part = [];
    local_now = local;
    added = [];
    images_now = images;
    drive_told = told;
    local_told = local_told;
    images_told = stay images images_told;
    ran = record {
      grew = record {
        drive_is = sym (append-nil drive);
        asked = tt;
        local_is = sym (append-nil local);
        steps = tt;
        images_are = sym (append-nil images);
        sound = λ sound. All-nil (λ (i : Image). IsSound i drive);
        had = λ sound. tt;
      };
      within = record { answered = omega arith; sent = omega arith; listed = omega arith };
      chained = chained-all (last_image images).token (last_image images).token drive [] refl;
      chained_on = tt;
      begins = tt;
      whole = tt;
      looked = λ no_end. absurd (cc no_end);
      looked_by = λ no_end. absurd (cc no_end);
      settled = λ no_end. absurd (cc no_end);
      unsettled = λ no_end. absurd (cc no_end);
      looks = tt;
      found_same = λ no_end. absurd (cc no_end);
      found_unlike = λ no_end. absurd (cc no_end);
      never_bad = λ id bad. absurd (keeper-not-bad fault stop is id bad);
      bad_pages = λ id bad. absurd (keeper-not-bad fault stop is id bad);
      unserved = λ bad. absurd (keeper-not-unserved fault stop is bad);
      unlike = λ no_end. absurd (cc no_end);
      fresh = λ two no_end. absurd (cc no_end);
    };
  };
}
