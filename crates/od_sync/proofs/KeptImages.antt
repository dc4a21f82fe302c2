-- The image that was committed last and its token, and the requests of transfers, over calls in a row.
use Rattle.std.proofs.Common.{◌≡◌, ℕ, Bool, true, List, [], ◌++◌, Option, Some, ap, sym, ◌∙◌, append_assoc}
use Rattle.std.proofs.lemmas.List.{append-nil}
use Rattle.gd_names.proofs.Each.{each-append}
use Rattle.gd_item.specs.declared.request.Request.{Request}
use Rattle.gd_item.specs.declared.step.Step.{Step}
use Rattle.od_keeper.specs.Images.{applied}
use Rattle.od_keeper.specs.Keeping.{Stay, last_image}
use Rattle.od_keeper.specs.declared.fault.KeeperFault.{KeeperFault}
use Rattle.od_keeper.specs.declared.fault.KeeperFault.TheVariants as keeper
use Rattle.od_keeper.specs.declared.image.BaseRow.{BaseRow}
use Rattle.od_keeper.specs.declared.image.Change.{Change}
use Rattle.od_keeper.specs.declared.image.Image.{Image}
use Rattle.od_transfer.specs.Asking.{Grows, IsSuch}
use Rattle.od_sync.specs.Batches.{CommitsRows, change_of_rows}
use Rattle.od_sync.specs.Ends.{stop_of_keeper, stop_of_folder}
use Rattle.od_sync.specs.Serving.{KeepsToken, Leaves}
use Rattle.od_sync.specs.Syncing.{IsDoStop}
use Rattle.od_sync.specs.declared.scanning.FolderFault.{FolderFault}
use Rattle.od_sync.specs.declared.scanning.FolderFault.TheVariants as scan

-- ---- the last image
pub leaves-none : (image : Image) (images : Option (List Image)) → Leaves image image images images
leaves-none image images = record { told = λ old told is. record { now = old; grown = told; last = is } }

pub leaves-then : (image mid next : Image) (before now after : Option (List Image)) → Leaves image mid before now → Leaves mid next now after → Leaves image next before after
leaves-then image mid next before now after first second = record {
  told = λ old told is.
      let one = first.told old told is in second.told one.now one.grown one.last;
}

pub leaves-rows : (image : Image) (rows : List BaseRow) (next : Image) (before after : Option (List Image)) → CommitsRows image rows next before after → Leaves image next before after
leaves-rows image rows next before after commits = record {
  told = λ old told is.
      let one = commits.told old told is in record { now = old ++ one.added; grown = one.grown; last = one.last };
}

-- ---- its token
pub kept-stay : (image : Image) (before after : Option (List Image)) → Stay before after → KeepsToken image before after
kept-stay image before after stay = record {
  told = λ old told is. record {
    added = [];
    grown = stay old told ∙ ap (λ those. Some those) (sym (append-nil old));
    same = ap (λ those. (last_image those).token) (append-nil old) ∙ ap (λ (i : Image). i.token) is;
  };
}

pub kept-none : (image : Image) (images : Option (List Image)) → KeepsToken image images images
kept-none image images = kept-stay image images images (λ old told. told)

pub kept-rows : (image : Image) (rows : List BaseRow) (change : Change) (next : Image) (before after : Option (List Image)) → change ≡ change_of_rows rows → next ≡ applied change image
    → CommitsRows image rows next before after → KeepsToken image before after
kept-rows image rows change next before after change_is next_is commits = record {
  told = λ old told is.
      let one = commits.told old told is in
      record {
        added = one.added;
        grown = one.grown;
        same = ap (λ (i : Image). i.token) (one.last ∙ (next_is ∙ ap (λ (c : Change). applied c image) change_is));
      };
}

the-last : (after : Option (List Image)) (a b : List Image) → after ≡ Some a → after ≡ Some b → last_image a ≡ last_image b
the-last after a b first second = ap last_image (let same : a ≡ b = cc (sym first ∙ second) in same)

pub kept-then : (image mid : Image) (before now after : Option (List Image)) → KeepsToken image before now → Leaves image mid before now → KeepsToken mid now after → KeepsToken image before after
kept-then image mid before now after first left second = record {
  told = λ old told is.
      let one = first.told old told is in
      let there = left.told old told is in
      let last : last_image (old ++ one.added) ≡ mid = the-last now (old ++ one.added) there.now one.grown there.grown ∙ there.last in
      let two = second.told (old ++ one.added) one.grown last in
      record {
        added = one.added ++ two.added;
        grown = two.grown ∙ ap (λ those. Some those) (append_assoc old one.added two.added);
        same = ap (λ those. (last_image those).token) (sym (append_assoc old one.added two.added)) ∙ (two.same ∙ (ap (λ (i : Image). i.token) (sym last) ∙ one.same));
      };
}

-- ---- requests
pub grows-none : (Such : Request → Bool → Bool → Type 0) (log : Option (List Step)) → Grows Such log log
grows-none Such log = record { told = λ old told. record { part = []; such = tt; grown = told ∙ ap (λ steps. Some steps) (sym (append-nil old)) } }

pub grows-then : (Such : Request → Bool → Bool → Type 0) (before now after : Option (List Step)) → Grows Such before now → Grows Such now after → Grows Such before after
grows-then Such before now after first second = record {
  told = λ old told.
      let one = first.told old told in
      let two = second.told (old ++ one.part) one.grown in
      record {
        part = one.part ++ two.part;
        such = each-append (IsSuch Such) one.part two.part one.such two.such;
        grown = two.grown ∙ ap (λ steps. Some steps) (append_assoc old one.part two.part);
      };
}

-- ---- no failure over two calls in a row
pub no-faults-then : (u v : Bool) (before now after : ℕ) → (u ≡ true → v ≡ true) → (u ≡ true → now ≡ before) → (v ≡ true → after ≡ now) → u ≡ true → after ≡ before
no-faults-then u v before now after stays first second is = second (stays is) ∙ first is

-- ---- what stops it
pub do-stop-scan : (fault : FolderFault) → IsDoStop (stop_of_folder fault)
do-stop-scan scan.Failed = tt
do-stop-scan scan.Memory = tt

pub do-stop-keeper : (fault : KeeperFault) → IsDoStop (stop_of_keeper fault)
do-stop-keeper keeper.Failed = tt
do-stop-keeper keeper.Memory = tt
