-- The digest of each file among the items that were pulled of a drive is that of bytes that it accepted.
use Rattle.std.proofs.Common.{◌≡◌, ℕ, List, [], ◌∷◌, map, Option, Some, None, refl, sym, subst}
use Rattle.std.proofs.lemmas.List.Elements.{All-from_recursion}
use Rattle.std.specs.List.{All, AllByRecursion}
use Rattle.gd_item.specs.Records.{kind_at, record_of, records_of}
use Rattle.gd_item.specs.Steps.{held_by, accepted_by}
use Rattle.gd_item.specs.declared.item.Item.{Item}
use Rattle.gd_item.specs.declared.item.Kind.{Kind}
use Rattle.gd_item.specs.declared.item.Kind.TheVariants.{Folder, File, Bare, Deleted}
use Rattle.gd_item.specs.declared.live.LiveItem.{LiveItem}
use Rattle.gd_item.specs.declared.live.Version.{Version}
use Rattle.gd_item.specs.declared.step.Step.{Step}
use Rattle.gd_item.proofs.LogsVersions.{IsKnown}
use Rattle.gd_item.specs.Views.{uncounted_kind, uncounted}
use Rattle.od_mirror.specs.Pulled.{paths_of}
use Rattle.od_sync.specs.Comparing.{IsKindAccepted}
use Rattle.gd_laws.proofs.Placing.{items-known}
use Rattle.od_pages.proofs.Placing.{each-at-path}

-- ---- whatever the numbers of children
without-count : (versions : List Version) (kind : Kind) → IsKindAccepted versions kind → IsKindAccepted versions (uncounted_kind kind)
without-count versions (Folder child_count) accepted = tt
without-count versions (File digest) accepted = accepted
without-count versions Bare accepted = tt
without-count versions Deleted accepted = tt

with-count : (versions : List Version) (kind : Kind) → IsKindAccepted versions (uncounted_kind kind) → IsKindAccepted versions kind
with-count versions (Folder child_count) accepted = tt
with-count versions (File digest) accepted = accepted
with-count versions Bare accepted = tt
with-count versions Deleted accepted = tt

module _ (versions : List Version) where
  abbrev AreAccepted : List Item → Type 0
  AreAccepted items = AllByRecursion (λ (item : Item). IsKindAccepted versions item.kind) items

  without-counts : (items : List Item) → AreAccepted items → AreAccepted (map uncounted items)
  without-counts [] all = tt
  without-counts (item ∷ items) all = (without-count versions item.kind all.0, without-counts items all.1)

  with-counts : (items : List Item) → AreAccepted (map uncounted items) → AreAccepted items
  with-counts [] all = tt
  with-counts (item ∷ items) all = (with-count versions item.kind all.0, with-counts items all.1)

  -- ---- the drive's records
  kind-accepted : (item : LiveItem) (bytes : Option (List ℕ)) (number : ℕ) (all : List LiveItem) → item.bytes ≡ bytes → IsKnown versions item
      → IsKindAccepted versions (kind_at bytes number all)
  kind-accepted item None number all is known = tt
  kind-accepted item (Some bytes) number all is known =
      let there = known bytes is in (there.0, record { item = item.number; content = item.content; bytes = bytes }, there.1, there.2, refl)

  records-accepted : (all items : List LiveItem) → AllByRecursion (IsKnown versions) items → AreAccepted (map (record_of all) items)
  records-accepted all [] known = tt
  records-accepted all (item ∷ items) known =
      (kind-accepted item item.bytes item.number all refl known.0, records-accepted all items known.1)

drive-accepted : (drive : List Step) → AreAccepted (accepted_by drive) (records_of (held_by drive))
drive-accepted drive = (tt, records-accepted (accepted_by drive) (held_by drive).items (held_by drive).items (items-known drive))

pub record_digest_accepted : (drive : List Step) (items : List Item) → map uncounted items ≡ map uncounted (records_of (held_by drive))
    → All (λ (entry : List (List ℕ) × Item). IsKindAccepted (accepted_by drive) entry.1.kind) (paths_of items)
record_digest_accepted drive items pulled =
    All-from_recursion (λ (entry : List (List ℕ) × Item). IsKindAccepted (accepted_by drive) entry.1.kind) (paths_of items)
    (each-at-path (λ (item : Item). IsKindAccepted (accepted_by drive) item.kind) items
    (with-counts (accepted_by drive) items
    (subst (AreAccepted (accepted_by drive)) (sym pulled) (without-counts (accepted_by drive) (records_of (held_by drive)) (drive-accepted drive)))))
