-- The changes of which a feed is made: each has a change number and an item of its own.
use Rattle.std.proofs.Common.{◌≡◌, ℕ, ◌<◌, true, false, ◌&&◌, cond, nat_eq, nat_lt, List, [], ◌∷◌, ◌++◌, sym, arith}
use Rattle.std.specs.List.{AllPairs, AllByRecursion}
use Rattle.gd_names.proofs.Each.{AllPairs-tail, each-later, each-so, each-both, each-always, each-append}
use Rattle.gd_item.specs.Inventory.{Inventory}
use Rattle.gd_item.specs.Records.{record_of, root_record, deleted_record, root_change, live_changes, removals}
use Rattle.gd_item.specs.Sound.{IsItemMap}
use Rattle.gd_item.specs.declared.item.Item.{Item}
use Rattle.gd_item.specs.declared.live.LiveItem.{LiveItem}
use Rattle.gd_item.specs.declared.live.Tombstone.{Tombstone}
use Rattle.gd_laws.specs.EveryDrive.{IsGone}
use Rattle.gd_laws.proofs.Living.{Rising, none-has}
use Rattle.gd_laws.proofs.Marks.{IsLiving, IsMarked, AreTwo, Differ}
use Rattle.gd_laws.proofs.Members.{Paired, paired-append}

-- two changes have neither their number nor their item in common
abbrev pub AreApart : ℕ × Item → ℕ × Item → Type 0
AreApart e f = (e.0 ≡ f.0 → ⊥) × (e.1.id.0 ≡ f.1.id.0 → ⊥)

abbrev pub AllApart : List (ℕ × Item) → Type 0
AllApart es = Paired AreApart es

-- ---- what holds of each change
pub each-change : (P : ℕ × Item → Type 0) (position : ℕ) (all items : List LiveItem) → AllByRecursion (λ (item : LiveItem). P (item.change, record_of all item)) items → AllByRecursion P (live_changes position all items)
each-change P position all [] each = tt
each-change P position all (item ∷ items) each =
    elim (nat_lt position item.change) as (λ b. AllByRecursion P (cond b ((item.change, record_of all item) ∷ live_changes position all items) (live_changes position all items))) [
      | true ↦ (each.0, each-change P position all items each.1)
      | false ↦ each-change P position all items each.1
    ]

pub each-removal : (P : ℕ × Item → Type 0) (position start : ℕ) (stones : List Tombstone) → AllByRecursion (λ (stone : Tombstone). P (stone.change, deleted_record stone)) stones
    → AllByRecursion P (removals position start stones)
each-removal P position start [] each = tt
each-removal P position start (stone ∷ stones) each =
    elim (nat_lt position stone.change && nat_lt start stone.change) as (λ b. AllByRecursion P (cond b ((stone.change, deleted_record stone) ∷ removals position start stones) (removals position start stones))) [
      | true ↦ (each.0, each-removal P position start stones each.1)
      | false ↦ each-removal P position start stones each.1
    ]

-- ---- living items are apart, and so are removed ones
living-apart : (position : ℕ) (all items : List LiveItem) → Rising items → AllPairs (λ (x y : LiveItem). x.change ≡ y.change → ⊥) items → AllApart (live_changes position all items)
living-apart position all [] rising changes = tt
living-apart position all (item ∷ items) rising changes =
    let rest : AllApart (live_changes position all items) = living-apart position all items rising.1 (AllPairs-tail (λ (x y : LiveItem). x.change ≡ y.change → ⊥) item items changes) in
    elim (nat_lt position item.change) as (λ b. AllApart (cond b ((item.change, record_of all item) ∷ live_changes position all items) (live_changes position all items))) [
      | true ↦ (
        each-change (λ (f : ℕ × Item). AreApart (item.change, record_of all item) f) position all items
            (each-both (λ (y : LiveItem). item.number < y.number) (λ (y : LiveItem). item.change ≡ y.change → ⊥) (λ (y : LiveItem). AreApart (item.change, record_of all item) (y.change, record_of all y))
            (λ y rise differ. (differ, (λ same. absurd (omega (arith, same, rise))))) items
            rising.0 (each-later (λ (x y : LiveItem). x.change ≡ y.change → ⊥) item items changes)),
        rest,
      )
      | false ↦ rest
    ]

removals-apart : (position start : ℕ) (stones : List Tombstone) → Differ stones → AllApart (removals position start stones)
removals-apart position start [] differ = tt
removals-apart position start (stone ∷ stones) differ =
    let rest : AllApart (removals position start stones) = removals-apart position start stones differ.1 in
    elim (nat_lt position stone.change && nat_lt start stone.change) as (λ b. AllApart (cond b ((stone.change, deleted_record stone) ∷ removals position start stones) (removals position start stones))) [
      | true ↦ (
        each-removal (λ (f : ℕ × Item). AreApart (stone.change, deleted_record stone) f) position start stones
            (each-so (λ (other : Tombstone). AreTwo other stone) (λ (other : Tombstone). AreApart (stone.change, deleted_record stone) (other.change, deleted_record other))
            (λ other two. ((λ same. two.1 (sym same)), (λ same. two.0 (sym same)))) stones differ.0),
        rest,
      )
      | false ↦ rest
    ]

module _ (held : Inventory) (sound : IsItemMap held) (marked : IsMarked held) (position start : ℕ) where
  abbrev living : List (ℕ × Item)
  living = live_changes position held.items held.items

  abbrev gone : List (ℕ × Item)
  gone = removals position start held.removed

  -- a change of the root is none of another item
  past-root : (P : ℕ × Item → Type 0) → P (1, root_record held.items) → AllByRecursion P (root_change position held.items)
  past-root P here = elim (nat_eq position 0) as (λ b. AllByRecursion P (cond b ((1, root_record held.items) ∷ []) [])) [ true ↦ (here, tt) | false ↦ tt ]

  root-alone : AllApart (root_change position held.items)
  root-alone = elim (nat_eq position 0) as (λ b. AllApart (cond b ((1, root_record held.items) ∷ []) [])) [ true ↦ (tt, tt) | false ↦ tt ]

  root-then-living : AllByRecursion (λ (e : ℕ × Item). AllByRecursion (AreApart e) living) (root_change position held.items)
  root-then-living =
      past-root (λ (e : ℕ × Item). AllByRecursion (AreApart e) living)
      (each-change (λ (f : ℕ × Item). AreApart (1, root_record held.items) f) position held.items held.items
      (each-so (IsLiving held) (λ (item : LiveItem). AreApart (1, root_record held.items) (item.change, record_of held.items item))
      (λ item h. ((λ same. absurd (let low : 1 < item.change = h.later in omega (arith, same))), (λ same. absurd (let low : 1 < item.number = h.above in omega (arith, same)))))
      held.items marked.living))

  -- a removed item is neither the root nor one that lives
  root-then-gone : AllByRecursion (λ (e : ℕ × Item). AllByRecursion (AreApart e) gone) (root_change position held.items)
  root-then-gone =
      past-root (λ (e : ℕ × Item). AllByRecursion (AreApart e) gone)
      (each-removal (λ (f : ℕ × Item). AreApart (1, root_record held.items) f) position start held.removed
      (each-so (IsGone held) (λ (stone : Tombstone). AreApart (1, root_record held.items) (stone.change, deleted_record stone))
      (λ stone h. ((λ same. absurd (let low : 1 < stone.change = h.later in omega (arith, same))), (λ same. absurd (let low : 1 < stone.number = h.above in omega (arith, same)))))
      held.removed marked.gone))

  -- each removed item against each living one, as a fact on the living one
  none-is : (stones : List Tombstone) → AllByRecursion (IsGone held) stones
      → AllByRecursion (λ (item : LiveItem). AllByRecursion (λ (stone : Tombstone). (item.change ≡ stone.change → ⊥) × (item.number ≡ stone.number → ⊥)) stones) held.items
  none-is [] each = each-always (λ (item : LiveItem). AllByRecursion (λ (stone : Tombstone). (item.change ≡ stone.change → ⊥) × (item.number ≡ stone.number → ⊥)) []) (λ item. tt) held.items
  none-is (stone ∷ stones) each =
      each-both (λ (item : LiveItem). (item.change ≡ stone.change → ⊥) × (item.number ≡ stone.number → ⊥))
      (λ (item : LiveItem). AllByRecursion (λ (stone : Tombstone). (item.change ≡ stone.change → ⊥) × (item.number ≡ stone.number → ⊥)) stones)
      (λ (item : LiveItem). AllByRecursion (λ (stone : Tombstone). (item.change ≡ stone.change → ⊥) × (item.number ≡ stone.number → ⊥)) (stone ∷ stones))
      (λ item first rest. (first, rest)) held.items
      (each-both (λ (item : LiveItem). item.change ≡ stone.change → ⊥) (λ (item : LiveItem). item.number ≡ stone.number → ⊥)
      (λ (item : LiveItem). (item.change ≡ stone.change → ⊥) × (item.number ≡ stone.number → ⊥)) (λ item a b. (a, b)) held.items (each.0).apart (none-has stone.number held.items (each.0).gone))
      (none-is stones each.1)

  living-then-gone : AllByRecursion (λ (e : ℕ × Item). AllByRecursion (AreApart e) gone) living
  living-then-gone =
      each-change (λ (e : ℕ × Item). AllByRecursion (AreApart e) gone) position held.items held.items
      (each-so (λ (item : LiveItem). AllByRecursion (λ (stone : Tombstone). (item.change ≡ stone.change → ⊥) × (item.number ≡ stone.number → ⊥)) held.removed)
      (λ (item : LiveItem). AllByRecursion (AreApart (item.change, record_of held.items item)) gone)
      (λ item h. each-removal (AreApart (item.change, record_of held.items item)) position start held.removed h)
      held.items (none-is held.removed marked.gone))

  pub all-apart : AllApart (root_change position held.items ++ live_changes position held.items held.items ++ removals position start held.removed)
  all-apart =
      paired-append AreApart (root_change position held.items ++ living) gone
      (paired-append AreApart (root_change position held.items) living root-alone (living-apart position held.items held.items marked.rising sound.changes) root-then-living)
      (removals-apart position start held.removed marked.differ)
      (each-append (λ (e : ℕ × Item). AllByRecursion (AreApart e) gone) (root_change position held.items) living root-then-gone living-then-gone)
