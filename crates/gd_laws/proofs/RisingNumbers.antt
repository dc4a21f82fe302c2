-- The numbers of what a drive holds rise, whatever its effects, and so do the ids of its records.
use Rattle.std.proofs.Common.{◌≡◌, ℕ, ◌<◌, List, [], ◌∷◌, map, refl, sym, ap, ◌∙◌, subst}
use Rattle.std.specs.Cmp.{nat_cmp_is}
use Rattle.std.specs.List.{AllByRecursion}
use Rattle.std.specs.List.Sorted.{IsStrictlySortedBy}
use Rattle.std.specs.Ordering.{nat_cmp}
use Rattle.std.specs.declared.cmp.Ordering.TheVariants.{Less}
use Rattle.gd_names.proofs.Each.{each-so}
use Rattle.gd_item.specs.Inventory.{Inventory, Effect, inventory}
use Rattle.gd_item.specs.Records.{record_of, records_of}
use Rattle.gd_item.specs.Views.{uncounted}
use Rattle.gd_item.specs.declared.item.Item.{Item}
use Rattle.gd_item.specs.declared.live.LiveItem.{LiveItem}
use Rattle.gd_laws.proofs.Living.{Rising}
use Rattle.gd_laws.proofs.Marks.{IsLiving, IsMarked, is-marked}

-- ---- the ids of the records
abbrev ids : List Item → List ℕ
ids items = map (λ (item : Item). item.id.0) items

ids-uncounted : (items : List Item) → ids (map uncounted items) ≡ ids items
ids-uncounted [] = refl
ids-uncounted (item ∷ items) = ap (λ ns. item.id.0 ∷ ns) (ids-uncounted items)

abbrev numbers : List LiveItem → List ℕ
numbers items = map (λ (item : LiveItem). item.number) items

ids-records : (all items : List LiveItem) → ids (map (record_of all) items) ≡ numbers items
ids-records all [] = refl
ids-records all (item ∷ items) = ap (λ ns. item.number ∷ ns) (ids-records all items)

-- ---- numbers that rise are in order
above-all : (low : ℕ) (items : List LiveItem) → AllByRecursion (λ (item : LiveItem). low < item.number) items → AllByRecursion (λ n. nat_cmp low n ≡ Less) (numbers items)
above-all low [] above = tt
above-all low (item ∷ items) above = (sym (nat_cmp_is low item.number Less above.0), above-all low items above.1)

sorted : (items : List LiveItem) → Rising items → IsStrictlySortedBy nat_cmp (numbers items)
unfolding IsStrictlySortedBy
sorted [] rising = tt
sorted (item ∷ items) rising = (above-all item.number items rising.0, sorted items rising.1)

sorted-root : (held : Inventory) → IsMarked held → IsStrictlySortedBy nat_cmp (1 ∷ numbers held.items)
unfolding IsStrictlySortedBy
sorted-root held marked = (
  above-all 1 held.items (each-so (IsLiving held) (λ (item : LiveItem). 1 < item.number) (λ item h. h.above) held.items marked.living),
  sorted held.items marked.rising,
)

pub records-rise : (items : List Item) (effects : List Effect) → map uncounted items ≡ map uncounted (records_of (inventory effects)) → IsStrictlySortedBy nat_cmp (map (λ (item : Item). item.id.0) items)
records-rise items effects same =
    let held : Inventory = inventory effects in
    let at : 1 ∷ numbers held.items ≡ ids items =
    ap (λ ns. 1 ∷ ns) (sym (ids-records held.items held.items)) ∙ sym (ids-uncounted (records_of held)) ∙ ap ids (sym same) ∙ ids-uncounted items
    in
    subst (IsStrictlySortedBy nat_cmp) at (sorted-root held (is-marked effects))
