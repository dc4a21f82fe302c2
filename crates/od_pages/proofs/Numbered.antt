-- The records of a drive, each at its number.
use Rattle.std.proofs.Common.{◌≡◌, ℕ, ◌<◌, Bool, true, false, cond, nat_eq, List, [], ◌∷◌, map, Option, Some, refl, ap, ◌∙◌}
use Rattle.std.specs.List.{AllByRecursion}
use Rattle.std.specs.Map.{values_of}
use Rattle.std.specs.Option.{option_map}
use Rattle.gd_names.proofs.Each.{each-so}
use Rattle.gd_names.proofs.Maps.{look, Up}
use Rattle.gd_item.specs.Inventory.{Inventory, live_at}
use Rattle.gd_item.specs.Records.{record_of, root_record, records_of}
use Rattle.gd_item.specs.declared.item.Item.{Item}
use Rattle.gd_item.specs.declared.live.LiveItem.{LiveItem}
use Rattle.gd_laws.proofs.Living.{Rising}
use Rattle.gd_laws.proofs.Marks.{IsLiving, IsMarked}

abbrev pub by_number : List LiveItem → List LiveItem → List (ℕ × Item)
by_number all items = map (λ (item : LiveItem). (item.number, record_of all item)) items

abbrev pub numbered : Inventory → List (ℕ × Item)
numbered held = (1, root_record held.items) ∷ by_number held.items held.items

values-by-number : (all items : List LiveItem) → values_of (by_number all items) ≡ map (record_of all) items
values-by-number all [] = refl
values-by-number all (item ∷ items) = ap (λ records. record_of all item ∷ records) (values-by-number all items)

pub values-numbered : (held : Inventory) → values_of (numbered held) ≡ records_of held
values-numbered held = ap (λ records. root_record held.items ∷ records) (values-by-number held.items held.items)

-- ---- what stands at a number
abbrev pub record_at : ℕ → Inventory → Option Item
record_at n held = cond (nat_eq 1 n) (Some (root_record held.items)) (option_map (record_of held.items) (live_at n held.items))

one-at : (b : Bool) (all : List LiveItem) (item : LiveItem) (found : Option LiveItem) → cond b (Some (record_of all item)) (option_map (record_of all) found) ≡ option_map (record_of all) (cond b (Some item) found)
one-at true all item found = refl
one-at false all item found = refl

look-by-number : (n : ℕ) (all items : List LiveItem) → look n (by_number all items) ≡ option_map (record_of all) (live_at n items)
look-by-number n all [] = refl
look-by-number n all (item ∷ items) =
    ap (λ found. cond (nat_eq item.number n) (Some (record_of all item)) found) (look-by-number n all items) ∙ one-at (nat_eq item.number n) all item (live_at n items)

pub look-numbered : (n : ℕ) (held : Inventory) → look n (numbered held) ≡ record_at n held
look-numbered n held = ap (λ found. cond (nat_eq 1 n) (Some (root_record held.items)) found) (look-by-number n held.items held.items)

-- ---- the numbers rise
above-by-number : (k : ℕ) (all items : List LiveItem) → AllByRecursion (λ (item : LiveItem). k < item.number) items → AllByRecursion (λ (e : ℕ × Item). k < e.0) (by_number all items)
above-by-number k all [] above = tt
above-by-number k all (item ∷ items) above = (above.0, above-by-number k all items above.1)

up-by-number : (all items : List LiveItem) → Rising items → Up (by_number all items)
up-by-number all [] rising = tt
up-by-number all (item ∷ items) rising = (above-by-number item.number all items rising.0, up-by-number all items rising.1)

pub above-root : (held : Inventory) → IsMarked held → AllByRecursion (λ (item : LiveItem). 1 < item.number) held.items
above-root held marked = each-so (IsLiving held) (λ (item : LiveItem). 1 < item.number) (λ item h. h.above) held.items marked.living

pub up-numbered : (held : Inventory) → IsMarked held → Up (numbered held)
up-numbered held marked = (above-by-number 1 held.items held.items (above-root held marked), up-by-number held.items held.items marked.rising)
