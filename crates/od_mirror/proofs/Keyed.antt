-- Each item stands at its number, also after one more record.
use Rattle.std.proofs.Common.{◌≡◌, ℕ, Bool, true, false, cond, List, [], ◌∷◌, ◌++◌, refl, ap, sym}
use Rattle.std.specs.declared.cmp.Ordering.{Ordering}
use Rattle.std.specs.declared.cmp.Ordering.TheVariants.{Less, Equal, Greater}
use Rattle.std.specs.Ordering.{nat_cmp, match_ordering}
use Rattle.std.specs.BTreeMap.{insert_entry, is_at}
use Rattle.std.specs.Map.{remove_entry}
use Rattle.std.proofs.lemmas.Map.Lookups.{exact_unsigned}
use Rattle.gd_item.specs.declared.item.Item.{Item}
use Rattle.gd_item.specs.declared.item.Kind.{Kind}
use Rattle.gd_item.specs.declared.item.Kind.TheVariants.{Folder, File, Bare, Deleted}
use Rattle.od_mirror.specs.Climbs.{IsKeyed}
use Rattle.od_mirror.specs.Pulled.{known_item, with_kind, with_record, with_records}

keyed-at : (o : Ordering) (entry : ℕ × Item) (items : List (ℕ × Item)) (item : Item) → o ≡ nat_cmp item.id.0 entry.0 → IsKeyed (entry ∷ items)
    → IsKeyed (insert_entry nat_cmp items item.id.0 item)
    → IsKeyed (match_ordering o ((item.id.0, item) ∷ entry ∷ items) ((entry.0, item) ∷ items) (entry ∷ insert_entry nat_cmp items item.id.0 item))
keyed-at Less entry items item is keyed more = ap (λ numbers. item.id.0 ∷ numbers) keyed
keyed-at Equal entry items item is keyed more =
    let same : item.id.0 ≡ entry.0 = exact_unsigned item.id.0 entry.0 (sym is) in cc
keyed-at Greater entry items item is keyed more = cc

pub keyed-insert : (items : List (ℕ × Item)) (item : Item) → IsKeyed items → IsKeyed (insert_entry nat_cmp items item.id.0 item)
keyed-insert [] item keyed = refl
keyed-insert (entry ∷ items) item keyed =
    let rest : IsKeyed items = cc in
    keyed-at (nat_cmp item.id.0 entry.0) entry items item refl keyed (keyed-insert items item rest)

removed-at : (b : Bool) (entry : ℕ × Item) (items rest : List (ℕ × Item)) → IsKeyed (entry ∷ items) → IsKeyed rest → IsKeyed (cond b items (entry ∷ rest))
removed-at true entry items rest keyed more = cc
removed-at false entry items rest keyed more = cc

pub keyed-remove : (items : List (ℕ × Item)) (number : ℕ) → IsKeyed items → IsKeyed (remove_entry (is_at (nat_cmp number)) items)
keyed-remove [] number keyed = refl
keyed-remove (entry ∷ items) number keyed =
    let rest : IsKeyed items = cc in
    removed-at (is_at (nat_cmp number) entry.0) entry items (remove_entry (is_at (nat_cmp number)) items) keyed (keyed-remove items number rest)

keyed-kind : (kind : Kind) (items : List (ℕ × Item)) (item : Item) → IsKeyed items → IsKeyed (with_kind kind items item.id.0 item)
keyed-kind (Folder child_count) items item keyed = keyed-insert items item keyed
keyed-kind (File digest) items item keyed = keyed-insert items item keyed
keyed-kind Bare items item keyed = keyed-insert items (known_item items item) keyed
keyed-kind Deleted items item keyed = keyed-remove items item.id.0 keyed

pub keyed-record : (items : List (ℕ × Item)) (item : Item) → IsKeyed items → IsKeyed (with_record items item)
keyed-record items item keyed = keyed-kind item.kind items item keyed

-- one more record after others
pub with_records-push : (items : List (ℕ × Item)) (records : List Item) (item : Item) → with_records items (records ++ item ∷ []) ≡ with_record (with_records items records) item
with_records-push items [] item = refl
with_records-push items (first ∷ records) item = with_records-push (with_record items first) records item

-- records taken in two parts
pub with_records-append : (items : List (ℕ × Item)) (records more : List Item) → with_records items (records ++ more) ≡ with_records (with_records items records) more
with_records-append items [] more = refl
with_records-append items (first ∷ records) more = with_records-append (with_record items first) records more

pub ruleset keyed_steps = (keyed-record, keyed-insert, keyed-remove, with_records-push)
