-- Items whose eTags are of changes up to a position: a record that changed past it has another one.
use Rattle.std.proofs.Common.{◌≡◌, ℕ, ◌^◌, ◌<◌, ◌≤◌, max, inl, inr, Bool, true, false, cond, nat_eq, List, [], ◌∷◌, map, Option, Some, None, refl, ap, sym, ◌∙◌, arith}
use Rattle.std.proofs.lemmas.Fmt.{decimal_injective}
use Rattle.std.specs.Fmt.{decimal}
use Rattle.std.specs.List.{AllByRecursion}
use Rattle.std.specs.Option.{option_map}
use Rattle.gd_names.proofs.Maps.{Both}
use Rattle.gd_item.specs.Inventory.{Inventory, live_at}
use Rattle.gd_item.specs.Records.{record_of, root_record, deleted_record}
use Rattle.gd_item.specs.Tags.{tag_of, etag_text}
use Rattle.gd_item.specs.Views.{IsItemOf}
use Rattle.gd_item.specs.declared.item.Item.{Item}
use Rattle.gd_item.specs.declared.item.Kind.{Kind}
use Rattle.gd_item.specs.declared.item.Kind.TheVariants.{Folder, File, Bare, Deleted}
use Rattle.gd_item.specs.declared.item.Tag.{Tag}
use Rattle.gd_item.specs.declared.live.LiveItem.{LiveItem}
use Rattle.gd_item.specs.declared.live.Tombstone.{Tombstone}
use Rattle.gd_laws.specs.Changes.{IsEntry}
use Rattle.gd_laws.proofs.Living.{of-living}
use Rattle.gd_laws.proofs.Marks.{IsLiving, IsMarked}
use Rattle.gd_laws.proofs.Members.{Has, some-from-any, has-some}
use Rattle.od_pages.proofs.Fed.{IsOther, Shows, IsPart}
use Rattle.od_pages.proofs.Numbered.{record_at}
use Rattle.od_pages.proofs.Shown.{same-etag}
use Rattle.od_pages.proofs.Told.{standing, told}

-- the root's change is always the first
abbrev pub IsEarly : ℕ → Option Item → Type 0
IsEarly position None = Unit {0}
IsEarly position (Some item) = (change : ℕ) × (change ≤ max position 1) × (item.etag ≡ tag_of (etag_text change))

-- ---- two changes have two eTags
same-change : (a b : ℕ) → a < 2 ^ 64 → b < 2 ^ 64 → tag_of (etag_text a) ≡ tag_of (etag_text b) → a ≡ b
same-change a b first second same =
    let texts : etag_text a ≡ etag_text b = ap (λ (tag : Tag). tag.0) same in
    let decimals : decimal a ≡ decimal b = cc texts in
    decimal_injective a b first second decimals

pub early-other : (position : ℕ) (before : Option Item) (all : List LiveItem) (item : LiveItem) → IsEarly position before → position < item.change → 1 < item.change → item.change < 2 ^ 64
    → IsOther before (record_of all item)
early-other position None all item early late made fits = tt
early-other position (Some old) all item early late made fits = λ same.
    let low : early.0 ≤ max position 1 = early.1 in
    let changes : early.0 ≡ item.change = same-change early.0 item.change (omega (arith, low, late, made, fits)) fits (sym early.2 ∙ same) in
    absurd (omega (arith, changes, low, late, made))

pub early-later : (position bound : ℕ) (before : Option Item) → position ≤ bound → IsEarly position before → IsEarly bound before
early-later position bound None later early = tt
early-later position bound (Some old) later early = (early.0, let low : early.0 ≤ max position 1 = early.1 in omega (arith, later, low), early.2)

-- ---- after records
early-standing : (kind : Kind) (position : ℕ) (before : Option Item) (item : Item) → IsEarly position (Some item) → IsEarly position (standing kind before item)
early-standing (Folder child_count) position before item early = early
early-standing (File digest) position before item early = early
early-standing Bare position before item early = early
early-standing Deleted position before item early = tt

early-one : (b : Bool) (position : ℕ) (before : Option Item) (item : Item) → IsEarly position before → IsEarly position (Some item) → IsEarly position (cond b (standing item.kind before item) before)
early-one true position before item was early = early-standing item.kind position before item early
early-one false position before item was early = was

pub early-told : (n position : ℕ) (before : Option Item) (items : List Item) → IsEarly position before → AllByRecursion (λ (item : Item). IsEarly position (Some item)) items → IsEarly position (told n before items)
early-told n position before [] was early = was
early-told n position before (item ∷ items) was early =
    early-told n position (cond (nat_eq item.id.0 n) (standing item.kind before item) before) items (early-one (nat_eq item.id.0 n) position before item was early.0) early.1

-- ---- the records of a part
entry-etag : (held : Inventory) (position start : ℕ) (e : ℕ × Item) → IsEntry held position start e → e.1.etag ≡ tag_of (etag_text e.0)
entry-etag held position start e (inl root) =
    ap (λ (x : ℕ × Item). x.1.etag) root.1 ∙ ap (λ (n : ℕ). tag_of (etag_text n)) (sym (ap (λ (x : ℕ × Item). x.0) root.1))
entry-etag held position start e (inr (inl living)) =
    let one = has-some (λ (item : LiveItem). (position < item.change) × (e ≡ (item.change, record_of held.items item))) held.items
    (some-from-any (λ (item : LiveItem). (position < item.change) × (e ≡ (item.change, record_of held.items item))) held.items living) in
    ap (λ (x : ℕ × Item). x.1.etag) (one.2).1 ∙ ap (λ (n : ℕ). tag_of (etag_text n)) (sym (ap (λ (x : ℕ × Item). x.0) (one.2).1))
entry-etag held position start e (inr (inr removed)) =
    let one = has-some (λ (stone : Tombstone). (position < stone.change) × (start < stone.change) × (e ≡ (stone.change, deleted_record stone))) held.removed
    (some-from-any (λ (stone : Tombstone). (position < stone.change) × (start < stone.change) × (e ≡ (stone.change, deleted_record stone))) held.removed removed) in
    ap (λ (x : ℕ × Item). x.1.etag) (one.2).2 ∙ ap (λ (n : ℕ). tag_of (etag_text n)) (sym (ap (λ (x : ℕ × Item). x.0) (one.2).2))

each-shown : (P : Item → Type 0) (f : Item → Item) (es : List (ℕ × Item)) → ((e : ℕ × Item) → Has e es → P (f e.1)) → AllByRecursion P (map (λ (e : ℕ × Item). f e.1) es)
each-shown P f [] so = tt
each-shown P f (e ∷ es) so = (so e (inl refl), each-shown P f es (λ x has. so x (inr has)))

pub early-part : (R : Item → Item → Type 0) (f : Item → Item) (held : Inventory) (position start bound : ℕ) (es : List (ℕ × Item)) → Shows R f held → IsPart held position start bound es
    → AllByRecursion (λ (item : Item). IsEarly bound (Some item)) (map (λ (e : ℕ × Item). f e.1) es)
early-part R f held position start bound es shows part =
    each-shown (λ (item : Item). IsEarly bound (Some item)) f es
    (λ e has.
    let low : e.0 ≤ bound = (part.is_of e has).1 in
    (e.0, omega (arith, low), shows.same_etag e.1 ∙ entry-etag held position start e (part.is_of e has).0))

-- ---- the records of a drive
early-found : (b : Bool) (held : Inventory) (position : ℕ) (found : Option LiveItem) → ((item : LiveItem) → found ≡ Some item → item.change ≤ max position 1)
    → IsEarly position (cond b (Some (root_record held.items)) (option_map (record_of held.items) found))
early-found true held position found low = (1, omega arith, refl)
early-found false held position None low = tt
early-found false held position (Some item) low = (item.change, low item refl, refl)

pub early-record : (held : Inventory) (marked : IsMarked held) (position n : ℕ) → held.number ≤ max position 1 → IsEarly position (record_at n held)
early-record held marked position n late =
    early-found (nat_eq 1 n) held position (live_at n held.items)
    (λ item live.
    let done : item.change ≤ held.number = ((of-living (IsLiving held) n held.items item marked.living live).0).done in
    omega (arith, done, late))

pub early-both : (plain : Bool) (position : ℕ) (before found : Option Item) → Both (IsItemOf plain) before found → IsEarly position found → IsEarly position before
early-both plain position None found both early = tt
early-both plain position (Some item) None both early = absurd both
early-both plain position (Some item) (Some whole) both early = (early.0, early.1, same-etag plain item whole both ∙ early.2)
