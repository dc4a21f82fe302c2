-- What a client had of a drive at a position is what the feed past it goes on from.
use Rattle.std.proofs.Common.{◌≡◌, ℕ, ◌+◌, ◌-◌, ◌<◌, ◌≤◌, max, inl, inr, Bool, true, false, ◌&&◌, ◌||◌, cond, nat_eq, nat_lt, List, [], ◌∷◌, ◌++◌, map, Option, Some, None, refl, ap, sym, subst, ◌∙◌, append_assoc, arith}
use Rattle.std.proofs.lemmas.Bool.{and_parts, and_from, eq-eqb, eqb-true, lt-ltb, ltb-true, ne_eqb}
use Rattle.std.proofs.lemmas.List.{append-nil}
use Rattle.std.proofs.lemmas.List.Folds.{Any-from_list_any, list_any-from_Any, list_any-append}
use Rattle.std.specs.List.{AllByRecursion}
use Rattle.std.specs.Map.{values_of}
use Rattle.std.specs.Option.{option_map}
use Rattle.gd_names.proofs.Maps.{Both, look, Up}
use Rattle.gd_item.specs.Answers.{bare_kind}
use Rattle.gd_item.specs.Inventory.{Effect, MadeFolder, PutNew, PutOver, Moved, Removed, Inventory, live_at, tombstone_of, after, after_all}
use Rattle.gd_item.specs.Records.{record_of, root_record, records_of, kind_at}
use Rattle.gd_item.specs.Views.{uncounted_kind, uncounted, IsItemOf, AreItemsOf}
use Rattle.gd_item.specs.declared.id.ItemId.{ItemId}
use Rattle.gd_item.specs.declared.item.Item.{Item}
use Rattle.gd_item.specs.declared.item.Kind.{Kind}
use Rattle.gd_item.specs.declared.item.Kind.TheVariants.{Folder, File, Bare, Deleted}
use Rattle.gd_item.specs.declared.live.LiveItem.{LiveItem}
use Rattle.gd_item.specs.declared.live.Tombstone.{Tombstone}
use Rattle.gd_laws.proofs.Living.{of-living, none-later}
use Rattle.gd_laws.proofs.Marks.{IsLiving, IsMarked}
use Rattle.gd_laws.proofs.Members.{some-so, some-from-any, any-from-some}
use Rattle.gd_laws.proofs.Since.{IsSince, is_removal, was_removed, is-since}
use Rattle.od_mirror.specs.Pulled.{with_records}
use Rattle.od_pages.proofs.Early.{IsEarly, early-both, early-record}
use Rattle.od_pages.proofs.Fed.{IsBase}
use Rattle.od_pages.proofs.Numbered.{numbered, values-numbered, record_at, look-numbered, above-root, up-numbered}
use Rattle.od_pages.proofs.Shown.{IsWhole, whole-record, same-id, of-uncounted}
use Rattle.od_pages.proofs.Told.{standing, told, IsNot, told-none, look-records}

-- ---- what kept items tell of a number
-- an item that is there has no other before it
kept-bare : (item : Item) → item.kind ≡ Bare → Some item ≡ standing Bare None item
kept-bare item is = ap (λ kind. let known : Item = record item { kind = kind } in Some known) is

not-deleted : (kind : Kind) → IsWhole kind → Deleted ≡ kind → ⊥
not-deleted (Folder child_count) whole is = cc is
not-deleted (File digest) whole is = cc is
not-deleted Bare whole is = whole
not-deleted Deleted whole is = whole

uncounted-whole : (kind : Kind) → IsWhole kind → IsWhole (uncounted_kind kind)
uncounted-whole (Folder child_count) whole = tt
uncounted-whole (File digest) whole = tt
uncounted-whole Bare whole = whole
uncounted-whole Deleted whole = whole

bare-whole : (kind : Kind) → IsWhole kind → Deleted ≡ bare_kind kind → ⊥
bare-whole (Folder child_count) whole is = cc is
bare-whole (File digest) whole is = cc is
bare-whole Bare whole is = whole
bare-whole Deleted whole is = whole

never-deleted : (plain : Bool) (item whole : Item) → item.kind ≡ Deleted → IsWhole whole.kind → IsItemOf plain item whole → ⊥
never-deleted plain item whole is live (inl same) =
    not-deleted (uncounted_kind whole.kind) (uncounted-whole whole.kind live) (sym (ap uncounted_kind is) ∙ ap (λ (i : Item). i.kind) same)
never-deleted plain item whole is live (inr lacks) =
    elim lacks.1.kind [
      | inl same ↦ not-deleted (uncounted_kind whole.kind) (uncounted-whole whole.kind live) (sym (ap uncounted_kind is) ∙ same)
      | inr same ↦ bare-whole (uncounted_kind whole.kind) (uncounted-whole whole.kind live) (sym (ap uncounted_kind is) ∙ same)
    ]

alone : (plain : Bool) (kind : Kind) (item whole : Item) → item.kind ≡ kind → IsWhole whole.kind → IsItemOf plain item whole → standing kind None item ≡ Some item
alone plain (Folder child_count) item whole is live of = refl
alone plain (File digest) item whole is live of = refl
alone plain Bare item whole is live of = sym (kept-bare item is)
alone plain Deleted item whole is live of = absurd (never-deleted plain item whole is live of)

-- entries that stand at their numbers
abbrev IsAt : ℕ × Item → Type 0
IsAt e = (e.1.id.0 ≡ e.0) × IsWhole e.1.kind

none-of : (plain : Bool) (n : ℕ) (items : List Item) (es : List (ℕ × Item)) → AllByRecursion (λ (e : ℕ × Item). n < e.0) es → AllByRecursion IsAt es → AreItemsOf plain items (values_of es)
    → AllByRecursion (IsNot n) items
none-of plain n [] es above at are = tt
none-of plain n (item ∷ items) [] above at are = absurd are
none-of plain n (item ∷ items) (e ∷ es) above at are = (
  λ is. absurd
      (let same : item.id.0 ≡ e.1.id.0 = ap (λ (id : ItemId). id.0) (same-id plain item e.1 are.0) in
      let here : e.1.id.0 ≡ e.0 = (at.0).0 in
      let high : n < e.0 = above.0 in omega (arith, is, same, here, high)),
  none-of plain n items es above.1 at.1 are.1,
)

kept-if : (b : Bool) (plain : Bool) (n : ℕ) (item : Item) (items : List Item) (e : ℕ × Item) (es : List (ℕ × Item)) → nat_eq e.0 n ≡ b → Up (e ∷ es) → AllByRecursion IsAt (e ∷ es)
    → AreItemsOf plain (item ∷ items) (values_of (e ∷ es)) → Both (IsItemOf plain) (told n None items) (look n es)
    → Both (IsItemOf plain) (told n (cond b (standing item.kind None item) None) items) (cond b (Some e.1) (look n es))
kept-if true plain n item items e es is up at are later =
    let here : e.0 ≡ n = eqb-true e.0 n is in
    subst (λ found. Both (IsItemOf plain) found (Some e.1))
    (sym
    (told-none n (standing item.kind None item) items
    (none-of plain n items es (subst (λ (m : ℕ). AllByRecursion (λ (f : ℕ × Item). m < f.0) es) here up.0) at.1 are.1)
    ∙ alone plain item.kind item e.1 refl (at.0).1 are.0))
    are.0
kept-if false plain n item items e es off up at are later = later

kept-told : (plain : Bool) (n : ℕ) (items : List Item) (es : List (ℕ × Item)) → Up es → AllByRecursion IsAt es → AreItemsOf plain items (values_of es) → Both (IsItemOf plain) (told n None items) (look n es)
kept-told plain n [] [] up at are = tt
kept-told plain n [] (e ∷ es) up at are = absurd are
kept-told plain n (item ∷ items) [] up at are = absurd are
kept-told plain n (item ∷ items) (e ∷ es) up at are =
    let numbered : e.0 ≡ item.id.0 = sym (ap (λ (id : ItemId). id.0) (same-id plain item e.1 are.0) ∙ (at.0).0) in
    subst (λ m. Both (IsItemOf plain) (told n (cond (nat_eq m n) (standing item.kind None item) None) items) (look n (e ∷ es))) numbered
    (kept-if (nat_eq e.0 n) plain n item items e es refl up at are (kept-told plain n items es up.1 at.1 are.1))

at-numbers : (all items : List LiveItem) → AllByRecursion IsAt (map (λ (item : LiveItem). (item.number, record_of all item)) items)
at-numbers all [] = tt
at-numbers all (item ∷ items) = ((refl, whole-record all item), at-numbers all items)

kept-before : (plain : Bool) (base : Inventory) (items : List Item) (n : ℕ) → IsMarked base → AreItemsOf plain items (records_of base) → Both (IsItemOf plain) (look n (with_records [] items)) (record_at n base)
kept-before plain base items n marked are =
    subst (λ found. Both (IsItemOf plain) found (record_at n base)) (sym (look-records n [] items tt))
    (subst (λ found. Both (IsItemOf plain) (told n None items) found) (look-numbered n base)
    (kept-told plain n items (numbered base) (up-numbered base marked) ((refl, tt), at-numbers base.items base.items)
    (subst (λ records. AreItemsOf plain items records) (sym (values-numbered base)) are)))

-- ---- without the numbers of children
same-kind : (bytes : Option (List ℕ)) (number : ℕ) (all others : List LiveItem) → uncounted_kind (kind_at bytes number all) ≡ uncounted_kind (kind_at bytes number others)
same-kind None number all others = refl
same-kind (Some bytes) number all others = refl

same-record : (all others : List LiveItem) (item : LiveItem) → uncounted (record_of all item) ≡ uncounted (record_of others item)
same-record all others item = ap (λ (kind : Kind). let whole : Item = record (record_of all item) { kind = kind } in whole) (same-kind item.bytes item.number all others)

-- ---- of another drive, which may have become plain
item-later : (old new : Bool) → (old ≡ true → new ≡ true) → (item whole : Item) → IsItemOf old item whole → IsItemOf new item whole
item-later old new later item whole (inl same) = inl same
item-later old new later item whole (inr lacks) = inr (later lacks.0, lacks.1)

to-record : (old new : Bool) → (old ≡ true → new ≡ true) → (before : Option Item) (whole other : Item) → uncounted whole ≡ uncounted other → Both (IsItemOf old) before (Some whole)
    → Both (IsItemOf new) before (Some other)
to-record old new later None whole other same both = both
to-record old new later (Some item) whole other same both = of-uncounted new item whole other same (item-later old new later item whole both)

-- ---- what a feed goes on from
module _ (plain : Bool) (base held : Inventory) (position start : ℕ) (base_marked : IsMarked base) (marked : IsMarked held) (since : IsSince position start base held)
    (then : base.number ≡ position - 1 + 1) where
  other-number : (n : ℕ) (item : LiveItem) → live_at n held.items ≡ Some item → 1 ≡ n → ⊥
  other-number n item live one = absurd (let none : live_at n held.items ≡ None = subst (λ m. live_at m held.items ≡ None) one (none-later 1 held.items (above-root held marked)) in cc)

  other-then : (n : ℕ) (found : Option LiveItem) → (1 ≡ n → ⊥) → live_at n base.items ≡ found → record_at n base ≡ option_map (record_of base.items) found
  other-then n found other is =
      ap (λ b. cond b (Some (root_record base.items)) (option_map (record_of base.items) (live_at n base.items))) (ne_eqb 1 n other) ∙ ap (option_map (record_of base.items)) is

  nothing-before : (before : Option Item) → Both (IsItemOf plain) before None → before ≡ None
  nothing-before None both = refl
  nothing-before (Some item) both = absurd both

  module _ (items : List Item) (are : AreItemsOf plain items (records_of base)) (n : ℕ) where
    before-is : Both (IsItemOf plain) (look n (with_records [] items)) (record_at n base)
    before-is = kept-before plain base items n base_marked are

    before-was : (found : Option Item) → record_at n base ≡ found → Both (IsItemOf plain) (look n (with_records [] items)) found
    before-was found is = subst (λ there. Both (IsItemOf plain) (look n (with_records [] items)) there) is before-is

    kept-is : (item : LiveItem) → live_at n held.items ≡ Some item → item.change ≤ position → Both (IsItemOf plain) (look n (with_records [] items)) (Some (record_of held.items item))
    kept-is item live early =
        elim (since.kept n item live) as (λ c. Both (IsItemOf plain) (look n (with_records [] items)) (Some (record_of held.items item))) [
          | inl same ↦
              to-record plain plain (λ is. is) (look n (with_records [] items)) (record_of base.items item) (record_of held.items item) (same-record base.items held.items item)
              (before-was (Some (record_of base.items item)) (other-then n (Some item) (other-number n item live) same))
          | inr late ↦ absurd (omega (arith, early, late))
        ]

    root-is : n ≡ 1 → Both (IsItemOf plain) (look n (with_records [] items)) (Some (root_record held.items))
    root-is one =
        to-record plain plain (λ is. is) (look n (with_records [] items)) (root_record base.items) (root_record held.items) refl
        (before-was (Some (root_record base.items))
        (ap (λ b. cond b (Some (root_record base.items)) (option_map (record_of base.items) (live_at n base.items))) (eq-eqb 1 n (sym one))))

    gone-is : (n ≡ 1 → ⊥) → live_at n held.items ≡ None → was_removed n position start held.removed ≡ false → look n (with_records [] items) ≡ None
    gone-is other nothing stayed =
        elim (since.gone n nothing) as (λ c. look n (with_records [] items) ≡ None) [
          | inl none ↦ nothing-before (look n (with_records [] items)) (before-was None (other-then n None (λ one. other (sym one)) none))
          | inr removed ↦ absurd (cc (sym removed ∙ stayed))
        ]

    pub kept-base : IsBase (IsItemOf plain) held position start n (look n (with_records [] items))
    kept-base = record { kept = kept-is; root = λ one later. root-is one; gone = gone-is }

    pub kept-early : IsEarly position (look n (with_records [] items))
    kept-early =
        early-both plain position (look n (with_records [] items)) (record_at n base) before-is (early-record base base_marked position n (omega (arith, then)))

-- nothing was there
pub first-base : (R : Item → Item → Type 0) (held : Inventory) (start n : ℕ) → IsMarked held → IsBase R held 0 start n None
first-base R held start n marked = record {
  kept = λ item live early. absurd (let late : 1 < item.change = ((of-living (IsLiving held) n held.items item marked.living live).0).later in omega (arith, early, late));
  root = λ one later. absurd (omega (arith, later));
  gone = λ other nothing stayed. refl;
}

-- ---- while the drive's log grows
removal-later : (n position late start : ℕ) (stones : List Tombstone) → position ≤ late → was_removed n late start stones ≡ true → was_removed n position start stones ≡ true
removal-later n position late start stones low was =
    list_any-from_Any (is_removal n position start) stones
    (any-from-some (λ (stone : Tombstone). is_removal n position start stone ≡ true) stones
    (some-so (λ (stone : Tombstone). is_removal n late start stone ≡ true) (λ (stone : Tombstone). is_removal n position start stone ≡ true)
    (λ stone is.
    let parts = and_parts (nat_eq stone.number n) (nat_lt late stone.change && nat_lt start stone.change) is in
    let past = and_parts (nat_lt late stone.change) (nat_lt start stone.change) parts.1 in
    let after : late < stone.change = ltb-true late stone.change past.0 in
    and_from (nat_eq stone.number n) (nat_lt position stone.change && nat_lt start stone.change) parts.0
    (and_from (nat_lt position stone.change) (nat_lt start stone.change) (lt-ltb position stone.change (omega (arith, low, after))) past.1))
    stones (some-from-any (λ (stone : Tombstone). is_removal n late start stone ≡ true) stones (Any-from_list_any (is_removal n late start) stones was))))

-- what was removed stays so
removed-after : (held : Inventory) (effect : Effect) → (stones : List Tombstone) × ((after held effect).removed ≡ held.removed ++ stones)
removed-after held (MadeFolder parent name) = ([], sym (append-nil held.removed))
removed-after held (PutNew parent name bytes) = ([], sym (append-nil held.removed))
removed-after held (PutOver number bytes) = ([], sym (append-nil held.removed))
removed-after held (Moved number parent name) = ([], sym (append-nil held.removed))
removed-after held (Removed number) = (tombstone_of (held.number + 1) (live_at number held.items), refl)

removed-all : (held : Inventory) (effects : List Effect) → (stones : List Tombstone) × ((after_all held effects).removed ≡ held.removed ++ stones)
removed-all held [] = ([], sym (append-nil held.removed))
removed-all held (effect ∷ effects) =
    let first : (stones : List Tombstone) × ((after held effect).removed ≡ held.removed ++ stones) = removed-after held effect in
    let rest : (stones : List Tombstone) × ((after_all (after held effect) effects).removed ≡ (after held effect).removed ++ stones) = removed-all (after held effect) effects in
    (first.0 ++ rest.0, rest.1 ∙ ap (λ stones. stones ++ rest.0) first.1 ∙ append_assoc held.removed first.0 rest.0)

module _ (old new : Bool) (later : old ≡ true → new ≡ true) (held : Inventory) (effects : List Effect) (position start n : ℕ) (at : Option Item) (low : position ≤ held.number) (begun : start ≤ held.number)
    (base : IsBase (IsItemOf old) held position start n at) where
  abbrev grown : Inventory
  grown = after_all held effects

  since : IsSince held.number start held grown
  since = is-since held.number start held effects begun (omega arith)

  stones : (stones : List Tombstone) × (grown.removed ≡ held.removed ++ stones)
  stones = removed-all held effects

  kept-still : (item : LiveItem) → live_at n grown.items ≡ Some item → item.change ≤ position → Both (IsItemOf new) at (Some (record_of grown.items item))
  kept-still item live early =
      elim (since.kept n item live) as (λ c. Both (IsItemOf new) at (Some (record_of grown.items item))) [
        | inl same ↦
            to-record old new later at (record_of held.items item) (record_of grown.items item) (same-record held.items grown.items item) (base.kept item same early)
        | inr late ↦ absurd (omega (arith, early, late, low))
      ]

  was-not : (b : Bool) → was_removed n position start held.removed ≡ b → was_removed n position start grown.removed ≡ false → b ≡ false
  was-not true removed stayed =
      absurd
      (let whole : was_removed n position start grown.removed ≡ true =
      ap (was_removed n position start) stones.1 ∙ list_any-append (is_removal n position start) held.removed stones.0
      ∙ ap (λ b. b || was_removed n position start stones.0) removed in
      cc (sym whole ∙ stayed))
  was-not false removed stayed = refl

  gone-still : (n ≡ 1 → ⊥) → live_at n grown.items ≡ None → was_removed n position start grown.removed ≡ false → at ≡ None
  gone-still off nothing stayed =
      elim (since.gone n nothing) as (λ c. at ≡ None) [
        | inl none ↦ base.gone off none (was-not (was_removed n position start held.removed) refl stayed)
        | inr removed ↦ absurd (cc (sym (removal-later n position held.number start grown.removed low removed) ∙ stayed))
      ]

  pub base-later : IsBase (IsItemOf new) grown position start n at
  base-later = record {
    kept = kept-still;
    root = λ one begun. to-record old new later at (root_record held.items) (root_record grown.items) refl (base.root one begun);
    gone = gone-still;
  }
