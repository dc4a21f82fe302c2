-- The feed of a drive past a position up to a bound, taken over what stood at each number before, gives what stands there now as
-- far as the bound.
use Rattle.std.proofs.Common.{◌≡◌, ◌≢◌, ℕ, ◌<◌, ◌≤◌, ◌⊎◌, inl, inr, Bool, true, false, ◌&&◌, cond, nat_eq, nat_lt, List, [], ◌∷◌, map, Option, Some, None, refl, ap, sym, subst, ◌∙◌, arith}
use Rattle.std.proofs.lemmas.Bool.{cases_lt, and_parts, and_from, eq-eqb, eqb-true, lt-ltb, ltb-true, ne_eqb}
use Rattle.std.proofs.lemmas.List.Folds.{Any-from_list_any, list_any-from_Any}
use Rattle.std.specs.List.{AllByRecursion, Any}
use Rattle.gd_names.proofs.Each.{each-so}
use Rattle.gd_names.proofs.Maps.{Both, same-number}
use Rattle.gd_item.specs.Inventory.{Inventory, live_at}
use Rattle.gd_item.specs.Records.{record_of, root_record, deleted_record}
use Rattle.gd_item.specs.declared.id.ItemId.{ItemId}
use Rattle.gd_item.specs.declared.item.Item.{Item}
use Rattle.gd_item.specs.declared.live.LiveItem.{LiveItem}
use Rattle.gd_item.specs.declared.live.Tombstone.{Tombstone}
use Rattle.gd_laws.specs.Changes.{IsEntry}
use Rattle.gd_laws.specs.EveryDrive.{IsGone}
use Rattle.gd_laws.proofs.Living.{Rising, of-living}
use Rattle.gd_laws.proofs.Marks.{IsMarked}
use Rattle.gd_laws.proofs.Members.{SomeOf, Has, Paired, some-so, some-from-any, any-from-some, each-has, has-some}
use Rattle.gd_laws.proofs.Since.{is_removal, was_removed}
use Rattle.od_pages.proofs.Numbered.{above-root}
use Rattle.od_pages.proofs.Told.{standing, told, IsNot, Differ, each-not, told-none, told-there, IsFound, by-number}

-- an item has another eTag than a record
abbrev pub IsOther : Option Item → Item → Type 0
IsOther None whole = Unit {0}
IsOther (Some item) whole = item.etag ≡ whole.etag → ⊥

-- what the records of a drive give as they are shown
pub record Shows (R : Item → Item → Type 0) (f : Item → Item) (held : Inventory) : Type 0 where
  pub same_id : (item : Item) → (f item).id ≡ item.id
  pub same_etag : (item : Item) → (f item).etag ≡ item.etag
  pub root : (before : Option Item) → Both R (standing (f (root_record held.items)).kind before (f (root_record held.items))) (Some (root_record held.items))
  pub living : (before : Option Item) (item : LiveItem) → IsOther before (record_of held.items item)
      → Both R (standing (f (record_of held.items item)).kind before (f (record_of held.items item))) (Some (record_of held.items item))
  pub gone : (before : Option Item) (stone : Tombstone) → standing (f (deleted_record stone)).kind before (f (deleted_record stone)) ≡ None

-- what stands at a number as far as a position: what has not changed past it is there, and what was not removed past it and
-- lives no more is not
pub record IsBase (R : Item → Item → Type 0) (held : Inventory) (position start n : ℕ) (before : Option Item) : Type 0 where
  pub kept : (item : LiveItem) → live_at n held.items ≡ Some item → item.change ≤ position → Both R before (Some (record_of held.items item))
  pub root : n ≡ 1 → 0 < position → Both R before (Some (root_record held.items))
  pub gone : (n ≡ 1 → ⊥) → live_at n held.items ≡ None → was_removed n position start held.removed ≡ false → before ≡ None

-- the entries of the feed past a position up to a bound
pub record IsPart (held : Inventory) (position start bound : ℕ) (es : List (ℕ × Item)) : Type 0 where
  pub has : (e : ℕ × Item) → IsEntry held position start e → e.0 ≤ bound → Has e es
  pub is_of : (e : ℕ × Item) → Has e es → IsEntry held position start e × (e.0 ≤ bound)
  pub once : Paired (λ (x y : ℕ × Item). x.1.id ≢ y.1.id) es

-- ---- one of some
any-at : {X : Type 0} (Q : X → Type 0) (x : X) (xs : List X) → Q x → Has x xs → Any Q xs
any-at Q x xs is has = any-from-some Q xs (some-so (λ y. x ≡ y) Q (λ y same. subst Q same is) xs has)

record LivesIn (Q : LiveItem → Type 0) (items : List LiveItem) : Type 0 where
  item : LiveItem
  live : live_at item.number items ≡ Some item
  is : Q item

lives-in : (Q : LiveItem → Type 0) (items : List LiveItem) → Rising items → SomeOf Q items → LivesIn Q items
lives-in Q [] rising some = absurd some
lives-in Q (item ∷ items) rising (inl here) =
    record { item = item; live = ap (λ b. cond b (Some item) (live_at item.number items)) (same-number item.number); is = here }
lives-in Q (item ∷ items) rising (inr later) =
    let found : LivesIn Q items = lives-in Q items rising.1 later in
    let above : item.number < found.item.number = (of-living (λ (y : LiveItem). item.number < y.number) found.item.number items found.item rising.0 found.live).0 in
    record {
      item = found.item;
      live = ap (λ b. cond b (Some item) (live_at found.item.number items)) (ne_eqb item.number found.item.number (λ same. absurd (omega (arith, same, above)))) ∙ found.live;
      is = found.is;
    }

has-if : (b : Bool) (item x : LiveItem) (items : List LiveItem) (found : Option LiveItem) → cond b (Some item) found ≡ Some x → (found ≡ Some x → Has x items) → Has x (item ∷ items)
has-if true item x items found is later = let same : x ≡ item = cc is in inl same
has-if false item x items found is later = inr (later is)

has-live : (n : ℕ) (items : List LiveItem) (x : LiveItem) → live_at n items ≡ Some x → Has x items
has-live n [] x is = absurd (cc is)
has-live n (item ∷ items) x is = has-if (nat_eq item.number n) item x items (live_at n items) is (has-live n items x)

module _ (R : Item → Item → Type 0) (f : Item → Item) (held : Inventory) (marked : IsMarked held) (position start bound : ℕ) (shows : Shows R f held) (es : List (ℕ × Item))
    (part : IsPart held position start bound es) where
  abbrev pub shown : ℕ × Item → Item
  shown e = f e.1

  abbrev pub now : ℕ → Option Item → Option Item
  now n before = told n before (map shown es)

  -- the number of what is shown
  number-of : (item : Item) (n : ℕ) → item.id.0 ≡ n → (f item).id.0 ≡ n
  number-of item n at = ap (λ (id : ItemId). id.0) (shows.same_id item) ∙ at

  number-is : (item : Item) (n : ℕ) → (f item).id.0 ≡ n → item.id.0 ≡ n
  number-is item n at = ap (λ (id : ItemId). id.0) (sym (shows.same_id item)) ∙ at

  live-number : (n : ℕ) (item : LiveItem) → live_at n held.items ≡ Some item → item.number ≡ n
  live-number n item live = (of-living (λ (y : LiveItem). 1 < y.number) n held.items item (above-root held marked) live).1

  above-one : (n : ℕ) (item : LiveItem) → live_at n held.items ≡ Some item → 1 < n
  above-one n item live =
      let above : 1 < item.number = (of-living (λ (y : LiveItem). 1 < y.number) n held.items item (above-root held marked) live).0 in
      let at : item.number ≡ n = live-number n item live in
      omega (arith, above, at)

  living-entry : (n : ℕ) (item : LiveItem) → position < item.change → live_at n held.items ≡ Some item → IsEntry held position start (item.change, record_of held.items item)
  living-entry n item late live =
      inr
      (inl (any-at (λ (y : LiveItem). (position < y.change) × ((item.change, record_of held.items item) ≡ (y.change, record_of held.items y))) item held.items (late, refl) (has-live n held.items item live)))

  removed-entry : (stone : Tombstone) → (nat_lt position stone.change && nat_lt start stone.change) ≡ true → Has stone held.removed → IsEntry held position start (stone.change, deleted_record stone)
  removed-entry stone late has =
      let parts = and_parts (nat_lt position stone.change) (nat_lt start stone.change) late in
      inr
      (inr (any-at (λ (y : Tombstone). (position < y.change) × (start < y.change) × ((stone.change, deleted_record stone) ≡ (y.change, deleted_record y))) stone held.removed
      (ltb-true position stone.change parts.0, ltb-true start stone.change parts.1, refl) has))

  -- what is shown is of one item each
  differ-shown : (e : ℕ × Item) (others : List (ℕ × Item)) → AllByRecursion (λ (y : ℕ × Item). e.1.id ≢ y.1.id) others → AllByRecursion (Differ shown e) others
  differ-shown e others apart =
      each-so (λ (y : ℕ × Item). e.1.id ≢ y.1.id) (Differ shown e)
      (λ y other same. other (ap (λ (number : ℕ). let id : ItemId = record { 0 = number } in id)
      (ap (λ (id : ItemId). id.0) (sym (shows.same_id e.1)) ∙ same ∙ ap (λ (id : ItemId). id.0) (shows.same_id y.1)))) others apart

  shown-once : (entries : List (ℕ × Item)) → Paired (λ (x y : ℕ × Item). x.1.id ≢ y.1.id) entries → Paired (Differ shown) entries
  shown-once [] apart = tt
  shown-once (e ∷ entries) apart = (differ-shown e entries apart.0, shown-once entries apart.1)

  module _ (n : ℕ) (before : Option Item) (base : IsBase R held position start n before)
      (other : (item : LiveItem) → live_at n held.items ≡ Some item → position < item.change → IsOther before (record_of held.items item)) where
    -- ---- where there is an entry of the number
    is-root : (e : ℕ × Item) → now n before ≡ standing (shown e).kind before (shown e) → (shown e).id.0 ≡ n → e ≡ (1, root_record held.items) → IsBase R held bound start n (now n before)
    is-root e given at is =
        let one : 1 ≡ n = number-is (root_record held.items) n (ap (λ (x : ℕ × Item). (shown x).id.0) (sym is) ∙ at) in
        record {
          kept = λ item live low. absurd (let above : 1 < n = above-one n item live in omega (arith, one, above));
          root = λ same begun.
              subst (λ found. Both R found (Some (root_record held.items)))
              (sym (given ∙ ap (λ (x : ℕ × Item). standing (shown x).kind before (shown x)) is)) (shows.root before);
          gone = λ off nothing stayed. absurd (off (sym one));
        }

    is-living : (e : ℕ × Item) → now n before ≡ standing (shown e).kind before (shown e) → (shown e).id.0 ≡ n
        → LivesIn (λ (item : LiveItem). (position < item.change) × (e ≡ (item.change, record_of held.items item))) held.items → IsBase R held bound start n (now n before)
    is-living e given at lives =
        let numbered : lives.item.number ≡ n = number-is (record_of held.items lives.item) n (ap (λ (x : ℕ × Item). (shown x).id.0) (sym lives.is.1) ∙ at) in
        let live : live_at n held.items ≡ Some lives.item = ap (λ m. live_at m held.items) (sym numbered) ∙ lives.live in
        let above : 1 < n = above-one n lives.item live in
        let here : Both R (now n before) (Some (record_of held.items lives.item)) =
        subst (λ found. Both R found (Some (record_of held.items lives.item)))
        (sym (given ∙ ap (λ (x : ℕ × Item). standing (shown x).kind before (shown x)) lives.is.1)) (shows.living before lives.item (other lives.item live lives.is.0)) in
        record {
          kept = λ item is low.
              let found : Some lives.item ≡ Some item = sym live ∙ is in
              let same : lives.item ≡ item = cc found in
              subst (λ (x : LiveItem). Both R (now n before) (Some (record_of held.items x))) same here;
          root = λ same begun. absurd (omega (arith, same, above));
          gone = λ off nothing stayed. absurd (let none : Some lives.item ≡ None = sym live ∙ nothing in cc none);
        }

    is-removed : (e : ℕ × Item) (stone : Tombstone) → now n before ≡ standing (shown e).kind before (shown e) → (shown e).id.0 ≡ n → IsGone held stone → e ≡ (stone.change, deleted_record stone)
        → IsBase R held bound start n (now n before)
    is-removed e stone given at gone is =
        let numbered : stone.number ≡ n = number-is (deleted_record stone) n (ap (λ (x : ℕ × Item). (shown x).id.0) (sym is) ∙ at) in
        let above : 1 < stone.number = gone.above in
        let nothing_there : live_at n held.items ≡ None = ap (λ m. live_at m held.items) (sym numbered) ∙ gone.gone in
        record {
          kept = λ item live low. absurd (let none : Some item ≡ None = sym live ∙ nothing_there in cc none);
          root = λ same begun. absurd (omega (arith, same, numbered, above));
          gone = λ off nothing stayed. given ∙ ap (λ (x : ℕ × Item). standing (shown x).kind before (shown x)) is ∙ shows.gone before stone;
        }

    is-entry : (e : ℕ × Item) → now n before ≡ standing (shown e).kind before (shown e) → (shown e).id.0 ≡ n → IsEntry held position start e → IsBase R held bound start n (now n before)
    is-entry e given at (inl root) = is-root e given at root.1
    is-entry e given at (inr (inl living)) =
        is-living e given at
        (lives-in (λ (item : LiveItem). (position < item.change) × (e ≡ (item.change, record_of held.items item))) held.items marked.rising
        (some-from-any (λ (item : LiveItem). (position < item.change) × (e ≡ (item.change, record_of held.items item))) held.items living))
    is-entry e given at (inr (inr removed)) =
        let one = has-some (λ (stone : Tombstone). (position < stone.change) × (start < stone.change) × (e ≡ (stone.change, deleted_record stone))) held.removed
        (some-from-any (λ (stone : Tombstone). (position < stone.change) × (start < stone.change) × (e ≡ (stone.change, deleted_record stone))) held.removed removed) in
        is-removed e one.0 given at (each-has (IsGone held) one.0 held.removed marked.gone one.1) one.2.2

    -- ---- where there is none
    module _ (given : now n before ≡ before) (none : (e : ℕ × Item) → IsEntry held position start e → e.0 ≤ bound → IsNot n (shown e)) where
      was-kept : (item : LiveItem) → live_at n held.items ≡ Some item → item.change ≤ bound → Both R before (Some (record_of held.items item))
      was-kept item live low =
          elim (cases_lt position item.change) as (λ c. Both R before (Some (record_of held.items item))) [
            | inl late ↦
                absurd (none (item.change, record_of held.items item) (living-entry n item late live) low (number-of (record_of held.items item) n (live-number n item live)))
            | inr early ↦ base.kept item live early
          ]

      was-root : n ≡ 1 → 0 < bound → Both R before (Some (root_record held.items))
      was-root one begun =
          elim (cases_lt 0 position) as (λ c. Both R before (Some (root_record held.items))) [
            | inl later ↦ base.root one later
            | inr first ↦
                absurd
                (let zero : position ≡ 0 = omega (arith, first) in none (1, root_record held.items) (inl (zero, refl)) (omega (arith, begun)) (number-of (root_record held.items) n (sym one)))
          ]

      -- a removal past the bound counts later
      was-past : (stone : Tombstone) → Has stone held.removed → is_removal n position start stone ≡ true → was_removed n bound start held.removed ≡ false → stone.change ≤ bound
      was-past stone has removal stayed =
          elim (cases_lt bound stone.change) as (λ c. stone.change ≤ bound) [
            | inl past ↦
                let parts = and_parts (nat_eq stone.number n) (nat_lt position stone.change && nat_lt start stone.change) removal in
                let late = and_parts (nat_lt position stone.change) (nat_lt start stone.change) parts.1 in
                let counts : is_removal n bound start stone ≡ true =
                and_from (nat_eq stone.number n) (nat_lt bound stone.change && nat_lt start stone.change) parts.0
                (and_from (nat_lt bound stone.change) (nat_lt start stone.change) (lt-ltb bound stone.change past) late.1) in
                let was : was_removed n bound start held.removed ≡ true =
                list_any-from_Any (is_removal n bound start) held.removed (any-at (λ (y : Tombstone). is_removal n bound start y ≡ true) stone held.removed counts has) in
                absurd (let both : true ≡ false = sym was ∙ stayed in cc both)
            | inr low ↦ low
          ]

      was-gone-if : (b : Bool) → was_removed n position start held.removed ≡ b → (n ≡ 1 → ⊥) → live_at n held.items ≡ None → was_removed n bound start held.removed ≡ false → before ≡ None
      was-gone-if true removed off nothing stayed =
          let found = has-some (λ (stone : Tombstone). is_removal n position start stone ≡ true) held.removed
          (some-from-any (λ (stone : Tombstone). is_removal n position start stone ≡ true) held.removed (Any-from_list_any (is_removal n position start) held.removed removed)) in
          let parts = and_parts (nat_eq found.0.number n) (nat_lt position found.0.change && nat_lt start found.0.change) found.2 in
          absurd
          (none (found.0.change, deleted_record found.0) (removed-entry found.0 parts.1 found.1) (was-past found.0 found.1 found.2 stayed)
          (number-of (deleted_record found.0) n (eqb-true found.0.number n parts.0)))
      was-gone-if false removed off nothing stayed = base.gone off nothing removed

      was-so : IsBase R held bound start n (now n before)
      was-so = record {
        kept = λ item live low. subst (λ found. Both R found (Some (record_of held.items item))) (sym given) (was-kept item live low);
        root = λ one begun. subst (λ found. Both R found (Some (root_record held.items))) (sym given) (was-root one begun);
        gone = λ off nothing stayed. given ∙ was-gone-if (was_removed n position start held.removed) refl off nothing stayed;
      }

    fed-if : IsFound shown n es ⊎ AllByRecursion (λ (e : ℕ × Item). IsNot n (shown e)) es → IsBase R held bound start n (now n before)
    fed-if (inl found) =
        is-entry found.entry (told-there shown n before found.entry es (shown-once es part.once) found.has found.at) found.at (part.is_of found.entry found.has).0
    fed-if (inr none) =
        was-so (told-none n before (map shown es) (each-not shown n es none))
        (λ e is low. each-has (λ (x : ℕ × Item). IsNot n (shown x)) e es none (part.has e is low))

    pub fed-base : IsBase R held bound start n (now n before)
    fed-base = fed-if (by-number shown n es)
