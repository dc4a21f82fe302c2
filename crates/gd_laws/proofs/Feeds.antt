-- The feed has the changes of which it is made, and no other.
use Rattle.std.proofs.Common.{◌≡◌, ◌≢◌, ◌⊎◌, ◌↔◌, inl, inr, ℕ, ◌<◌, Bool, true, false, ◌&&◌, cond, nat_eq, nat_lt, List, [], ◌∷◌, ◌++◌, refl, ap, sym, subst, ◌∙◌, arith}
use Rattle.std.specs.Cmp.{ranked}
use Rattle.std.specs.List.{AllPairs, AllByRecursion, Contains}
use Rattle.std.specs.Ordering.{nat_cmp, match_ordering}
use Rattle.std.specs.declared.cmp.Ordering.{Ordering}
use Rattle.std.specs.declared.cmp.Ordering.TheVariants.{Less, Equal, Greater}
use Rattle.std.proofs.lemmas.Bool.{and_parts, and_from, eq-eqb, eqb-true, lt-ltb, ltb-true}
use Rattle.gd_names.proofs.Each.{each-so, each-both, each-always}
use Rattle.gd_item.specs.Inventory.{Inventory}
use Rattle.gd_item.specs.Records.{record_of, root_record, deleted_record, in_change_order_from, root_change, live_changes, removals, feed}
use Rattle.gd_item.specs.Sound.{IsItemMap}
use Rattle.gd_item.specs.Steps.{state_of, held_by}
use Rattle.gd_item.specs.declared.id.ItemId.{ItemId}
use Rattle.gd_item.specs.declared.item.Item.{Item}
use Rattle.gd_item.specs.declared.live.LiveItem.{LiveItem}
use Rattle.gd_item.specs.declared.live.Tombstone.{Tombstone}
use Rattle.gd_item.specs.declared.step.Step.{Step}
use Rattle.gd_item.proofs.LogsFeed.{put, rises-feed}
use Rattle.gd_laws.specs.Changes.{IsRootEntry, IsEntry}
use Rattle.gd_laws.proofs.Changes.{AreApart, AllApart, all-apart}
use Rattle.gd_laws.proofs.Every.{every-drive}
use Rattle.gd_laws.proofs.Marks.{IsMarked, is-marked}
use Rattle.gd_laws.proofs.Members.{SomeOf, Has, Paired, some-left, some-right, some-cases, each-has, any-from-some, some-from-any, contains-from-has, has-from-contains, paired, pairs-from}

-- ---- one change put among others
abbrev put_by : Ordering → ℕ → Item → ℕ × Item → List (ℕ × Item) → List (ℕ × Item)
put_by o number item first placed = match_ordering o ((number, item) ∷ first ∷ placed) ((first.0, item) ∷ placed) (first ∷ put placed number item)

new-by : (o : Ordering) (number : ℕ) (item : Item) (first : ℕ × Item) (placed : List (ℕ × Item)) → o ≡ nat_cmp number first.0 → Has (number, item) (put placed number item)
    → Has (number, item) (put_by o number item first placed)
new-by Less number item first placed is rest = inl refl
new-by Equal number item first placed is rest = inl (ap (λ n. (n, item)) (ranked number first.0 Equal is))
new-by Greater number item first placed is rest = inr rest

has-new : (number : ℕ) (item : Item) (placed : List (ℕ × Item)) → Has (number, item) (put placed number item)
has-new number item [] = inl refl
has-new number item (first ∷ placed) = new-by (nat_cmp number first.0) number item first placed refl (has-new number item placed)

old-by : (o : Ordering) (e : ℕ × Item) (number : ℕ) (item : Item) (first : ℕ × Item) (placed : List (ℕ × Item)) → o ≡ nat_cmp number first.0 → (first.0 ≡ number → ⊥)
    → Has e (first ∷ placed) → (Has e placed → Has e (put placed number item)) → Has e (put_by o number item first placed)
old-by Less e number item first placed is other has rest = inr has
old-by Equal e number item first placed is other has rest = absurd (other (sym (ranked number first.0 Equal is)))
old-by Greater e number item first placed is other (inl same) rest = inl same
old-by Greater e number item first placed is other (inr later) rest = inr (rest later)

has-old : (e : ℕ × Item) (number : ℕ) (item : Item) (placed : List (ℕ × Item)) → AllByRecursion (λ (f : ℕ × Item). f.0 ≡ number → ⊥) placed → Has e placed → Has e (put placed number item)
has-old e number item [] others has = absurd has
has-old e number item (first ∷ placed) others has =
    old-by (nat_cmp number first.0) e number item first placed refl others.0 has (λ later. has-old e number item placed others.1 later)

put-cases-by : (o : Ordering) (e : ℕ × Item) (number : ℕ) (item : Item) (first : ℕ × Item) (placed : List (ℕ × Item)) → o ≡ nat_cmp number first.0
    → Has e (put_by o number item first placed) → (Has e (put placed number item) → (e ≡ (number, item)) ⊎ Has e placed) → (e ≡ (number, item)) ⊎ Has e (first ∷ placed)
put-cases-by Less e number item first placed is (inl same) rest = inl same
put-cases-by Less e number item first placed is (inr later) rest = inr later
put-cases-by Equal e number item first placed is (inl same) rest = inl (same ∙ ap (λ n. (n, item)) (sym (ranked number first.0 Equal is)))
put-cases-by Equal e number item first placed is (inr later) rest = inr (inr later)
put-cases-by Greater e number item first placed is (inl same) rest = inr (inl same)
put-cases-by Greater e number item first placed is (inr later) rest =
    elim (rest later) as (λ c. (e ≡ (number, item)) ⊎ Has e (first ∷ placed)) [ inl new ↦ inl new | inr old ↦ inr (inr old) ]

put-cases : (e : ℕ × Item) (number : ℕ) (item : Item) (placed : List (ℕ × Item)) → Has e (put placed number item) → (e ≡ (number, item)) ⊎ Has e placed
put-cases e number item [] (inl same) = inl same
put-cases e number item [] (inr none) = absurd none
put-cases e number item (first ∷ placed) has =
    put-cases-by (nat_cmp number first.0) e number item first placed refl has (λ later. put-cases e number item placed later)

-- what holds of each stays so, where it holds of the new one
each-by : (o : Ordering) (P : ℕ × Item → Type 0) (number : ℕ) (item : Item) (first : ℕ × Item) (placed : List (ℕ × Item)) → o ≡ nat_cmp number first.0 → P (number, item)
    → AllByRecursion P (first ∷ placed) → AllByRecursion P (put placed number item) → AllByRecursion P (put_by o number item first placed)
each-by Less P number item first placed is here all rest = (here, all)
each-by Equal P number item first placed is here all rest = (subst (λ n. P (n, item)) (ranked number first.0 Equal is) here, all.1)
each-by Greater P number item first placed is here all rest = (all.0, rest)

each-put : (P : ℕ × Item → Type 0) (number : ℕ) (item : Item) (placed : List (ℕ × Item)) → P (number, item) → AllByRecursion P placed → AllByRecursion P (put placed number item)
each-put P number item [] here all = (here, tt)
each-put P number item (first ∷ placed) here all = each-by (nat_cmp number first.0) P number item first placed refl here all (each-put P number item placed here all.1)

-- ---- changes put in order
-- changes that are placed have no number in common with one that is still to be placed
abbrev ArePast : List (ℕ × Item) → List (ℕ × Item) → Type 0
ArePast placed entries = AllByRecursion (λ (e : ℕ × Item). AllByRecursion (λ (f : ℕ × Item). f.0 ≡ e.0 → ⊥) placed) entries

past-put : (e : ℕ × Item) (placed entries : List (ℕ × Item)) → ArePast placed (e ∷ entries) → AllByRecursion (AreApart e) entries → ArePast (put placed e.0 e.1) entries
past-put e placed entries past apart =
    each-both (λ (f : ℕ × Item). AllByRecursion (λ (g : ℕ × Item). g.0 ≡ f.0 → ⊥) placed) (AreApart e) (λ (f : ℕ × Item). AllByRecursion (λ (g : ℕ × Item). g.0 ≡ f.0 → ⊥) (put placed e.0 e.1))
    (λ f all here. each-put (λ (g : ℕ × Item). g.0 ≡ f.0 → ⊥) e.0 e.1 placed here.0 all) entries past.1 apart

keeps-placed : (x : ℕ × Item) (placed entries : List (ℕ × Item)) → ArePast placed entries → AllApart entries → Has x placed → Has x (in_change_order_from placed entries)
keeps-placed x placed [] past apart has = has
keeps-placed x placed (e ∷ entries) past apart has =
    keeps-placed x (put placed e.0 e.1) entries (past-put e placed entries past apart.0) apart.1 (has-old x e.0 e.1 placed past.0 has)

has-entry : (x : ℕ × Item) (placed entries : List (ℕ × Item)) → ArePast placed entries → AllApart entries → Has x entries → Has x (in_change_order_from placed entries)
has-entry x placed [] past apart has = absurd has
has-entry x placed (e ∷ entries) past apart (inl same) =
    keeps-placed x (put placed e.0 e.1) entries (past-put e placed entries past apart.0) apart.1
    (subst (λ (y : ℕ × Item). Has y (put placed e.0 e.1)) (sym same) (has-new e.0 e.1 placed))
has-entry x placed (e ∷ entries) past apart (inr later) = has-entry x (put placed e.0 e.1) entries (past-put e placed entries past apart.0) apart.1 later

from-put : (x e : ℕ × Item) (placed entries : List (ℕ × Item)) → Has x (put placed e.0 e.1) ⊎ Has x entries → Has x placed ⊎ Has x (e ∷ entries)
from-put x e placed entries (inl has) =
    elim (put-cases x e.0 e.1 placed has) as (λ c. Has x placed ⊎ Has x (e ∷ entries)) [ inl new ↦ inr (inl new) | inr old ↦ inl old ]
from-put x e placed entries (inr later) = inr (inr later)

order-cases : (x : ℕ × Item) (placed entries : List (ℕ × Item)) → Has x (in_change_order_from placed entries) → Has x placed ⊎ Has x entries
order-cases x placed [] has = inl has
order-cases x placed (e ∷ entries) has = from-put x e placed entries (order-cases x (put placed e.0 e.1) entries has)

-- ---- the three parts
root-has : (b : Bool) (position : ℕ) (held : Inventory) (e : ℕ × Item) → nat_eq position 0 ≡ b → Has e (cond b ((1, root_record held.items) ∷ []) []) → IsRootEntry held position e
root-has true position held e is (inl same) = (eqb-true position 0 is, same)
root-has true position held e is (inr none) = absurd none
root-has false position held e is has = absurd has

has-root : (position : ℕ) (held : Inventory) (e : ℕ × Item) → IsRootEntry held position e → Has e (root_change position held.items)
has-root position held e is =
    subst (λ b. Has e (cond b ((1, root_record held.items) ∷ []) [])) (sym (eq-eqb position 0 is.0)) (inl is.1)

abbrev IsOf : ℕ → List LiveItem → ℕ × Item → LiveItem → Type 0
IsOf position all e item = (position < item.change) × (e ≡ (item.change, record_of all item))

living-by : (b : Bool) (position : ℕ) (all items : List LiveItem) (item : LiveItem) (e : ℕ × Item) → nat_lt position item.change ≡ b
    → Has e (cond b ((item.change, record_of all item) ∷ live_changes position all items) (live_changes position all items))
    → (Has e (live_changes position all items) → SomeOf (IsOf position all e) items) → SomeOf (IsOf position all e) (item ∷ items)
living-by true position all items item e is (inl same) rest = inl (ltb-true position item.change is, same)
living-by true position all items item e is (inr later) rest = inr (rest later)
living-by false position all items item e is later rest = inr (rest later)

living-has : (position : ℕ) (all items : List LiveItem) (e : ℕ × Item) → Has e (live_changes position all items) → SomeOf (IsOf position all e) items
living-has position all [] e has = absurd has
living-has position all (item ∷ items) e has = living-by (nat_lt position item.change) position all items item e refl has (λ later. living-has position all items e later)

has-living-by : (b : Bool) (position : ℕ) (all items : List LiveItem) (item : LiveItem) (e : ℕ × Item) → nat_lt position item.change ≡ b → SomeOf (IsOf position all e) (item ∷ items)
    → (SomeOf (IsOf position all e) items → Has e (live_changes position all items))
    → Has e (cond b ((item.change, record_of all item) ∷ live_changes position all items) (live_changes position all items))
has-living-by true position all items item e is (inl here) rest = inl here.1
has-living-by true position all items item e is (inr later) rest = inr (rest later)
has-living-by false position all items item e is (inl here) rest = absurd (let late : nat_lt position item.change ≡ true = lt-ltb position item.change here.0 in cc (sym late ∙ is))
has-living-by false position all items item e is (inr later) rest = rest later

has-living : (position : ℕ) (all items : List LiveItem) (e : ℕ × Item) → SomeOf (IsOf position all e) items → Has e (live_changes position all items)
has-living position all [] e some = absurd some
has-living position all (item ∷ items) e some = has-living-by (nat_lt position item.change) position all items item e refl some (λ later. has-living position all items e later)

abbrev IsStoneOf : ℕ → ℕ → ℕ × Item → Tombstone → Type 0
IsStoneOf position start e stone = (position < stone.change) × (start < stone.change) × (e ≡ (stone.change, deleted_record stone))

removed-by : (b : Bool) (position start : ℕ) (stones : List Tombstone) (stone : Tombstone) (e : ℕ × Item) → (nat_lt position stone.change && nat_lt start stone.change) ≡ b
    → Has e (cond b ((stone.change, deleted_record stone) ∷ removals position start stones) (removals position start stones))
    → (Has e (removals position start stones) → SomeOf (IsStoneOf position start e) stones) → SomeOf (IsStoneOf position start e) (stone ∷ stones)
removed-by true position start stones stone e is (inl same) rest =
    let parts = and_parts (nat_lt position stone.change) (nat_lt start stone.change) is in
    inl (ltb-true position stone.change parts.0, ltb-true start stone.change parts.1, same)
removed-by true position start stones stone e is (inr later) rest = inr (rest later)
removed-by false position start stones stone e is later rest = inr (rest later)

removed-has : (position start : ℕ) (stones : List Tombstone) (e : ℕ × Item) → Has e (removals position start stones) → SomeOf (IsStoneOf position start e) stones
removed-has position start [] e has = absurd has
removed-has position start (stone ∷ stones) e has =
    removed-by (nat_lt position stone.change && nat_lt start stone.change) position start stones stone e refl has (λ later. removed-has position start stones e later)

has-removed-by : (b : Bool) (position start : ℕ) (stones : List Tombstone) (stone : Tombstone) (e : ℕ × Item) → (nat_lt position stone.change && nat_lt start stone.change) ≡ b
    → SomeOf (IsStoneOf position start e) (stone ∷ stones) → (SomeOf (IsStoneOf position start e) stones → Has e (removals position start stones))
    → Has e (cond b ((stone.change, deleted_record stone) ∷ removals position start stones) (removals position start stones))
has-removed-by true position start stones stone e is (inl here) rest = inl here.2
has-removed-by true position start stones stone e is (inr later) rest = inr (rest later)
has-removed-by false position start stones stone e is (inl here) rest =
    absurd
    (let late : (nat_lt position stone.change && nat_lt start stone.change) ≡ true =
    and_from (nat_lt position stone.change) (nat_lt start stone.change) (lt-ltb position stone.change here.0) (lt-ltb start stone.change here.1) in
    cc (sym late ∙ is))
has-removed-by false position start stones stone e is (inr later) rest = rest later

has-removed : (position start : ℕ) (stones : List Tombstone) (e : ℕ × Item) → SomeOf (IsStoneOf position start e) stones → Has e (removals position start stones)
has-removed position start [] e some = absurd some
has-removed position start (stone ∷ stones) e some =
    has-removed-by (nat_lt position stone.change && nat_lt start stone.change) position start stones stone e refl some (λ later. has-removed position start stones e later)

-- ---- the feed
module _ (held : Inventory) (sound : IsItemMap held) (marked : IsMarked held) (position start : ℕ) where
  abbrev first_two : List (ℕ × Item)
  first_two = root_change position held.items ++ live_changes position held.items held.items

  abbrev gone : List (ℕ × Item)
  gone = removals position start held.removed

  changes-apart : AllApart (first_two ++ gone)
  changes-apart = all-apart held sound marked position start

  none-placed : ArePast [] (first_two ++ gone)
  none-placed = each-always (λ (e : ℕ × Item). AllByRecursion (λ (f : ℕ × Item). f.0 ≡ e.0 → ⊥) []) (λ e. tt) (first_two ++ gone)

  in-changes : (e : ℕ × Item) → IsEntry held position start e → Has e (first_two ++ gone)
  in-changes e (inl root) = some-left (λ (f : ℕ × Item). e ≡ f) first_two gone (some-left (λ (f : ℕ × Item). e ≡ f) (root_change position held.items) (live_changes position held.items held.items) (has-root position held e root))
  in-changes e (inr (inl live)) =
      some-left (λ (f : ℕ × Item). e ≡ f) first_two gone
      (some-right (λ (f : ℕ × Item). e ≡ f) (root_change position held.items) (live_changes position held.items held.items)
      (has-living position held.items held.items e (some-from-any (IsOf position held.items e) held.items live)))
  in-changes e (inr (inr removed)) =
      some-right (λ (f : ℕ × Item). e ≡ f) first_two gone (has-removed position start held.removed e (some-from-any (IsStoneOf position start e) held.removed removed))

  from-changes : (e : ℕ × Item) → Has e (first_two ++ gone) → IsEntry held position start e
  from-changes e has =
      elim (some-cases (λ (f : ℕ × Item). e ≡ f) first_two gone has) as (λ c. IsEntry held position start e) [
        | inl two ↦ elim (some-cases (λ (f : ℕ × Item). e ≡ f) (root_change position held.items) (live_changes position held.items held.items) two) as (λ c. IsEntry held position start e) [
          | inl root ↦ inl (root-has (nat_eq position 0) position held e refl root)
          | inr live ↦ inr (inl (any-from-some (IsOf position held.items e) held.items (living-has position held.items held.items e live)))
        ]
        | inr removed ↦ inr (inr (any-from-some (IsStoneOf position start e) held.removed (removed-has position start held.removed e removed)))
      ]

  in-feed : (e : ℕ × Item) → Has e (feed held position start) → Has e (first_two ++ gone)
  in-feed e has = elim (order-cases e [] (first_two ++ gone) has) as (λ c. Has e (first_two ++ gone)) [ inl none ↦ absurd none | inr there ↦ there ]

  pub feed-entries : (e : ℕ × Item) → Contains (feed held position start) e ↔ IsEntry held position start e
  feed-entries e = (
    λ there. from-changes e (in-feed e (has-from-contains e (feed held position start) there)),
    λ is. contains-from-has e (feed held position start) (has-entry e [] (first_two ++ gone) none-placed changes-apart (in-changes e is)),
  )

  -- two changes of one item are one
  same-change : (e f : ℕ × Item) (entries : List (ℕ × Item)) → AllApart entries → Has e entries → Has f entries → e.1.id.0 ≡ f.1.id.0 → e.0 ≡ f.0
  same-change e f [] apart has also same = absurd has
  same-change e f (first ∷ entries) apart (inl here) (inl there) same = ap (λ (x : ℕ × Item). x.0) (here ∙ sym there)
  same-change e f (first ∷ entries) apart (inl here) (inr later) same =
      absurd ((each-has (AreApart first) f entries apart.0 later).1 (sym (ap (λ (x : ℕ × Item). x.1.id.0) here) ∙ same))
  same-change e f (first ∷ entries) apart (inr later) (inl there) same =
      absurd ((each-has (AreApart first) e entries apart.0 later).1 (sym (ap (λ (x : ℕ × Item). x.1.id.0) there) ∙ sym same))
  same-change e f (first ∷ entries) apart (inr later) (inr more) same = same-change e f entries apart.1 later more same

  -- in a list of such changes that rises no two are of one item
  once-later : (e : ℕ × Item) (later : List (ℕ × Item)) → Has e (first_two ++ gone) → AllByRecursion (λ (f : ℕ × Item). e.0 < f.0) later
      → AllByRecursion (λ (f : ℕ × Item). Has f (first_two ++ gone)) later → AllByRecursion (λ (f : ℕ × Item). e.1.id ≢ f.1.id) later
  once-later e later has rises all =
      each-both (λ (f : ℕ × Item). e.0 < f.0) (λ (f : ℕ × Item). Has f (first_two ++ gone)) (λ (f : ℕ × Item). e.1.id ≢ f.1.id)
      (λ f low there same. absurd
      (let one : e.0 ≡ f.0 = same-change e f (first_two ++ gone) changes-apart has there (ap (λ (id : ItemId). id.0) same) in omega (arith, one, low)))
      later rises all

  once-all : (entries : List (ℕ × Item)) → Paired (λ (x y : ℕ × Item). x.0 < y.0) entries → AllByRecursion (λ (f : ℕ × Item). Has f (first_two ++ gone)) entries
      → Paired (λ (x y : ℕ × Item). x.1.id ≢ y.1.id) entries
  once-all [] rises all = tt
  once-all (e ∷ entries) rises all = (once-later e entries all.0 rises.0 all.1, once-all entries rises.1 all.1)

  all-there : (entries : List (ℕ × Item)) → ((e : ℕ × Item) → Has e entries → Has e (first_two ++ gone)) → AllByRecursion (λ (f : ℕ × Item). Has f (first_two ++ gone)) entries
  all-there [] there = tt
  all-there (e ∷ entries) there = (there e (inl refl), all-there entries (λ f has. there f (inr has)))

  -- what holds of each such entry holds of each of the feed
  pub feed-each : (P : ℕ × Item → Type 0) → ((e : ℕ × Item) → IsEntry held position start e → P e) → AllByRecursion P (feed held position start)
  feed-each P so =
      each-so (λ (f : ℕ × Item). Has f (first_two ++ gone)) P (λ f has. so f (from-changes f has)) (feed held position start) (all-there (feed held position start) in-feed)

  pub feed-once : AllPairs (λ (x y : ℕ × Item). x.1.id ≢ y.1.id) (feed held position start)
  feed-once =
      pairs-from (λ (x y : ℕ × Item). x.1.id ≢ y.1.id) (feed held position start)
      (once-all (feed held position start) (paired (λ (x y : ℕ × Item). x.0 < y.0) (feed held position start) (rises-feed held position start))
      (all-there (feed held position start) in-feed))

-- ---- of every drive
pub feed-log : (log : List Step) (position start : ℕ) (e : ℕ × Item) → Contains (feed (held_by log) position start) e ↔ IsEntry (held_by log) position start e
feed-log log position start e = feed-entries (held_by log) (every-drive log).tree (is-marked (state_of log).effects) position start e

pub once-log : (log : List Step) (position start : ℕ) → AllPairs (λ (x y : ℕ × Item). x.1.id ≢ y.1.id) (feed (held_by log) position start)
once-log log position start = feed-once (held_by log) (every-drive log).tree (is-marked (state_of log).effects) position start
