-- What effects since a position leave: an item that lives stands as it did then, or has a change number past the position,
-- and one that lived then and lives no more was removed past it.
use Rattle.std.proofs.Common.{◌≡◌, ℕ, ◌+◌, ◌<◌, ◌≤◌, ◌⊎◌, inl, inr, Bool, true, false, ◌&&◌, ◌||◌, cond, nat_eq, nat_lt, List, [], ◌∷◌, ◌++◌, Option, Some, None, refl, ap, sym, subst, ◌∙◌, arith}
use Rattle.std.proofs.lemmas.Bool.{eqb-true, eq-eqb, lt-ltb, or_right}
use Rattle.std.proofs.lemmas.List.Folds.{list_any-append}
use Rattle.std.specs.List.{list_any}
use Rattle.std.specs.Option.{option_map}
use Rattle.gd_item.specs.Inventory.{Effect, MadeFolder, PutNew, PutOver, Moved, Removed, Inventory, made_folder, made_file, with_bytes, with_place, changed, live_at, tombstone_of, after, after_all}
use Rattle.gd_item.specs.declared.live.LiveItem.{LiveItem}
use Rattle.gd_item.specs.declared.live.Tombstone.{Tombstone}
use Rattle.gd_names.proofs.Each.{each-always}
use Rattle.gd_laws.proofs.Living.{or_live, of-living, live-append, live-changed, live-lacking}

-- whether an item of a number was removed past a position and a start
abbrev pub is_removal : ℕ → ℕ → ℕ → Tombstone → Bool
is_removal n position start stone = nat_eq stone.number n && (nat_lt position stone.change && nat_lt start stone.change)

abbrev pub was_removed : ℕ → ℕ → ℕ → List Tombstone → Bool
was_removed n position start stones = list_any (is_removal n position start) stones

pub record IsSince (position start : ℕ) (base now : Inventory) : Type 0 where
  pub late : position ≤ now.number
  pub kept : (n : ℕ) (item : LiveItem) → live_at n now.items ≡ Some item → (live_at n base.items ≡ Some item) ⊎ (position < item.change)
  pub gone : (n : ℕ) → live_at n now.items ≡ None → (live_at n base.items ≡ None) ⊎ (was_removed n position start now.removed ≡ true)

-- ---- one item more
module _ (position start : ℕ) (base held : Inventory) (since : IsSince position start base held) where
  kept-added : (n : ℕ) (new item : LiveItem) (found : Option LiveItem) (b : Bool) → position < new.change → live_at n held.items ≡ found → or_live found (cond b (Some new) None) ≡ Some item
      → (live_at n base.items ≡ Some item) ⊎ (position < item.change)
  kept-added n new item None true late there is =
      let same : new ≡ item = cc is in inr (subst (λ (x : LiveItem). position < x.change) same late)
  kept-added n new item None false late there is = absurd (cc is)
  kept-added n new item (Some old) b late there is = since.kept n item (there ∙ is)

  gone-added : (n : ℕ) (found other : Option LiveItem) → live_at n held.items ≡ found → or_live found other ≡ None
      → (live_at n base.items ≡ None) ⊎ (was_removed n position start held.removed ≡ true)
  gone-added n None other there is = since.gone n there
  gone-added n (Some old) other there is = absurd (cc is)

  -- an item that is changed
  kept-changed : (n : ℕ) (f : LiveItem → LiveItem) (item : LiveItem) (b : Bool) (found : Option LiveItem) → ((x : LiveItem) → position < (f x).change) → live_at n held.items ≡ found
      → cond b (option_map f found) found ≡ Some item → (live_at n base.items ≡ Some item) ⊎ (position < item.change)
  kept-changed n f item true None late there is = absurd (cc is)
  kept-changed n f item true (Some old) late there is =
      let same : f old ≡ item = cc is in inr (subst (λ (x : LiveItem). position < x.change) same (late old))
  kept-changed n f item false found late there is = since.kept n item (there ∙ is)

  gone-changed : (n : ℕ) (f : LiveItem → LiveItem) (b : Bool) (found : Option LiveItem) → live_at n held.items ≡ found → cond b (option_map f found) found ≡ None
      → (live_at n base.items ≡ None) ⊎ (was_removed n position start held.removed ≡ true)
  gone-changed n f true None there is = since.gone n there
  gone-changed n f true (Some old) there is = absurd (cc is)
  gone-changed n f false found there is = since.gone n (there ∙ is)

  -- an item that is removed
  kept-removed : (n : ℕ) (item : LiveItem) (b : Bool) (found : Option LiveItem) → live_at n held.items ≡ found → cond b None found ≡ Some item
      → (live_at n base.items ≡ Some item) ⊎ (position < item.change)
  kept-removed n item true found there is = absurd (cc is)
  kept-removed n item false found there is = since.kept n item (there ∙ is)

  or-more : (n : ℕ) (stones : List Tombstone) → (live_at n base.items ≡ None) ⊎ (was_removed n position start held.removed ≡ true)
      → (live_at n base.items ≡ None) ⊎ (was_removed n position start (held.removed ++ stones) ≡ true)
  or-more n stones (inl none) = inl none
  or-more n stones (inr was) =
      inr (list_any-append (is_removal n position start) held.removed stones ∙ ap (λ b. b || was_removed n position start stones) was)

  stone-there : (n : ℕ) (item : LiveItem) → start ≤ position → item.number ≡ n → was_removed n position start (tombstone_of (held.number + 1) (Some item)) ≡ true
  stone-there n item early at =
      let late : position ≤ held.number = since.late in
      let number : nat_eq item.number n ≡ true = eq-eqb item.number n at in
      let past : nat_lt position (held.number + 1) ≡ true = lt-ltb position (held.number + 1) (omega arith) in
      let past_start : nat_lt start (held.number + 1) ≡ true = lt-ltb start (held.number + 1) (omega arith) in
      ap (λ b. (b && (nat_lt position (held.number + 1) && nat_lt start (held.number + 1))) || false) number
      ∙ ap (λ b. (b && nat_lt start (held.number + 1)) || false) past
      ∙ ap (λ b. b || false) past_start

  gone-removed : (n number : ℕ) (b : Bool) (found : Option LiveItem) → start ≤ position → nat_eq number n ≡ b → live_at n held.items ≡ found → cond b None found ≡ None
      → (live_at n base.items ≡ None) ⊎ (was_removed n position start (held.removed ++ tombstone_of (held.number + 1) (live_at number held.items)) ≡ true)
  gone-removed n number true (Some item) early at there is =
      let same : number ≡ n = eqb-true number n at in
      let here : live_at number held.items ≡ Some item = ap (λ m. live_at m held.items) same ∙ there in
      let has : item.number ≡ n = (of-living (λ (x : LiveItem). Unit {0}) n held.items item (each-always (λ (x : LiveItem). Unit {0}) (λ x. tt) held.items) there).1 in
      inr (ap (λ found. was_removed n position start (held.removed ++ tombstone_of (held.number + 1) found)) here
      ∙ list_any-append (is_removal n position start) held.removed (tombstone_of (held.number + 1) (Some item))
      ∙ or_right (was_removed n position start held.removed) (was_removed n position start (tombstone_of (held.number + 1) (Some item))) (stone-there n item early has))
  gone-removed n number true None early at there is = or-more n (tombstone_of (held.number + 1) (live_at number held.items)) (since.gone n there)
  gone-removed n number false found early off there is =
      or-more n (tombstone_of (held.number + 1) (live_at number held.items)) (since.gone n (there ∙ is))

-- ---- each effect
module _ (position start : ℕ) (base : Inventory) where
  with-new : (held now : Inventory) (new : LiveItem) → now.items ≡ held.items ++ new ∷ [] → now.removed ≡ held.removed → now.number ≡ held.number + 1 → new.change ≡ held.number + 1
      → IsSince position start base held → IsSince position start base now
  with-new held now new are same is_number is_change since =
      let late : position ≤ held.number = since.late in
      record {
        late = omega (arith, is_number);
        kept = λ n item is.
            kept-added position start base held since n new item (live_at n held.items) (nat_eq new.number n) (omega (arith, is_change)) refl
            (sym (ap (live_at n) are ∙ live-append n held.items new) ∙ is);
        gone = λ n is.
            subst (λ stones. (live_at n base.items ≡ None) ⊎ (was_removed n position start stones ≡ true)) (sym same)
            (gone-added position start base held since n (live_at n held.items) (cond (nat_eq new.number n) (Some new) None) refl
            (sym (ap (live_at n) are ∙ live-append n held.items new) ∙ is));
      }

  with-change : (held now : Inventory) (number : ℕ) (f : LiveItem → LiveItem) → ((x : LiveItem) → (f x).number ≡ x.number) → ((x : LiveItem) → (f x).change ≡ held.number + 1)
      → now.items ≡ changed number f held.items → now.removed ≡ held.removed → now.number ≡ held.number + 1 → IsSince position start base held → IsSince position start base now
  with-change held now number f keeps moves are same is_number since =
      let late : position ≤ held.number = since.late in
      record {
        late = omega (arith, is_number);
        kept = λ n item is.
            kept-changed position start base held since n f item (nat_eq number n) (live_at n held.items) (λ x. omega (arith, moves x)) refl
            (sym (ap (live_at n) are ∙ live-changed n number f held.items keeps) ∙ is);
        gone = λ n is.
            subst (λ stones. (live_at n base.items ≡ None) ⊎ (was_removed n position start stones ≡ true)) (sym same)
            (gone-changed position start base held since n f (nat_eq number n) (live_at n held.items) refl
            (sym (ap (live_at n) are ∙ live-changed n number f held.items keeps) ∙ is));
      }

  without-one : (held : Inventory) (number : ℕ) → start ≤ position → IsSince position start base held → IsSince position start base (after held (Removed number))
  without-one held number early since =
      let late : position ≤ held.number = since.late in
      record {
        late = omega arith;
        kept = λ n item is.
            kept-removed position start base held since n item (nat_eq number n) (live_at n held.items) refl (sym (live-lacking n number held.items) ∙ is);
        gone = λ n is.
            gone-removed position start base held since n number (nat_eq number n) (live_at n held.items) early refl refl (sym (live-lacking n number held.items) ∙ is);
      }

  since-after : (held : Inventory) (effect : Effect) → start ≤ position → IsSince position start base held → IsSince position start base (after held effect)
  since-after held (MadeFolder parent name) early since =
      with-new held (after held (MadeFolder parent name)) (made_folder (held.number + 1) held.next parent name) refl refl refl refl since
  since-after held (PutNew parent name bytes) early since =
      with-new held (after held (PutNew parent name bytes)) (made_file (held.number + 1) held.next parent name bytes) refl refl refl refl since
  since-after held (PutOver number bytes) early since =
      with-change held (after held (PutOver number bytes)) number (with_bytes (held.number + 1) bytes) (λ x. refl) (λ x. refl) refl refl refl since
  since-after held (Moved number parent name) early since =
      with-change held (after held (Moved number parent name)) number (with_place (held.number + 1) parent name) (λ x. refl) (λ x. refl) refl refl refl since
  since-after held (Removed number) early since = without-one held number early since

  since-all : (held : Inventory) (effects : List Effect) → start ≤ position → IsSince position start base held → IsSince position start base (after_all held effects)
  since-all held [] early since = since
  since-all held (effect ∷ effects) early since = since-all (after held effect) effects early (since-after held effect early since)

-- what holds at the position itself, and after more effects
pub is-since : (position start : ℕ) (base : Inventory) (effects : List Effect) → start ≤ position → position ≤ base.number → IsSince position start base (after_all base effects)
is-since position start base effects early late =
    since-all position start base base effects early (record { late = late; kept = λ n item is. inl is; gone = λ n is. inl is })
