-- What holds of a drive after any effects, refused or not: the numbers of its items rise, and each change number and
-- each item's number is of one living or removed item.
use Rattle.std.proofs.Common.{◌≡◌, ◌≢◌, ℕ, ◌+◌, ◌<◌, ◌≤◌, List, [], ◌∷◌, ◌++◌, Option, Some, None, refl, ap, sym, subst, ◌∙◌, arith}
use Rattle.std.proofs.lemmas.List.{append-nil}
use Rattle.std.specs.List.{All, AllByRecursion, AllPairs}
use Rattle.std.proofs.lemmas.List.Kept.{AllPairs-cons}
use Rattle.std.proofs.lemmas.List.Quantifiers.{all_pairs_push}
use Rattle.gd_item.specs.Inventory.{Effect, MadeFolder, PutNew, PutOver, Moved, Removed, Inventory, new_drive, made_folder, made_file, with_bytes, with_place, changed, live_at, tombstone_of, after, after_all, inventory}
use Rattle.gd_item.specs.declared.live.LiveItem.{LiveItem}
use Rattle.gd_item.specs.declared.live.Tombstone.{Tombstone}
use Rattle.gd_names.proofs.Each.{AllPairs-nil, all-each, each-so, each-append}
use Rattle.gd_item.proofs.Soundness.{with_added}
use Rattle.gd_laws.specs.EveryDrive.{IsGone}
use Rattle.gd_laws.proofs.Living.{lacking, each-changed, each-lacking, Rising, rising-append, rising-changed, rising-lacking, of-living, none-changed, none-lacking, gone-lacking, none-append}

pub record IsLiving (held : Inventory) (item : LiveItem) : Type 0 where
  pub above : 1 < item.number
  pub made : item.number < held.next
  pub later : 1 < item.change
  pub done : item.change ≤ held.number

abbrev pub AreTwo : Tombstone → Tombstone → Type 0
AreTwo a b = (a.number ≡ b.number → ⊥) × (a.change ≡ b.change → ⊥)

abbrev pub Differ : List Tombstone → Type 0
Differ [] = Unit {0}
Differ (stone ∷ stones) = AllByRecursion (λ (other : Tombstone). AreTwo other stone) stones × Differ stones

pub record IsMarked (held : Inventory) : Type 0 where
  pub begun : 0 < held.number
  pub next : 1 < held.next
  pub given : held.next ≤ held.number + 1
  pub living : AllByRecursion (IsLiving held) held.items
  pub gone : AllByRecursion (IsGone held) held.removed
  pub rising : Rising held.items
  pub differ : Differ held.removed
  pub in_order : AllPairs (λ (x y : Tombstone). x.change < y.change) held.removed

differ-append : (stones : List Tombstone) (new : Tombstone) → Differ stones → AllByRecursion (AreTwo new) stones → Differ (stones ++ new ∷ [])
differ-append [] new differ two = (tt, tt)
differ-append (stone ∷ stones) new differ two =
    (each-append (λ (other : Tombstone). AreTwo other stone) stones (new ∷ []) differ.0 (two.0, tt), differ-append stones new differ.1 two.1)

-- ---- an item that is made
added : (held : Inventory) (new : LiveItem) (kept : ℕ) → new.number ≡ held.next → new.change ≡ held.number + 1 → IsMarked held → IsMarked (with_added held new kept)
added held new kept is_next is_change marked =
    let now : Inventory = with_added held new kept in
    let begun : 0 < held.number = marked.begun in
    let next : 1 < held.next = marked.next in
    let given : held.next ≤ held.number + 1 = marked.given in
    record {
      begun = omega arith;
      next = omega arith;
      given = omega arith;
      living = each-append (IsLiving now) held.items (new ∷ [])
          (each-so (IsLiving held) (IsLiving now) (λ item h. record {
            above = h.above;
            made = let m : item.number < held.next = h.made in omega arith;
            later = h.later;
            done = let d : item.change ≤ held.number = h.done in omega arith;
          }) held.items marked.living)
          (record { above = omega arith; made = omega arith; later = omega arith; done = omega arith }, tt);
      gone = each-so (IsGone held) (IsGone now) (λ stone h. record {
        above = h.above;
        made = let m : stone.number < held.next = h.made in omega arith;
        later = h.later;
        done = let d : stone.change ≤ held.number = h.done in omega arith;
        gone = none-append stone.number held.items new (λ is. absurd (let m : stone.number < held.next = h.made in omega (arith, is))) h.gone;
        apart = each-append (λ (item : LiveItem). item.change ≡ stone.change → ⊥) held.items (new ∷ []) h.apart
            (λ is. absurd (let d : stone.change ≤ held.number = h.done in omega (arith, is)), tt);
      }) held.removed marked.gone;
      rising = rising-append held.items new marked.rising
          (each-so (IsLiving held) (λ (item : LiveItem). item.number < new.number) (λ item h. let m : item.number < held.next = h.made in omega arith) held.items marked.living);
      differ = marked.differ;
      in_order = marked.in_order;
    }

-- ---- an item that is changed
abbrev edited : Inventory → ℕ → (LiveItem → LiveItem) → Inventory
edited held number f = record held { number = held.number + 1; items = changed number f held.items }

changed-living : (held now : Inventory) (f : LiveItem → LiveItem) (item : LiveItem) → held.next ≤ now.next → held.number + 1 ≡ now.number → 0 < held.number → (f item).number ≡ item.number → (f item).change ≡ held.number + 1
    → IsLiving now item → IsLiving now (f item)
changed-living held now f item next number begun keeps moves h = record {
  above = let a : 1 < item.number = h.above in omega arith;
  made = let m : item.number < now.next = h.made in omega arith;
  later = omega arith;
  done = omega arith;
}

changed-marked : (held now : Inventory) (number : ℕ) (f : LiveItem → LiveItem) → ((x : LiveItem) → (f x).number ≡ x.number) → ((x : LiveItem) → (f x).change ≡ held.number + 1)
    → now.number ≡ held.number + 1 → now.next ≡ held.next → now.items ≡ changed number f held.items → now.removed ≡ held.removed → IsMarked held → IsMarked now
changed-marked held now number f keeps moves is_number is_next are same marked =
    let begun : 0 < held.number = marked.begun in
    let next : 1 < held.next = marked.next in
    let given : held.next ≤ held.number + 1 = marked.given in
    record {
      begun = omega arith;
      next = omega arith;
      given = omega arith;
      living = subst (AllByRecursion (IsLiving now)) (sym are)
          (each-changed (IsLiving now) number f held.items
          (λ item h. changed-living held now f item (omega (arith, is_next)) (sym is_number) begun (keeps item) (moves item) h)
          (each-so (IsLiving held) (IsLiving now) (λ item h. record {
            above = h.above;
            made = let m : item.number < held.next = h.made in omega arith;
            later = h.later;
            done = let d : item.change ≤ held.number = h.done in omega arith;
          }) held.items marked.living));
      gone = subst (AllByRecursion (IsGone now)) (sym same)
          (each-so (IsGone held) (IsGone now) (λ stone h. record {
            above = h.above;
            made = let m : stone.number < held.next = h.made in omega arith;
            later = h.later;
            done = let d : stone.change ≤ held.number = h.done in omega arith;
            gone = ap (live_at stone.number) are ∙ none-changed stone.number number f held.items keeps h.gone;
            apart = subst (AllByRecursion (λ (item : LiveItem). item.change ≡ stone.change → ⊥)) (sym are)
                (each-changed (λ (item : LiveItem). item.change ≡ stone.change → ⊥) number f held.items
                (λ item other is. absurd (let d : stone.change ≤ held.number = h.done in omega (arith, is, moves item))) h.apart);
          }) held.removed marked.gone);
      rising = subst Rising (sym are) (rising-changed number f held.items keeps marked.rising);
      differ = subst Differ (sym same) marked.differ;
      in_order = subst (AllPairs (λ (x y : Tombstone). x.change < y.change)) (sym same) marked.in_order;
    }

-- ---- an item that is removed
stone-of : (held : Inventory) (number : ℕ) (item : LiveItem) → IsMarked held → live_at number held.items ≡ Some item → IsGone (after held (Removed number)) (record { number = item.number; parent = item.parent; change = held.number + 1 })
stone-of held number item marked is =
    let begun : 0 < held.number = marked.begun in
    let found = of-living (IsLiving held) number held.items item marked.living is in
    let above : 1 < item.number = (found.0).above in
    let made : item.number < held.next = (found.0).made in
    record {
      above = above;
      made = made;
      later = omega arith;
      done = omega arith;
      gone = subst (λ n. live_at n (lacking number held.items) ≡ None) (sym found.1) (gone-lacking number held.items);
      apart = each-lacking (λ (other : LiveItem). other.change ≡ held.number + 1 → ⊥) number held.items
          (each-so (IsLiving held) (λ (other : LiveItem). other.change ≡ held.number + 1 → ⊥)
          (λ other h is. absurd (let d : other.change ≤ held.number = h.done in omega (arith, is))) held.items marked.living);
    }

-- no earlier removal is of a living item, or has the next change number
two-stones : (held : Inventory) (number : ℕ) (item : LiveItem) (stone : Tombstone) → live_at number held.items ≡ Some item → item.number ≡ number → IsGone held stone
    → AreTwo (record { number = item.number; parent = item.parent; change = held.number + 1 }) stone
two-stones held number item stone is at h = (
  λ same. absurd (let none : live_at number held.items ≡ None = subst (λ n. live_at n held.items ≡ None) (sym same ∙ at) h.gone in cc (sym is ∙ none)),
  λ same. absurd (let d : stone.change ≤ held.number = h.done in omega (arith, same)),
)

stones-after : (held : Inventory) (number : ℕ) (found : Option LiveItem) → live_at number held.items ≡ found → IsMarked held
    → AllByRecursion (IsGone (after held (Removed number))) (tombstone_of (held.number + 1) found) × Differ (held.removed ++ tombstone_of (held.number + 1) found)
stones-after held number None is marked = (tt, subst Differ (sym (append-nil held.removed)) marked.differ)
stones-after held number (Some item) is marked =
    let found = of-living (IsLiving held) number held.items item marked.living is in (
      (stone-of held number item marked is, tt),
      differ-append held.removed (record { number = item.number; parent = item.parent; change = held.number + 1 }) marked.differ
          (each-so (IsGone held) (AreTwo (record { number = item.number; parent = item.parent; change = held.number + 1 }))
          (λ stone h. two-stones held number item stone is found.1 h) held.removed marked.gone),
    )

-- its change number is the last one
order-after : (held : Inventory) (found : Option LiveItem) → IsMarked held → AllPairs (λ (x y : Tombstone). x.change < y.change) (held.removed ++ tombstone_of (held.number + 1) found)
order-after held None marked = subst (AllPairs (λ (x y : Tombstone). x.change < y.change)) (sym (append-nil held.removed)) marked.in_order
order-after held (Some item) marked =
    all_pairs_push (λ (x y : Tombstone). x.change < y.change) held.removed (record { number = item.number; parent = item.parent; change = held.number + 1 }) marked.in_order
    (all-each (λ (stone : Tombstone). stone.change < held.number + 1) held.removed
    (each-so (IsGone held) (λ (stone : Tombstone). stone.change < held.number + 1) (λ stone h. let done : stone.change ≤ held.number = h.done in omega arith) held.removed marked.gone))

removed-marked : (held : Inventory) (number : ℕ) → IsMarked held → IsMarked (after held (Removed number))
removed-marked held number marked =
    let now : Inventory = after held (Removed number) in
    let begun : 0 < held.number = marked.begun in
    let next : 1 < held.next = marked.next in
    let given : held.next ≤ held.number + 1 = marked.given in
    let new = stones-after held number (live_at number held.items) refl marked in
    record {
      begun = omega arith;
      next = omega arith;
      given = omega arith;
      living = each-lacking (IsLiving now) number held.items
          (each-so (IsLiving held) (IsLiving now) (λ item h. record {
            above = h.above;
            made = h.made;
            later = h.later;
            done = let d : item.change ≤ held.number = h.done in omega arith;
          }) held.items marked.living);
      gone = each-append (IsGone now) held.removed (tombstone_of (held.number + 1) (live_at number held.items))
          (each-so (IsGone held) (IsGone now) (λ stone h. record {
            above = h.above;
            made = h.made;
            later = h.later;
            done = let d : stone.change ≤ held.number = h.done in omega arith;
            gone = none-lacking stone.number number held.items h.gone;
            apart = each-lacking (λ (item : LiveItem). item.change ≡ stone.change → ⊥) number held.items h.apart;
          }) held.removed marked.gone)
          new.0;
      rising = rising-lacking number held.items marked.rising;
      differ = new.1;
      in_order = order-after held (live_at number held.items) marked;
    }

-- ---- any effects
pub marked-after : (held : Inventory) (effect : Effect) → IsMarked held → IsMarked (after held effect)
marked-after held (MadeFolder parent name) marked = added held (made_folder (held.number + 1) held.next parent name) held.kept refl refl marked
marked-after held (PutNew parent name bytes) marked = added held (made_file (held.number + 1) held.next parent name bytes) (after held (PutNew parent name bytes)).kept refl refl marked
marked-after held (PutOver number bytes) marked =
    changed-marked held (after held (PutOver number bytes)) number (with_bytes (held.number + 1) bytes) (λ x. refl) (λ x. refl) refl refl refl refl marked
marked-after held (Moved number parent name) marked =
    changed-marked held (after held (Moved number parent name)) number (with_place (held.number + 1) parent name) (λ x. refl) (λ x. refl) refl refl refl refl marked
marked-after held (Removed number) marked = removed-marked held number marked

marked-all : (held : Inventory) (effects : List Effect) → IsMarked held → IsMarked (after_all held effects)
marked-all held [] marked = marked
marked-all held (effect ∷ effects) marked = marked-all (after held effect) effects (marked-after held effect marked)

pub is-marked : (effects : List Effect) → IsMarked (inventory effects)
is-marked effects = marked-all new_drive effects (record {
  begun = omega arith;
  next = omega arith;
  given = omega arith;
  living = tt;
  gone = tt;
  rising = tt;
  differ = tt;
  in_order = AllPairs-nil (λ (x y : Tombstone). x.change < y.change);
})

-- ---- the same of each place, and of each two
pub gone-each : (held : Inventory) → IsMarked held → All (IsGone held) held.removed
gone-each held marked = all-each (IsGone held) held.removed marked.gone

pub gone-once : (stones : List Tombstone) → Differ stones → AllPairs (λ (x y : Tombstone). x.number ≢ y.number) stones
gone-once [] differ = AllPairs-nil (λ (x y : Tombstone). x.number ≢ y.number)
gone-once (stone ∷ stones) differ =
    AllPairs-cons (λ (x y : Tombstone). x.number ≢ y.number) stone stones
    (all-each (λ (other : Tombstone). stone.number ≢ other.number) stones
    (each-so (λ (other : Tombstone). AreTwo other stone) (λ (other : Tombstone). stone.number ≢ other.number) (λ other two same. two.0 (sym same)) stones differ.0))
    (gone-once stones differ.1)
