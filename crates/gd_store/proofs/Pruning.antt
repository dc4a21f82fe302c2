-- Effects on an inventory whose old tombstones are gone: the new ones are above the floor.
use Rattle.std.proofs.Common.{◌≡◌, ℕ, ◌+◌, ◌<◌, ◌≤◌, true, false, ◌&&◌, cond, nat_lt, max, List, [], ◌∷◌, ◌++◌, filter, Option, Some, None, refl, sym, ap, ◌∙◌, arith}
use Rattle.std.proofs.lemmas.Bool.Decides.{nat_tests}
use Rattle.std.proofs.lemmas.List.Elements.{filter-append}
use Rattle.gd_item.specs.Inventory.{Inventory, Effect, MadeFolder, PutNew, PutOver, Moved, Removed, after, after_all, live_at, tombstone_of}
use Rattle.gd_item.specs.Records.{feed, removals, root_change, live_changes, in_change_order_from, deleted_record}
use Rattle.gd_item.specs.Refusals.{touched}
use Rattle.gd_item.specs.declared.item.Item.{Item}
use Rattle.gd_item.specs.declared.live.LiveItem.{LiveItem}
use Rattle.gd_item.specs.declared.live.Tombstone.{Tombstone}
use Rattle.gd_item.proofs.Effects.{number-after}
use Rattle.gd_store.specs.Stands.{pruned, put_result, record_after}

-- the tombstones above a floor
abbrev above : ℕ → List Tombstone → List Tombstone
above floor stones = filter (λ (stone : Tombstone). nat_lt floor stone.change) stones

is-below : (m n : ℕ) → m < n → nat_lt m n ≡ true
is-below m n lt = grind (arith, nat_tests)

new-stone : (floor change : ℕ) (found : Option LiveItem) → floor < change → above floor (tombstone_of change found) ≡ tombstone_of change found
new-stone floor change None lt = refl
new-stone floor change (Some item) lt =
    let stone : Tombstone = record { number = item.number; parent = item.parent; change = change } in
    ap (λ b. cond b (stone ∷ []) []) (is-below floor change lt)

pub pruned-after : (floor : ℕ) (held : Inventory) (effect : Effect) → floor ≤ held.number → after (pruned floor held) effect ≡ pruned floor (after held effect)
pruned-after floor held (MadeFolder parent name) le = refl
pruned-after floor held (PutNew parent name bytes) le = refl
pruned-after floor held (PutOver number bytes) le = refl
pruned-after floor held (Moved number parent name) le = refl
pruned-after floor held (Removed number) le =
    let new : List Tombstone = tombstone_of (held.number + 1) (live_at number held.items) in
    let lt : floor < held.number + 1 = omega arith in
    let stones : above floor held.removed ++ new ≡ above floor (held.removed ++ new) =
    ap (λ t. above floor held.removed ++ t) (sym (new-stone floor (held.number + 1) (live_at number held.items) lt))
    ∙ sym (filter-append (λ (stone : Tombstone). nat_lt floor stone.change) held.removed new) in
    ap (λ t. record (after held (Removed number)) { removed = t }) stones

rises : (held : Inventory) (effect : Effect) → held.number ≤ (after held effect).number
rises held effect = let e : (after held effect).number ≡ held.number + 1 = number-after held effect in omega arith

pub rises-all : (held : Inventory) (effects : List Effect) → held.number ≤ (after_all held effects).number
rises-all held [] = omega arith
rises-all held (effect ∷ effects) =
    let one : held.number ≤ (after held effect).number = rises held effect in
    let more : (after held effect).number ≤ (after_all (after held effect) effects).number = rises-all (after held effect) effects in
    omega arith

pub pruned-all : (floor : ℕ) (held : Inventory) (effects : List Effect) → floor ≤ held.number → after_all (pruned floor held) effects ≡ pruned floor (after_all held effects)
pruned-all floor held [] le = refl
pruned-all floor held (effect ∷ effects) le =
    let one : held.number ≤ (after held effect).number = rises held effect in
    let reached : floor ≤ (after held effect).number = omega arith in
    ap (λ h. after_all h effects) (pruned-after floor held effect le) ∙ pruned-all floor (after held effect) effects reached

-- what an effect touches and leaves, and what a put hands back, are the same
touched-pruned : (floor : ℕ) (held : Inventory) (effect : Effect) → touched (pruned floor held) effect ≡ touched held effect
touched-pruned floor held (MadeFolder parent name) = refl
touched-pruned floor held (PutNew parent name bytes) = refl
touched-pruned floor held (PutOver number bytes) = refl
touched-pruned floor held (Moved number parent name) = refl
touched-pruned floor held (Removed number) = refl

pub record-pruned : (floor : ℕ) (held : Inventory) (effect : Effect) → record_after (pruned floor held) effect ≡ record_after held effect
record-pruned floor held (MadeFolder parent name) = refl
record-pruned floor held (PutNew parent name bytes) = refl
record-pruned floor held (PutOver number bytes) = refl
record-pruned floor held (Moved number parent name) = refl
record-pruned floor held (Removed number) = refl

pub result-pruned : (floor : ℕ) (held : Inventory) (effect : Effect) → put_result (pruned floor held) effect ≡ put_result held effect
result-pruned floor held (MadeFolder parent name) = refl
result-pruned floor held (PutNew parent name bytes) = refl
result-pruned floor held (PutOver number bytes) = refl
result-pruned floor held (Moved number parent name) = refl
result-pruned floor held (Removed number) = refl

-- a higher floor
above-both : (low high : ℕ) (stones : List Tombstone) → low ≤ high → above high (above low stones) ≡ above high stones
above-both low high [] le = refl
above-both low high (stone ∷ stones) le =
    let ih : above high (above low stones) ≡ above high stones = above-both low high stones le in
    (elim (nat_lt low stone.change) as (λ b. nat_lt low stone.change ≡ b → above high (cond b (stone ∷ above low stones) (above low stones)) ≡ above high (stone ∷ stones)) [
      | true ↦ λ is. ap (λ t. cond (nat_lt high stone.change) (stone ∷ t) t) ih
      | false ↦ λ is.
          let off : nat_lt high stone.change ≡ false = grind (arith, nat_tests) in
          ih ∙ sym (ap (λ b. cond b (stone ∷ above high stones) (above high stones)) off)
    ]) refl

pub pruned-both : (low high : ℕ) (held : Inventory) → low ≤ high → pruned high (pruned low held) ≡ pruned high held
pruned-both low high held le = ap (λ t. record held { removed = t }) (above-both low high held.removed le)

-- the feed past a position or with the removals past a start that has reached the floor
removals-above : (floor position start : ℕ) (stones : List Tombstone) → floor ≤ max position start → removals position start (above floor stones) ≡ removals position start stones
removals-above floor position start [] le = refl
removals-above floor position start (stone ∷ stones) le =
    let ih : removals position start (above floor stones) ≡ removals position start stones = removals-above floor position start stones le in
    let entry : ℕ × Item = (stone.change, deleted_record stone) in
    (elim (nat_lt floor stone.change) as (λ b. nat_lt floor stone.change ≡ b → removals position start (cond b (stone ∷ above floor stones) (above floor stones)) ≡ removals position start (stone ∷ stones)) [
      | true ↦ λ is. ap (λ t. cond (nat_lt position stone.change && nat_lt start stone.change) (entry ∷ t) t) ih
      | false ↦ λ is.
          let off : (nat_lt position stone.change && nat_lt start stone.change) ≡ false = not-both floor position start stone.change le is in
          ih ∙ sym (ap (λ b. cond b (entry ∷ removals position start stones) (removals position start stones)) off)
    ]) refl
  where
    not-both : (floor position start change : ℕ) → floor ≤ max position start → nat_lt floor change ≡ false → (nat_lt position change && nat_lt start change) ≡ false
    not-both floor position start change le is = grind (arith, nat_tests)

pub feed-pruned : (floor : ℕ) (held : Inventory) (position start : ℕ) → floor ≤ max position start → feed (pruned floor held) position start ≡ feed held position start
feed-pruned floor held position start le =
    ap (λ t. in_change_order_from [] (root_change position held.items ++ live_changes position held.items held.items ++ t)) (removals-above floor position start held.removed le)
