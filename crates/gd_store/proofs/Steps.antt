-- A store that stands for its effects stands for more of them, whatever removals it forgot.
use Rattle.std.proofs.Common.{◌≡◌, ℕ, Bool, ◌<◌, ◌≤◌, max, min, List, ◌++◌, Option, Some, None, ◌⊎◌, Result, Ok, Err, sym, ap, ◌∙◌, subst, arith}
use Rattle.std.proofs.lemmas.List.Elements.{All-weaker}
use Rattle.gd_item.specs.Inventory.{Inventory, Effect, after_all, inventory}
use Rattle.gd_item.specs.Sound.{IsItemMap, IsWithin}
use Rattle.gd_item.specs.declared.fault.StoreFault.{StoreFault}
use Rattle.gd_item.specs.declared.fault.StoreFault.TheVariants.{Memory}
use Rattle.gd_item.specs.declared.id.ItemId.{ItemId}
use Rattle.gd_item.specs.declared.item.Item.{Item}
use Rattle.gd_item.proofs.Effects.{inventory-append, next-inventory, number-positive}
use Rattle.gd_store.specs.Stands.{StoreValue, Stands, Answers, pruned, put_result, record_after}
use Rattle.gd_store.proofs.Pruning.{pruned-all, pruned-both, rises-all, record-pruned, result-pruned}

-- what a store holds is sound
pub record IsSound (held : Inventory) : Type 0 where
  pub map : IsItemMap held
  pub light : held.kept ≤ 536870912

-- and its numbers have begun
pub record IsBegun (held : Inventory) : Type 0 where
  pub sound : IsItemMap held
  pub light : held.kept ≤ 536870912
  pub next : 1 < held.next
  pub number : 0 < held.number

-- the tree does not hang on what was removed
pub sound-pruned : (floor : ℕ) (held : Inventory) → IsItemMap held → IsItemMap (pruned floor held)
sound-pruned floor held sound = record {
  within = All-weaker (IsWithin held) (IsWithin (pruned floor held)) (λ item w. record { above = w.above; below = w.below; later = w.later; done = w.done }) held.items sound.within;
  numbers = sound.numbers;
  changes = sound.changes;
  led = sound.led;
  told_apart = sound.told_apart;
}

-- the store with another inventory
abbrev pub holding : StoreValue → Inventory → StoreValue
holding store held = record store { held = held }

module _ (store : StoreValue) (log : List Effect) (epoch floor : ℕ) (stands : Stands store log epoch floor) where
  pub begun : IsBegun store.held
  begun =
      let P : Inventory → Type 0 = λ held. 1 < held.next in
      let Q : Inventory → Type 0 = λ held. 0 < held.number in
      record { sound = stands.sound; light = stands.light; next = subst P (sym stands.held) (next-inventory log); number = subst Q (sym stands.held) (number-positive log) }

  reached : floor ≤ (inventory log).number
  reached = let P : Inventory → Type 0 = λ held. floor ≤ held.number in subst P stands.held stands.reached

  pub more : (new : Inventory) (effects : List Effect) → new ≡ after_all store.held effects → IsSound new → Stands (holding store new) (log ++ effects) epoch floor
  more new effects is sound =
      let P : Inventory → Type 0 = λ held. floor ≤ held.number in
      let le : floor ≤ store.held.number = stands.reached in
      let rise : store.held.number ≤ (after_all store.held effects).number = rises-all store.held effects in
      let over : floor ≤ (after_all store.held effects).number = omega arith in
      record {
        held = is ∙ ap (λ held. after_all held effects) stands.held ∙ pruned-all floor (inventory log) effects reached ∙ ap (pruned floor) (sym (inventory-append log effects));
        epoch_is = stands.epoch_is;
        floor_is = stands.floor_is;
        reached = subst P (sym is) over;
        sound = sound.map;
        light = sound.light;
      }

  -- an answer about what the store holds is one about its effects; what is refused, and what is done, does not hang on
  -- old removals
  pub stepped : {T : Type 0} (new : Inventory) (refusal : Inventory → Option StoreFault) (effects : Inventory → List Effect) (Did Told : T → Type 0) (result : Result T StoreFault)
      → Answers (refusal store.held) result Did → refusal (pruned floor (inventory log)) ≡ refusal (inventory log) → effects (pruned floor (inventory log)) ≡ effects (inventory log)
      → (None ≡ refusal store.held → new ≡ after_all store.held (effects store.held) → IsSound new) → ((x : T) → Did x → new ≡ after_all store.held (effects store.held))
      → ((x : T) → Did x → Stands (holding store new) (log ++ effects (inventory log)) epoch floor → Told x)
      → Answers (refusal (inventory log)) result Told
  stepped new refusal effects Did Told (Ok x) answer same-refusal same-effects sound does tells =
      let done : new ≡ after_all store.held (effects store.held) = does x answer.ok.1 in
      let is : effects store.held ≡ effects (inventory log) = ap effects stands.held ∙ same-effects in
      record {
        ok = (sym (ap refusal stands.held ∙ same-refusal) ∙ answer.ok.0, tells x answer.ok.1 (more new (effects (inventory log)) (done ∙ ap (after_all store.held) is) (sound (sym answer.ok.0) done)));
        err = tt;
      }
  stepped new refusal effects Did Told (Err fault) answer same-refusal same-effects sound does tells = record {
    ok = tt;
    err = subst (λ r. (fault ≡ Memory) ⊎ (r ≡ Some fault)) (ap refusal stands.held ∙ same-refusal) answer.err;
  }

  -- the record of what a step made or changed
  pub recorded-after : (effect : Inventory → Effect) (item : Item) → effect (pruned floor (inventory log)) ≡ effect (inventory log) → record_after store.held (effect store.held) ≡ Some item
      → record_after (inventory log) (effect (inventory log)) ≡ Some item
  recorded-after effect item same is =
      sym (ap (λ held. record_after held (effect held)) stands.held ∙ ap (record_after (pruned floor (inventory log))) same ∙ record-pruned floor (inventory log) (effect (inventory log))) ∙ is

  -- what a put hands back
  pub handed-back : (effect : Inventory → Effect) (put : ItemId × Bool) → effect (pruned floor (inventory log)) ≡ effect (inventory log) → put ≡ put_result store.held (effect store.held)
      → put ≡ put_result (inventory log) (effect (inventory log))
  handed-back effect put same is =
      is ∙ ap (λ held. put_result held (effect held)) stands.held ∙ ap (put_result (pruned floor (inventory log))) same ∙ result-pruned floor (inventory log) (effect (inventory log))

  -- the same of an answer that changes nothing
  pub told : {T : Type 0} (refusal : Inventory → Option StoreFault) (Did Told : T → Type 0) (result : Result T StoreFault) → Answers (refusal store.held) result Did
      → refusal (pruned floor (inventory log)) ≡ refusal (inventory log) → ((x : T) → refusal (inventory log) ≡ None → Did x → Told x) → Answers (refusal (inventory log)) result Told
  told refusal Did Told (Ok x) answer same tells =
      let allowed : refusal (inventory log) ≡ None = sym (ap refusal stands.held ∙ same) ∙ answer.ok.0 in
      record { ok = (allowed, tells x allowed answer.ok.1); err = tt }
  told refusal Did Told (Err fault) answer same tells = record {
    ok = tt;
    err = subst (λ r. (fault ≡ Memory) ⊎ (r ≡ Some fault)) (ap refusal stands.held ∙ same) answer.err;
  }

  -- the removals up to a higher floor are forgotten
  pub expired : (new : Inventory) (number to : ℕ) → to ≡ max store.floor (min number store.held.number) → new ≡ pruned to store.held
      → Stands (record store { held = new; floor = to }) log epoch (max floor (min number (inventory log).number))
  expired new number to named is =
      let from : Inventory = inventory log in
      let high : ℕ = max floor (min number from.number) in
      let le : floor ≤ from.number = reached in
      let up : floor ≤ high = grind arith in
      let down : high ≤ from.number = grind arith in
      let count : store.held.number ≡ from.number = ap (λ (held : Inventory). held.number) stands.held in
      let same : to ≡ high = named ∙ ap (λ n. max n (min number store.held.number)) stands.floor_is ∙ ap (λ n. max floor (min number n)) count in
      let P : Inventory → Type 0 = λ held. high ≤ held.number in
      let Q : Inventory → Type 0 = λ held. held.kept ≤ 536870912 in
      let now : new ≡ pruned high from = is ∙ ap (λ n. pruned n store.held) same ∙ ap (pruned high) stands.held ∙ pruned-both floor high from up in
      record {
        held = now;
        epoch_is = stands.epoch_is;
        floor_is = same;
        reached = subst P (sym now) down;
        sound = subst IsItemMap (sym is) (sound-pruned to store.held stands.sound);
        light = subst Q (sym is) stands.light;
      }
