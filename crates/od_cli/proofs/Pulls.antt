-- A fresh pull gives what the drive holds.
use Rattle.std.proofs.Common.{◌≡◌, ℕ, ◌+◌, ◌-◌, ◌≤◌, max, true, false, nat_lt, List, [], length, slice_index, Option, None, sym, ap, ◌∙◌, subst, arith}
use Rattle.std.specs.Map.{keys_of, values_of}
use Rattle.gd_item.specs.Inventory.{Inventory, Effect, inventory}
use Rattle.gd_item.specs.Records.{feed, first_of, last_of}
use Rattle.gd_item.specs.Sound.{IsItemMap, IsWithin}
use Rattle.gd_item.specs.Steps.{state_of, held_by}
use Rattle.gd_item.specs.declared.item.Item.{Item}
use Rattle.gd_item.specs.declared.reply.Page.{Page}
use Rattle.gd_item.specs.declared.step.Step.{Step}
use Rattle.gd_item.proofs.Effects.{number-inventory}
use Rattle.gd_laws.specs.Served.{shown_items}
use Rattle.gd_laws.proofs.Logs.{sound-log}
use Rattle.gd_names.proofs.Small.{not-below, none-given}
use Rattle.std.proofs.Math.Nat.{le-max_right}
use Rattle.std.proofs.lemmas.List.{take_all}
use Rattle.std.proofs.lemmas.List.Elements.{All-weaker}
use Rattle.std.proofs.lemmas.Map.Entries.{length-values_of}
use Rattle.gd_laws.proofs.Marks.{is-marked}
use Rattle.gd_store.specs.Stands.{StoreValue, Stands, pruned}
use Rattle.gd_item.specs.Records.{records_of}
use Rattle.od_mirror.specs.Pulled.{Pulled, begun, after_page, with_records, nodes, is_bad, IsLeastBad, taken_of}
use Rattle.od_mirror.specs.declared.mirror.Taken.TheVariants.{Last}
use Rattle.od_pages.proofs.Pulling.{feed-gives-all, link-items}
use Rattle.od_pages.proofs.Standing.{records-fit}
use Rattle.od_cli.specs.Pulled.{whole_items, IsWhole}
use Rattle.od_cli.specs.Pulling.{HasAll}
use Rattle.od_cli.specs.Worlds.{Holds}

-- where no more follow all were given
all-given : (most : ℕ) (changes : List (ℕ × Item)) → last_of most changes ≡ None → first_of most changes ≡ values_of changes
all-given most changes none =
    let few : length changes ≤ most = not-below most (length changes) (none-given (nat_lt most (length changes)) (slice_index (keys_of changes) (most - 1)) none) in
    let same : length (values_of changes) ≡ length changes = length-values_of changes in
    take_all most (values_of changes) (omega arith)

-- the records are those of a fresh enumeration
pub items-are : (items : List Item) (more : Option ℕ) (number most : ℕ) (log : List Effect) → number ≡ length log + 1
    → items ≡ first_of most (feed (inventory log) 0 number) → more ≡ last_of most (feed (inventory log) 0 number) → more ≡ None → items ≡ whole_items (inventory log)
items-are items more number most log is given last none =
    let own : number ≡ (inventory log).number = is ∙ sym (number-inventory log) in
    given ∙ all-given most (feed (inventory log) 0 number) (sym last ∙ none) ∙ ap (λ n. values_of (feed (inventory log) 0 n)) own

-- nothing that a store forgot is in a fresh enumeration
pub reached : (held : StoreValue) (log : List Effect) (epoch floor number : ℕ) → Stands held log epoch floor → number ≡ length log + 1 → floor ≤ max 0 number
reached held log epoch floor number stands is =
    let P : Inventory → Type 0 = λ h. floor ≤ h.number in
    let own : number ≡ (inventory log).number = is ∙ sym (number-inventory log) in
    let below : floor ≤ (inventory log).number = subst P stands.held stands.reached in
    let up : number ≤ max 0 number = le-max_right 0 number in
    omega arith

-- what the store's effects make is a tree
sound-whole : (floor : ℕ) (held : Inventory) → IsItemMap (pruned floor held) → IsItemMap held
sound-whole floor held sound = record {
  within = All-weaker (IsWithin (pruned floor held)) (IsWithin held) (λ item w. record { above = w.above; below = w.below; later = w.later; done = w.done }) held.items sound.within;
  numbers = sound.numbers;
  changes = sound.changes;
  led = sound.led;
  told_apart = sound.told_apart;
}

pub sound-of : (held : StoreValue) (log : List Effect) → Holds held log → IsItemMap (inventory log)
sound-of held log holds = sound-whole holds.1 (inventory log) (subst IsItemMap holds.2.held holds.2.sound)

-- a store's page of a fresh enumeration is one of a drive
pub whole-of : (page : Page) (held : StoreValue) (log : List Effect) → Holds held log → page.items ≡ whole_items (inventory log) → taken_of page.link ≡ Last → IsWhole page
whole-of page held log stands is last = record { effects = log; sound = sound-of held log stands; items = is; last = last }

-- what was pulled is what the page has
pub pulled-is : (none : List Item) (page : Page) (before after : Pulled) → none ≡ [] → before ≡ begun none None → after ≡ after_page before page → values_of after.items ≡ values_of (with_records [] page.items)
pulled-is none page before after empty start taken =
    ap (λ (p : Pulled). values_of p.items) taken ∙ ap values_of (link-items (with_records before.items page.items) page.link)
    ∙ ap (λ (p : Pulled). values_of (with_records p.items page.items)) (start ∙ ap (λ (xs : List Item). begun xs None) empty)

-- the records of a fresh enumeration give what the drive holds
pub records-are : (items : List Item) (held : StoreValue) (log : List Effect) → Holds held log → items ≡ whole_items (inventory log) → values_of (with_records [] items) ≡ records_of (inventory log)
records-are items held log stands is =
    ap (λ (xs : List Item). values_of (with_records [] xs)) is ∙ feed-gives-all (inventory log) (sound-of held log stands) (is-marked log) (inventory log).number

-- so its pages are never bad
pub never-bad : (page : Page) (after : Pulled) (number : ℕ) → IsWhole page → values_of after.items ≡ values_of (with_records [] page.items) → IsLeastBad (nodes (values_of after.items)) number → ⊥
never-bad page after number whole is bad =
    let drive : Inventory = inventory whole.effects in
    let gives : values_of (with_records [] page.items) ≡ records_of drive =
    ap (λ (xs : List Item). values_of (with_records [] xs)) whole.items ∙ feed-gives-all drive whole.sound (is-marked whole.effects) drive.number in
    let fit : is_bad (nodes (records_of drive)) number ≡ false = records-fit drive whole.sound number in
    let here : is_bad (nodes (values_of after.items)) number ≡ is_bad (nodes (records_of drive)) number = ap (λ (xs : List Item). is_bad (nodes xs) number) (is ∙ gives) in
    let yes : is_bad (nodes (values_of after.items)) number ≡ true = bad.bad in
    cc (yes, here, fit)

-- a pull that has ended gives what the drive holds
pub all-are : (log : List Step) (pulled : Pulled) → HasAll (state_of log) pulled → (state_of log).plain ≡ false → values_of pulled.items ≡ values_of (with_records [] (whole_items (held_by log)))
all-are log pulled all whole =
    ap values_of all.items_are ∙ ap (λ b. values_of (with_records [] (shown_items b (whole_items (held_by log))))) whole

-- and is never bad
pub never-bad-pull : (log : List Step) (pulled : Pulled) (number : ℕ) → HasAll (state_of log) pulled → (state_of log).plain ≡ false → IsLeastBad (nodes (values_of pulled.items)) number → ⊥
never-bad-pull log pulled number all whole bad =
    let drive : Inventory = held_by log in
    let gives : values_of pulled.items ≡ records_of drive = all-are log pulled all whole ∙ feed-gives-all drive (sound-log log) (is-marked (state_of log).effects) drive.number in
    let fit : is_bad (nodes (records_of drive)) number ≡ false = records-fit drive (sound-log log) number in
    let here : is_bad (nodes (values_of pulled.items)) number ≡ is_bad (nodes (records_of drive)) number = ap (λ (xs : List Item). is_bad (nodes xs) number) gives in
    let yes : is_bad (nodes (values_of pulled.items)) number ≡ true = bad.bad in
    cc (yes, here, fit)
