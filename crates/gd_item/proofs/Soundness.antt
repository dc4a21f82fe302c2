-- What a drive holds stays a tree where an item is made and where a file gets new bytes.
use Rattle.std.proofs.Common.{◌≡◌, ◌≢◌, ℕ, ◌+◌, ◌<◌, ◌≤◌, Bool, true, false, ◌&&◌, not, cond, nat_eq, nat_lt, List, [], ◌∷◌, ◌++◌, length, map, get_or, Some, refl, sym, ap, subst, arith}
use Rattle.std.specs.List.{All}
use Rattle.std.proofs.lemmas.Bool.{or_parts}
use Rattle.std.proofs.lemmas.List.{map_push}
use Rattle.std.proofs.lemmas.List.Elements.{All-nil, All-push, All-map, All-weaker}
use Rattle.std.proofs.lemmas.List.Quantifiers.{all_pairs_push}
use Rattle.gd_names.specs.Settling.{is_taken}
use Rattle.gd_names.specs.Caseless.{equal_caseless}
use Rattle.gd_item.specs.declared.live.LiveItem.{LiveItem}
use Rattle.gd_item.specs.Inventory.{Inventory, Effect, MadeFolder, PutNew, PutOver, new_drive, made_folder, made_file, with_bytes, changed, after, inventory}
use Rattle.gd_item.specs.Nodes.{Node, live_node, node_at, is_folder, is_some_folder, is_twin}
use Rattle.gd_item.specs.Refusals.{is_there, siblings_in}
use Rattle.gd_item.specs.Sound.{IsWithin, IsItemMap}
use Rattle.gd_item.specs.Trees.{nodes_of}
use Rattle.gd_names.proofs.Each.{AllPairs-nil}
use Rattle.gd_item.proofs.Adding.{IsLed, led-push, has_name_in, apart}
use Rattle.gd_item.proofs.Effects.{inventory-snoc, next-inventory, number-positive}
use Rattle.gd_item.proofs.Pairs.{AllPairs-same_map, AllPairs-changed, All-changed}

pub sound-new : IsItemMap new_drive
sound-new = record {
  within = All-nil (IsWithin new_drive);
  numbers = AllPairs-nil (λ (x y : LiveItem). x.number < y.number);
  changes = AllPairs-nil (λ (x y : LiveItem). x.change ≢ y.change);
  led = λ number there. absurd cc;
  told_apart = AllPairs-nil (λ (x y : LiveItem). is_twin (live_node y) (live_node x) ≡ false);
}

no-twin : (a b c : Bool) → (b && c) ≡ false → (a && b && c) ≡ false
no-twin true b c h = h
no-twin false b c h = refl

-- an item that another does not match in folder and name is no twin of it
pub not-twin : (new old : LiveItem) → has_name_in new.parent new.name old ≡ false → is_twin (live_node new) (live_node old) ≡ false
not-twin new old h =
    no-twin (nat_lt old.number new.number && not (nat_eq old.number 1) && not (nat_eq new.number 1)) (nat_eq old.parent new.parent) (equal_caseless old.name new.name) h

-- a drive with one more item
abbrev pub with_added : Inventory → LiveItem → ℕ → Inventory
with_added held item kept = record held { number = held.number + 1; next = held.next + 1; items = held.items ++ item ∷ []; kept = kept }

-- an item that is made in a folder that is there, with a free name and the next numbers
pub sound-added : (held : Inventory) (item : LiveItem) (kept : ℕ) → IsItemMap held → 1 < held.next → 0 < held.number → item.number ≡ held.next → item.change ≡ held.number + 1
    → is_there item.parent (nodes_of held) ≡ true → is_folder item.parent (nodes_of held) ≡ true → is_taken (siblings_in item.parent held.items) item.name ≡ false → IsItemMap (with_added held item kept)
sound-added held item kept sound next number is_next is_changed there folder free =
    let grown : Inventory = with_added held item kept in
    let below : All (λ (x : LiveItem). x.number < item.number) held.items =
    All-weaker (IsWithin held) (λ x. x.number < item.number) (λ x h. let b : x.number < held.next = h.below in omega arith) held.items sound.within in
    let older : All (λ (x : LiveItem). x.change ≢ item.change) held.items =
    All-weaker (IsWithin held) (λ x. x.change ≢ item.change) (λ x h e. let d : x.change ≤ held.number = h.done in omega arith) held.items sound.within in
    let others : All (λ (x : LiveItem). has_name_in item.parent item.name x ≡ false) held.items = apart item.parent item.name held.items free in
    let kept_within : All (IsWithin grown) held.items =
    All-weaker (IsWithin held) (IsWithin grown)
    (λ x h. record {
      above = h.above;
      below = let b : x.number < held.next = h.below in omega arith;
      later = h.later;
      done = let d : x.change ≤ held.number = h.done in omega arith;
    }) held.items sound.within in
    let led : IsLed (map live_node held.items ++ live_node item ∷ []) =
    led-push (map live_node held.items) (live_node item) item.parent sound.led (omega arith) (All-map (λ node. node.number < item.number) live_node held.items below) refl there folder in
    record {
      within = All-push (IsWithin grown) held.items item kept_within (record { above = omega arith; below = omega arith; later = omega arith; done = omega arith });
      numbers = all_pairs_push (λ (x y : LiveItem). x.number < y.number) held.items item sound.numbers below;
      changes = all_pairs_push (λ (x y : LiveItem). x.change ≢ y.change) held.items item sound.changes older;
      led = subst IsLed (sym (map_push live_node held.items item)) led;
      told_apart = all_pairs_push (λ (x y : LiveItem). is_twin (live_node y) (live_node x) ≡ false) held.items item sound.told_apart
          (λ k d lt. not-twin item (get_or held.items k d) (others k d lt));
    }

-- a made folder
pub sound-folder : (held : Inventory) (parent : ℕ) (name : List ℕ) → IsItemMap held → 1 < held.next → 0 < held.number → is_there parent (nodes_of held) ≡ true → is_folder parent (nodes_of held) ≡ true
    → is_taken (siblings_in parent held.items) name ≡ false → IsItemMap (after held (MadeFolder parent name))
sound-folder held parent name sound next number there folder free =
    sound-added held (made_folder (held.number + 1) held.next parent name) held.kept sound next number refl refl there folder free

-- a new file
pub sound-file : (held : Inventory) (parent : ℕ) (name bytes : List ℕ) → IsItemMap held → 1 < held.next → 0 < held.number → is_there parent (nodes_of held) ≡ true → is_folder parent (nodes_of held) ≡ true
    → is_taken (siblings_in parent held.items) name ≡ false → IsItemMap (after held (PutNew parent name bytes))
sound-file held parent name bytes sound next number there folder free =
    sound-added held (made_file (held.number + 1) held.next parent name bytes) (held.kept + length bytes) sound next number refl refl there folder free

-- new bytes of a file leave the nodes as they are
pub nodes-over : (number change : ℕ) (bytes : List ℕ) (items : List LiveItem) → is_some_folder (node_at number (map live_node items)) ≡ false
    → map live_node items ≡ map live_node (changed number (with_bytes change bytes) items)
nodes-over number change bytes [] = λ file. refl
nodes-over number change bytes (item ∷ items) =
    let rest : List Node = map live_node items in
    let over : List LiveItem = changed number (with_bytes change bytes) items in
    elim (nat_eq item.number number) as (λ b. is_some_folder (cond b (Some (live_node item)) (node_at number rest)) ≡ false → live_node item ∷ rest ≡ map live_node (cond b (with_bytes change bytes item ∷ items) (item ∷ over))) [
      | true ↦ (λ file. ap (λ b. record { number = item.number; parent = Some item.parent; name = item.name; folder = b } ∷ rest) file)
      | false ↦ (λ file. ap (λ nodes. live_node item ∷ nodes) (nodes-over number change bytes items file))
    ]

-- new bytes of a file
pub sound-over : (held : Inventory) (number : ℕ) (bytes : List ℕ) → IsItemMap held → 0 < held.number → is_folder number (nodes_of held) ≡ false → IsItemMap (after held (PutOver number bytes))
sound-over held number bytes sound positive file =
    let f : LiveItem → LiveItem = with_bytes (held.number + 1) bytes in
    let grown : Inventory = after held (PutOver number bytes) in
    let same : map live_node held.items ≡ map live_node (changed number f held.items) =
    nodes-over number (held.number + 1) bytes held.items (or_parts (nat_eq number 1) (is_some_folder (node_at number (nodes_of held))) file).1 in
    record {
      within = All-changed (IsWithin grown) number f held.items
          (All-weaker (IsWithin held) (IsWithin grown)
          (λ x h. record { above = h.above; below = h.below; later = h.later; done = let d : x.change ≤ held.number = h.done in omega arith }) held.items sound.within)
          (All-weaker (IsWithin held) (λ x. IsWithin grown (f x))
          (λ x h. record { above = h.above; below = h.below; later = omega arith; done = omega arith }) held.items sound.within);
      numbers = AllPairs-same_map live_node (λ (x y : Node). x.number < y.number) held.items (changed number f held.items) same sound.numbers;
      changes = AllPairs-changed (λ (x y : LiveItem). x.change ≢ y.change) number f held.items
          (All-weaker (IsWithin held) (λ x. (other : LiveItem) → ((f other).change ≢ x.change) × (x.change ≢ (f other).change))
          (λ x h other. let d : x.change ≤ held.number = h.done in ((λ e. omega arith), (λ e. omega arith))) held.items sound.within)
          sound.changes;
      led = subst IsLed same sound.led;
      told_apart = AllPairs-same_map live_node (λ (x y : Node). is_twin y x ≡ false) held.items (changed number f held.items) same sound.told_apart;
    }

-- the same of what a drive holds whose effects are these
pub sound-folder-log : (effects : List Effect) (parent : ℕ) (name : List ℕ) → IsItemMap (inventory effects) → is_there parent (nodes_of (inventory effects)) ≡ true
    → is_folder parent (nodes_of (inventory effects)) ≡ true → is_taken (siblings_in parent (inventory effects).items) name ≡ false → IsItemMap (inventory (effects ++ MadeFolder parent name ∷ []))
sound-folder-log effects parent name sound there folder free =
    subst IsItemMap (sym (inventory-snoc effects (MadeFolder parent name)))
    (sound-folder (inventory effects) parent name sound (next-inventory effects) (number-positive effects) there folder free)

pub sound-file-log : (effects : List Effect) (parent : ℕ) (name bytes : List ℕ) → IsItemMap (inventory effects) → is_there parent (nodes_of (inventory effects)) ≡ true
    → is_folder parent (nodes_of (inventory effects)) ≡ true → is_taken (siblings_in parent (inventory effects).items) name ≡ false → IsItemMap (inventory (effects ++ PutNew parent name bytes ∷ []))
sound-file-log effects parent name bytes sound there folder free =
    subst IsItemMap (sym (inventory-snoc effects (PutNew parent name bytes)))
    (sound-file (inventory effects) parent name bytes sound (next-inventory effects) (number-positive effects) there folder free)

pub sound-over-log : (effects : List Effect) (number : ℕ) (bytes : List ℕ) → IsItemMap (inventory effects) → is_folder number (nodes_of (inventory effects)) ≡ false
    → IsItemMap (inventory (effects ++ PutOver number bytes ∷ []))
sound-over-log effects number bytes sound file =
    subst IsItemMap (sym (inventory-snoc effects (PutOver number bytes))) (sound-over (inventory effects) number bytes sound (number-positive effects) file)
