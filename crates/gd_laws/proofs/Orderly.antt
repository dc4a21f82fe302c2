-- What a drive holds stays in order over each effect that is not refused, case by case.
use Rattle.std.proofs.Common.{◌≡◌, ℕ, ◌+◌, ◌^◌, ◌<◌, ◌≤◌, Bool, false, not, nat_eq, List, [], ◌∷◌, length, None, refl, sym, ap, ◌∙◌, subst, arith}
use Rattle.std.specs.List.{All}
use Rattle.std.proofs.lemmas.List.{length-map, length_push, map_push}
use Rattle.std.proofs.lemmas.List.Elements.{All-nil, All-cons, All-push, All-append, All-filter, All-map, All-weaker}
use Rattle.std.proofs.lemmas.List.Sums.{length-filter, count_by-le-length}
use Rattle.gd_names.specs.Names.{name_fault}
use Rattle.gd_item.specs.Inventory.{Inventory, Effect, MadeFolder, PutNew, PutOver, Moved, Removed, new_drive, made_folder, made_file, with_bytes, with_place, changed, after, after_all}
use Rattle.gd_item.specs.Nodes.{Node, live_node, is_folder, is_some_folder, node_at}
use Rattle.gd_item.specs.Sound.{IsWithin, IsItemMap}
use Rattle.gd_item.specs.Trees.{nodes_of}
use Rattle.gd_item.specs.Versions.{put_by, accepted_after}
use Rattle.gd_item.specs.declared.live.LiveItem.{LiveItem}
use Rattle.gd_item.specs.declared.live.Version.{Version}
use Rattle.gd_item.proofs.Moving.{sound-moved}
use Rattle.gd_item.proofs.Pairs.{All-changed, numbers-changed}
use Rattle.gd_item.proofs.Removing.{sound-removed}
use Rattle.gd_item.proofs.Soundness.{sound-new, with_added, sound-added, sound-over, nodes-over}
use Rattle.gd_laws.proofs.Found.{MayStand, MayMove, Finds, AllFind}
use Rattle.gd_laws.proofs.Paths.{AreFitting, fits-nothing, fits-added, fits-moved, fits-removed}
use Rattle.std.proofs.lemmas.Bool.{or_parts}

-- what holds of the items of a drive and of its numbers
pub record IsOrderly (held : Inventory) : Type 0 where
  pub tree : IsItemMap held
  pub few : length held.items < 100000
  pub names : All (λ (item : LiveItem). name_fault item.name ≡ None) held.items
  pub paths : AreFitting (nodes_of held)
  pub begun : 0 < held.number
  pub next : 1 < held.next
  pub number : held.number < 2 ^ 64

abbrev IsNamed : LiveItem → Type 0
IsNamed item = name_fault item.name ≡ None

pub orderly-new : IsOrderly new_drive
orderly-new = record {
  tree = sound-new;
  few = omega arith;
  names = All-nil IsNamed;
  paths = fits-nothing;
  begun = omega arith;
  next = omega arith;
  number = omega arith;
}

-- ---- an item that is made
orderly-added : (held : Inventory) (item : LiveItem) (kept : ℕ) → IsOrderly held → held.number + 1 < 2 ^ 64 → MayStand held item.parent item.name → item.number ≡ held.next → item.change ≡ held.number + 1
    → IsOrderly (with_added held item kept)
orderly-added held item kept order early may is_next is_change =
    let begun : 0 < held.number = order.begun in
    let next : 1 < held.next = order.next in
    let few : length held.items + 1 < 100000 = may.room in
    let highest : All (λ (x : LiveItem). x.number < item.number) held.items =
    All-weaker (IsWithin held) (λ x. x.number < item.number) (λ x h. let b : x.number < held.next = h.below in omega arith) held.items order.tree.within in
    record {
      tree = sound-added held item kept order.tree next begun is_next is_change may.there may.folder may.free;
      few = omega (arith, few, length_push held.items item);
      names = All-push IsNamed held.items item order.names may.named;
      paths = subst AreFitting (sym (map_push live_node held.items item))
          (fits-added (nodes_of held) (live_node item) item.parent order.tree.led (omega arith) (All-map (λ (node : Node). node.number < item.number) live_node held.items highest) refl
          may.there may.folder may.short order.paths);
      begun = omega arith;
      next = omega arith;
      number = early;
    }

-- ---- an item that is changed
long-changed : (number : ℕ) (f : LiveItem → LiveItem) → ((x : LiveItem) → x.number ≡ (f x).number) → (items : List LiveItem) → length (changed number f items) ≡ length items
long-changed number f keeps items =
    let number_of : LiveItem → ℕ = λ (item : LiveItem). item.number in
    sym (length-map (changed number f items) number_of) ∙ sym (ap length (numbers-changed number f keeps items)) ∙ length-map items number_of

orderly-over : (held : Inventory) (number : ℕ) (bytes : List ℕ) → IsOrderly held → held.number + 1 < 2 ^ 64 → is_folder number (nodes_of held) ≡ false → IsOrderly (after held (PutOver number bytes))
orderly-over held number bytes order early file =
    let f : LiveItem → LiveItem = with_bytes (held.number + 1) bytes in
    let few : length held.items < 100000 = order.few in
    record {
      tree = sound-over held number bytes order.tree order.begun file;
      few = omega (arith, few, long-changed number f (λ x. refl) held.items);
      names = All-changed IsNamed number f held.items order.names order.names;
      paths = subst AreFitting (nodes-over number (held.number + 1) bytes held.items (or_parts (nat_eq number 1) (is_some_folder (node_at number (nodes_of held))) file).1) order.paths;
      begun = omega arith;
      next = order.next;
      number = early;
    }

orderly-moved : (held : Inventory) (number parent : ℕ) (name : List ℕ) → IsOrderly held → held.number + 1 < 2 ^ 64 → MayMove held number parent name → IsOrderly (after held (Moved number parent name))
orderly-moved held number parent name order early may =
    let f : LiveItem → LiveItem = with_place (held.number + 1) parent name in
    let few : length held.items < 100000 = order.few in
    record {
      tree = sound-moved held number parent name order.tree order.begun may.not_root may.there may.folder may.outside may.free;
      few = omega (arith, few, long-changed number f (λ x. refl) held.items);
      names = All-changed IsNamed number f held.items order.names (λ k d lt. may.named);
      paths = fits-moved held number parent name may.short order.paths;
      begun = omega arith;
      next = order.next;
      number = early;
    }

-- ---- an item that is removed
orderly-removed : (held : Inventory) (number : ℕ) → IsOrderly held → held.number + 1 < 2 ^ 64 → All (λ (item : LiveItem). nat_eq item.parent number ≡ false) held.items → IsOrderly (after held (Removed number))
orderly-removed held number order early empty =
    let keep : LiveItem → Bool = λ (item : LiveItem). not (nat_eq item.number number) in
    let few : length held.items < 100000 = order.few in
    record {
      tree = sound-removed held number order.tree order.begun empty;
      few = omega (arith, few, length-filter keep held.items, count_by-le-length keep held.items);
      names = All-filter keep IsNamed held.items order.names;
      paths = fits-removed held number order.paths;
      begun = omega arith;
      next = order.next;
      number = early;
    }

-- ---- one effect, and several
pub orderly-after : (held : Inventory) (effect : Effect) → IsOrderly held → held.number + 1 < 2 ^ 64 → Finds held effect → IsOrderly (after held effect)
orderly-after held (MadeFolder parent name) order early may =
    orderly-added held (made_folder (held.number + 1) held.next parent name) held.kept order early may refl refl
orderly-after held (PutNew parent name bytes) order early may =
    orderly-added held (made_file (held.number + 1) held.next parent name bytes) (held.kept + length bytes) order early may.0 refl refl
orderly-after held (PutOver number bytes) order early may = orderly-over held number bytes order early may.0
orderly-after held (Moved number parent name) order early may = orderly-moved held number parent name order early may
orderly-after held (Removed number) order early empty = orderly-removed held number order early empty

pub orderly-all : (held : Inventory) (effects : List Effect) → IsOrderly held → AllFind held effects → IsOrderly (after_all held effects)
orderly-all held [] order finds = order
orderly-all held (effect ∷ effects) order finds = orderly-all (after held effect) effects (orderly-after held effect order finds.0 finds.1) finds.2

-- the tree alone, for a drive that holds one
pub tree-after : (held : Inventory) (effect : Effect) → IsItemMap held → 1 < held.next → 0 < held.number → Finds held effect → IsItemMap (after held effect)
tree-after held (MadeFolder parent name) tree next begun may =
    sound-added held (made_folder (held.number + 1) held.next parent name) held.kept tree next begun refl refl may.there may.folder may.free
tree-after held (PutNew parent name bytes) tree next begun may =
    sound-added held (made_file (held.number + 1) held.next parent name bytes) (held.kept + length bytes) tree next begun refl refl may.0.there may.0.folder may.0.free
tree-after held (PutOver number bytes) tree next begun may = sound-over held number bytes tree begun may.0
tree-after held (Moved number parent name) tree next begun may = sound-moved held number parent name tree begun may.not_root may.there may.folder may.outside may.free
tree-after held (Removed number) tree next begun empty = sound-removed held number tree begun empty

-- ---- the bytes of the versions
abbrev IsSmall : Version → Type 0
IsSmall version = length version.bytes ≤ 67108864

small-put : (held : Inventory) (effect : Effect) → Finds held effect → All IsSmall (put_by held effect)
small-put held (MadeFolder parent name) may = All-nil IsSmall
small-put held (PutNew parent name bytes) may = All-cons IsSmall (record { item = held.next; content = held.number + 1; bytes = bytes }) [] may.1 (All-nil IsSmall)
small-put held (PutOver number bytes) may = All-cons IsSmall (record { item = number; content = held.number + 1; bytes = bytes }) [] may.1 (All-nil IsSmall)
small-put held (Moved number parent name) may = All-nil IsSmall
small-put held (Removed number) may = All-nil IsSmall

pub small-puts : (held : Inventory) (effects : List Effect) → AllFind held effects → All (λ (version : Version). length version.bytes ≤ 67108864) (accepted_after held effects)
small-puts held [] finds = All-nil IsSmall
small-puts held (effect ∷ effects) finds =
    All-append IsSmall (put_by held effect) (accepted_after (after held effect) effects) (small-put held effect finds.1) (small-puts (after held effect) effects finds.2)

-- how many bytes effects bring
abbrev pub brought : Effect → ℕ
brought (MadeFolder parent name) = 0
brought (PutNew parent name bytes) = length bytes
brought (PutOver number bytes) = length bytes
brought (Moved number parent name) = 0
brought (Removed number) = 0

abbrev pub brought_by : List Effect → ℕ
brought_by [] = 0
brought_by (effect ∷ effects) = brought effect + brought_by effects

pub kept-after : (held : Inventory) (effect : Effect) → (after held effect).kept ≡ held.kept + brought effect
kept-after held (MadeFolder parent name) = omega arith
kept-after held (PutNew parent name bytes) = refl
kept-after held (PutOver number bytes) = refl
kept-after held (Moved number parent name) = omega arith
kept-after held (Removed number) = omega arith

pub kept-all : (held : Inventory) (effects : List Effect) → (after_all held effects).kept ≡ held.kept + brought_by effects
kept-all held [] = omega arith
kept-all held (effect ∷ effects) = omega (arith, kept-all (after held effect) effects, kept-after held effect)
