-- The tree of a drive has its items at their paths, and a folder above each of them.
use Rattle.std.proofs.Common.{◌≡◌, ◌↔◌, inl, inr, ℕ, Bool, true, false, cond, nat_eq, List, [], ◌∷◌, Option, Some, None, ap, sym, subst, ◌∙◌}
use Rattle.std.specs.List.{All, AllByRecursion, Contains}
use Rattle.std.proofs.lemmas.List.Elements.{All-from_recursion}
use Rattle.gd_names.specs.Ordered.{in_order}
use Rattle.gd_names.proofs.Each.{each-so}
use Rattle.gd_names.proofs.Keys.{all-mapped, in-mapped}
use Rattle.gd_names.proofs.Mapped.{mapped, in-order-mapped}
use Rattle.gd_names.proofs.Ordered.{Path, In, all-in, in-order-has}
use Rattle.gd_item.specs.Inventory.{Inventory, live_at}
use Rattle.gd_item.specs.Nodes.{path_of, number_at}
use Rattle.gd_item.specs.Places.{names_above}
use Rattle.gd_item.specs.Sound.{IsItemMap}
use Rattle.gd_item.specs.Steps.{held_by}
use Rattle.gd_item.specs.Trees.{at_path, placed, nodes_of, tree_of}
use Rattle.gd_item.specs.declared.live.LiveItem.{LiveItem}
use Rattle.gd_item.specs.declared.step.Step.{Step}
use Rattle.gd_laws.specs.Placed.{placed_items, HasAt, StandsIn}
use Rattle.gd_laws.proofs.Every.{every-drive}
use Rattle.gd_laws.proofs.Leading.{leads}
use Rattle.gd_laws.proofs.Members.{Has, each-has, some-is, has-some, any-from-some, some-from-any, contains-from-has, has-from-contains}
use Rattle.gd_laws.proofs.PlacedItems.{item_bytes, IsHeld, IsAt, IsLed, all-held, all-at, all-led, all-placed}

-- ---- entries of a list
module _ {X : Type 0} where
  has-from-in : (entry : Path × X) (entries : List (Path × X)) → In entry entries → Has entry entries
  has-from-in entry [] is = absurd is
  has-from-in entry (first ∷ entries) (inl same) = inl same
  has-from-in entry (first ∷ entries) (inr more) = inr (has-from-in entry entries more)

  in-from-has : (entry : Path × X) (entries : List (Path × X)) → Has entry entries → In entry entries
  in-from-has entry [] has = absurd has
  in-from-has entry (first ∷ entries) (inl same) = inl same
  in-from-has entry (first ∷ entries) (inr more) = inr (in-from-has entry entries more)

-- an entry that is looked at in another way stems from one
from-mapped : (path : Path) (bytes : Option (List ℕ)) (entries : List (Path × LiveItem)) → In (path, bytes) (mapped item_bytes entries) → (item : LiveItem) × In (path, item) entries × (item.bytes ≡ bytes)
from-mapped path bytes [] is = absurd is
from-mapped path bytes (first ∷ entries) (inl same) = (
  first.1,
  inl (ap (λ (e : Path × Option (List ℕ)). (e.0, first.1)) same),
  ap (λ (e : Path × Option (List ℕ)). e.1) (sym same),
)
from-mapped path bytes (first ∷ entries) (inr more) =
    let rest = from-mapped path bytes entries more in (rest.0, inr rest.1, rest.2)

tree-is : (held : Inventory) → tree_of held ≡ mapped item_bytes (in_order (placed_items held))
tree-is held = in-order-mapped item_bytes (placed_items held)

-- ---- an item that lives is one of the items
live-has-if : (b : Bool) (n : ℕ) (first item : LiveItem) (items : List LiveItem) → cond b (Some first) (live_at n items) ≡ Some item → (live_at n items ≡ Some item → Has item items) → Has item (first ∷ items)
live-has-if true n first item items is later = let same : first ≡ item = cc is in inl (sym same)
live-has-if false n first item items is later = inr (later is)

live-has : (n : ℕ) (item : LiveItem) (items : List LiveItem) → live_at n items ≡ Some item → Has item items
live-has n item [] is = absurd (cc is)
live-has n item (first ∷ items) is = live-has-if (nat_eq first.number n) n first item items is (live-has n item items)

-- ---- an item at its path
module _ (held : Inventory) (sound : IsItemMap held) (all : AllByRecursion (IsHeld held) held.items) where
  -- what stands at a path
  abbrev live_of : Option ℕ → Option LiveItem
  live_of None = None
  live_of (Some number) = live_at number held.items

  abbrev item_at : Path → Option LiveItem
  item_at path = live_of (number_at path (nodes_of held))

  stands : (entry : Path × LiveItem) → IsAt held entry → item_at entry.0 ≡ Some entry.1
  stands entry at = ap live_of (leads held sound entry.1.number entry.0 at.path) ∙ (at.item).live

  all-stand : AllByRecursion (λ (entry : Path × LiveItem). item_at entry.0 ≡ Some entry.1) (placed_items held)
  all-stand = each-so (IsAt held) (λ (entry : Path × LiveItem). item_at entry.0 ≡ Some entry.1) stands (placed_items held) (all-placed held held.items all)

  in-path : (path : Path) (at : Option Path) (x item : LiveItem) (entries : List (Path × LiveItem)) → at ≡ Some path → x ≡ item → In (path, item) (at_path at x entries)
  in-path path None x item entries is same = absurd (cc is)
  in-path path (Some at) x item entries is same =
      let here : at ≡ path = cc is in inl (ap (λ (p : Path). (p, item)) (sym here) ∙ ap (λ (i : LiveItem). (at, i)) (sym same))

  in-later : (path : Path) (at : Option Path) (x item : LiveItem) (entries : List (Path × LiveItem)) → In (path, item) entries → In (path, item) (at_path at x entries)
  in-later path None x item entries is = is
  in-later path (Some at) x item entries is = inr is

  in-placed : (path : Path) (item : LiveItem) (items : List LiveItem) → path_of (nodes_of held) item.number ≡ Some path → Has item items
      → In (path, item) (placed (λ (i : LiveItem). i.number) (nodes_of held) items)
  in-placed path item [] led has = absurd has
  in-placed path item (first ∷ items) led (inl same) =
      in-path path (path_of (nodes_of held) first.number) first item (placed (λ (i : LiveItem). i.number) (nodes_of held) items)
      (ap (λ (i : LiveItem). path_of (nodes_of held) i.number) (sym same) ∙ led) (sym same)
  in-placed path item (first ∷ items) led (inr more) =
      in-later path (path_of (nodes_of held) first.number) first item (placed (λ (i : LiveItem). i.number) (nodes_of held) items) (in-placed path item items led more)

  in-tree : (path : Path) (item : LiveItem) → path_of (nodes_of held) item.number ≡ Some path → Has item held.items → In (path, item.bytes) (tree_of held)
  in-tree path item led has =
      let here : IsHeld held item = each-has (IsHeld held) item held.items all has in
      let at : IsAt held (path, item) = record { item = here; path = led } in
      subst (In (path, item.bytes)) (sym (tree-is held))
      (in-mapped item_bytes (path, item) (in_order (placed_items held))
      (in-order-has item_at (path, item) [] (placed_items held) all-stand (stands (path, item) at) (in-placed path item held.items led has)))

  tree-has : (path : Path) (bytes : Option (List ℕ)) → HasAt held path bytes → Has (path, bytes) (tree_of held)
  tree-has path bytes has =
      let P : LiveItem → Type 0 = λ item. (path_of (nodes_of held) item.number ≡ Some path) × (item.bytes ≡ bytes) in
      let found = has-some P held.items (some-from-any P held.items has) in
      has-from-in (path, bytes) (tree_of held) (subst (λ (b : Option (List ℕ)). In (path, b) (tree_of held)) (found.2).1 (in-tree path found.0 (found.2).0 found.1))

  has-tree : (path : Path) (bytes : Option (List ℕ)) → Has (path, bytes) (tree_of held) → HasAt held path bytes
  has-tree path bytes has =
      let found = from-mapped path bytes (in_order (placed_items held)) (subst (In (path, bytes)) (tree-is held) (in-from-has (path, bytes) (tree_of held) has)) in
      let at : IsAt held (path, found.0) = all-in (IsAt held) (path, found.0) (in_order (placed_items held)) (all-at held all) found.1 in
      any-from-some (λ (item : LiveItem). (path_of (nodes_of held) item.number ≡ Some path) × (item.bytes ≡ bytes)) held.items
      (some-is (λ (item : LiveItem). (path_of (nodes_of held) item.number ≡ Some path) × (item.bytes ≡ bytes)) found.0 held.items (at.path, found.2)
      (live-has (found.0).number found.0 held.items (at.item).live))

  pub tree-items : (path : Path) (bytes : Option (List ℕ)) → Contains (tree_of held) (path, bytes) ↔ HasAt held path bytes
  tree-items path bytes = (
    λ there. has-tree path bytes (has-from-contains (path, bytes) (tree_of held) there),
    λ has. contains-from-has (path, bytes) (tree_of held) (tree-has path bytes has),
  )

  -- ---- a folder above each
  stands-in : (path : Path) → IsLed (mapped item_bytes (in_order (placed_items held))) path → StandsIn (tree_of held) path
  stands-in path (inl root) = inl root
  stands-in path (inr folder) =
      inr (contains-from-has (names_above path, None) (tree_of held)
      (has-from-in (names_above path, None) (tree_of held) (subst (In (names_above path, None)) (sym (tree-is held)) folder)))

  pub tree-folders : All (λ (entry : Path × Option (List ℕ)). StandsIn (tree_of held) entry.0) (tree_of held)
  tree-folders =
      All-from_recursion (λ (entry : Path × Option (List ℕ)). StandsIn (tree_of held) entry.0) (tree_of held)
      (subst (AllByRecursion (λ (entry : Path × Option (List ℕ)). StandsIn (tree_of held) entry.0)) (sym (tree-is held))
      (all-mapped item_bytes (λ (entry : Path × Option (List ℕ)). StandsIn (tree_of held) entry.0) (in_order (placed_items held))
      (each-so (λ (entry : Path × LiveItem). IsLed (mapped item_bytes (in_order (placed_items held))) entry.0) (λ (entry : Path × LiveItem). StandsIn (tree_of held) entry.0)
      (λ entry led. stands-in entry.0 led) (in_order (placed_items held)) (all-led held sound all))))

-- ---- of every drive
all-log : (log : List Step) → AllByRecursion (IsHeld (held_by log)) (held_by log).items
all-log log = all-held (held_by log) (every-drive log).tree (every-drive log).sizes

pub items-log : (log : List Step) (path : Path) (bytes : Option (List ℕ)) → Contains (tree_of (held_by log)) (path, bytes) ↔ HasAt (held_by log) path bytes
items-log log path bytes = tree-items (held_by log) (every-drive log).tree (all-log log) path bytes

pub folders-log : (log : List Step) → All (λ (entry : Path × Option (List ℕ)). StandsIn (tree_of (held_by log)) entry.0) (tree_of (held_by log))
folders-log log = tree-folders (held_by log) (every-drive log).tree (all-log log)
