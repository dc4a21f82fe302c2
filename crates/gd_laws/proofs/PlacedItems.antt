-- The entries of what a drive holds: each has its item, and below the root each stands in a folder that is an entry too.
use Rattle.std.proofs.Common.{◌≡◌, ℕ, ◌<◌, ◌≤◌, ◌⊎◌, inl, inr, Bool, true, false, cond, nat_eq, List, [], ◌∷◌, length, map, is_none, Option, Some, None, refl, ap, sym, subst, ◌∙◌, arith}
use Rattle.std.proofs.lemmas.Bool.{eq-eqb, eqb-true, or_cases}
use Rattle.std.proofs.lemmas.Bool.Decides.{nat_tests}
use Rattle.std.specs.List.{All, AllPairs, AllByRecursion}
use Rattle.gd_names.specs.Ordered.{in_order}
use Rattle.gd_item.specs.Inventory.{Inventory, live_at}
use Rattle.gd_item.specs.Nodes.{Node, live_node, node_at, is_some_folder, path_of}
use Rattle.gd_item.specs.Places.{names_above}
use Rattle.gd_item.specs.Records.{size_of}
use Rattle.gd_item.specs.Sound.{IsItemMap, IsWithin}
use Rattle.gd_item.specs.Trees.{at_path, placed, nodes_of}
use Rattle.gd_item.specs.declared.live.LiveItem.{LiveItem}
use Rattle.gd_names.proofs.Each.{AllPairs-tail, each, each-later, each-so, each-both}
use Rattle.gd_names.proofs.Keys.{Key, key-in, key-in-order, in-mapped}
use Rattle.gd_names.proofs.Mapped.{mapped}
use Rattle.gd_names.proofs.Ordered.{Path, In, all-in, all-in-order-from}
use Rattle.gd_names.proofs.Small.{not-root}
use Rattle.gd_laws.specs.Placed.{placed_items}
use Rattle.gd_laws.proofs.Leading.{StandsUnder, stands-under, one-number}
use Rattle.gd_item.proofs.Adding.{path-of-root}

abbrev pub item_bytes : LiveItem → Option (List ℕ)
item_bytes item = item.bytes

-- an item that is held, and an entry at the path of such an item
pub record IsHeld (held : Inventory) (item : LiveItem) : Type 0 where
  pub live : live_at item.number held.items ≡ Some item
  pub below_root : nat_eq item.number 1 ≡ false
  pub size : size_of item.bytes ≤ 67108864

pub record IsAt (held : Inventory) (entry : Path × LiveItem) : Type 0 where
  pub item : IsHeld held entry.1
  pub path : path_of (nodes_of held) entry.1.number ≡ Some entry.0

-- ---- every item is held
not-same : (a b : ℕ) → a < b → nat_eq a b ≡ false
not-same a b low = grind (arith, nat_tests)

all-live : (items : List LiveItem) → AllPairs (λ (x y : LiveItem). x.number < y.number) items → AllByRecursion (λ (y : LiveItem). live_at y.number items ≡ Some y) items
all-live [] rise = tt
all-live (item ∷ items) rise = (
  ap (λ b. cond b (Some item) (live_at item.number items)) (eq-eqb item.number item.number refl),
  each-both (λ (y : LiveItem). item.number < y.number) (λ (y : LiveItem). live_at y.number items ≡ Some y) (λ (y : LiveItem). live_at y.number (item ∷ items) ≡ Some y)
      (λ y above live. ap (λ b. cond b (Some item) (live_at y.number items)) (not-same item.number y.number above) ∙ live)
      items (each-later (λ (x y : LiveItem). x.number < y.number) item items rise)
      (all-live items (AllPairs-tail (λ (x y : LiveItem). x.number < y.number) item items rise)),
)

pub all-held : (held : Inventory) → IsItemMap held → All (λ (item : LiveItem). size_of item.bytes ≤ 67108864) held.items → AllByRecursion (IsHeld held) held.items
all-held held sound sizes =
    let within : AllByRecursion (IsWithin held) held.items = each (IsWithin held) held.items sound.within in
    let small : AllByRecursion (λ (item : LiveItem). size_of item.bytes ≤ 67108864) held.items = each (λ (item : LiveItem). size_of item.bytes ≤ 67108864) held.items sizes in
    let live : AllByRecursion (λ (item : LiveItem). live_at item.number held.items ≡ Some item) held.items = all-live held.items sound.numbers in
    let both : AllByRecursion (λ (item : LiveItem). IsWithin held item × (size_of item.bytes ≤ 67108864)) held.items =
    each-both (IsWithin held) (λ (item : LiveItem). size_of item.bytes ≤ 67108864) (λ (item : LiveItem). IsWithin held item × (size_of item.bytes ≤ 67108864))
    (λ item a b. (a, b)) held.items within small in
    each-both (λ (item : LiveItem). IsWithin held item × (size_of item.bytes ≤ 67108864)) (λ (item : LiveItem). live_at item.number held.items ≡ Some item) (IsHeld held)
    (λ item parts found. record { live = found; below_root = not-root item.number parts.0.above; size = parts.1 }) held.items both live

-- ---- every entry is that of an item
at-placed : (held : Inventory) (path : Option Path) (item : LiveItem) (entries : List (Path × LiveItem)) → path_of (nodes_of held) item.number ≡ path → IsHeld held item
    → AllByRecursion (IsAt held) entries → AllByRecursion (IsAt held) (at_path path item entries)
at-placed held None item entries is here all = all
at-placed held (Some path) item entries is here all = (record { item = here; path = is }, all)

pub all-placed : (held : Inventory) (items : List LiveItem) → AllByRecursion (IsHeld held) items
    → AllByRecursion (IsAt held) (placed (λ (item : LiveItem). item.number) (nodes_of held) items)
all-placed held [] all = tt
all-placed held (item ∷ items) all =
    at-placed held (path_of (nodes_of held) item.number) item (placed (λ (i : LiveItem). i.number) (nodes_of held) items) refl all.0 (all-placed held items all.1)

pub all-at : (held : Inventory) → AllByRecursion (IsHeld held) held.items → AllByRecursion (IsAt held) (in_order (placed_items held))
all-at held all = all-in-order-from (IsAt held) [] (placed_items held) tt (all-placed held held.items all)

-- ---- every item with a path is an entry
key-later : (path : Path) (at : Option Path) (item : LiveItem) (entries : List (Path × LiveItem)) → Key path entries → Key path (at_path at item entries)
key-later path None item entries key = key
key-later path (Some at) item entries key = inr key

placed-key-at : (b : Bool) (all : List Node) (first item : LiveItem) (items : List LiveItem) (number : ℕ) (path : Path) → nat_eq first.number number ≡ b
    → cond b (Some first) (live_at number items) ≡ Some item → path_of all number ≡ Some path
    → (live_at number items ≡ Some item → Key path (placed (λ (i : LiveItem). i.number) all items))
    → Key path (at_path (path_of all first.number) first (placed (λ (i : LiveItem). i.number) all items))
placed-key-at true all first item items number path is live led later =
    let here : path_of all first.number ≡ Some path = ap (path_of all) (eqb-true first.number number is) ∙ led in
    subst (λ (at : Option Path). Key path (at_path at first (placed (λ (i : LiveItem). i.number) all items))) (sym here) (inl refl)
placed-key-at false all first item items number path is live led later =
    key-later path (path_of all first.number) first (placed (λ (i : LiveItem). i.number) all items) (later live)

placed-key : (all : List Node) (items : List LiveItem) (number : ℕ) (item : LiveItem) (path : Path) → live_at number items ≡ Some item → path_of all number ≡ Some path
    → Key path (placed (λ (i : LiveItem). i.number) all items)
placed-key all [] number item path live led = absurd (cc live)
placed-key all (first ∷ items) number item path live led =
    placed-key-at (nat_eq first.number number) all first item items number path refl live led (λ later. placed-key all items number item path later led)

-- the item of a node
node-live-at : (b : Bool) (first : LiveItem) (items : List LiveItem) (number : ℕ) (node : Node) → cond b (Some (live_node first)) (node_at number (map live_node items)) ≡ Some node
    → (node_at number (map live_node items) ≡ Some node → (item : LiveItem) × (live_at number items ≡ Some item) × (node ≡ live_node item))
    → (item : LiveItem) × (cond b (Some first) (live_at number items) ≡ Some item) × (node ≡ live_node item)
node-live-at true first items number node found later = let same : live_node first ≡ node = cc found in (first, refl, sym same)
node-live-at false first items number node found later = later found

node-live : (items : List LiveItem) (number : ℕ) (node : Node) → node_at number (map live_node items) ≡ Some node
    → (item : LiveItem) × (live_at number items ≡ Some item) × (node ≡ live_node item)
node-live [] number node found = absurd (cc found)
node-live (first ∷ items) number node found = node-live-at (nat_eq first.number number) first items number node found (λ later. node-live items number node later)

folder-found : (found : Option Node) → is_some_folder found ≡ true → (node : Node) × (found ≡ Some node) × (node.folder ≡ true)
folder-found None is = absurd (cc is)
folder-found (Some node) is = (node, refl, is)

no-bytes : (bytes : Option (List ℕ)) → is_none bytes ≡ true → bytes ≡ None
no-bytes None is = refl
no-bytes (Some bytes) is = absurd (cc is)

-- ---- every entry stands in the root or in a folder that is an entry
folder-in : (held : Inventory) → IsItemMap held → (entries : List (Path × LiveItem)) → AllByRecursion (IsAt held) entries
    → ((path : Path) → Key path (placed_items held) → Key path entries) → (parent : ℕ) (above : Path) → is_some_folder (node_at parent (nodes_of held)) ≡ true
    → path_of (nodes_of held) parent ≡ Some above → In (above, None) (mapped item_bytes entries)
folder-in held sound entries all keys parent above folder led =
    let node : (node : Node) × (node_at parent (nodes_of held) ≡ Some node) × (node.folder ≡ true) = folder-found (node_at parent (nodes_of held)) folder in
    let live : (item : LiveItem) × (live_at parent held.items ≡ Some item) × (node.0 ≡ live_node item) = node-live held.items parent node.0 node.1 in
    let none : live.0.bytes ≡ None = no-bytes live.0.bytes (ap (λ (n : Node). n.folder) (sym live.2) ∙ node.2) in
    let key : Key above entries = keys above (placed-key (nodes_of held) held.items parent live.0 above live.1 led) in
    let there : (x : LiveItem) × In (above, x) entries = key-in above entries key in
    let at : IsAt held (above, there.0) = all-in (IsAt held) (above, there.0) entries all there.1 in
    let number : there.0.number ≡ parent =
    one-number held sound there.0.number parent above at.path led in
    let both : Some there.0 ≡ Some live.0 = sym at.item.live ∙ ap (λ (n : ℕ). live_at n held.items) number ∙ live.1 in
    let same : there.0 ≡ live.0 = cc both in
    let bytes : there.0.bytes ≡ None = ap item_bytes same ∙ none in
    subst (λ (b : Option (List ℕ)). In (above, b) (mapped item_bytes entries)) bytes (in-mapped item_bytes (above, there.0) entries there.1)

abbrev pub IsLed : List (Path × Option (List ℕ)) → Path → Type 0
IsLed tree path = (names_above path ≡ []) ⊎ In (names_above path, None) tree

root-above : (held : Inventory) (parent : ℕ) (above : Path) → nat_eq parent 1 ≡ true → path_of (nodes_of held) parent ≡ Some above → above ≡ []
root-above held parent above root led =
    let top : Some above ≡ Some [] = sym led ∙ path-of-root (length (nodes_of held)) (nodes_of held) parent root in cc top

led-at : (held : Inventory) → IsItemMap held → (entries : List (Path × LiveItem)) → AllByRecursion (IsAt held) entries
    → ((path : Path) → Key path (placed_items held) → Key path entries) → (entry : Path × LiveItem) → IsAt held entry → IsLed (mapped item_bytes entries) entry.0
led-at held sound entries all keys entry at =
    let up : StandsUnder (nodes_of held) entry.1.number entry.0 =
    stands-under (nodes_of held) (length (nodes_of held)) entry.1.number entry.0 at.item.below_root at.path in
    elim (or_cases (nat_eq up.parent 1) (is_some_folder (node_at up.parent (nodes_of held))) up.folder) [
      | inl root ↦ inl (root-above held up.parent (names_above entry.0) root up.led)
      | inr folder ↦ inr (folder-in held sound entries all keys up.parent (names_above entry.0) folder up.led)
    ]

pub all-led : (held : Inventory) → IsItemMap held → AllByRecursion (IsHeld held) held.items
    → AllByRecursion (λ (entry : Path × LiveItem). IsLed (mapped item_bytes (in_order (placed_items held))) entry.0) (in_order (placed_items held))
all-led held sound all =
    let entries : List (Path × LiveItem) = in_order (placed_items held) in
    let ats : AllByRecursion (IsAt held) entries = all-at held all in
    each-so (IsAt held) (λ (entry : Path × LiveItem). IsLed (mapped item_bytes entries) entry.0)
    (led-at held sound entries ats (λ path key. key-in-order path [] (placed_items held) key)) entries ats
