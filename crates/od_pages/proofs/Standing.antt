-- The records of what a drive holds fit, and stand at the paths of its items.
use Rattle.std.proofs.Common.{◌≡◌, ℕ, ◌<◌, Bool, true, false, not, ◌&&◌, ◌||◌, cond, List, [], ◌∷◌, filter, map, is_some, is_none, nat_eq, nat_lt, Option, Some, None, refl, ap, ◌∙◌, arith}
use Rattle.std.proofs.lemmas.Bool.Decides.{nat_tests}
use Rattle.std.specs.List.{AllPairs, AllByRecursion, list_any}
use Rattle.gd_names.specs.Ordered.{in_order}
use Rattle.gd_item.specs.Inventory.{Inventory}
use Rattle.gd_item.specs.Nodes.{Node, item_node, live_node, is_folder_kind, node_at, path_of, is_twin, has_twin}
use Rattle.gd_item.specs.Records.{record_of, kind_at}
use Rattle.gd_item.specs.Sound.{IsItemMap, IsWithin}
use Rattle.gd_item.specs.Trees.{at_path, placed, nodes_of, tree_of}
use Rattle.gd_item.specs.declared.item.Item.{Item}
use Rattle.gd_item.specs.declared.live.LiveItem.{LiveItem}
use Rattle.gd_item.specs.Records.{records_of}
use Rattle.gd_laws.specs.Placed.{placed_items}
use Rattle.od_mirror.specs.Pulled.{nodes, is_misplaced, is_bad, AllFit, paths_of}
use Rattle.gd_names.proofs.Each.{AllPairs-tail, each, each-later, each-so, each-both}
use Rattle.gd_names.proofs.Mapped.{mapped, in-order-mapped}
use Rattle.od_pages.proofs.Rooted.{root_node, path-with-root, root-has-none, root-is-none, no-later-twin}
use Rattle.gd_names.proofs.Small.{not-root}

-- ---- the records as nodes
folder-kind : (bytes : Option (List ℕ)) (number : ℕ) (all : List LiveItem) → is_folder_kind (kind_at bytes number all) ≡ is_none bytes
folder-kind None number all = refl
folder-kind (Some bytes) number all = refl

record-node : (all : List LiveItem) (item : LiveItem) → item_node (record_of all item) ≡ live_node item
record-node all item =
    ap (λ folder. let node : Node = record { number = item.number; parent = Some item.parent; name = item.name; folder = folder } in node)
    (folder-kind item.bytes item.number all)

pub record-nodes : (all items : List LiveItem) → nodes (map (record_of all) items) ≡ map live_node items
record-nodes all [] = refl
record-nodes all (item ∷ items) =
    ap (λ node. node ∷ nodes (map (record_of all) items)) (record-node all item) ∙ ap (λ more. live_node item ∷ more) (record-nodes all items)

pub nodes-of-records : (held : Inventory) → nodes (records_of held) ≡ root_node ∷ nodes_of held
nodes-of-records held = ap (λ more. root_node ∷ more) (record-nodes held.items held.items)

-- ---- every item is there
is-self : (a : ℕ) → nat_eq a a ≡ true
is-self a = grind (arith, nat_tests)

later-there : (b : Bool) (node : Node) (rest : Option Node) → is_some rest ≡ true → is_some (cond b (Some node) rest) ≡ true
later-there true node rest there = refl
later-there false node rest there = there

all-there : (items : List LiveItem) → AllByRecursion (λ (item : LiveItem). is_some (node_at item.number (map live_node items)) ≡ true) items
all-there [] = tt
all-there (item ∷ items) = (
  rw (is-self item.number) refl,
  each-so (λ (y : LiveItem). is_some (node_at y.number (map live_node items)) ≡ true) (λ (y : LiveItem). is_some (node_at y.number (map live_node (item ∷ items))) ≡ true)
      (λ y there. later-there (nat_eq item.number y.number) (live_node item) (node_at y.number (map live_node items)) there) items (all-there items),
)

-- what is false of each item is false of a node that is there
found-at : (b : Bool) (test : Node → Bool) (first node : Node) (rest : Option Node) → test first ≡ false → (rest ≡ Some node → test node ≡ false)
    → cond b (Some first) rest ≡ Some node → test node ≡ false
found-at true test first node rest fails later is = let same : first ≡ node = cc in rw (← same) fails
found-at false test first node rest fails later is = later is

of-found : (test : Node → Bool) (items : List LiveItem) → AllByRecursion (λ (item : LiveItem). test (live_node item) ≡ false) items
    → (number : ℕ) (node : Node) → node_at number (map live_node items) ≡ Some node → test node ≡ false
of-found test [] fails number node is = absurd (cc)
of-found test (item ∷ items) fails number node is =
    found-at (nat_eq item.number number) test (live_node item) node (node_at number (map live_node items)) fails.0 (of-found test items fails.1 number node) is

-- ---- no twins
not-less : (a : ℕ) → nat_lt a a ≡ false
not-less a = grind (arith, nat_tests)

not-above : (a b : ℕ) → a < b → nat_lt b a ≡ false
not-above a b low = grind (arith, nat_tests)

no-twin-later : (item : LiveItem) (items : List LiveItem) → AllByRecursion (λ (y : LiveItem). item.number < y.number) items
    → list_any (is_twin (live_node item)) (map live_node items) ≡ false
no-twin-later item [] rise = refl
no-twin-later item (y ∷ items) rise = rw (no-later-twin (live_node item) (live_node y) (not-above item.number y.number rise.0)) (no-twin-later item items rise.1)

no-twins : (items : List LiveItem) → AllPairs (λ (x y : LiveItem). x.number < y.number) items → AllPairs (λ (x y : LiveItem). is_twin (live_node y) (live_node x) ≡ false) items
    → AllByRecursion (λ (item : LiveItem). list_any (is_twin (live_node item)) (map live_node items) ≡ false) items
no-twins [] numbers apart = tt
no-twins (item ∷ items) numbers apart = (
  rw (no-later-twin (live_node item) (live_node item) (not-less item.number)) (no-twin-later item items (each-later (λ (x y : LiveItem). x.number < y.number) item items numbers)),
  each-both (λ (y : LiveItem). is_twin (live_node y) (live_node item) ≡ false) (λ (y : LiveItem). list_any (is_twin (live_node y)) (map live_node items) ≡ false)
      (λ (y : LiveItem). list_any (is_twin (live_node y)) (map live_node (item ∷ items)) ≡ false)
      (λ y this others. rw this others) items
      (each-later (λ (x y : LiveItem). is_twin (live_node y) (live_node x) ≡ false) item items apart)
      (no-twins items (AllPairs-tail (λ (x y : LiveItem). x.number < y.number) item items numbers)
      (AllPairs-tail (λ (x y : LiveItem). is_twin (live_node y) (live_node x) ≡ false) item items apart)),
)

-- ---- all fit
or-and-false : (b c : Bool) → (b || (c && false)) ≡ b
or-and-false true c = refl
or-and-false false true = refl
or-and-false false false = refl

some-not-none : {X : Type 0} (o : Option X) → is_some o ≡ true → is_none o ≡ false
some-not-none None there = absurd (cc)
some-not-none (Some x) there = refl

-- whether a node has no path or a twin among the root's node and the others
abbrev fails_among : List Node → Node → Bool
fails_among all node = is_none (path_of (root_node ∷ all) node.number) || has_twin (root_node ∷ all) node

fits-among : (all : List Node) (node : Node) → path_of (root_node ∷ all) node.number ≡ path_of all node.number → is_some (path_of all node.number) ≡ true
    → list_any (is_twin node) all ≡ false → fails_among all node ≡ false
fits-among all node same there alone =
    rw (same, some-not-none (path_of all node.number) there, root-is-none node) alone

fit-found : (all : List Node) (at : Option Node) → ((node : Node) → at ≡ Some node → fails_among all node ≡ false) → is_misplaced (root_node ∷ all) at ≡ false
fit-found all None fits = refl
fit-found all (Some node) fits = fits node refl

fit-at : (b : Bool) (all : List Node) (rest : Option Node) → is_misplaced (root_node ∷ all) rest ≡ false → is_misplaced (root_node ∷ all) (cond b (Some root_node) rest) ≡ false
fit-at true all rest fits = root-has-none (root_node ∷ all)
fit-at false all rest fits = fits

module _ (held : Inventory) (sound : IsItemMap held) where
  paths-there : AllByRecursion (λ (item : LiveItem). is_some (path_of (nodes_of held) item.number) ≡ true) held.items
  paths-there =
      each-so (λ (item : LiveItem). is_some (node_at item.number (nodes_of held)) ≡ true) (λ (item : LiveItem). is_some (path_of (nodes_of held) item.number) ≡ true)
      (λ item there. sound.led item.number there) held.items (all-there held.items)

  same-paths : AllByRecursion (λ (item : LiveItem). path_of (root_node ∷ nodes_of held) item.number ≡ path_of (nodes_of held) item.number) held.items
  same-paths =
      each-so (λ (item : LiveItem). is_some (path_of (nodes_of held) item.number) ≡ true)
      (λ (item : LiveItem). path_of (root_node ∷ nodes_of held) item.number ≡ path_of (nodes_of held) item.number)
      (λ item there. path-with-root (nodes_of held) item.number there) held.items paths-there

  nodes-fit : (number : ℕ) (node : Node) → node_at number (nodes_of held) ≡ Some node → fails_among (nodes_of held) node ≡ false
  nodes-fit =
      of-found (fails_among (nodes_of held)) held.items
      (each-both (λ (item : LiveItem). is_some (path_of (nodes_of held) item.number) ≡ true) (λ (item : LiveItem). list_any (is_twin (live_node item)) (nodes_of held) ≡ false)
      (λ (item : LiveItem). fails_among (nodes_of held) (live_node item) ≡ false)
      (λ item there alone. fits-among (nodes_of held) (live_node item) (path-with-root (nodes_of held) item.number there) there alone)
      held.items paths-there (no-twins held.items sound.numbers sound.told_apart))

  all-nodes-fit : AllFit (root_node ∷ nodes_of held)
  all-nodes-fit number =
      or-and-false (is_misplaced (root_node ∷ nodes_of held) (node_at number (root_node ∷ nodes_of held))) (nat_eq number 1)
      ∙ fit-at (nat_eq 1 number) (nodes_of held) (node_at number (nodes_of held))
      (fit-found (nodes_of held) (node_at number (nodes_of held)) (nodes-fit number))

  pub records-fit : AllFit (nodes (records_of held))
  records-fit number = ap (λ all. is_bad all number) (nodes-of-records held) ∙ all-nodes-fit number

-- ---- at their paths
kept-at : (b : Bool) (item : Item) (items : List Item) → b ≡ false → cond (not b) (item ∷ items) items ≡ item ∷ items
kept-at true item items is = absurd (cc)
kept-at false item items is = refl

all-kept : (all items : List LiveItem) → AllByRecursion (λ (item : LiveItem). 1 < item.number) items
    → filter (λ (item : Item). not (nat_eq item.id.0 1)) (map (record_of all) items) ≡ map (record_of all) items
all-kept all [] above = refl
all-kept all (item ∷ items) above =
    ap (λ more. cond (not (nat_eq item.number 1)) (record_of all item ∷ more) more) (all-kept all items above.1)
    ∙ kept-at (nat_eq item.number 1) (record_of all item) (map (record_of all) items) (not-root item.number above.0)

record-at : (path : Option (List (List ℕ))) (all : List LiveItem) (item : LiveItem) (entries : List (List (List ℕ) × LiveItem))
    → at_path path (record_of all item) (map (λ (entry : List (List ℕ) × LiveItem). (entry.0, record_of all entry.1)) entries)
    ≡ map (λ (entry : List (List ℕ) × LiveItem). (entry.0, record_of all entry.1)) (at_path path item entries)
record-at None all item entries = refl
record-at (Some path) all item entries = refl

placed-records : (more others : List Node) (all items : List LiveItem) → AllByRecursion (λ (item : LiveItem). path_of more item.number ≡ path_of others item.number) items
    → placed (λ (item : Item). item.id.0) more (map (record_of all) items)
    ≡ map (λ (entry : List (List ℕ) × LiveItem). (entry.0, record_of all entry.1)) (placed (λ (item : LiveItem). item.number) others items)
placed-records more others all [] same = refl
placed-records more others all (item ∷ items) same =
    ap (λ path. at_path path (record_of all item) (placed (λ (item : Item). item.id.0) more (map (record_of all) items))) same.0
    ∙ ap (λ entries. at_path (path_of others item.number) (record_of all item) entries) (placed-records more others all items same.1)
    ∙ record-at (path_of others item.number) all item (placed (λ (item : LiveItem). item.number) others items)

module _ (held : Inventory) (sound : IsItemMap held) where
  above-root : AllByRecursion (λ (item : LiveItem). 1 < item.number) held.items
  above-root = each-so (IsWithin held) (λ (item : LiveItem). 1 < item.number) (λ item within. within.above) held.items (each (IsWithin held) held.items sound.within)

  pub paths-of-records : paths_of (records_of held) ≡ in_order (map (λ (entry : List (List ℕ) × LiveItem). (entry.0, record_of held.items entry.1)) (placed_items held))
  paths-of-records =
      ap (λ all. in_order (placed (λ (item : Item). item.id.0) all (filter (λ (item : Item). not (nat_eq item.id.0 1)) (map (record_of held.items) held.items))))
      (nodes-of-records held)
      ∙ ap (λ items. in_order (placed (λ (item : Item). item.id.0) (root_node ∷ nodes_of held) items)) (all-kept held.items held.items above-root)
      ∙ ap in_order (placed-records (root_node ∷ nodes_of held) (nodes_of held) held.items held.items (same-paths held sound))

  -- the items in order of path, of which the tree and the items of a pull are two views
  pub paths-of-placed : paths_of (records_of held) ≡ mapped (record_of held.items) (in_order (placed_items held))
  paths-of-placed = paths-of-records ∙ in-order-mapped (record_of held.items) (placed_items held)

pub tree-of-placed : (held : Inventory) → tree_of held ≡ mapped (λ (item : LiveItem). item.bytes) (in_order (placed_items held))
tree-of-placed held = in-order-mapped (λ (item : LiveItem). item.bytes) (placed_items held)
