-- A path leads to the number that has it, so no two numbers have one path.
use Rattle.std.proofs.Common.{◌≡◌, ℕ, zero, suc, ◌+◌, ◌<◌, Bool, true, false, not, ◌&&◌, cond, nat_eq, nat_lt, List, [], ◌∷◌, ◌++◌, length, map, Option, Some, None, refl, ap, sym, ◌∙◌, subst, arith}
use Rattle.std.proofs.lemmas.Bool.{and_from, and_parts, both_ways, eq-eqb, eqb-true, lt-ltb}
use Rattle.std.proofs.lemmas.List.{length_push}
use Rattle.std.specs.Cmp.Lexicographic.{bytes_decides}
use Rattle.std.specs.List.{AllPairs, AllByRecursion, find}
use Rattle.std.specs.Option.{option_map}
use Rattle.gd_names.specs.Caseless.{equal_caseless, lower_case}
use Rattle.gd_names.proofs.Each.{AllPairs-tail, each, each-later, each-so, each-both}
use Rattle.gd_names.proofs.Ordered.{Path}
use Rattle.gd_names.proofs.Small.{not-root}
use Rattle.gd_item.specs.Inventory.{Inventory}
use Rattle.gd_item.specs.Nodes.{Node, live_node, node_at, is_folder, below, below_parent, path_of_node, path_within, path_of, is_same_parent, is_twin, child_at, number_below, number_at}
use Rattle.gd_item.specs.Places.{names_above}
use Rattle.gd_item.specs.Sound.{IsItemMap, IsWithin}
use Rattle.gd_item.specs.Steps.{held_by}
use Rattle.gd_item.specs.Trees.{nodes_of}
use Rattle.gd_item.specs.declared.live.LiveItem.{LiveItem}
use Rattle.gd_item.specs.declared.step.Step.{Step}
use Rattle.gd_item.proofs.Reaching.{IsChild, found-number, path-settled}
use Rattle.gd_laws.proofs.Every.{every-drive}
use Rattle.gd_item.proofs.Adding.{path-of-root}

-- ---- one step up
pub record IsUnder (nodes : List Node) (steps number : ℕ) (path : Path) : Type 0 where
  pub parent : ℕ
  pub child : IsChild nodes number parent
  pub above : Path
  pub led : path_within steps nodes parent ≡ Some above
  pub names : path ≡ above ++ child.node.name ∷ []

below-some : (name : List ℕ) (found : Option Path) (path : Path) → below found name ≡ Some path → (above : Path) × (found ≡ Some above) × (path ≡ above ++ name ∷ [])
below-some name None path h = absurd (cc h)
below-some name (Some above) path h = let same : above ++ name ∷ [] ≡ path = cc h in (above, refl, sym same)

under-if : (b : Bool) (nodes : List Node) (steps number parent : ℕ) (node : Node) (path : Path) → nat_eq number 1 ≡ false → node_at number nodes ≡ Some node → node.parent ≡ Some parent
    → is_folder parent nodes ≡ b → cond b (below (path_within steps nodes parent) node.name) None ≡ Some path → IsUnder nodes steps number path
under-if true nodes steps number parent node path other found parent_is folder h =
    let parts : (above : Path) × (path_within steps nodes parent ≡ Some above) × (path ≡ above ++ node.name ∷ []) = below-some node.name (path_within steps nodes parent) path h in
    record {
      parent = parent;
      child = record { not_root = other; node = node; found = found; under = parent_is; folder = folder };
      above = parts.0;
      led = parts.1;
      names = parts.2;
    }
under-if false nodes steps number parent node path other found parent_is folder h = absurd (cc h)

under-parent : (nodes : List Node) (steps number : ℕ) (node : Node) (parent : Option ℕ) (path : Path) → nat_eq number 1 ≡ false → node_at number nodes ≡ Some node → node.parent ≡ parent
    → below_parent (path_within steps nodes) nodes node.name parent ≡ Some path → IsUnder nodes steps number path
under-parent nodes steps number node None path other found parent_is h = absurd (cc h)
under-parent nodes steps number node (Some parent) path other found parent_is h = under-if (is_folder parent nodes) nodes steps number parent node path other found parent_is refl h

under-node : (nodes : List Node) (steps number : ℕ) (found : Option Node) (path : Path) → nat_eq number 1 ≡ false → node_at number nodes ≡ found
    → path_of_node (path_within steps nodes) nodes found ≡ Some path → IsUnder nodes steps number path
under-node nodes steps number None path other is h = absurd (cc h)
under-node nodes steps number (Some node) path other is h = under-parent nodes steps number node node.parent path other is refl h

pub one-under : (nodes : List Node) (steps number : ℕ) (path : Path) → nat_eq number 1 ≡ false → path_within (suc steps) nodes number ≡ Some path → IsUnder nodes steps number path
one-under nodes steps number path other h =
    under-node nodes steps number (node_at number nodes) path other refl
    (sym (ap (λ b. cond b (Some []) (path_of_node (path_within steps nodes) nodes (node_at number nodes))) other) ∙ h)

none-under : (nodes : List Node) (number : ℕ) (path : Path) → nat_eq number 1 ≡ false → path_within 0 nodes number ≡ Some path → ⊥
none-under nodes number path other h =
    let none : None ≡ Some path = sym (ap (λ b. cond b (Some []) None) other) ∙ h in cc none

root-empty : (nodes : List Node) (steps number : ℕ) (path : Path) → nat_eq number 1 ≡ true → path_within steps nodes number ≡ Some path → path ≡ []
root-empty nodes steps number path root h = let same : Some path ≡ Some [] = sym h ∙ path-of-root steps nodes number root in cc same

-- ---- names at the end of a path
pub above-push : (above : Path) (name : List ℕ) → names_above (above ++ name ∷ []) ≡ above
above-push [] name = refl
above-push (x ∷ []) name = refl
above-push (x ∷ y ∷ above) name = ap (λ (rest : Path). x ∷ rest) (above-push (y ∷ above) name)

pub path-long : (nodes : List Node) (steps number : ℕ) (path : Path) → nat_eq number 1 ≡ false → path_within steps nodes number ≡ Some path → 0 < length path
path-long nodes zero number path other h = absurd (none-under nodes number path other h)
path-long nodes (suc steps) number path other h =
    let at : IsUnder nodes steps number path = one-under nodes steps number path other h in
    let long : length path ≡ length at.above + 1 = ap length at.names ∙ length_push at.above at.child.node.name in
    omega (arith, long)

-- the folder of a number has the names above the last one
pub record StandsUnder (nodes : List Node) (number : ℕ) (path : Path) : Type 0 where
  pub parent : ℕ
  pub folder : is_folder parent nodes ≡ true
  pub led : path_of nodes parent ≡ Some (names_above path)

pub stands-under : (nodes : List Node) (steps number : ℕ) (path : Path) → nat_eq number 1 ≡ false → path_within steps nodes number ≡ Some path → StandsUnder nodes number path
stands-under nodes zero number path other h = absurd (none-under nodes number path other h)
stands-under nodes (suc steps) number path other h =
    let at : IsUnder nodes steps number path = one-under nodes steps number path other h in
    record {
      parent = at.parent;
      folder = at.child.folder;
      led = path-settled nodes steps at.parent at.above at.led
          ∙ ap (λ (p : Path). Some p) (sym (ap names_above at.names ∙ above-push at.above at.child.node.name));
    }

-- ---- a child is found by its name
abbrev is_named : ℕ → List ℕ → Node → Bool
is_named parent name node = is_same_parent node.parent (Some parent) && equal_caseless node.name name

-- what holds of each item holds of the node of one that is there
node-if : (b : Bool) (P : Node → Type 0) (item : LiveItem) (node : Node) (rest : Option Node) → P (live_node item) → (rest ≡ Some node → P node) → cond b (Some (live_node item)) rest ≡ Some node → P node
node-if true P item node rest here later found = let same : live_node item ≡ node = cc found in subst P same here
node-if false P item node rest here later found = later found

of-node : (P : Node → Type 0) (number : ℕ) (node : Node) (items : List LiveItem) → AllByRecursion (λ (item : LiveItem). P (live_node item)) items → node_at number (map live_node items) ≡ Some node → P node
of-node P number node [] all found = absurd (cc found)
of-node P number node (item ∷ items) all found = node-if (nat_eq item.number number) P item node (node_at number (map live_node items)) all.0 (of-node P number node items all.1) found

same-name : (a b : List ℕ) → a ≡ b → equal_caseless a b ≡ true
same-name a b same = (bytes_decides (lower_case a) (lower_case b)).1 (ap lower_case same)

named-self : (parent : ℕ) (name : List ℕ) (node : Node) → node.parent ≡ Some parent → node.name ≡ name → is_named parent name node ≡ true
named-self parent name node under named =
    and_from (is_same_parent node.parent (Some parent)) (equal_caseless node.name name)
    (ap (λ (p : Option ℕ). is_same_parent p (Some parent)) under ∙ eq-eqb parent parent refl) (same-name node.name name named)

-- an item before another, and no twin of it
abbrev StandsBefore : LiveItem → Node → Type 0
StandsBefore item node = (item.number < node.number) × (is_twin node (live_node item) ≡ false)

-- has not the folder and the name of the other
not-named : (parent : ℕ) (name : List ℕ) (item : LiveItem) (node : Node) → 1 < item.number → StandsBefore item node → node.parent ≡ Some parent → node.name ≡ name
    → is_named parent name (live_node item) ≡ true → ⊥
not-named parent name item node above before under named is =
    let low : item.number < node.number = before.0 in
    let parts = and_parts (nat_eq item.parent parent) (equal_caseless item.name name) is in
    let a : nat_lt item.number node.number ≡ true = lt-ltb item.number node.number low in
    let b : not (nat_eq item.number 1) ≡ true = ap not (not-root item.number above) in
    let c : not (nat_eq node.number 1) ≡ true = ap not (not-root node.number (omega arith)) in
    let d : is_same_parent (Some item.parent) node.parent ≡ true = ap (λ (p : Option ℕ). is_same_parent (Some item.parent) p) under ∙ parts.0 in
    let e : equal_caseless item.name node.name ≡ true = ap (equal_caseless item.name) named ∙ parts.1 in
    both_ways (is_twin node (live_node item)) before.1
    (and_from (((nat_lt item.number node.number && not (nat_eq item.number 1)) && not (nat_eq node.number 1)) && is_same_parent (Some item.parent) node.parent) (equal_caseless item.name node.name)
    (and_from ((nat_lt item.number node.number && not (nat_eq item.number 1)) && not (nat_eq node.number 1)) (is_same_parent (Some item.parent) node.parent)
    (and_from (nat_lt item.number node.number && not (nat_eq item.number 1)) (not (nat_eq node.number 1)) (and_from (nat_lt item.number node.number) (not (nat_eq item.number 1)) a b) c) d) e)

module _ (parent : ℕ) (name : List ℕ) (number : ℕ) (node : Node) (under : node.parent ≡ Some parent) (named : node.name ≡ name) where
  past-first : (b : Bool) (item : LiveItem) (items : List LiveItem) → is_named parent name (live_node item) ≡ b → 1 < item.number → StandsBefore item node
      → find (is_named parent name) (map live_node items) ≡ Some node → cond b (Some (live_node item)) (find (is_named parent name) (map live_node items)) ≡ Some node
  past-first true item items is above before later = absurd (not-named parent name item node above before under named is)
  past-first false item items is above before later = later

  find-at : (b : Bool) (item : LiveItem) (items : List LiveItem) → 1 < item.number → AllByRecursion (λ (y : LiveItem). StandsBefore item (live_node y)) items
      → cond b (Some (live_node item)) (node_at number (map live_node items)) ≡ Some node
      → (node_at number (map live_node items) ≡ Some node → find (is_named parent name) (map live_node items) ≡ Some node)
      → find (is_named parent name) (map live_node (item ∷ items)) ≡ Some node
  find-at true item items above before found later =
      let same : live_node item ≡ node = cc found in
      ap (λ b. cond b (Some (live_node item)) (find (is_named parent name) (map live_node items))) (ap (is_named parent name) same ∙ named-self parent name node under named)
      ∙ ap (λ (n : Node). Some n) same
  find-at false item items above before found later =
      past-first (is_named parent name (live_node item)) item items refl above (of-node (StandsBefore item) number node items before found) (later found)

  find-child : (items : List LiveItem) → AllByRecursion (λ (item : LiveItem). 1 < item.number) items → AllPairs (λ (x y : LiveItem). x.number < y.number) items
      → AllPairs (λ (x y : LiveItem). is_twin (live_node y) (live_node x) ≡ false) items → node_at number (map live_node items) ≡ Some node
      → find (is_named parent name) (map live_node items) ≡ Some node
  find-child [] above numbers apart found = absurd (cc found)
  find-child (item ∷ items) above numbers apart found =
      find-at (nat_eq item.number number) item items above.0
      (each-both (λ (y : LiveItem). item.number < y.number) (λ (y : LiveItem). is_twin (live_node y) (live_node item) ≡ false) (λ (y : LiveItem). StandsBefore item (live_node y))
      (λ y low twin. (low, twin)) items
      (each-later (λ (x y : LiveItem). x.number < y.number) item items numbers) (each-later (λ (x y : LiveItem). is_twin (live_node y) (live_node x) ≡ false) item items apart))
      found
      (find-child items above.1 (AllPairs-tail (λ (x y : LiveItem). x.number < y.number) item items numbers)
      (AllPairs-tail (λ (x y : LiveItem). is_twin (live_node y) (live_node x) ≡ false) item items apart))

-- ---- a path leads to its number
number-end : (found : Option ℕ) (nodes : List Node) → number_below found [] nodes ≡ found
number-end None nodes = refl
number-end (Some number) nodes = refl

abbrev child_of : Option ℕ → List ℕ → List Node → Option ℕ
child_of None name nodes = None
child_of (Some number) name nodes = child_at number name nodes

number-push : (found : Option ℕ) (above : Path) (name : List ℕ) (nodes : List Node) → number_below found (above ++ name ∷ []) nodes ≡ child_of (number_below found above nodes) name nodes
number-push None above name nodes = refl
number-push (Some number) [] name nodes = number-end (child_at number name nodes) nodes
number-push (Some number) (first ∷ above) name nodes = number-push (child_at number first nodes) above name nodes

module _ (held : Inventory) (sound : IsItemMap held) where
  abbrev nodes : List Node
  nodes = nodes_of held

  above-root : AllByRecursion (λ (item : LiveItem). 1 < item.number) held.items
  above-root = each-so (IsWithin held) (λ (item : LiveItem). 1 < item.number) (λ item within. within.above) held.items (each (IsWithin held) held.items sound.within)

  child-found : (number parent : ℕ) (child : IsChild (nodes_of held) number parent) → child_at parent child.node.name (nodes_of held) ≡ Some number
  child-found number parent child =
      ap (option_map (λ (node : Node). node.number))
      (find-child parent child.node.name number child.node child.under refl held.items above-root sound.numbers sound.told_apart child.found)
      ∙ ap Some (eqb-true child.node.number number (found-number number (nodes_of held) child.node child.found))

  leads-root : (steps number : ℕ) (path : Path) → nat_eq number 1 ≡ true → path_within steps (nodes_of held) number ≡ Some path → number_at path (nodes_of held) ≡ Some number
  leads-root steps number path root led =
      ap (λ (p : Path). number_at p (nodes_of held)) (root-empty (nodes_of held) steps number path root led) ∙ ap Some (sym (eqb-true number 1 root))

  leads-on : (steps number : ℕ) (path : Path) → (at : IsUnder (nodes_of held) steps number path) → number_at at.above (nodes_of held) ≡ Some at.parent → number_at path (nodes_of held) ≡ Some number
  leads-on steps number path at above =
      ap (λ (p : Path). number_at p (nodes_of held)) at.names
      ∙ number-push (Some 1) at.above at.child.node.name (nodes_of held)
      ∙ ap (λ found. child_of found at.child.node.name (nodes_of held)) above
      ∙ child-found number at.parent at.child

  leads-if : (b : Bool) (steps number : ℕ) (path : Path) → nat_eq number 1 ≡ b → path_within (suc steps) (nodes_of held) number ≡ Some path
      → ((parent : ℕ) (above : Path) → path_within steps (nodes_of held) parent ≡ Some above → number_at above (nodes_of held) ≡ Some parent) → number_at path (nodes_of held) ≡ Some number
  leads-if true steps number path root led up = leads-root (suc steps) number path root led
  leads-if false steps number path other led up =
      let at : IsUnder (nodes_of held) steps number path = one-under (nodes_of held) steps number path other led in
      leads-on steps number path at (up at.parent at.above at.led)

  leads-none : (b : Bool) (number : ℕ) (path : Path) → nat_eq number 1 ≡ b → path_within zero (nodes_of held) number ≡ Some path → number_at path (nodes_of held) ≡ Some number
  leads-none true number path root led = leads-root zero number path root led
  leads-none false number path other led = absurd (none-under (nodes_of held) number path other led)

  leads-within : (steps number : ℕ) (path : Path) → path_within steps (nodes_of held) number ≡ Some path → number_at path (nodes_of held) ≡ Some number
  leads-within zero number path led = leads-none (nat_eq number 1) number path refl led
  leads-within (suc steps) number path led = leads-if (nat_eq number 1) steps number path refl led (λ parent above up. leads-within steps parent above up)

  pub leads : (number : ℕ) (path : Path) → path_of (nodes_of held) number ≡ Some path → number_at path (nodes_of held) ≡ Some number
  leads number path led = leads-within (length (nodes_of held)) number path led

  -- no two numbers have one path
  pub one-number : (m n : ℕ) (path : Path) → path_of (nodes_of held) m ≡ Some path → path_of (nodes_of held) n ≡ Some path → m ≡ n
  one-number m n path first second = let same : Some m ≡ Some n = sym (leads m path first) ∙ leads n path second in cc same

-- ---- of every drive
pub leads-log : (log : List Step) (number : ℕ) (path : Path) → path_of (nodes_of (held_by log)) number ≡ Some path → number_at path (nodes_of (held_by log)) ≡ Some number
leads-log log number path led = leads (held_by log) (every-drive log).tree number path led

pub one-log : (log : List Step) (m n : ℕ) (path : Path) → path_of (nodes_of (held_by log)) m ≡ Some path → path_of (nodes_of (held_by log)) n ≡ Some path → m ≡ n
one-log log m n path first second = one-number (held_by log) (every-drive log).tree m n path first second
