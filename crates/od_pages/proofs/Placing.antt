-- Items are placed one after another. What holds of each holds of each that stands at a path, and none but the root has the
-- path of the root.
use Rattle.std.proofs.Common.{◌≡◌, ℕ, ◌<◌, Bool, true, false, not, cond, nat_eq, List, [], ◌∷◌, length, filter, Option, Some, None, refl}
use Rattle.std.proofs.lemmas.List.Elements.{All-filter, All-from_recursion, recursion_from_All}
use Rattle.std.specs.List.{All, AllByRecursion}
use Rattle.gd_names.specs.Ordered.{in_order_from}
use Rattle.gd_names.proofs.Ordered.{Path, all-in-order-from}
use Rattle.gd_item.specs.Nodes.{Node, path_of}
use Rattle.gd_item.specs.Trees.{at_path, placed}
use Rattle.gd_item.specs.declared.item.Item.{Item}
use Rattle.gd_laws.proofs.Leading.{path-long}
use Rattle.gd_laws.proofs.Placing.{Each, each-in-order}
use Rattle.od_mirror.specs.Pulled.{nodes, paths_of}
use Rattle.od_pages.proofs.Uncounted.{is_other}

in-order-at : {X : Type 0} (path : Option Path) (x : X) (entries more : List (Path × X))
    → in_order_from entries (at_path path x more) ≡ in_order_from (in_order_from entries (at_path path x [])) more
in-order-at None x entries more = refl
in-order-at (Some path) x entries more = refl

pub in-order-placed : {X : Type 0} (number : X → ℕ) (all : List Node) (x : X) (xs : List X) (entries : List (Path × X))
    → in_order_from entries (placed number all (x ∷ xs)) ≡ in_order_from (in_order_from entries (placed number all (x ∷ []))) (placed number all xs)
in-order-placed number all x xs entries = in-order-at (path_of all (number x)) x entries (placed number all xs)

-- ---- each at a path
pub each-at-path : (Q : Item → Type 0) (items : List Item) → AllByRecursion Q items → Each Q (paths_of items)
each-at-path Q items each =
    each-in-order Q (λ (item : Item). item.id.0) (nodes items) (filter is_other items)
    (recursion_from_All Q (filter is_other items) (All-filter is_other Q items (All-from_recursion Q items each)))

-- ---- below the root
abbrev IsBelow : Path × Item → Type 0
IsBelow entry = 0 < length entry.0

keep-other : (b : Bool) (item : Item) (items : List Item) → nat_eq item.id.0 1 ≡ b → AllByRecursion (λ (i : Item). nat_eq i.id.0 1 ≡ false) items
    → AllByRecursion (λ (i : Item). nat_eq i.id.0 1 ≡ false) (cond (not b) (item ∷ items) items)
keep-other true item items is all = all
keep-other false item items is all = (is, all)

all-other : (items : List Item) → AllByRecursion (λ (item : Item). nat_eq item.id.0 1 ≡ false) (filter is_other items)
all-other [] = tt
all-other (item ∷ items) = keep-other (nat_eq item.id.0 1) item (filter is_other items) refl (all-other items)

below-at : (path : Option Path) (item : Item) (entries : List (Path × Item)) → ((p : Path) → path ≡ Some p → 0 < length p) → AllByRecursion IsBelow entries
    → AllByRecursion IsBelow (at_path path item entries)
below-at None item entries long all = all
below-at (Some path) item entries long all = (long path refl, all)

all-below : (all : List Node) (items : List Item) → AllByRecursion (λ (item : Item). nat_eq item.id.0 1 ≡ false) items
    → AllByRecursion IsBelow (placed (λ (item : Item). item.id.0) all items)
all-below all [] others = tt
all-below all (item ∷ items) others =
    below-at (path_of all item.id.0) item (placed (λ (i : Item). i.id.0) all items) (λ path is. path-long all (length all) item.id.0 path others.0 is)
    (all-below all items others.1)

pub paths_below : (items : List Item) → All (λ (entry : List (List ℕ) × Item). 0 < length entry.0) (paths_of items)
paths_below items =
    All-from_recursion IsBelow (paths_of items)
    (all-in-order-from IsBelow [] (placed (λ (item : Item). item.id.0) (nodes items) (filter is_other items)) tt (all-below (nodes items) (filter is_other items) (all-other items)))
