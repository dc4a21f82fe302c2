-- Items that differ in the numbers of children alone stand at the same paths.
use Rattle.std.proofs.Common.{◌≡◌, ℕ, Bool, true, false, not, cond, List, [], ◌∷◌, filter, map, nat_eq, Option, Some, None, refl, ap, ◌∙◌}
use Rattle.gd_names.specs.Ordered.{in_order}
use Rattle.gd_names.proofs.Mapped.{mapped, in-order-mapped}
use Rattle.gd_item.specs.Nodes.{Node, item_node, path_of}
use Rattle.gd_item.specs.Trees.{at_path, placed}
use Rattle.gd_item.specs.Views.{uncounted}
use Rattle.gd_item.specs.declared.item.Item.{Item}
use Rattle.od_mirror.specs.Pulled.{nodes, paths_of}
use Rattle.od_pages.proofs.Shown.{node-uncounted}

-- whether an item is not the root
abbrev pub is_other : Item → Bool
is_other item = not (nat_eq item.id.0 1)

nodes-uncounted : (items : List Item) → nodes (map uncounted items) ≡ nodes items
nodes-uncounted [] = refl
nodes-uncounted (item ∷ items) =
    ap (λ node. node ∷ nodes (map uncounted items)) (node-uncounted item) ∙ ap (λ more. item_node item ∷ more) (nodes-uncounted items)

uncounted-if : (b : Bool) (item : Item) (items : List Item) → cond b (uncounted item ∷ map uncounted items) (map uncounted items) ≡ map uncounted (cond b (item ∷ items) items)
uncounted-if true item items = refl
uncounted-if false item items = refl

others-uncounted : (items : List Item) → filter is_other (map uncounted items) ≡ map uncounted (filter is_other items)
others-uncounted [] = refl
others-uncounted (item ∷ items) =
    ap (λ more. cond (is_other item) (uncounted item ∷ more) more) (others-uncounted items) ∙ uncounted-if (is_other item) item (filter is_other items)

at-uncounted : (path : Option (List (List ℕ))) (item : Item) (entries : List (List (List ℕ) × Item))
    → at_path path (uncounted item) (mapped uncounted entries) ≡ mapped uncounted (at_path path item entries)
at-uncounted None item entries = refl
at-uncounted (Some path) item entries = refl

abbrev places : List Node → List Item → List (List (List ℕ) × Item)
places all items = placed (λ (item : Item). item.id.0) all items

placed-uncounted : (all : List Node) (items : List Item) → places all (map uncounted items) ≡ mapped uncounted (places all items)
placed-uncounted all [] = refl
placed-uncounted all (item ∷ items) =
    ap (λ entries. at_path (path_of all item.id.0) (uncounted item) entries) (placed-uncounted all items)
    ∙ at-uncounted (path_of all item.id.0) item (places all items)

pub paths-uncounted : (items : List Item) → paths_of (map uncounted items) ≡ mapped uncounted (paths_of items)
paths-uncounted items =
    ap (λ all. in_order (places all (filter is_other (map uncounted items)))) (nodes-uncounted items)
    ∙ ap (λ others. in_order (places (nodes items) others)) (others-uncounted items)
    ∙ ap in_order (placed-uncounted (nodes items) (filter is_other items))
    ∙ in-order-mapped uncounted (places (nodes items) (filter is_other items))
