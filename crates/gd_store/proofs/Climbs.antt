-- Going up one folder.
use Rattle.std.proofs.Common.{◌≡◌, ℕ, zero, suc, ◌-◌, true, false, cond, nat_eq, List, map, Option, Some, None, refl, sym, ap, ◌∙◌, arith}
use Rattle.std.specs.Option.{option_map}
use Rattle.std.proofs.lemmas.Bool.Decides.{nat_tests}
use Rattle.gd_item.specs.declared.live.LiveItem.{LiveItem}
use Rattle.gd_item.specs.Nodes.{Node, live_node, node_at, is_folder, below, path_of_node, path_within}
use Rattle.gd_item.specs.Inventory.{live_at}
use Rattle.gd_laws.proofs.Found.{node-of-live}

off : (number : ℕ) → (number ≡ 1 → ⊥) → nat_eq number 1 ≡ false
off number away = grind (arith, nat_tests)

pub step : (steps : ℕ) (nodes : List Node) (number : ℕ) → (number ≡ 1 → ⊥) → (steps ≡ 0 → ⊥)
    → path_within steps nodes number ≡ path_of_node (path_within (steps - 1) nodes) nodes (node_at number nodes)
step zero nodes number away some = absurd (some refl)
step (suc k) nodes number away some =
    let e : suc k - 1 ≡ k = omega arith in
    let o : nat_eq number 1 ≡ false = off number away in
    rw (e, o)

-- the path of a living item is that of its folder with its name, if its folder is one
pub up : (steps : ℕ) (items : List LiveItem) (number : ℕ) (item : LiveItem) → (number ≡ 1 → ⊥) → (steps ≡ 0 → ⊥) → Some item ≡ live_at number items
    → path_within steps (map live_node items) number ≡ cond (is_folder item.parent (map live_node items)) (below (path_within (steps - 1) (map live_node items) item.parent) item.name) None
up steps items number item away some found =
    let nodes : List Node = map live_node items in
    step steps nodes number away some ∙ ap (path_of_node (path_within (steps - 1) nodes) nodes) (node-of-live number items ∙ ap (option_map live_node) (sym found))

pub nothing : (steps : ℕ) (items : List LiveItem) (number : ℕ) → (number ≡ 1 → ⊥) → (steps ≡ 0 → ⊥) → None ≡ live_at number items → None ≡ path_within steps (map live_node items) number
nothing steps items number away some none =
    let nodes : List Node = map live_node items in
    sym (step steps nodes number away some ∙ ap (path_of_node (path_within (steps - 1) nodes) nodes) (node-of-live number items ∙ ap (option_map live_node) (sym none)))

pub no-folder : (steps : ℕ) (items : List LiveItem) (number : ℕ) (item : LiveItem) → (number ≡ 1 → ⊥) → (steps ≡ 0 → ⊥) → Some item ≡ live_at number items
    → false ≡ is_folder item.parent (map live_node items) → None ≡ path_within steps (map live_node items) number
no-folder steps items number item away some found file =
    let nodes : List Node = map live_node items in
    sym (up steps items number item away some found ∙ ap (λ b. cond b (below (path_within (steps - 1) nodes item.parent) item.name) None) (sym file))

pub with-folder : (steps : ℕ) (items : List LiveItem) (number : ℕ) (item : LiveItem) (above : Option (List (List ℕ))) → (number ≡ 1 → ⊥) → (steps ≡ 0 → ⊥) → Some item ≡ live_at number items
    → true ≡ is_folder item.parent (map live_node items) → above ≡ path_within (steps - 1) (map live_node items) item.parent → below above item.name ≡ path_within steps (map live_node items) number
with-folder steps items number item above away some found folder path =
    let nodes : List Node = map live_node items in
    ap (λ p. below p item.name) path ∙ sym (up steps items number item away some found ∙ ap (λ b. cond b (below (path_within (steps - 1) nodes item.parent) item.name) None) (sym folder))
