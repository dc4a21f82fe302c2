-- Whether an item stands below another one, and whether a path is too long once it is moved.
use Rattle.std.proofs.Common.{◌≡◌, ℕ, zero, suc, ◌+◌, ◌-◌, Bool, true, false, ◌||◌, cond, nat_eq, List, [], ◌∷◌, map, Some, None, ◌&&◌, refl, sym, ap, ◌∙◌, arith}
use Rattle.std.specs.List.{list_any}
use Rattle.std.specs.Option.{option_map}
use Rattle.std.proofs.lemmas.Bool.{ne_eqb}
use Rattle.gd_item.specs.declared.live.LiveItem.{LiveItem}
use Rattle.gd_item.specs.Nodes.{Node, live_node, node_at, path_of}
use Rattle.gd_item.specs.Refusals.{is_too_long}
use Rattle.gd_item.specs.Inventory.{Inventory, Moved, after, live_at, changed, with_place}
use Rattle.gd_item.specs.Moves.{is_node_such, is_in_within, is_in, is_any_too_long}
use Rattle.gd_store.specs.Moved.{is_any_long}
use Rattle.gd_laws.proofs.Found.{node-of-live}

step-in : (steps : ℕ) (nodes : List Node) (top number : ℕ) → (number ≡ top → ⊥) → (steps ≡ 0 → ⊥)
    → is_in_within steps nodes top number ≡ is_node_such (is_in_within (steps - 1) nodes top) (node_at number nodes)
step-in zero nodes top number away some = absurd (some refl)
step-in (suc k) nodes top number away some =
    let e : suc k - 1 ≡ k = omega arith in
    let o : nat_eq number top ≡ false = ne_eqb number top away in
    rw (e, o)

pub nothing-in : (steps : ℕ) (items : List LiveItem) (top number : ℕ) → (number ≡ top → ⊥) → (steps ≡ 0 → ⊥) → None ≡ live_at number items → false ≡ is_in_within steps (map live_node items) top number
nothing-in steps items top number away some none =
    let nodes : List Node = map live_node items in
    sym (step-in steps nodes top number away some ∙ ap (is_node_such (is_in_within (steps - 1) nodes top)) (node-of-live number items ∙ ap (option_map live_node) (sym none)))

pub up-in : (steps : ℕ) (items : List LiveItem) (top number : ℕ) (item : LiveItem) (above : Bool) → (number ≡ top → ⊥) → (steps ≡ 0 → ⊥) → Some item ≡ live_at number items
    → above ≡ is_in_within (steps - 1) (map live_node items) top item.parent → above ≡ is_in_within steps (map live_node items) top number
up-in steps items top number item above away some found is =
    let nodes : List Node = map live_node items in
    is ∙ sym (step-in steps nodes top number away some ∙ ap (is_node_such (is_in_within (steps - 1) nodes top)) (node-of-live number items ∙ ap (option_map live_node) (sym found)))

-- whether a path is too long is read off the nodes
abbrev any-in : List Node → ℕ → List Node → Bool
any-in nodes top rest = list_any (λ (node : Node). is_in nodes top node.number && is_too_long (path_of nodes node.number)) rest

by-nodes : (nodes : List Node) (top : ℕ) (rest : List LiveItem)
    → list_any (λ (item : LiveItem). is_in nodes top item.number && is_too_long (path_of nodes item.number)) rest ≡ any-in nodes top (map live_node rest)
by-nodes nodes top [] = refl
by-nodes nodes top (item ∷ rest) = ap (λ b. (is_in nodes top item.number && is_too_long (path_of nodes item.number)) || b) (by-nodes nodes top rest)

pub same-nodes : (number a b parent : ℕ) (name : List ℕ) (items : List LiveItem) → map live_node (changed number (with_place a parent name) items) ≡ map live_node (changed number (with_place b parent name) items)
same-nodes number a b parent name [] = refl
same-nodes number a b parent name (item ∷ items) =
    let f : LiveItem → LiveItem = with_place a parent name in
    let g : LiveItem → LiveItem = with_place b parent name in
    elim (nat_eq item.number number) as (λ t. map live_node (cond t (f item ∷ items) (item ∷ changed number f items)) ≡ map live_node (cond t (g item ∷ items) (item ∷ changed number g items)))
    [ true ↦ refl | false ↦ ap (λ nodes. live_node item ∷ nodes) (same-nodes number a b parent name items) ]

-- the change number of the moved item does not matter
pub any-change : (number a b parent : ℕ) (name : List ℕ) (items : List LiveItem) → is_any_long number (changed number (with_place a parent name) items) ≡ is_any_long number (changed number (with_place b parent name) items)
any-change number a b parent name items =
    let xs : List LiveItem = changed number (with_place a parent name) items in
    let ys : List LiveItem = changed number (with_place b parent name) items in
    by-nodes (map live_node xs) number xs ∙ ap (λ nodes. any-in nodes number nodes) (same-nodes number a b parent name items) ∙ sym (by-nodes (map live_node ys) number ys)

pub long-moved : (held : Inventory) (number change parent : ℕ) (name : List ℕ) (items : List LiveItem) (long : Bool) → items ≡ held.items
    → long ≡ is_any_long number (changed number (with_place change parent name) items) → long ≡ is_any_too_long (after held (Moved number parent name)) number
long-moved held number change parent name items long are is =
    is ∙ ap (λ xs. is_any_long number (changed number (with_place change parent name) xs)) are ∙ any-change number change (held.number + 1) parent name held.items
