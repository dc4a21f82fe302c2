-- One more node, whose folder is there, and the names of its siblings.
use Rattle.std.proofs.Common.{◌≡◌, ℕ, ◌<◌, zero, suc, Bool, true, false, ◌&&◌, inl, inr, cond, nat_eq, List, [], ◌∷◌, ◌++◌, length, map, filter, is_some, Option, Some, None, refl, sym, ap, ◌∙◌, subst, add-one, arith}
use Rattle.std.specs.Option.{option_or}
use Rattle.std.specs.List.{All}
use Rattle.std.proofs.lemmas.Bool.{ne_eqb, eq-eqb, eqb-true, or_cases, or_parts}
use Rattle.std.proofs.lemmas.List.{length_push}
use Rattle.std.proofs.lemmas.List.Elements.{All-nil, All-cons, All-head, All-tail}
use Rattle.std.proofs.lemmas.List.Folds.{find-append}
use Rattle.gd_names.specs.Caseless.{equal_caseless}
use Rattle.gd_names.specs.Settling.{is_taken}
use Rattle.gd_item.specs.declared.live.LiveItem.{LiveItem}
use Rattle.gd_item.specs.Nodes.{Node, node_at, is_folder, below, below_parent, path_of_node, path_within, path_of}
use Rattle.gd_item.specs.Refusals.{is_there, sibling_of, siblings_in}
use Rattle.gd_item.proofs.Climbs.{StaysAmong, folder-kept, path-among, path-longer}

-- every node's folders lead up to the root
abbrev pub IsLed : List Node → Type 0
IsLed nodes = (number : ℕ) → is_some (node_at number nodes) ≡ true → is_some (path_of nodes number) ≡ true

pub some-from : {A : Type 0} (found : Option A) → is_some found ≡ true → (x : A) × (found ≡ Some x)
some-from None h = absurd cc
some-from (Some x) h = (x, refl)

pub at-push : (nodes : List Node) (node : Node) (number : ℕ) (found : Option Node) → node_at number nodes ≡ found
    → node_at number (nodes ++ node ∷ []) ≡ option_or found (cond (nat_eq node.number number) (Some node) None)
at-push nodes node number found is =
    find-append (λ x. nat_eq x.number number) nodes (node ∷ []) ∙ ap (λ o. option_or o (cond (nat_eq node.number number) (Some node) None)) is

-- the nodes stay among one more
pub stays-push : (nodes : List Node) (node : Node) → StaysAmong nodes (nodes ++ node ∷ [])
stays-push nodes node number found is = at-push nodes node number (Some found) is

-- a number above all others is that of no node
pub none-at : (number : ℕ) (nodes : List Node) → All (λ other. other.number < number) nodes → node_at number nodes ≡ None
none-at number [] above = refl
none-at number (node ∷ nodes) above =
    let P : Node → Type 0 = λ other. other.number < number in
    let lt : node.number < number = All-head P node nodes above in
    ap (λ b. cond b (Some node) (node_at number nodes)) (ne_eqb node.number number (λ e. omega arith)) ∙ none-at number nodes (All-tail P node nodes above)

-- the new node is found
pub new-at : (nodes : List Node) (node : Node) → All (λ other. other.number < node.number) nodes → node_at node.number (nodes ++ node ∷ []) ≡ Some node
new-at nodes node above =
    at-push nodes node node.number None (none-at node.number nodes above) ∙ ap (λ b. option_or None (cond b (Some node) None)) (eq-eqb node.number node.number refl)

pub path-of-root : (steps : ℕ) (nodes : List Node) (number : ℕ) → nat_eq number 1 ≡ true → path_within steps nodes number ≡ Some []
path-of-root zero nodes number root = ap (λ b. cond b (Some []) None) root
path-of-root (suc steps) nodes number root = ap (λ b. cond b (Some []) (path_of_node (path_within steps nodes) nodes (node_at number nodes))) root

-- what is there has a path
pub led-there : (nodes : List Node) → IsLed nodes → (number : ℕ) → is_there number nodes ≡ true → is_some (path_of nodes number) ≡ true
led-there nodes led number there =
    elim (or_cases (nat_eq number 1) (is_some (node_at number nodes)) there)
    [ inl root ↦ ap is_some (path-of-root (length nodes) nodes number root) | inr found ↦ led number found ]

one-longer : (nodes : List Node) (node : Node) → length (nodes ++ node ∷ []) ≡ suc (length nodes)
one-longer nodes node = length_push nodes node ∙ add-one (length nodes)

-- a path stays where a node is added
pub old-path : (nodes : List Node) (node : Node) (number : ℕ) (path : List (List ℕ)) → path_of nodes number ≡ Some path → path_of (nodes ++ node ∷ []) number ≡ Some path
old-path nodes node number path h =
    let more : List Node = nodes ++ node ∷ [] in
    ap (λ steps. path_within steps more number) (one-longer nodes node)
    ∙ path-longer more (length nodes) number path (path-among nodes more (stays-push nodes node) (length nodes) number path h)

-- the new node's path is that of its folder with its name
pub new-path : (nodes : List Node) (node : Node) (parent : ℕ) (above : List (List ℕ)) → 1 < node.number → All (λ other. other.number < node.number) nodes → node.parent ≡ Some parent
    → is_folder parent nodes ≡ true → path_of nodes parent ≡ Some above → path_of (nodes ++ node ∷ []) node.number ≡ Some (above ++ node.name ∷ [])
new-path nodes node parent above not_root highest under folder path =
    let more : List Node = nodes ++ node ∷ [] in
    let steps : ℕ = length nodes in
    let read : ℕ → Option (List (List ℕ)) = path_within steps more in
    ap (λ n. path_within n more node.number) (one-longer nodes node)
    ∙ ap (λ b. cond b (Some []) (path_of_node read more (node_at node.number more))) (ne_eqb node.number 1 (λ e. omega arith))
    ∙ ap (path_of_node read more) (new-at nodes node highest)
    ∙ ap (below_parent read more node.name) under
    ∙ ap (λ b. cond b (below (read parent) node.name) None) (folder-kept nodes more (stays-push nodes node) parent folder)
    ∙ ap (λ p. below p node.name) (path-among nodes more (stays-push nodes node) steps parent above path)

led-old : (nodes : List Node) (node : Node) → IsLed nodes → (number : ℕ) → is_some (node_at number nodes) ≡ true → is_some (path_of (nodes ++ node ∷ []) number) ≡ true
led-old nodes node led number there =
    let found : (path : List (List ℕ)) × (path_of nodes number ≡ Some path) = some-from (path_of nodes number) (led number there) in
    ap is_some (old-path nodes node number found.0 found.1)

led-new : (nodes : List Node) (node : Node) (number : ℕ) → is_some (path_of (nodes ++ node ∷ []) node.number) ≡ true → (b : Bool) → nat_eq node.number number ≡ b
    → is_some (option_or None (cond b (Some node) None)) ≡ true → is_some (path_of (nodes ++ node ∷ []) number) ≡ true
led-new nodes node number new true is there =
    let P : ℕ → Type 0 = λ n. is_some (path_of (nodes ++ node ∷ []) n) ≡ true in
    subst P (eqb-true node.number number is) new
led-new nodes node number new false is there = absurd cc

led-found : (nodes : List Node) (node : Node) → IsLed nodes → is_some (path_of (nodes ++ node ∷ []) node.number) ≡ true → (number : ℕ) (found : Option Node) → node_at number nodes ≡ found
    → is_some (node_at number (nodes ++ node ∷ [])) ≡ true → is_some (path_of (nodes ++ node ∷ []) number) ≡ true
led-found nodes node led new number None is there =
    led-new nodes node number new (nat_eq node.number number) refl (ap is_some (sym (at-push nodes node number None is)) ∙ there)
led-found nodes node led new number (Some old) is there = led-old nodes node led number (ap is_some is)

-- every node's folders still lead up to the root where a node is added in a folder that is there
pub led-push : (nodes : List Node) (node : Node) (parent : ℕ) → IsLed nodes → 1 < node.number → All (λ other. other.number < node.number) nodes → node.parent ≡ Some parent
    → is_there parent nodes ≡ true → is_folder parent nodes ≡ true → IsLed (nodes ++ node ∷ [])
led-push nodes node parent led not_root highest under there folder number =
    let found : (path : List (List ℕ)) × (path_of nodes parent ≡ Some path) = some-from (path_of nodes parent) (led-there nodes led parent there) in
    led-found nodes node led (ap is_some (new-path nodes node parent found.0 not_root highest under folder found.1)) number (node_at number nodes) refl

-- whether an item stands in the folder and has the name, but for case
abbrev pub has_name_in : ℕ → List ℕ → LiveItem → Bool
has_name_in parent name item = nat_eq item.parent parent && equal_caseless item.name name

apart-first : (parent : ℕ) (name : List ℕ) (item : LiveItem) (items : List LiveItem) → is_taken (siblings_in parent (item ∷ items)) name ≡ false → has_name_in parent name item ≡ false
apart-first parent name item items =
    let more : List LiveItem = filter (λ x. nat_eq x.parent parent) items in
    elim (nat_eq item.parent parent) as (λ b. is_taken (map sibling_of (cond b (item ∷ more) more)) name ≡ false → (b && equal_caseless item.name name) ≡ false)
    [ true ↦ (λ h. (or_parts (equal_caseless item.name name) (is_taken (map sibling_of more) name) h).0) | false ↦ (λ h. refl) ]

apart-rest : (parent : ℕ) (name : List ℕ) (item : LiveItem) (items : List LiveItem) → is_taken (siblings_in parent (item ∷ items)) name ≡ false → is_taken (siblings_in parent items) name ≡ false
apart-rest parent name item items =
    let more : List LiveItem = filter (λ x. nat_eq x.parent parent) items in
    elim (nat_eq item.parent parent) as (λ b. is_taken (map sibling_of (cond b (item ∷ more) more)) name ≡ false → is_taken (map sibling_of more) name ≡ false)
    [ true ↦ (λ h. (or_parts (equal_caseless item.name name) (is_taken (map sibling_of more) name) h).1) | false ↦ (λ h. h) ]

-- no item of the folder has a name that is not taken
pub apart : (parent : ℕ) (name : List ℕ) (items : List LiveItem) → is_taken (siblings_in parent items) name ≡ false → All (λ item. has_name_in parent name item ≡ false) items
apart parent name [] free = All-nil (λ item. has_name_in parent name item ≡ false)
apart parent name (item ∷ items) free =
    All-cons (λ x. has_name_in parent name x ≡ false) item items (apart-first parent name item items free) (apart parent name items (apart-rest parent name item items free))
