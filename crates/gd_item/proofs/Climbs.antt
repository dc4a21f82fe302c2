-- A path stays where an item is added.
use Rattle.std.proofs.Common.{◌≡◌, ℕ, zero, suc, true, false, ◌||◌, cond, nat_eq, List, [], Option, Some, None, refl, sym, ap, ◌∙◌}
use Rattle.gd_item.specs.Nodes.{Node, node_at, is_some_folder, is_folder, below, below_parent, path_of_node, path_within}

-- each node of the first list is one of the second
abbrev pub StaysAmong : List Node → List Node → Type 0
StaysAmong nodes more = (number : ℕ) (node : Node) → node_at number nodes ≡ Some node → node_at number more ≡ Some node

-- each path that the first function reads is read by the second
abbrev pub Carries : (ℕ → Option (List (List ℕ))) → (ℕ → Option (List (List ℕ))) → Type 0
Carries f g = (number : ℕ) (path : List (List ℕ)) → f number ≡ Some path → g number ≡ Some path

some_folder-kept : (found more : Option Node) → ((node : Node) → found ≡ Some node → more ≡ Some node) → is_some_folder found ≡ true → is_some_folder more ≡ true
some_folder-kept None more stays h = absurd cc
some_folder-kept (Some node) more stays h = ap is_some_folder (stays node refl) ∙ h

-- a folder stays one
pub folder-kept : (nodes more : List Node) → StaysAmong nodes more → (number : ℕ) → is_folder number nodes ≡ true → is_folder number more ≡ true
folder-kept nodes more stays number =
    elim (nat_eq number 1) as (λ b. (b || is_some_folder (node_at number nodes)) ≡ true → (b || is_some_folder (node_at number more)) ≡ true)
    [ true ↦ (λ h. refl) | false ↦ some_folder-kept (node_at number nodes) (node_at number more) (stays number) ]

below-kept : (above more : Option (List (List ℕ))) (name : List ℕ) → ((path : List (List ℕ)) → above ≡ Some path → more ≡ Some path)
    → (path : List (List ℕ)) → below above name ≡ Some path → below more name ≡ Some path
below-kept None more name carries path h = absurd cc
below-kept (Some above) more name carries path h = ap (λ p. below p name) (carries above refl) ∙ h

below_parent-kept : (nodes more : List Node) → StaysAmong nodes more → (f g : ℕ → Option (List (List ℕ))) → Carries f g → (name : List ℕ) (parent : Option ℕ)
    → (path : List (List ℕ)) → below_parent f nodes name parent ≡ Some path → below_parent g more name parent ≡ Some path
below_parent-kept nodes more stays f g carries name None path h = absurd cc
below_parent-kept nodes more stays f g carries name (Some parent) path h =
    (elim (is_folder parent nodes) as (λ b. b ≡ is_folder parent nodes → cond b (below (f parent) name) None ≡ Some path → cond (is_folder parent more) (below (g parent) name) None ≡ Some path) [
      | true ↦ λ is h. ap (λ b. cond b (below (g parent) name) None) (folder-kept nodes more stays parent (sym is)) ∙ below-kept (f parent) (g parent) name (carries parent) path h
      | false ↦ λ is h. absurd cc
    ]) refl h

path_of_node-kept : (nodes more : List Node) → StaysAmong nodes more → (f g : ℕ → Option (List (List ℕ))) → Carries f g → (found : Option Node)
    → (path : List (List ℕ)) → path_of_node f nodes found ≡ Some path → path_of_node g more found ≡ Some path
path_of_node-kept nodes more stays f g carries None path h = absurd cc
path_of_node-kept nodes more stays f g carries (Some node) path h = below_parent-kept nodes more stays f g carries node.name node.parent path h

found-kept : (nodes more : List Node) → StaysAmong nodes more → (f g : ℕ → Option (List (List ℕ))) → Carries f g → (number : ℕ) (found : Option Node) → node_at number nodes ≡ found
    → (path : List (List ℕ)) → path_of_node f nodes found ≡ Some path → path_of_node g more (node_at number more) ≡ Some path
found-kept nodes more stays f g carries number None is path h = absurd cc
found-kept nodes more stays f g carries number (Some node) is path h =
    ap (path_of_node g more) (stays number node is) ∙ path_of_node-kept nodes more stays f g carries (Some node) path h

-- a path is that of a node whose folder's path is carried
step-kept : (nodes more : List Node) → StaysAmong nodes more → (f g : ℕ → Option (List (List ℕ))) → Carries f g → (number : ℕ) (path : List (List ℕ))
    → cond (nat_eq number 1) (Some []) (path_of_node f nodes (node_at number nodes)) ≡ Some path
    → cond (nat_eq number 1) (Some []) (path_of_node g more (node_at number more)) ≡ Some path
step-kept nodes more stays f g carries number path =
    elim (nat_eq number 1) as (λ b. cond b (Some []) (path_of_node f nodes (node_at number nodes)) ≡ Some path → cond b (Some []) (path_of_node g more (node_at number more)) ≡ Some path)
    [ true ↦ (λ h. h) | false ↦ found-kept nodes more stays f g carries number (node_at number nodes) refl path ]

-- a path among fewer nodes is one among more
pub path-among : (nodes more : List Node) → StaysAmong nodes more → (steps : ℕ) → Carries (path_within steps nodes) (path_within steps more)
path-among nodes more stays zero number path h = h
path-among nodes more stays (suc steps) number path h =
    step-kept nodes more stays (path_within steps nodes) (path_within steps more) (path-among nodes more stays steps) number path h

first-step : (nodes : List Node) (number : ℕ) (path : List (List ℕ)) → path_within zero nodes number ≡ Some path → path_within (suc zero) nodes number ≡ Some path
first-step nodes number path =
    elim (nat_eq number 1) as (λ b. cond b (Some []) None ≡ Some path → cond b (Some []) (path_of_node (path_within zero nodes) nodes (node_at number nodes)) ≡ Some path)
    [ true ↦ (λ h. h) | false ↦ (λ h. absurd cc) ]

-- a path over fewer folders is one over more
pub path-longer : (nodes : List Node) (steps : ℕ) → Carries (path_within steps nodes) (path_within (suc steps) nodes)
path-longer nodes zero number path h = first-step nodes number path h
path-longer nodes (suc steps) number path h =
    step-kept nodes nodes (λ n node is. is) (path_within steps nodes) (path_within (suc steps) nodes) (path-longer nodes steps) number path h
