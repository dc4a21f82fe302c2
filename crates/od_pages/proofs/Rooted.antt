-- The root's record in front of the nodes of a drive: it makes no path longer or other, and is nobody's twin.
use Rattle.std.proofs.Common.{◌≡◌, ℕ, zero, suc, Bool, true, false, not, ◌&&◌, ◌||◌, cond, List, [], ◌∷◌, length, codes, is_some, nat_eq, nat_lt, Option, Some, None, refl, ap, ◌∙◌}
use Rattle.gd_item.specs.Nodes.{Node, node_at, is_some_folder, is_folder, below, below_parent, path_of_node, path_within, path_of, is_same_parent, is_twin, has_twin}
use Rattle.gd_item.proofs.Climbs.{path-longer}
use Rattle.gd_names.specs.Caseless.{equal_caseless}
use Rattle.gd_names.proofs.Small.{not-one}

abbrev pub root_node : Node
root_node = record { number = 1; parent = None; name = codes "root"; folder = true }

-- ---- the root's node in front
folder-at : (b : Bool) (parent : ℕ) (all : List Node) → nat_eq parent 1 ≡ b → (b || is_some_folder (node_at parent (root_node ∷ all))) ≡ (b || is_some_folder (node_at parent all))
folder-at true parent all is = refl
folder-at false parent all is = rw (not-one parent is) refl

same-folder : (parent : ℕ) (all : List Node) → is_folder parent (root_node ∷ all) ≡ is_folder parent all
same-folder parent all = folder-at (nat_eq parent 1) parent all refl

same-parent-path : (path more : ℕ → Option (List (List ℕ))) (all : List Node) (name : List ℕ) (parent : Option ℕ) → ((number : ℕ) → path number ≡ more number)
    → below_parent path (root_node ∷ all) name parent ≡ below_parent more all name parent
same-parent-path path more all name None same = refl
same-parent-path path more all name (Some parent) same =
    ap (λ b. cond b (below (path parent) name) None) (same-folder parent all) ∙ ap (λ above. cond (is_folder parent all) (below above name) None) (same parent)

same-node-path : (path more : ℕ → Option (List (List ℕ))) (all : List Node) (at : Option Node) → ((number : ℕ) → path number ≡ more number)
    → path_of_node path (root_node ∷ all) at ≡ path_of_node more all at
same-node-path path more all None same = refl
same-node-path path more all (Some node) same = same-parent-path path more all node.name node.parent same

path-at : (b : Bool) (steps number : ℕ) (all : List Node) → nat_eq number 1 ≡ b → ((other : ℕ) → path_within steps (root_node ∷ all) other ≡ path_within steps all other)
    → cond b (Some []) (path_of_node (path_within steps (root_node ∷ all)) (root_node ∷ all) (node_at number (root_node ∷ all)))
    ≡ cond b (Some []) (path_of_node (path_within steps all) all (node_at number all))
path-at true steps number all is same = refl
path-at false steps number all is same =
    rw (not-one number is) (same-node-path (path_within steps (root_node ∷ all)) (path_within steps all) all (node_at number all) same)

same-path : (steps : ℕ) (all : List Node) (number : ℕ) → path_within steps (root_node ∷ all) number ≡ path_within steps all number
same-path zero all number = refl
same-path (suc steps) all number = path-at (nat_eq number 1) steps number all refl (same-path steps all)

-- ---- one more step
path-stays : (all : List Node) (number : ℕ) (path : Option (List (List ℕ))) → path_within (length all) all number ≡ path → is_some path ≡ true
    → path_within (suc (length all)) all number ≡ path
path-stays all number None is there = absurd (cc)
path-stays all number (Some path) is there = path-longer all (length all) number path is

-- the path of a number that has one is the same with the root's node in front
pub path-with-root : (all : List Node) (number : ℕ) → is_some (path_of all number) ≡ true → path_of (root_node ∷ all) number ≡ path_of all number
path-with-root all number there =
    same-path (suc (length all)) all number ∙ path-stays all number (path_of all number) refl there

-- ---- twins
no-twin-of-root : (b c d : Bool) → (((b && false) && c) && d) ≡ false
no-twin-of-root true c d = refl
no-twin-of-root false c d = refl

root-is-no-twin : (a b c d : Bool) → ((((a && false) && b) && c) && d) ≡ false
root-is-no-twin true b c d = refl
root-is-no-twin false b c d = refl

not-below : (a b c d e : Bool) → a ≡ false → ((((a && b) && c) && d) && e) ≡ false
not-below true b c d e is = absurd (cc)
not-below false b c d e is = refl

-- the root has no twin
pub root-has-none : (all : List Node) → has_twin all root_node ≡ false
root-has-none [] = refl
root-has-none (other ∷ all) =
    rw (no-twin-of-root (nat_lt other.number 1 && not (nat_eq other.number 1)) (is_same_parent other.parent None) (equal_caseless other.name (codes "root"))) (root-has-none all)

-- the root is nobody's twin
pub root-is-none : (node : Node) → is_twin node root_node ≡ false
root-is-none node = root-is-no-twin (nat_lt 1 node.number) (not (nat_eq node.number 1)) (is_same_parent None node.parent) (equal_caseless (codes "root") node.name)

-- a node of no lesser number is no twin
pub no-later-twin : (node other : Node) → nat_lt other.number node.number ≡ false → is_twin node other ≡ false
no-later-twin node other is =
    not-below (nat_lt other.number node.number) (not (nat_eq other.number 1)) (not (nat_eq node.number 1)) (is_same_parent other.parent node.parent)
    (equal_caseless other.name node.name) is
