-- A climb from folder to folder finds the path, in as many steps as there are nodes.
use Rattle.std.proofs.Common.{◌≡◌, ℕ, zero, suc, ◌+◌, ◌-◌, ◌<◌, Bool, true, false, cond, List, [], ◌∷◌, ◌++◌, length, reverse, is_some, nat_eq, Option, Some, None, refl, ap, sym, ◌∙◌, append_assoc, arith}
use Rattle.std.proofs.lemmas.List.{reverse-append, length-map}
use Rattle.std.proofs.lemmas.Bool.Decides.{nat_tests}
use Rattle.gd_item.specs.declared.item.Item.{Item}
use Rattle.od_mirror.specs.Pulled.{nodes}
use Rattle.gd_item.specs.Nodes.{Node, node_at, is_folder, below, below_parent, path_of_node, path_within, path_of}
use Rattle.od_mirror.specs.Climbs.{step_to, step_from, step_up, with_names}

-- the path of the folder that a step reached, with the name from which it came
abbrev pub after_step : (ℕ → Option (List (List ℕ))) → Option (List ℕ × ℕ) → Option (List (List ℕ))
after_step path None = None
after_step path (Some step) = below (path step.1) step.0

folder-step : (b : Bool) (path : ℕ → Option (List (List ℕ))) (name : List ℕ) (parent : ℕ) → cond b (below (path parent) name) None ≡ after_step path (cond b (Some (name, parent)) None)
folder-step true path name parent = refl
folder-step false path name parent = refl

parent-step : (path : ℕ → Option (List (List ℕ))) (all : List Node) (name : List ℕ) (parent : Option ℕ) → below_parent path all name parent ≡ after_step path (step_to all name parent)
parent-step path all name None = refl
parent-step path all name (Some parent) = folder-step (is_folder parent all) path name parent

node-step : (path : ℕ → Option (List (List ℕ))) (all : List Node) (node : Option Node) → path_of_node path all node ≡ after_step path (step_from all node)
node-step path all None = refl
node-step path all (Some node) = parent-step path all node.name node.parent

-- a path is found by one step and the path from there
pub step-path : (steps : ℕ) (all : List Node) (at : ℕ) → nat_eq at 1 ≡ false → path_within (suc steps) all at ≡ after_step (path_within steps all) (step_up all at)
step-path steps all at below_root = rw below_root (node-step (path_within steps all) all (node_at at all))

steps-left : (count index : ℕ) → index < count → count - index ≡ suc (count - (index + 1))
steps-left count index more = omega arith

-- one step of a climb
pub climb-on : (all : List Node) (at index : ℕ) (name : List ℕ) (parent : ℕ) → index < length all → nat_eq at 1 ≡ false → step_up all at ≡ Some (name, parent)
    → path_within (length all - index) all at ≡ below (path_within (length all - (index + 1)) all parent) name
climb-on all at index name parent more below_root step =
    ap (λ steps. path_within steps all at) (steps-left (length all) index more)
    ∙ step-path (length all - (index + 1)) all at below_root
    ∙ ap (after_step (path_within (length all - (index + 1)) all)) step

-- a climb that ends at a node with no folder
pub climb-lost : (all : List Node) (at index : ℕ) → index < length all → nat_eq at 1 ≡ false → step_up all at ≡ None → path_within (length all - index) all at ≡ None
climb-lost all at index more below_root step =
    ap (λ steps. path_within steps all at) (steps-left (length all) index more)
    ∙ step-path (length all - (index + 1)) all at below_root
    ∙ ap (after_step (path_within (length all - (index + 1)) all)) step

pub is_some-below : (path : Option (List (List ℕ))) (name : List ℕ) → is_some (below path name) ≡ is_some path
is_some-below None name = refl
is_some-below (Some path) name = refl

pub with_names-below : (path : Option (List (List ℕ))) (name : List ℕ) (names : List (List ℕ)) → with_names (below path name) (reverse names) ≡ with_names path (reverse (names ++ name ∷ []))
with_names-below None name names = refl
with_names-below (Some path) name names =
    ap Some (append_assoc path (name ∷ []) (reverse names) ∙ ap (λ more. path ++ more) (sym (reverse-append names (name ∷ []))))

-- ---- over items
not-one : (at : ℕ) → (at ≡ 1 → ⊥) → nat_eq at 1 ≡ false
not-one at apart = grind (arith, nat_tests)

within-nodes : (items : List Item) (index : ℕ) → index < length items → index < length (nodes items)
within-nodes items index more = rw length-map more

pub leads-on : (items : List Item) (number at index parent : ℕ) (name : List ℕ) → index < length items → (at ≡ 1 → ⊥) → Some (name, parent) ≡ step_up (nodes items) at
    → is_some (path_of (nodes items) number) ≡ is_some (path_within (length (nodes items) - index) (nodes items) at)
    → is_some (path_of (nodes items) number) ≡ is_some (path_within (length (nodes items) - (index + 1)) (nodes items) parent)
leads-on items number at index parent name more apart step so_far =
    so_far ∙ ap is_some (climb-on (nodes items) at index name parent (within-nodes items index more) (not-one at apart) (sym step))
    ∙ is_some-below (path_within (length (nodes items) - (index + 1)) (nodes items) parent) name

pub names-on : (items : List Item) (number at index parent : ℕ) (name : List ℕ) (names : List (List ℕ)) → index < length items → (at ≡ 1 → ⊥)
    → Some (name, parent) ≡ step_up (nodes items) at
    → path_of (nodes items) number ≡ with_names (path_within (length (nodes items) - index) (nodes items) at) (reverse names)
    → path_of (nodes items) number ≡ with_names (path_within (length (nodes items) - (index + 1)) (nodes items) parent) (reverse (names ++ name ∷ []))
names-on items number at index parent name names more apart step so_far =
    so_far ∙ ap (λ path. with_names path (reverse names)) (climb-on (nodes items) at index name parent (within-nodes items index more) (not-one at apart) (sym step))
    ∙ with_names-below (path_within (length (nodes items) - (index + 1)) (nodes items) parent) name names

pub names-lost : (items : List Item) (number at index : ℕ) (names : List (List ℕ)) → index < length items → (at ≡ 1 → ⊥) → None ≡ step_up (nodes items) at
    → path_of (nodes items) number ≡ with_names (path_within (length (nodes items) - index) (nodes items) at) (reverse names)
    → None ≡ path_of (nodes items) number
names-lost items number at index names more apart step so_far =
    sym (so_far ∙ ap (λ path. with_names path (reverse names)) (climb-lost (nodes items) at index (within-nodes items index more) (not-one at apart) (sym step)))

-- a climb that ends at the root
root-path : (steps : ℕ) (all : List Node) → path_within steps all 1 ≡ Some []
root-path zero all = refl
root-path (suc steps) all = refl

pub names-end : (items : List Item) (number at index : ℕ) (names path : List (List ℕ)) → at ≡ 1 → path ≡ reverse names
    → path_of (nodes items) number ≡ with_names (path_within (length (nodes items) - index) (nodes items) at) (reverse names)
    → Some path ≡ path_of (nodes items) number
names-end items number at index names path one is so_far =
    ap Some is
    ∙ sym
    (so_far ∙ ap (λ n. with_names (path_within (length (nodes items) - index) (nodes items) n) (reverse names)) one
    ∙ ap (λ top. with_names top (reverse names)) (root-path (length (nodes items) - index) (nodes items)))
