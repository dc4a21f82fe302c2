-- An item's folders lead up to the root, one step to each folder. Each step has another depth, so there are no more
-- steps than nodes.
use Rattle.std.proofs.Common.{◌≡◌, ℕ, ◌+◌, ◌<◌, ◌≤◌, zero, suc, Bool, true, false, inl, inr, cond, nat_eq, List, [], ◌∷◌, ◌++◌, length, is_some, Option, Some, None, refl, sym, ap, ◌∙◌, subst, add-one, arith}
use Rattle.std.proofs.lemmas.Bool.{both_ways, cases_eq, eqb-true, false_from_ne_true}
use Rattle.std.proofs.lemmas.List.{length_push}
use Rattle.gd_item.specs.Nodes.{Node, node_at, is_folder, below, below_parent, path_of_node, path_within, path_of}
use Rattle.gd_item.proofs.Adding.{some-from}
use Rattle.gd_item.proofs.Climbs.{path-longer}

-- the number is that of a node other than the root, which stands in this folder
pub record IsChild (nodes : List Node) (number parent : ℕ) : Type 0 where
  pub not_root : nat_eq number 1 ≡ false
  pub node : Node
  pub found : node_at number nodes ≡ Some node
  pub under : node.parent ≡ Some parent
  pub folder : is_folder parent nodes ≡ true

-- the number is so many steps below the root
abbrev pub Climbs : List Node → ℕ → ℕ → Type 0
Climbs nodes zero number = nat_eq number 1 ≡ true
Climbs nodes (suc depth) number = (parent : ℕ) × IsChild nodes number parent × Climbs nodes depth parent

-- one step of the reading of a path
pub record IsStep (nodes : List Node) (read : ℕ → Option (List (List ℕ))) (number : ℕ) : Type 0 where
  pub parent : ℕ
  pub child : IsChild nodes number parent
  pub above : List (List ℕ)
  pub led : read parent ≡ Some above

step-above : (name : List ℕ) (found : Option (List (List ℕ))) (path : List (List ℕ)) → below found name ≡ Some path → (above : List (List ℕ)) × (found ≡ Some above)
step-above name None path h = absurd cc
step-above name (Some above) path h = (above, refl)

step-under : (nodes : List Node) (read : ℕ → Option (List (List ℕ))) (number : ℕ) (node : Node) (under : Option ℕ) (path : List (List ℕ))
    → nat_eq number 1 ≡ false → node_at number nodes ≡ Some node → node.parent ≡ under → below_parent read nodes node.name under ≡ Some path → IsStep nodes read number
step-under nodes read number node None path not_root found is h = absurd cc
step-under nodes read number node (Some parent) path not_root found is h =
    (elim (is_folder parent nodes) as (λ b. is_folder parent nodes ≡ b → cond b (below (read parent) node.name) None ≡ Some path → IsStep nodes read number) [
      | true ↦ λ folder h.
          let above : (above : List (List ℕ)) × (read parent ≡ Some above) = step-above node.name (read parent) path h in
          record { parent = parent; child = record { not_root = not_root; node = node; found = found; under = is; folder = folder }; above = above.0; led = above.1 }
      | false ↦ λ folder h. absurd cc
    ]) refl h

step-found : (nodes : List Node) (read : ℕ → Option (List (List ℕ))) (number : ℕ) (found : Option Node) (path : List (List ℕ))
    → nat_eq number 1 ≡ false → node_at number nodes ≡ found → path_of_node read nodes found ≡ Some path → IsStep nodes read number
step-found nodes read number None path not_root is h = absurd cc
step-found nodes read number (Some node) path not_root is h = step-under nodes read number node node.parent path not_root is refl h

-- a path that is read is a climb
pub climb-of-path : (nodes : List Node) (steps number : ℕ) (path : List (List ℕ)) → path_within steps nodes number ≡ Some path → (depth : ℕ) × (depth ≤ steps) × Climbs nodes depth number
climb-of-path nodes zero number path h =
    (elim (nat_eq number 1) as (λ b. nat_eq number 1 ≡ b → cond b (Some []) None ≡ Some path → (depth : ℕ) × (depth ≤ zero) × Climbs nodes depth number)
    [ true ↦ (λ is h. (0, omega arith, is)) | false ↦ (λ is h. absurd cc) ]) refl h
climb-of-path nodes (suc steps) number path h =
    let read : ℕ → Option (List (List ℕ)) = path_within steps nodes in
    (elim (nat_eq number 1) as (λ b. nat_eq number 1 ≡ b → cond b (Some []) (path_of_node read nodes (node_at number nodes)) ≡ Some path → (depth : ℕ) × (depth ≤ suc steps) × Climbs nodes depth number) [
      | true ↦ λ is h. (0, omega arith, is)
      | false ↦ λ is h.
          let step : IsStep nodes read number = step-found nodes read number (node_at number nodes) path is refl h in
          let rest : (depth : ℕ) × (depth ≤ steps) × Climbs nodes depth step.parent = climb-of-path nodes steps step.parent step.above step.led in
          let le : rest.0 ≤ steps = rest.1 in
          (suc rest.0, omega arith, (step.parent, step.child, rest.2))
    ]) refl h

-- a climb's path has a name for each step
pub path-of-climb : (nodes : List Node) (depth number : ℕ) → Climbs nodes depth number → (path : List (List ℕ)) × (path_within depth nodes number ≡ Some path) × (length path ≡ depth)
path-of-climb nodes zero number root = ([], ap (λ b. cond b (Some []) None) root, refl)
path-of-climb nodes (suc depth) number climb =
    let parent : ℕ = climb.0 in
    let child : IsChild nodes number parent = climb.1 in
    let read : ℕ → Option (List (List ℕ)) = path_within depth nodes in
    let rest : (path : List (List ℕ)) × (path_within depth nodes parent ≡ Some path) × (length path ≡ depth) = path-of-climb nodes depth parent climb.2 in
    let name : List ℕ = child.node.name in (
      rest.0 ++ name ∷ [],
      ap (λ b. cond b (Some []) (path_of_node read nodes (node_at number nodes))) child.not_root
          ∙ ap (path_of_node read nodes) child.found
          ∙ ap (below_parent read nodes name) child.under
          ∙ ap (λ b. cond b (below (read parent) name) None) child.folder
          ∙ ap (λ p. below p name) rest.1,
      length_push rest.0 name ∙ add-one (length rest.0) ∙ ap suc rest.2,
    )

-- a path within fewer steps is one within more
pub path-grown : (nodes : List Node) (steps more number : ℕ) (path : List (List ℕ)) → steps ≤ more → path_within steps nodes number ≡ Some path → path_within more nodes number ≡ Some path
path-grown nodes steps zero number path le h =
    let none : steps ≡ zero = omega arith in
    subst (λ n. path_within n nodes number ≡ Some path) none h
path-grown nodes steps (suc more) number path le h =
    elim (cases_eq steps (suc more)) [
      | inl same ↦ subst (λ n. path_within n nodes number ≡ Some path) same h
      | inr other ↦
          let fewer : steps ≤ more = omega arith in
          path-longer nodes more number path (path-grown nodes steps more number path fewer h)
    ]

same-parent : (nodes : List Node) (number parent other : ℕ) → IsChild nodes number parent → IsChild nodes number other → parent ≡ other
same-parent nodes number parent other a b =
    let nodes : Some a.node ≡ Some b.node = sym a.found ∙ b.found in
    let node : a.node ≡ b.node = cc in
    let parents : Some parent ≡ Some other = sym a.under ∙ ap (λ (n : Node). n.parent) node ∙ b.under in
    cc

-- a number has one depth
pub one-depth : (nodes : List Node) (depth other number : ℕ) → Climbs nodes depth number → Climbs nodes other number → depth ≡ other
one-depth nodes zero zero number a b = refl
one-depth nodes zero (suc other) number a b = absurd (both_ways (nat_eq number 1) b.1.not_root a)
one-depth nodes (suc depth) zero number a b = absurd (both_ways (nat_eq number 1) a.1.not_root b)
one-depth nodes (suc depth) (suc other) number a b =
    let same : a.0 ≡ b.0 = same-parent nodes number a.0 b.0 a.1 b.1 in
    ap suc (one-depth nodes depth other b.0 (subst (Climbs nodes depth) same a.2) b.2)

-- the node that is found has the number
pub found-number : (number : ℕ) (nodes : List Node) (node : Node) → node_at number nodes ≡ Some node → nat_eq node.number number ≡ true
found-number number [] node h = absurd cc
found-number number (first ∷ nodes) node h =
    (elim (nat_eq first.number number) as (λ b. nat_eq first.number number ≡ b → cond b (Some first) (node_at number nodes) ≡ Some node → nat_eq node.number number ≡ true) [
      | true ↦ λ is h.
          let same : first ≡ node = cc in
          subst (λ (n : Node). nat_eq n.number number ≡ true) same is
      | false ↦ λ is h. found-number number nodes node h
    ]) refl h

abbrev one_if : Bool → ℕ
one_if true = 1
one_if false = 0

-- how many nodes meet the test
abbrev pub counted : (Node → Bool) → List Node → ℕ
counted p [] = 0
counted p (node ∷ nodes) = one_if (p node) + counted p nodes

one-le : (a b : Bool) → (a ≡ true → b ≡ true) → one_if a ≤ one_if b
one-le true b weaker =
    let e : one_if b ≡ 1 = ap one_if (weaker refl) in
    omega arith
one-le false b weaker = omega arith

one-most : (a : Bool) → one_if a ≤ 1
one-most true = omega arith
one-most false = omega arith

counted-le-length : (p : Node → Bool) (nodes : List Node) → counted p nodes ≤ length nodes
counted-le-length p [] = omega arith
counted-le-length p (node ∷ nodes) =
    let rest : counted p nodes ≤ length nodes = counted-le-length p nodes in
    let first : one_if (p node) ≤ 1 = one-most (p node) in
    omega arith

-- a weaker test holds at least as often
count-le : (p q : Node → Bool) → ((x : Node) → p x ≡ true → q x ≡ true) → (nodes : List Node) → counted p nodes ≤ counted q nodes
count-le p q weaker [] = omega arith
count-le p q weaker (node ∷ nodes) =
    let rest : counted p nodes ≤ counted q nodes = count-le p q weaker nodes in
    let first : one_if (p node) ≤ one_if (q node) = one-le (p node) (q node) (weaker node) in
    let all : one_if (p node) + counted p nodes ≤ one_if (q node) + counted q nodes = omega arith in
    all

-- and more often, where a node meets it alone
count-lt : (p q : Node → Bool) → ((x : Node) → p x ≡ true → q x ≡ true) → (number : ℕ) (nodes : List Node) (node : Node)
    → node_at number nodes ≡ Some node → p node ≡ false → q node ≡ true → counted p nodes < counted q nodes
count-lt p q weaker number [] node h fails holds = absurd cc
count-lt p q weaker number (first ∷ nodes) node h fails holds =
    elim (nat_eq first.number number) as (λ b. cond b (Some first) (node_at number nodes) ≡ Some node → counted p (first ∷ nodes) < counted q (first ∷ nodes)) [
      | true ↦ λ h.
          let same : first ≡ node = cc in
          let rest : counted p nodes ≤ counted q nodes = count-le p q weaker nodes in
          let none : one_if (p first) ≡ 0 = ap one_if (ap p same ∙ fails) in
          let one : one_if (q first) ≡ 1 = ap one_if (ap q same ∙ holds) in
          let all : one_if (p first) + counted p nodes < one_if (q first) + counted q nodes = omega arith in
          all
      | false ↦ λ h.
          let rest : counted p nodes < counted q nodes = count-lt p q weaker number nodes node h fails holds in
          let one : one_if (p first) ≤ one_if (q first) = one-le (p first) (q first) (weaker first) in
          let all : one_if (p first) + counted p nodes < one_if (q first) + counted q nodes = omega arith in
          all
    ] h

some-longer : (nodes : List Node) (steps number : ℕ) → is_some (path_within steps nodes number) ≡ true → is_some (path_within (suc steps) nodes number) ≡ true
some-longer nodes steps number h =
    let found : (path : List (List ℕ)) × (path_within steps nodes number ≡ Some path) = some-from (path_within steps nodes number) h in
    ap is_some (path-longer nodes steps number found.0 found.1)

-- below a number's depth it has no path
too-few : (nodes : List Node) (depth steps number : ℕ) → Climbs nodes depth number → steps < depth → is_some (path_within steps nodes number) ≡ false
too-few nodes depth steps number climb few =
    false_from_ne_true (is_some (path_within steps nodes number)) (λ h.
    let found : (path : List (List ℕ)) × (path_within steps nodes number ≡ Some path) = some-from (path_within steps nodes number) h in
    let other : (depth : ℕ) × (depth ≤ steps) × Climbs nodes depth number = climb-of-path nodes steps number found.0 found.1 in
    let le : other.0 ≤ steps = other.1 in
    let same : other.0 ≡ depth = one-depth nodes other.0 depth number other.2 climb in
    absurd (omega arith))

-- at each depth on the way stands a node
pub depth-counted : (nodes : List Node) (depth number : ℕ) → Climbs nodes depth number → depth ≤ counted (λ (node : Node). is_some (path_within depth nodes node.number)) nodes
depth-counted nodes zero number climb = omega arith
depth-counted nodes (suc depth) number climb =
    let p : Node → Bool = λ (node : Node). is_some (path_within depth nodes node.number) in
    let q : Node → Bool = λ (node : Node). is_some (path_within (suc depth) nodes node.number) in
    let rest : depth ≤ counted p nodes = depth-counted nodes depth climb.0 climb.2 in
    let node : Node = climb.1.node in
    let same : number ≡ node.number = sym (eqb-true node.number number (found-number number nodes node climb.1.found)) in
    let fails : p node ≡ false = subst (λ n. is_some (path_within depth nodes n) ≡ false) same (too-few nodes (suc depth) depth number climb (omega arith)) in
    let holds : q node ≡ true = subst (λ n. is_some (path_within (suc depth) nodes n) ≡ true) same (ap is_some (path-of-climb nodes (suc depth) number climb).1) in
    let more : counted p nodes < counted q nodes = count-lt p q (λ (x : Node). some-longer nodes depth x.number) number nodes node climb.1.found fails holds in
    let all : suc depth ≤ counted q nodes = omega arith in
    all

-- a number is at most as deep as there are nodes
pub depth-bounded : (nodes : List Node) (depth number : ℕ) → Climbs nodes depth number → depth ≤ length nodes
depth-bounded nodes depth number climb =
    let p : Node → Bool = λ (node : Node). is_some (path_within depth nodes node.number) in
    let least : depth ≤ counted p nodes = depth-counted nodes depth number climb in
    let most : counted p nodes ≤ length nodes = counted-le-length p nodes in
    omega arith

-- the path of what climbs, which has a name for each step
pub reached : (nodes : List Node) (depth number : ℕ) → Climbs nodes depth number → (path : List (List ℕ)) × (path_of nodes number ≡ Some path) × (length path ≡ depth)
reached nodes depth number climb =
    let found : (path : List (List ℕ)) × (path_within depth nodes number ≡ Some path) × (length path ≡ depth) = path-of-climb nodes depth number climb in
    (found.0, path-grown nodes depth (length nodes) number found.0 (depth-bounded nodes depth number climb) found.1, found.2)

-- a path within any number of steps is the one within as many as there are nodes
pub path-settled : (nodes : List Node) (steps number : ℕ) (path : List (List ℕ)) → path_within steps nodes number ≡ Some path → path_of nodes number ≡ Some path
path-settled nodes steps number path h =
    let climb : (depth : ℕ) × (depth ≤ steps) × Climbs nodes depth number = climb-of-path nodes steps number path h in
    let found : (path : List (List ℕ)) × (path_within climb.0 nodes number ≡ Some path) × (length path ≡ climb.0) = path-of-climb nodes climb.0 number climb.2 in
    path-grown nodes climb.0 (length nodes) number found.0 (depth-bounded nodes climb.0 number climb.2) found.1
    ∙ sym (path-grown nodes climb.0 steps number found.0 climb.1 found.1)
    ∙ h
