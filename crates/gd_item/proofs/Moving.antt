-- What a drive holds stays a tree where an item is moved: its new folder is there and does not stand below it, and
-- no other item of that folder has its new name.
use Rattle.std.proofs.Common.{◌≡◌, ◌≢◌, ℕ, ◌+◌, ◌<◌, ◌≤◌, zero, suc, Bool, true, false, ◌&&◌, ◌||◌, not, inl, inr, cond, nat_eq, nat_lt, List, [], ◌∷◌, ◌++◌, length, map, is_some, Option, Some, refl, sym, ap, ◌∙◌, subst, arith}
use Rattle.std.specs.List.{All, list_any}
use Rattle.std.proofs.lemmas.Bool.{both_ways, cases_Bool, eqb-true, eqb-false, false_from_ne_true, le-ltb, ne_eqb, or_parts}
use Rattle.std.proofs.lemmas.Cmp.{nat_eq_equiv, nat_list_eq_equiv}
use Rattle.std.proofs.lemmas.List.Elements.{All-weaker}
use Rattle.std.proofs.lemmas.List.Folds.{list_any_at}
use Rattle.gd_names.specs.Caseless.{lower_case, equal_caseless}
use Rattle.gd_item.specs.declared.live.LiveItem.{LiveItem}
use Rattle.gd_item.specs.Inventory.{Inventory, Effect, Moved, with_place, changed, after, inventory}
use Rattle.gd_item.specs.Moves.{is_parent_such, is_node_such, is_in_within, is_in, is_taken_by_other}
use Rattle.gd_item.specs.Nodes.{Node, live_node, node_at, is_folder, is_some_folder, is_twin, path_of}
use Rattle.gd_item.specs.Refusals.{is_there}
use Rattle.gd_item.specs.Sound.{IsWithin, IsItemMap}
use Rattle.gd_item.specs.Trees.{nodes_of}
use Rattle.gd_item.proofs.Adding.{led-there, some-from}
use Rattle.gd_item.proofs.Effects.{inventory-snoc, number-positive}
use Rattle.gd_item.proofs.Pairs.{AllPairs-same_map, AllPairs-changed, AllPairs-changed_at, All-changed, numbers-changed}
use Rattle.gd_item.proofs.Reaching.{IsChild, Climbs, climb-of-path, reached}
use Rattle.gd_item.proofs.Soundness.{not-twin}

-- the nodes of items of which one is moved
abbrev pub moved : ℕ → ℕ → ℕ → List ℕ → List LiveItem → List Node
moved number change parent name items = map live_node (changed number (with_place change parent name) items)

-- a node at its new place
abbrev placed_at : ℕ → List ℕ → Node → Node
placed_at parent name node = record node { parent = Some parent; name = name }

-- each other node stays
pub other-kept : (number change parent : ℕ) (name : List ℕ) (other : ℕ) → nat_eq other number ≡ false → (items : List LiveItem)
    → node_at other (moved number change parent name items) ≡ node_at other (map live_node items)
other-kept number change parent name other apart [] = refl
other-kept number change parent name other apart (item ∷ items) =
    let f : LiveItem → LiveItem = with_place change parent name in
    let rest : Option Node = node_at other (map live_node items) in
    (elim (nat_eq item.number number) as (λ b. nat_eq item.number number ≡ b
    → node_at other (map live_node (cond b (f item ∷ items) (item ∷ changed number f items))) ≡ cond (nat_eq item.number other) (Some (live_node item)) rest) [
      | true ↦ λ is.
          let differs : nat_eq item.number other ≡ false =
          ne_eqb item.number other (λ e. eqb-false other number apart (sym e ∙ eqb-true item.number number is)) in
          ap (λ b. cond b (Some (live_node (f item))) rest) differs ∙ sym (ap (λ b. cond b (Some (live_node item)) rest) differs)
      | false ↦ λ is. ap (λ o. cond (nat_eq item.number other) (Some (live_node item)) o) (other-kept number change parent name other apart items)
    ]) refl

-- the node of the moved item
moved-at : (number change parent : ℕ) (name : List ℕ) (items : List LiveItem) (node : Node) → node_at number (map live_node items) ≡ Some node
    → node_at number (moved number change parent name items) ≡ Some (placed_at parent name node)
moved-at number change parent name [] node h = absurd cc
moved-at number change parent name (item ∷ items) node h =
    let f : LiveItem → LiveItem = with_place change parent name in
    (elim (nat_eq item.number number) as (λ b. nat_eq item.number number ≡ b → cond b (Some (live_node item)) (node_at number (map live_node items)) ≡ Some node
    → node_at number (map live_node (cond b (f item ∷ items) (item ∷ changed number f items))) ≡ Some (placed_at parent name node)) [
      | true ↦ λ is h.
          let same : live_node item ≡ node = cc in
          ap (λ b. cond b (Some (live_node (f item))) (node_at number (map live_node items))) is ∙ ap (λ n. Some (placed_at parent name n)) same
      | false ↦ λ is h.
          ap (λ b. cond b (Some (live_node item)) (node_at number (moved number change parent name items))) is ∙ moved-at number change parent name items node h
    ]) refl h

-- what a test sees of a node that a move leaves as it is
test-moved : (test : Option Node → Bool) → ((item : LiveItem) (change parent : ℕ) (name : List ℕ) → test (Some (live_node (with_place change parent name item))) ≡ test (Some (live_node item)))
    → (number change parent : ℕ) (name : List ℕ) (other : ℕ) (items : List LiveItem) → test (node_at other (moved number change parent name items)) ≡ test (node_at other (map live_node items))
test-moved test blind number change parent name other [] = refl
test-moved test blind number change parent name other (item ∷ items) =
    let f : LiveItem → LiveItem = with_place change parent name in
    let rest : Option Node = node_at other (map live_node items) in
    elim (nat_eq item.number number) as (λ b. test (node_at other (map live_node (cond b (f item ∷ items) (item ∷ changed number f items)))) ≡ test (cond (nat_eq item.number other) (Some (live_node item)) rest)) [
      | true ↦ (elim (nat_eq item.number other) as (λ b. test (cond b (Some (live_node (f item))) rest) ≡ test (cond b (Some (live_node item)) rest))
          [ true ↦ blind item change parent name | false ↦ refl ])
      | false ↦ (elim (nat_eq item.number other) as (λ b. test (cond b (Some (live_node item)) (node_at other (moved number change parent name items))) ≡ test (cond b (Some (live_node item)) rest))
          [ true ↦ refl | false ↦ test-moved test blind number change parent name other items ])
    ]

pub folder-moved : (number change parent : ℕ) (name : List ℕ) (other : ℕ) (items : List LiveItem) → is_folder other (moved number change parent name items) ≡ is_folder other (map live_node items)
folder-moved number change parent name other items =
    ap (λ b. nat_eq other 1 || b) (test-moved is_some_folder (λ item change parent name. refl) number change parent name other items)

there-moved : (number change parent : ℕ) (name : List ℕ) (other : ℕ) (items : List LiveItem) → is_some (node_at other (moved number change parent name items)) ≡ is_some (node_at other (map live_node items))
there-moved number change parent name other items = test-moved is_some (λ item change parent name. refl) number change parent name other items

child-kept : (number change parent : ℕ) (name : List ℕ) (items : List LiveItem) (other above : ℕ) → nat_eq other number ≡ false
    → IsChild (map live_node items) other above → IsChild (moved number change parent name items) other above
child-kept number change parent name items other above apart child =
    record {
      not_root = child.not_root;
      node = child.node;
      found = other-kept number change parent name other apart items ∙ child.found;
      under = child.under;
      folder = folder-moved number change parent name above items ∙ child.folder;
    }

-- what does not stand below the moved item climbs as before
apart-climb : (number change parent : ℕ) (name : List ℕ) (items : List LiveItem) (depth steps other : ℕ) → depth ≤ steps → Climbs (map live_node items) depth other
    → is_in_within steps (map live_node items) number other ≡ false → Climbs (moved number change parent name items) depth other
apart-climb number change parent name items zero steps other le climb apart = climb
apart-climb number change parent name items (suc depth) zero other le climb apart = absurd (omega arith)
apart-climb number change parent name items (suc depth) (suc steps) other le climb apart =
    let nodes : List Node = map live_node items in
    let test : ℕ → Bool = is_in_within steps nodes number in
    let child : IsChild nodes other climb.0 = climb.1 in
    let both : (nat_eq other number ≡ false) × (is_node_such test (node_at other nodes) ≡ false) = or_parts (nat_eq other number) (is_node_such test (node_at other nodes)) apart in
    let above : is_node_such test (node_at other nodes) ≡ test climb.0 = ap (is_node_such test) child.found ∙ ap (is_parent_such test) child.under in (
      climb.0,
      child-kept number change parent name items other climb.0 both.0 child,
      apart-climb number change parent name items depth steps climb.0 (omega arith) climb.2 (sym above ∙ both.1),
    )

-- where the new folder climbs, all that climbed still climbs
climb-moved : (number change parent : ℕ) (name : List ℕ) (items : List LiveItem) (high : ℕ) → Climbs (moved number change parent name items) high parent → is_folder parent (map live_node items) ≡ true
    → (depth other : ℕ) → Climbs (map live_node items) depth other → (new : ℕ) × Climbs (moved number change parent name items) new other
climb-moved number change parent name items high above folder zero other climb = (zero, climb)
climb-moved number change parent name items high above folder (suc depth) other climb =
    let nodes : List Node = map live_node items in
    let more : List Node = moved number change parent name items in
    let child : IsChild nodes other climb.0 = climb.1 in
    elim (cases_Bool (nat_eq other number)) [
      | inl is ↦
          let same : number ≡ other = sym (eqb-true other number is) in
          let found : node_at other more ≡ Some (placed_at parent name child.node) =
          subst (λ n. node_at n nodes ≡ Some child.node → node_at n more ≡ Some (placed_at parent name child.node)) same (moved-at number change parent name items child.node) child.found in (
            suc high,
            (
              parent,
              record { not_root = child.not_root; node = placed_at parent name child.node; found = found; under = refl; folder = folder-moved number change parent name parent items ∙ folder },
              above,
            ),
          )
      | inr apart ↦
          let rest : (new : ℕ) × Climbs more new climb.0 = climb-moved number change parent name items high above folder depth climb.0 climb.2 in
          (suc rest.0, (climb.0, child-kept number change parent name items other climb.0 apart child, rest.1))
    ]

-- every item's folders still lead up to the root
led-moved : (held : Inventory) (number change parent : ℕ) (name : List ℕ) → IsItemMap held → is_there parent (nodes_of held) ≡ true → is_folder parent (nodes_of held) ≡ true
    → is_in (nodes_of held) number parent ≡ false → (other : ℕ) → is_some (node_at other (moved number change parent name held.items)) ≡ true
    → is_some (path_of (moved number change parent name held.items) other) ≡ true
led-moved held number change parent name sound there folder apart other is =
    let nodes : List Node = nodes_of held in
    let more : List Node = moved number change parent name held.items in
    let above : (path : List (List ℕ)) × (path_of nodes parent ≡ Some path) = some-from (path_of nodes parent) (led-there nodes sound.led parent there) in
    let high : (depth : ℕ) × (depth ≤ length nodes) × Climbs nodes depth parent = climb-of-path nodes (length nodes) parent above.0 above.1 in
    let kept : Climbs more high.0 parent = apart-climb number change parent name held.items high.0 (length nodes) parent high.1 high.2 apart in
    let found : (path : List (List ℕ)) × (path_of nodes other ≡ Some path) =
    some-from (path_of nodes other) (sound.led other (sym (there-moved number change parent name other held.items) ∙ is)) in
    let climb : (depth : ℕ) × (depth ≤ length nodes) × Climbs nodes depth other = climb-of-path nodes (length nodes) other found.0 found.1 in
    let new : (new : ℕ) × Climbs more new other = climb-moved number change parent name held.items high.0 kept folder climb.0 other climb.2 in
    let path : (path : List (List ℕ)) × (path_of more other ≡ Some path) × (length path ≡ new.0) = reached more new.0 other new.1 in
    ap is_some {x = path_of more other} {y = Some path.0} path.1

-- names are equal but for case both ways round
caseless-sym : (a b : List ℕ) → equal_caseless a b ≡ equal_caseless b a
caseless-sym a b = nat_list_eq_equiv.symm (lower_case a) (lower_case b)

named-sym : (parent : ℕ) (name : List ℕ) (item : LiveItem) → (nat_eq item.parent parent && equal_caseless item.name name) ≡ (nat_eq parent item.parent && equal_caseless name item.name)
named-sym parent name item =
    ap (λ b. b && equal_caseless item.name name) (nat_eq_equiv.symm item.parent parent) ∙ ap (λ b. nat_eq parent item.parent && b) (caseless-sym item.name name)

not-earlier : (a b c d e : Bool) → a ≡ false → (a && b && c && d && e) ≡ false
not-earlier true b c d e h = absurd cc
not-earlier false b c d e h = refl

-- an item is no twin of one of its own number
same-number : (a b : LiveItem) → a.number ≡ b.number → is_twin (live_node a) (live_node b) ≡ false
same-number a b same =
    not-earlier (nat_lt b.number a.number) (not (nat_eq b.number 1)) (not (nat_eq a.number 1)) (nat_eq b.parent a.parent) (equal_caseless b.name a.name)
    (le-ltb b.number a.number (omega arith))

untaken : (a b c : Bool) → b ≡ false → (a && not b && c) ≡ false → (a && c) ≡ false
untaken true true c apart h = absurd cc
untaken true false c apart h = h
untaken false b c apart h = refl

-- the moved item and each other are no twins
apart-moved : (number change parent : ℕ) (name : List ℕ) (item : LiveItem) → (nat_eq item.parent parent && not (nat_eq item.number number) && equal_caseless item.name name) ≡ false
    → (other : LiveItem) → nat_eq other.number number ≡ true
    → (is_twin (live_node item) (live_node (with_place change parent name other)) ≡ false) × (is_twin (live_node (with_place change parent name other)) (live_node item) ≡ false)
apart-moved number change parent name item free other is =
    let f : LiveItem → LiveItem = with_place change parent name in
    elim (cases_Bool (nat_eq item.number number)) [
      | inl same ↦
          let one : item.number ≡ other.number = eqb-true item.number number same ∙ sym (eqb-true other.number number is) in
          (same-number item (f other) one, same-number (f other) item (sym one))
      | inr apart ↦
          let named : (nat_eq item.parent parent && equal_caseless item.name name) ≡ false = untaken (nat_eq item.parent parent) (nat_eq item.number number) (equal_caseless item.name name) apart free in
          (not-twin item (f other) (sym (named-sym parent name item) ∙ named), not-twin (f other) item named)
    ]

free-of : (number parent : ℕ) (name : List ℕ) (items : List LiveItem) → is_taken_by_other number parent name items ≡ false
    → All (λ item. (nat_eq item.parent parent && not (nat_eq item.number number) && equal_caseless item.name name) ≡ false) items
free-of number parent name items free k d lt =
    let test : LiveItem → Bool = λ item. nat_eq item.parent parent && not (nat_eq item.number number) && equal_caseless item.name name in
    false_from_ne_true _ (λ h. both_ways (list_any test items) free (list_any_at test items k d lt h))

sound-move : (held : Inventory) (number parent : ℕ) (name : List ℕ) → IsItemMap held → 0 < held.number → is_there parent (nodes_of held) ≡ true → is_folder parent (nodes_of held) ≡ true
    → is_in (nodes_of held) number parent ≡ false → is_taken_by_other number parent name held.items ≡ false → IsItemMap (after held (Moved number parent name))
sound-move held number parent name sound positive there folder apart free =
    let change : ℕ = held.number + 1 in
    let f : LiveItem → LiveItem = with_place change parent name in
    let grown : Inventory = after held (Moved number parent name) in
    record {
      within = All-changed (IsWithin grown) number f held.items
          (All-weaker (IsWithin held) (IsWithin grown)
          (λ x h. record { above = h.above; below = h.below; later = h.later; done = let d : x.change ≤ held.number = h.done in omega arith }) held.items sound.within)
          (All-weaker (IsWithin held) (λ x. IsWithin grown (f x))
          (λ x h. record { above = h.above; below = h.below; later = omega arith; done = omega arith }) held.items sound.within);
      numbers = AllPairs-same_map (λ (x : LiveItem). x.number) (λ x y. x < y) held.items (changed number f held.items) (numbers-changed number f (λ x. refl) held.items) sound.numbers;
      changes = AllPairs-changed (λ (x y : LiveItem). x.change ≢ y.change) number f held.items
          (All-weaker (IsWithin held) (λ x. (other : LiveItem) → ((f other).change ≢ x.change) × (x.change ≢ (f other).change))
          (λ x h other. let d : x.change ≤ held.number = h.done in ((λ e. omega arith), (λ e. omega arith))) held.items sound.within)
          sound.changes;
      led = led-moved held number change parent name sound there folder apart;
      told_apart = AllPairs-changed_at (λ (x y : LiveItem). is_twin (live_node y) (live_node x) ≡ false) number f held.items
          (All-weaker (λ item. (nat_eq item.parent parent && not (nat_eq item.number number) && equal_caseless item.name name) ≡ false)
          (λ item. (other : LiveItem) → nat_eq other.number number ≡ true
          → (is_twin (live_node item) (live_node (f other)) ≡ false) × (is_twin (live_node (f other)) (live_node item) ≡ false))
          (apart-moved number change parent name) held.items (free-of number parent name held.items free))
          sound.told_apart;
    }

-- a moved item
pub sound-moved : (held : Inventory) (number parent : ℕ) (name : List ℕ) → IsItemMap held → 0 < held.number → nat_eq number 1 ≡ false → is_there parent (nodes_of held) ≡ true
    → is_folder parent (nodes_of held) ≡ true → is_in (nodes_of held) number parent ≡ false → is_taken_by_other number parent name held.items ≡ false → IsItemMap (after held (Moved number parent name))
sound-moved held number parent name sound positive not_root there folder apart free = sound-move held number parent name sound positive there folder apart free

-- the same of what a drive holds whose effects are these
pub sound-moved-log : (effects : List Effect) (number parent : ℕ) (name : List ℕ) → IsItemMap (inventory effects) → is_there parent (nodes_of (inventory effects)) ≡ true
    → is_folder parent (nodes_of (inventory effects)) ≡ true → is_in (nodes_of (inventory effects)) number parent ≡ false
    → is_taken_by_other number parent name (inventory effects).items ≡ false → IsItemMap (inventory (effects ++ Moved number parent name ∷ []))
sound-moved-log effects number parent name sound there folder apart free =
    subst IsItemMap (sym (inventory-snoc effects (Moved number parent name)))
    (sound-move (inventory effects) number parent name sound (number-positive effects) there folder apart free)
