-- Every path of a drive fits, whatever an effect that is not refused does: the paths of other items stay, and of those at
-- or below a moved item the drive asks.
use Rattle.std.proofs.Common.{◌≡◌, ℕ, ◌+◌, ◌<◌, zero, suc, Bool, true, false, ◌&&◌, cond, nat_eq, List, [], ◌∷◌, ◌++◌, length, map, is_some, Option, Some, None, refl, sym, ap, ◌∙◌, subst}
use Rattle.std.specs.List.{All, list_any}
use Rattle.std.specs.Option.{option_or}
use Rattle.std.proofs.lemmas.Bool.{both_ways, eqb-true, or_parts}
use Rattle.std.proofs.lemmas.List.{length-map}
use Rattle.gd_item.specs.Inventory.{Inventory, Moved, Removed, with_place, changed, after}
use Rattle.gd_item.specs.Moves.{is_parent_such, is_node_such, is_in_within, is_in, is_any_too_long}
use Rattle.gd_item.specs.Nodes.{Node, live_node, node_at, is_folder, below, below_parent, path_of_node, path_within, path_of}
use Rattle.gd_item.specs.Refusals.{is_there, is_too_long}
use Rattle.gd_item.specs.Trees.{nodes_of}
use Rattle.gd_item.specs.declared.live.LiveItem.{LiveItem}
use Rattle.gd_item.proofs.Adding.{IsLed, some-from, at-push, path-of-root, led-there, old-path, new-path}
use Rattle.gd_item.proofs.Climbs.{StaysAmong, path-among}
use Rattle.gd_item.proofs.Moving.{moved, other-kept, folder-moved}
use Rattle.gd_item.proofs.Pairs.{numbers-changed}
use Rattle.gd_item.proofs.Reaching.{path-settled}
use Rattle.gd_item.proofs.Removing.{without, other-left, gone}

-- each path that is read fits
abbrev pub AreFitting : List Node → Type 0
AreFitting nodes = (number : ℕ) → is_too_long (path_of nodes number) ≡ false

-- ---- what is neither the root nor a node
no-path : (steps : ℕ) (nodes : List Node) (number : ℕ) → nat_eq number 1 ≡ false → node_at number nodes ≡ None → path_within steps nodes number ≡ None
no-path zero nodes number other none = ap (λ b. cond b (Some []) None) other
no-path (suc steps) nodes number other none =
    ap (λ b. cond b (Some []) (path_of_node (path_within steps nodes) nodes (node_at number nodes))) other
    ∙ ap (path_of_node (path_within steps nodes) nodes) none

fits-unlisted : (nodes : List Node) (number : ℕ) → node_at number nodes ≡ None → is_too_long (path_of nodes number) ≡ false
fits-unlisted nodes number none = by (nat_eq number 1) refl
  where
    by : (b : Bool) → nat_eq number 1 ≡ b → is_too_long (path_of nodes number) ≡ false
    by true root = ap is_too_long (path-of-root (length nodes) nodes number root)
    by false other = ap is_too_long (no-path (length nodes) nodes number other none)

pub fits-nothing : AreFitting []
fits-nothing number = fits-unlisted [] number refl

-- ---- one more node
module _ (nodes : List Node) (node : Node) (parent : ℕ) (led : IsLed nodes) (not_root : 1 < node.number) (highest : All (λ (other : Node). other.number < node.number) nodes)
    (under : node.parent ≡ Some parent) (there : is_there parent nodes ≡ true) (folder : is_folder parent nodes ≡ true) (short : is_too_long (below (path_of nodes parent) node.name) ≡ false) where
  new-fits : is_too_long (path_of (nodes ++ node ∷ []) node.number) ≡ false
  new-fits =
      let found : (path : List (List ℕ)) × (path_of nodes parent ≡ Some path) = some-from (path_of nodes parent) (led-there nodes led parent there) in
      ap is_too_long (new-path nodes node parent found.0 not_root highest under folder found.1)
      ∙ sym (ap (λ p. is_too_long (below p node.name)) found.1)
      ∙ short

  other-fits : (number : ℕ) → node_at number nodes ≡ None → (b : Bool) → nat_eq node.number number ≡ b → is_too_long (path_of (nodes ++ node ∷ []) number) ≡ false
  other-fits number none true is = subst (λ n. is_too_long (path_of (nodes ++ node ∷ []) n) ≡ false) (eqb-true node.number number is) new-fits
  other-fits number none false other =
      fits-unlisted (nodes ++ node ∷ []) number (at-push nodes node number None none ∙ ap (λ b. option_or None (cond b (Some node) None)) other)

  found-fits : (number : ℕ) → path_of nodes number ≡ None → (found : Option Node) → node_at number nodes ≡ found → is_too_long (path_of (nodes ++ node ∷ []) number) ≡ false
  found-fits number lost None is = other-fits number is (nat_eq node.number number) refl
  found-fits number lost (Some old) is = absurd (both_ways (is_some (path_of nodes number)) (ap is_some lost) (led number (ap is_some is)))

  pub fits-added : AreFitting nodes → AreFitting (nodes ++ node ∷ [])
  fits-added all number = by (path_of nodes number) refl
    where
      by : (path : Option (List (List ℕ))) → path_of nodes number ≡ path → is_too_long (path_of (nodes ++ node ∷ []) number) ≡ false
      by None is = found-fits number is (node_at number nodes) refl
      by (Some path) is = ap is_too_long (old-path nodes node number path is) ∙ sym (ap is_too_long is) ∙ all number

-- ---- a moved item
under-apart : (nodes more : List Node) (read read_more : ℕ → Option (List (List ℕ))) (test : ℕ → Bool) → ((n : ℕ) → is_folder n more ≡ is_folder n nodes)
    → ((n : ℕ) → test n ≡ false → read_more n ≡ read n) → (name : List ℕ) (under : Option ℕ) → is_parent_such test under ≡ false
    → below_parent read_more more name under ≡ below_parent read nodes name under
under-apart nodes more read read_more test folders same name None apart = refl
under-apart nodes more read read_more test folders same name (Some parent) apart =
    ap (λ b. cond b (below (read_more parent) name) None) (folders parent) ∙ ap (λ path. cond (is_folder parent nodes) (below path name) None) (same parent apart)

node-apart : (nodes more : List Node) (read read_more : ℕ → Option (List (List ℕ))) (test : ℕ → Bool) → ((n : ℕ) → is_folder n more ≡ is_folder n nodes)
    → ((n : ℕ) → test n ≡ false → read_more n ≡ read n) → (found : Option Node) → is_node_such test found ≡ false → path_of_node read_more more found ≡ path_of_node read nodes found
node-apart nodes more read read_more test folders same None apart = refl
node-apart nodes more read read_more test folders same (Some node) apart = under-apart nodes more read read_more test folders same node.name node.parent apart

module _ (number change parent : ℕ) (name : List ℕ) (items : List LiveItem) where
  abbrev old : List Node
  old = map live_node items

  abbrev new : List Node
  new = moved number change parent name items

  -- what does not stand in the moved item has the path that it had
  path-apart : (steps other : ℕ) → is_in_within steps new number other ≡ false → path_within steps new other ≡ path_within steps old other
  path-apart zero other apart = refl
  path-apart (suc steps) other apart =
      let test : ℕ → Bool = is_in_within steps new number in
      let both : (nat_eq other number ≡ false) × (is_node_such test (node_at other new) ≡ false) = or_parts (nat_eq other number) (is_node_such test (node_at other new)) apart in
      let same : node_at other new ≡ node_at other old = other-kept number change parent name other both.0 items in
      ap (λ found. cond (nat_eq other 1) (Some []) (path_of_node (path_within steps new) new found)) same
      ∙ ap (λ path. cond (nat_eq other 1) (Some []) path)
      (node-apart old new (path_within steps old) (path_within steps new) test (λ n. folder-moved number change parent name n items) (path-apart steps)
      (node_at other old) (sym (ap (is_node_such test) same) ∙ both.1))

  long-moved : length new ≡ length old
  long-moved =
      let f : LiveItem → LiveItem = with_place change parent name in
      let number_of : LiveItem → ℕ = λ (item : LiveItem). item.number in
      length-map (changed number f items) live_node
      ∙ sym (length-map (changed number f items) number_of)
      ∙ sym (ap length (numbers-changed number f (λ x. refl) items))
      ∙ length-map items number_of
      ∙ sym (length-map items live_node)

  same-path : (other : ℕ) → is_in new number other ≡ false → path_of new other ≡ path_of old other
  same-path other apart = path-apart (length new) other apart ∙ ap (λ steps. path_within steps old other) long-moved

-- a test that no item passes is not passed by the number of a node
none-passes : (test : ℕ → Bool) (items : List LiveItem) (number : ℕ) (node : Node) → list_any (λ (item : LiveItem). test item.number) items ≡ false → node_at number (map live_node items) ≡ Some node
    → test number ≡ false
none-passes test [] number node none found = absurd cc
none-passes test (item ∷ items) number node none found =
    let parts : (test item.number ≡ false) × (list_any (λ (x : LiveItem). test x.number) items ≡ false) = or_parts (test item.number) (list_any (λ (x : LiveItem). test x.number) items) none in
    (elim (nat_eq item.number number) as (λ b. nat_eq item.number number ≡ b → cond b (Some (live_node item)) (node_at number (map live_node items)) ≡ Some node → test number ≡ false) [
      | true ↦ λ is h. subst (λ n. test n ≡ false) (eqb-true item.number number is) parts.0
      | false ↦ λ is h. none-passes test items number node parts.1 h
    ]) refl found

moved-fits : (held now : Inventory) (number other : ℕ) → is_any_too_long now number ≡ false → (is_in (nodes_of now) number other ≡ false → path_of (nodes_of now) other ≡ path_of (nodes_of held) other)
    → AreFitting (nodes_of held) → (b : Bool) → is_in (nodes_of now) number other ≡ b → (found : Option Node) → node_at other (nodes_of now) ≡ found → is_too_long (path_of (nodes_of now) other) ≡ false
moved-fits held now number other short same all true inside None none = fits-unlisted (nodes_of now) other none
moved-fits held now number other short same all true inside (Some node) is =
    sym (ap (λ b. b && is_too_long (path_of (nodes_of now) other)) inside)
    ∙ none-passes (λ n. is_in (nodes_of now) number n && is_too_long (path_of (nodes_of now) n)) now.items other node short is
moved-fits held now number other short same all false apart found is = ap is_too_long (same apart) ∙ all other

pub fits-moved : (held : Inventory) (number parent : ℕ) (name : List ℕ) → is_any_too_long (after held (Moved number parent name)) number ≡ false → AreFitting (nodes_of held)
    → AreFitting (nodes_of (after held (Moved number parent name)))
fits-moved held number parent name short all other =
    let now : Inventory = after held (Moved number parent name) in
    moved-fits held now number other short (same-path number (held.number + 1) parent name held.items other) all (is_in (nodes_of now) number other) refl (node_at other (nodes_of now)) refl

-- ---- a removed item
stays-left : (number : ℕ) (items : List LiveItem) → StaysAmong (map live_node (without number items)) (map live_node items)
stays-left number items other node is = by (nat_eq other number) refl
  where
    by : (b : Bool) → nat_eq other number ≡ b → node_at other (map live_node items) ≡ Some node
    by true same =
        let none : node_at other (map live_node (without number items)) ≡ None =
        subst (λ n. node_at n (map live_node (without number items)) ≡ None) (sym (eqb-true other number same)) (gone number items) in
        absurd cc
    by false apart = sym (other-left number other apart items) ∙ is

left-fits : (nodes left : List Node) (other : ℕ) → StaysAmong left nodes → AreFitting nodes → (path : Option (List (List ℕ))) → path_of left other ≡ path → is_too_long path ≡ false
left-fits nodes left other stays all None is = refl
left-fits nodes left other stays all (Some path) is =
    let was : path_of nodes other ≡ Some path = path-settled nodes (length left) other path (path-among left nodes stays (length left) other path is) in
    sym (ap is_too_long was) ∙ all other

pub fits-removed : (held : Inventory) (number : ℕ) → AreFitting (nodes_of held) → AreFitting (nodes_of (after held (Removed number)))
fits-removed held number all other =
    let left : List Node = map live_node (without number held.items) in
    left-fits (nodes_of held) left other (stays-left number held.items) all (path_of left other) refl
