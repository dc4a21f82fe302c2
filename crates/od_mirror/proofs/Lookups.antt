-- Maps over items from a place on, with one item more.
use Rattle.std.proofs.Common.{◌≡◌, ℕ, suc, ◌+◌, ◌-◌, ◌<◌, ◌≤◌, Bool, true, false, not, ◌&&◌, ◌||◌, cond, nat_eq, nat_lt, List, [], ◌∷◌, length, drop, find, get_or, map, slice_get, Option, Some, None, refl, ap, sym, subst, ◌∙◌, add-one, arith, drop-cons}
use Rattle.std.proofs.lemmas.Bool.{eqb-true, eq-eqb, ne_eqb, le-ltb, and_parts, and_from}
use Rattle.std.proofs.lemmas.Cmp.{tied_itself}
use Rattle.std.proofs.lemmas.Map.Keys.{sorted_head, sorted_tail}
use Rattle.std.proofs.lemmas.Map.Lookups.{exact_unsigned, exact_bytes, exact_pairs}
use Rattle.std.proofs.lemmas.Option.{slice_get-get_or}
use Rattle.std.specs.BTreeMap.{insert_entry, is_at}
use Rattle.std.specs.Cmp.{IsTotalOrder, nat_cmp_total, on_total, ranked, then_total}
use Rattle.std.specs.Cmp.Lexicographic.{slice_cmp, pointwise, nat_list_cmp_total, bytes_decides}
use Rattle.std.specs.List.{AllByRecursion, list_any}
use Rattle.std.specs.Map.{lookup}
use Rattle.std.specs.Option.{option_map}
use Rattle.std.specs.Ordering.{nat_cmp, is_eq}
use Rattle.std.specs.declared.cmp.Ordering.{Ordering}
use Rattle.std.specs.declared.cmp.Ordering.TheVariants.{Less, Equal, Greater}
use Rattle.gd_names.specs.Caseless.{lower_case, equal_caseless}
use Rattle.gd_names.proofs.Maps.{look, looked-up, look-put}
use Rattle.gd_names.proofs.Small.{not-below}
use Rattle.gd_item.specs.Nodes.{Node, item_node, node_at, is_same_parent, is_twin, has_twin}
use Rattle.gd_item.specs.declared.id.ItemId.{ItemId}
use Rattle.gd_item.specs.declared.item.Item.{Item}
use Rattle.od_mirror.specs.Climbs.{Rise}
use Rattle.od_mirror.specs.Places.{item_in, ArePlacesFrom, spot_cmp, is_at_spot, first_at}
use Rattle.od_mirror.specs.Pulled.{nodes}

-- ---- items from a place on
one-from : (items : List Item) (at : ℕ) (d : Item) → at < length items → nodes (drop at items) ≡ item_node (get_or items at d) ∷ nodes (drop (at + 1) items)
one-from items at d within =
    ap nodes (drop-cons items at d within) ∙ ap (λ n. item_node (get_or items at d) ∷ nodes (drop n items)) (sym (add-one at))

-- ---- by number
put-at : (b : Bool) (n at : ℕ) (items : List Item) (item : Item) (found : Option ℕ) (rest : Option Node) → slice_get items at ≡ Some item → option_map item_node (item_in items found) ≡ rest
    → option_map item_node (item_in items (cond b (Some at) found)) ≡ cond b (Some (item_node item)) rest
put-at true n at items item found rest here later = ap (option_map item_node) here
put-at false n at items item found rest here later = later

one-place : (items : List Item) (at : ℕ) (d : Item) (places more : List (ℕ × ℕ)) → at < length items → more ≡ insert_entry nat_cmp places (get_or items at d).id.0 at → ArePlacesFrom (at + 1) items places
    → ArePlacesFrom at items more
one-place items at d places more within put are = record {
  found = λ n.
      ap (λ es. option_map item_node (item_in items (lookup (is_at (nat_cmp n)) es))) put
      ∙ ap (λ found. option_map item_node (item_in items found)) (looked-up n (insert_entry nat_cmp places (get_or items at d).id.0 at) ∙ look-put n (get_or items at d).id.0 at places)
      ∙ put-at (nat_eq (get_or items at d).id.0 n) n at items (get_or items at d) (look n places) (node_at n (nodes (drop (at + 1) items))) (slice_get-get_or items at d within)
      (ap (λ found. option_map item_node (item_in items found)) (sym (looked-up n places)) ∙ are.found n)
      ∙ ap (node_at n) (sym (one-from items at d within));
}

pub one-more-place : (items : List Item) (at : ℕ) (item : Item) (places more : List (ℕ × ℕ)) → 0 < at → at ≤ length items
    → more ≡ insert_entry nat_cmp places (get_or items (at - 1) item).id.0 (at - 1) → ArePlacesFrom at items places → ArePlacesFrom (at - 1) items more
one-more-place items at item places more begun low put are =
    let next : at ≡ at - 1 + 1 = omega (arith, begun) in
    one-place items (at - 1) item places more (omega (arith, begun, low)) put (subst (λ (n : ℕ). ArePlacesFrom n items places) next are)

-- ---- by folder and name
spots : IsTotalOrder spot_cmp
spots = then_total (on_total (λ (s : ℕ × List ℕ). s.0) nat_cmp_total) (on_total (λ (s : ℕ × List ℕ). s.1) nat_list_cmp_total)

-- a key of the map is the one looked for where its parts are
same-parts : (a c : ℕ × List ℕ) → a ≡ c → (nat_eq a.0 c.0 && pointwise nat_eq a.1 c.1) ≡ true
same-parts a c same =
    subst (λ (s : ℕ × List ℕ). (nat_eq a.0 s.0 && pointwise nat_eq a.1 s.1) ≡ true) same
    (and_from (nat_eq a.0 a.0) (pointwise nat_eq a.1 a.1) (eq-eqb a.0 a.0 refl) ((bytes_decides a.1 a.1).1 refl))

parts-same : (a c : ℕ × List ℕ) → (nat_eq a.0 c.0 && pointwise nat_eq a.1 c.1) ≡ true → a ≡ c
parts-same a c is =
    let parts = and_parts (nat_eq a.0 c.0) (pointwise nat_eq a.1 c.1) is in
    ap (λ (n : ℕ). (n, a.1)) (eqb-true a.0 c.0 parts.0) ∙ ap (λ (t : List ℕ). (c.0, t)) ((bytes_decides a.1 c.1).0 parts.1)

never-tied : (a c : ℕ × List ℕ) (o : Ordering) → spot_cmp a c ≡ o → (nat_eq a.0 c.0 && pointwise nat_eq a.1 c.1) ≡ true → o ≡ Equal
never-tied a c o is same = sym is ∙ ap (spot_cmp a) (sym (parts-same a c same)) ∙ tied_itself spots a

spot-by : (o : Ordering) (b : Bool) (a c : ℕ × List ℕ) → spot_cmp a c ≡ o → (nat_eq a.0 c.0 && pointwise nat_eq a.1 c.1) ≡ b → is_eq o ≡ b
spot-by Equal b a c is parts =
    let one : a ≡ c = exact_pairs nat_cmp (slice_cmp nat_cmp) exact_unsigned exact_bytes a c is in
    sym (same-parts a c one) ∙ parts
spot-by Less true a c is parts = absurd (cc (never-tied a c Less is parts))
spot-by Less false a c is parts = refl
spot-by Greater true a c is parts = absurd (cc (never-tied a c Greater is parts))
spot-by Greater false a c is parts = refl

spot-is : (a c : ℕ × List ℕ) → is_eq (spot_cmp a c) ≡ (nat_eq a.0 c.0 && pointwise nat_eq a.1 c.1)
spot-is a c = spot-by (spot_cmp a c) (nat_eq a.0 c.0 && pointwise nat_eq a.1 c.1) a c refl refl

-- ---- one item
no-both : (a b : Bool) → b ≡ false → (a && b) ≡ false
no-both true b is = is
no-both false b is = refl

pub puts-spot : (item : Item) (parent : ItemId) (spot : ℕ × List ℕ) (old : Option ℕ) → (item.id.0 ≡ 1 → ⊥) → item.parent ≡ Some parent
    → cond (is_at (spot_cmp (parent.0, lower_case item.name)) spot) (Some item.id.0) old ≡ cond (is_at_spot spot (item_node item)) (Some item.id.0) old
puts-spot item parent spot old apart in_folder =
    ap (λ b. cond b (Some item.id.0) old)
    (spot-is (parent.0, lower_case item.name) spot
    ∙ sym (ap (λ (p : Option ItemId). is_same_parent (option_map (λ (id : ItemId). id.0) p) (Some spot.0) && pointwise nat_eq (lower_case item.name) spot.1) in_folder)
    ∙ sym (ap (λ b. not b && (is_same_parent (item_node item).parent (Some spot.0) && pointwise nat_eq (lower_case item.name) spot.1)) (ne_eqb item.id.0 1 apart)))

-- ---- twins
twin-parts : (lt a d e : Bool) → ((((lt && a) && true) && d) && e) ≡ (lt && (a && (d && e)))
twin-parts true true true e = refl
twin-parts true true false e = refl
twin-parts true false d e = refl
twin-parts false a d e = refl

pub none-twin : (node : Node) (all : List Node) → ((other : Node) → is_twin node other ≡ false) → has_twin all node ≡ false
none-twin node [] none = refl
none-twin node (other ∷ all) none = ap (λ b. b || list_any (is_twin node) all) (none other) ∙ none-twin node all none

root-part : (a b c d e : Bool) → c ≡ false → ((((a && b) && c) && d) && e) ≡ false
root-part true true c d e is = ap (λ x. (x && d) && e) is
root-part true false c d e is = refl
root-part false b c d e is = refl

parent-part : (a b c d e : Bool) → d ≡ false → ((((a && b) && c) && d) && e) ≡ false
parent-part true true true d e is = ap (λ x. x && e) is
parent-part true true false d e is = refl
parent-part true false c d e is = refl
parent-part false b c d e is = refl

no-parent : (parent : Option ℕ) → is_same_parent parent None ≡ false
no-parent None = refl
no-parent (Some parent) = refl

pub root-alone : (all : List Node) (node : Node) → node.number ≡ 1 → has_twin all node ≡ false
root-alone all node one =
    none-twin node all
    (λ other. root-part (nat_lt other.number node.number) (not (nat_eq other.number 1)) (not (nat_eq node.number 1)) (is_same_parent other.parent node.parent) (equal_caseless other.name node.name)
    (ap not (eq-eqb node.number 1 one)))

pub loose-alone : (all : List Node) (node : Node) → node.parent ≡ None → has_twin all node ≡ false
loose-alone all node loose =
    none-twin node all
    (λ other. parent-part (nat_lt other.number node.number) (not (nat_eq other.number 1)) (not (nat_eq node.number 1)) (is_same_parent other.parent node.parent) (equal_caseless other.name node.name)
    (ap (is_same_parent other.parent) loose ∙ no-parent other.parent))

abbrev pub is_below : ℕ → Option ℕ → Bool
is_below n None = false
is_below n (Some m) = nat_lt m n

module _ (node : Node) (parent : ℕ) (apart : node.number ≡ 1 → ⊥) (in_folder : node.parent ≡ Some parent) where
  abbrev spot : ℕ × List ℕ
  spot = (parent, lower_case node.name)

  one-twin : (other : Node) → is_twin node other ≡ (nat_lt other.number node.number && is_at_spot spot other)
  one-twin other =
      ap (λ c. (((nat_lt other.number node.number && not (nat_eq other.number 1)) && not c) && is_same_parent other.parent node.parent) && equal_caseless other.name node.name) (ne_eqb node.number 1 apart)
      ∙ ap (λ (p : Option ℕ). (((nat_lt other.number node.number && not (nat_eq other.number 1)) && true) && is_same_parent other.parent p) && equal_caseless other.name node.name) in_folder
      ∙ twin-parts (nat_lt other.number node.number) (not (nat_eq other.number 1)) (is_same_parent other.parent (Some parent)) (equal_caseless other.name node.name)

  later-none : (first : ℕ) (all : List Node) → node.number ≤ first → AllByRecursion (λ (n : ℕ). nat_cmp first n ≡ Less) (map (λ (other : Node). other.number) all) → has_twin all node ≡ false
  later-none first [] low above = refl
  later-none first (other ∷ all) low above =
      let less : first < other.number = ranked first other.number Less (sym above.0) in
      ap (λ b. b || list_any (is_twin node) all) (one-twin other ∙ ap (λ b. b && is_at_spot spot other) (le-ltb other.number node.number (omega (arith, low, less))))
      ∙ later-none first all low above.1

  twin-by : (b c : Bool) (other : Node) (all : List Node) → is_at_spot spot other ≡ b → nat_lt other.number node.number ≡ c → Rise (other ∷ all) → has_twin all node ≡ is_below node.number (first_at spot all)
      → has_twin (other ∷ all) node ≡ is_below node.number (option_map (λ (x : Node). x.number) (cond b (Some other) (find (is_at_spot spot) all)))
  twin-by true true other all there less rise rest =
      ap (λ b. b || list_any (is_twin node) all) (one-twin other ∙ ap (λ b. b && is_at_spot spot other) less ∙ there) ∙ sym less
  twin-by true false other all there less rise rest =
      ap (λ b. b || list_any (is_twin node) all) (one-twin other ∙ ap (λ b. b && is_at_spot spot other) less)
      ∙ later-none other.number all (not-below other.number node.number less) (sorted_head nat_cmp other.number (map (λ (x : Node). x.number) all) rise) ∙ sym less
  twin-by false c other all there less rise rest =
      ap (λ b. b || list_any (is_twin node) all) (one-twin other ∙ no-both (nat_lt other.number node.number) (is_at_spot spot other) there) ∙ rest

  pub twin-first : (all : List Node) → Rise all → has_twin all node ≡ is_below node.number (first_at spot all)
  twin-first [] rise = refl
  twin-first (other ∷ all) rise =
      twin-by (is_at_spot spot other) (nat_lt other.number node.number) other all refl refl rise (twin-first all (sorted_tail nat_cmp other.number (map (λ (x : Node). x.number) all) rise))
