-- What the maps of names and of change numbers find, among the items.
use Rattle.std.proofs.Common.{◌≡◌, ℕ, ◌≢◌, Bool, true, false, ◌&&◌, ◌||◌, cond, not, nat_eq, eqb-true, eq-eqb, List, [], ◌∷◌, map, Option, Some, None, refl, ap, sym, subst, ◌∙◌}
use Rattle.std.specs.Cmp.Lexicographic.{pointwise}
use Rattle.std.specs.List.{All, AllByRecursion, list_any, find}
use Rattle.std.specs.List.Sorted.{IsStrictlySortedBy}
use Rattle.std.specs.Map.{keys_of, values_of}
use Rattle.std.specs.Option.{option_map}
use Rattle.std.specs.Ordering.{nat_cmp}
use Rattle.gd_names.specs.Caseless.{lower_case, equal_caseless}
use Rattle.gd_names.proofs.Each.{each, each-both}
use Rattle.gd_item.specs.declared.live.LiveItem.{LiveItem}
use Rattle.gd_item.specs.Moves.{is_taken_by_other}
use Rattle.gd_item.specs.Nodes.{live_node, child_at}
use Rattle.gd_index.specs.declared.row.Row.{Row}
use Rattle.gd_index.specs.Indexed.{at, spot_of, is_at_spot, number_at_spot, items_in, Indexes, IsRow}
use Rattle.gd_index.proofs.Lines.{Lined, found, all-found}

-- ---- a child is what stands at a spot
child-if : (b : Bool) (item : LiveItem) (parent : ℕ) (name : List ℕ) (items : List LiveItem) → child_at parent name (map live_node items) ≡ number_at_spot (parent, lower_case name) items
    → option_map (λ n. n.number) (cond b (Some (live_node item)) (find (λ node. Rattle.gd_item.specs.Nodes.is_same_parent node.parent (Some parent) && equal_caseless node.name name) (map live_node items)))
    ≡ option_map (λ (x : LiveItem). x.number) (cond b (Some item) (find (is_at_spot (parent, lower_case name)) items))
child-if true item parent name items rest = refl
child-if false item parent name items rest = rest

pub child-spot : (parent : ℕ) (name : List ℕ) (items : List LiveItem) → child_at parent name (map live_node items) ≡ number_at_spot (parent, lower_case name) items
child-spot parent name [] = refl
child-spot parent name (item ∷ items) =
    child-if (nat_eq item.parent parent && equal_caseless item.name name) item parent name items (child-spot parent name items)

pub nodes-of-rows : (rows : List (ℕ × Row)) → map (λ (row : Row). live_node row.item) (values_of rows) ≡ map live_node (items_in rows)
nodes-of-rows [] = refl
nodes-of-rows (e ∷ rows) = ap (λ nodes. live_node e.1.item ∷ nodes) (nodes-of-rows rows)

-- ---- texts
pub both-true : (a b : Bool) → (a && b) ≡ true → (a ≡ true) × (b ≡ true)
both-true true b is = (refl, is)
both-true false b is = absurd (cc is)

pub same-text : (a b : List ℕ) → pointwise nat_eq a b ≡ true → a ≡ b
same-text [] [] is = refl
same-text [] (y ∷ b) is = absurd (cc is)
same-text (x ∷ a) [] is = absurd (cc is)
same-text (x ∷ a) (y ∷ b) is =
    let parts : (nat_eq x y ≡ true) × (pointwise nat_eq a b ≡ true) = both-true (nat_eq x y) (pointwise nat_eq a b) is in
    ap (λ (z : ℕ). z ∷ a) (eqb-true x y parts.0) ∙ ap (λ rest. y ∷ rest) (same-text a b parts.1)

pub text-itself : (a : List ℕ) → pointwise nat_eq a a ≡ true
text-itself [] = refl
text-itself (x ∷ a) = ap (λ b. b && pointwise nat_eq a a) (eq-eqb x x refl) ∙ text-itself a

same-spot : (spot : ℕ × List ℕ) (item : LiveItem) → is_at_spot spot item ≡ true → spot_of item ≡ spot
same-spot spot item is =
    let parts : (nat_eq item.parent spot.0 ≡ true) × (pointwise nat_eq (lower_case item.name) spot.1 ≡ true) = both-true (nat_eq item.parent spot.0) (pointwise nat_eq (lower_case item.name) spot.1) is in
    ap (λ (p : ℕ). (p, lower_case item.name)) (eqb-true item.parent spot.0 parts.0) ∙ ap (λ (t : List ℕ). (spot.0, t)) (same-text (lower_case item.name) spot.1 parts.1)

pub spot-same : (spot : ℕ × List ℕ) (item : LiveItem) → spot_of item ≡ spot → is_at_spot spot item ≡ true
spot-same spot item is = subst (λ (s : ℕ × List ℕ). is_at_spot s item ≡ true) is (ap (λ b. b && pointwise nat_eq (lower_case item.name) (lower_case item.name)) (eq-eqb item.parent item.parent refl) ∙ text-itself (lower_case item.name))

-- ---- the first item at a spot
same-number : (a b : ℕ) → Some a ≡ Some b → a ≡ b
same-number a b is = cc

module _ (index : ℕ × List ℕ → Option ℕ) (spot : ℕ × List ℕ) where
  abbrev Listed : ℕ × Row → Type 0
  Listed e = index (spot_of e.1.item) ≡ Some e.1.item.number

  first-if : (b : Bool) (n : ℕ) (e : ℕ × Row) (rows : List (ℕ × Row)) → is_at_spot spot e.1.item ≡ b → Listed e → (number_at_spot spot (items_in rows) ≡ Some n → index spot ≡ Some n)
      → option_map (λ (x : LiveItem). x.number) (cond b (Some e.1.item) (find (is_at_spot spot) (items_in rows))) ≡ Some n → index spot ≡ Some n
  first-if true n e rows is listed rest there = ap index (sym (same-spot spot e.1.item is)) ∙ listed ∙ there
  first-if false n e rows is listed rest there = rest there

  first-found : (n : ℕ) (rows : List (ℕ × Row)) → AllByRecursion Listed rows → number_at_spot spot (items_in rows) ≡ Some n → index spot ≡ Some n
  first-found n [] all there = absurd (cc there)
  first-found n (e ∷ rows) all there = first-if (is_at_spot spot e.1.item) n e rows refl all.0 (first-found n rows all.1) there

-- what no item passes, no row does
none-if : (b : Bool) (test : LiveItem → Bool) (e : ℕ × Row) (rows : List (ℕ × Row)) → test e.1.item ≡ b → (option_map (λ (x : LiveItem). x.number) (find test (items_in rows)) ≡ None → AllByRecursion (λ (f : ℕ × Row). test f.1.item ≡ false) rows)
    → option_map (λ (x : LiveItem). x.number) (cond b (Some e.1.item) (find test (items_in rows))) ≡ None → AllByRecursion (λ (f : ℕ × Row). test f.1.item ≡ false) (e ∷ rows)
none-if true test e rows is rest none = absurd (cc none)
none-if false test e rows is rest none = (is, rest none)

none-passes : (test : LiveItem → Bool) (rows : List (ℕ × Row)) → option_map (λ (x : LiveItem). x.number) (find test (items_in rows)) ≡ None → AllByRecursion (λ (f : ℕ × Row). test f.1.item ≡ false) rows
none-passes test [] none = tt
none-passes test (e ∷ rows) none = none-if (test e.1.item) test e rows refl (none-passes test rows) none

-- the row of which a map tells
module _ {K : Type 0} (key : LiveItem → K) (k : K) where
  pub row-by : (found : Option Row) → option_map (λ (row : Row). key row.item) found ≡ Some k → (row : Row) × (found ≡ Some row) × (key row.item ≡ k)
  row-by None is = absurd (cc is)
  row-by (Some row) is = let same : key row.item ≡ k = cc in (row, refl, same)

module _ (rows : List (ℕ × Row)) (lined : Lined rows) (rises : IsStrictlySortedBy nat_cmp (keys_of rows)) (index : ℕ × List ℕ → Option ℕ) (names : Indexes spot_of (at nat_cmp rows) index) where
  all-listed : AllByRecursion (λ (e : ℕ × Row). index (spot_of e.1.item) ≡ Some e.1.item.number) rows
  all-listed =
      each-both IsRow (λ (e : ℕ × Row). at nat_cmp rows e.0 ≡ Some e.1) (λ (e : ℕ × Row). index (spot_of e.1.item) ≡ Some e.1.item.number)
      (λ e line there. names.listed e.0 e.1 there ∙ ap (λ (n : ℕ). Some n) (sym line.number)) rows lined (all-found rows rises)

  spot-some : (spot : ℕ × List ℕ) (n : ℕ) → index spot ≡ Some n → number_at_spot spot (items_in rows) ≡ None → ⊥
  spot-some spot n there none =
      let told : (row : Row) × (at nat_cmp rows n ≡ Some row) × (spot_of row.item ≡ spot) = row-by spot_of spot (at nat_cmp rows n) (names.sound spot n there) in
      let off : is_at_spot spot told.0.item ≡ false = found (λ (f : ℕ × Row). is_at_spot spot f.1.item ≡ false) n told.0 rows (none-passes (is_at_spot spot) rows none) told.1 in
      let on : is_at_spot spot told.0.item ≡ true = spot-same spot told.0.item told.2 in
      absurd (cc (off, on))

  spot-by : (spot : ℕ × List ℕ) (first stands : Option ℕ) → number_at_spot spot (items_in rows) ≡ first → index spot ≡ stands → stands ≡ first
  spot-by spot (Some n) stands is there = sym there ∙ first-found index spot n rows all-listed is
  spot-by spot None None is there = refl
  spot-by spot None (Some n) is there = absurd (spot-some spot n there is)

  -- the map of names finds the first item at a spot
  pub at-spot : (spot : ℕ × List ℕ) → index spot ≡ number_at_spot spot (items_in rows)
  at-spot spot = spot-by spot (number_at_spot spot (items_in rows)) (index spot) refl refl

-- ---- keys that are free
module _ {K : Type 0} (key : LiveItem → K) (rows : List (ℕ × Row)) (index : K → Option ℕ) (was : Indexes key (at nat_cmp rows) index) (k : K) where
  free-by : (stands : Option ℕ) → index k ≡ stands → AllByRecursion (λ (e : ℕ × Row). key e.1.item ≢ k) rows → index k ≡ None
  free-by None is apart = is
  free-by (Some n) is apart =
      let told : (row : Row) × (at nat_cmp rows n ≡ Some row) × (key row.item ≡ k) = row-by key k (at nat_cmp rows n) (was.sound k n is) in
      absurd (found (λ (e : ℕ × Row). key e.1.item ≢ k) n told.0 rows apart told.1 told.2)

  -- a key that no item has
  pub free-key : AllByRecursion (λ (e : ℕ × Row). key e.1.item ≢ k) rows → index k ≡ None
  free-key apart = free-by (index k) refl apart

pub of-items : (P : LiveItem → Type 0) (rows : List (ℕ × Row)) → AllByRecursion P (items_in rows) → AllByRecursion (λ (e : ℕ × Row). P e.1.item) rows
of-items P [] all = tt
of-items P (e ∷ rows) all = (all.0, of-items P rows all.1)

-- a change number that no item has
pub fresh-change : (rows : List (ℕ × Row)) (items : List LiveItem) (index : ℕ → Option ℕ) (change : ℕ) → Indexes (λ (item : LiveItem). item.change) (at nat_cmp rows) index → items_in rows ≡ items
    → All (λ (x : LiveItem). x.change ≢ change) items → index change ≡ None
fresh-change rows items index change was view all =
    let P : LiveItem → Type 0 = λ (x : LiveItem). x.change ≢ change in
    free-key (λ (item : LiveItem). item.change) rows index was change (of-items P rows (each P (items_in rows) (subst (λ (xs : List LiveItem). All P xs) (sym view) all)))

-- a spot that only one item may have
either-false : (a b : Bool) → (a || b) ≡ false → (a ≡ false) × (b ≡ false)
either-false true b is = absurd (cc is)
either-false false b is = (refl, is)

none-taken : (test : LiveItem → Bool) (rows : List (ℕ × Row)) → list_any test (items_in rows) ≡ false → AllByRecursion (λ (e : ℕ × Row). test e.1.item ≡ false) rows
none-taken test [] is = tt
none-taken test (e ∷ rows) is =
    let parts : (test e.1.item ≡ false) × (list_any test (items_in rows) ≡ false) = either-false (test e.1.item) (list_any test (items_in rows)) is in
    (parts.0, none-taken test rows parts.1)

not-other : (a b c : Bool) → a ≡ true → c ≡ true → (a && not b && c) ≡ false → b ≡ true
not-other true true c first second is = refl
not-other true false c first second is = absurd (cc (second, is))
not-other false b c first second is = absurd (cc first)

pub own-spot : (rows : List (ℕ × Row)) (items : List LiveItem) (index : ℕ × List ℕ → Option ℕ) (number parent : ℕ) (name : List ℕ) → Lined rows → Indexes spot_of (at nat_cmp rows) index → items_in rows ≡ items
    → is_taken_by_other number parent name items ≡ false → (n : ℕ) → index (parent, lower_case name) ≡ Some n → n ≡ number
own-spot rows items index number parent name lined was view free n there =
    let test : LiveItem → Bool = λ (item : LiveItem). nat_eq item.parent parent && not (nat_eq item.number number) && equal_caseless item.name name in
    let told : (row : Row) × (at nat_cmp rows n ≡ Some row) × (spot_of row.item ≡ (parent, lower_case name)) = row-by spot_of (parent, lower_case name) (at nat_cmp rows n) (was.sound (parent, lower_case name) n there) in
    let off : test told.0.item ≡ false = found (λ (e : ℕ × Row). test e.1.item ≡ false) n told.0 rows (none-taken test rows (ap (list_any test) view ∙ free)) told.1 in
    let line : IsRow (n, told.0) = found IsRow n told.0 rows lined told.1 in
    let here : is_at_spot (parent, lower_case name) told.0.item ≡ true = spot-same (parent, lower_case name) told.0.item told.2 in
    let parts : (nat_eq told.0.item.parent parent ≡ true) × (equal_caseless told.0.item.name name ≡ true) = both-true (nat_eq told.0.item.parent parent) (equal_caseless told.0.item.name name) here in
    sym line.number ∙ eqb-true told.0.item.number number (not-other (nat_eq told.0.item.parent parent) (nat_eq told.0.item.number number) (equal_caseless told.0.item.name name) parts.0 parts.1 off)
