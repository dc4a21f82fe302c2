-- What a drive holds stays a tree where an item is removed in whose folder nothing stands, and so where all below an
-- item are removed, the deepest first.
use Rattle.std.proofs.Common.{◌≡◌, ◌≢◌, ℕ, ◌+◌, ◌<◌, ◌≤◌, zero, suc, Bool, true, false, ◌||◌, not, inl, inr, cond, nat_eq, List, [], ◌∷◌, ◌++◌, length, map, filter, is_some, Some, None, refl, sym, ap, ◌∙◌, subst, arith}
use Rattle.std.specs.List.{All, AllPairs, Contains}
use Rattle.std.proofs.lemmas.Bool.{both_ways, cases_Bool, cases_eq, eq-eqb, eqb-true, eqb-false, false_from_ne_true, ne_eqb, not-true, or_cases, or_left, or_right}
use Rattle.std.proofs.lemmas.List.{length-map}
use Rattle.std.proofs.lemmas.List.Elements.{All-nil, All-cons, All-head, All-tail, All-weaker, All-filter, All-contains, All-contains_itself, filter_passes}
use Rattle.std.proofs.lemmas.List.Kept.{AllPairs-filter}
use Rattle.gd_item.specs.declared.live.LiveItem.{LiveItem}
use Rattle.gd_item.specs.Inventory.{Inventory, Effect, Removed, after, after_all, inventory}
use Rattle.gd_item.specs.Moves.{is_parent_such, is_node_such, is_in_within, is_in, depth_of_path, deepest_first, removal_order, remove_effects}
use Rattle.gd_item.specs.Nodes.{Node, live_node, node_at, is_some_folder, is_twin, path_of}
use Rattle.gd_item.specs.Sound.{IsWithin, IsItemMap}
use Rattle.gd_item.specs.Trees.{nodes_of}
use Rattle.gd_names.proofs.Each.{AllPairs-head, AllPairs-tail}
use Rattle.gd_item.proofs.Adding.{some-from}
use Rattle.gd_item.proofs.Effects.{inventory-append, number-positive}
use Rattle.gd_item.proofs.Reaching.{IsChild, Climbs, climb-of-path, reached}

-- the items without that of a number
abbrev pub without : ℕ → List LiveItem → List LiveItem
without number items = filter (λ item. not (nat_eq item.number number)) items

-- no item stands in the folder of a number
abbrev pub IsEmpty : ℕ → List LiveItem → Type 0
IsEmpty number items = All (λ item. nat_eq item.parent number ≡ false) items

-- each other node stays
pub other-left : (number other : ℕ) → nat_eq other number ≡ false → (items : List LiveItem) → node_at other (map live_node (without number items)) ≡ node_at other (map live_node items)
other-left number other apart [] = refl
other-left number other apart (item ∷ items) =
    let rest : List LiveItem = without number items in
    let left : node_at other (map live_node rest) ≡ node_at other (map live_node items) = other-left number other apart items in
    (elim (nat_eq item.number number) as (λ b. nat_eq item.number number ≡ b
    → node_at other (map live_node (cond (not b) (item ∷ rest) rest)) ≡ cond (nat_eq item.number other) (Some (live_node item)) (node_at other (map live_node items))) [
      | true ↦ λ is.
          let differs : nat_eq item.number other ≡ false =
          ne_eqb item.number other (λ e. eqb-false other number apart (sym e ∙ eqb-true item.number number is)) in
          left ∙ sym (ap (λ b. cond b (Some (live_node item)) (node_at other (map live_node items))) differs)
      | false ↦ λ is. ap (λ o. cond (nat_eq item.number other) (Some (live_node item)) o) left
    ]) refl

-- the removed one is gone
pub gone : (number : ℕ) (items : List LiveItem) → node_at number (map live_node (without number items)) ≡ None
gone number [] = refl
gone number (item ∷ items) =
    let rest : List LiveItem = without number items in
    (elim (nat_eq item.number number) as (λ b. nat_eq item.number number ≡ b → node_at number (map live_node (cond (not b) (item ∷ rest) rest)) ≡ None) [
      | true ↦ λ is. gone number items
      | false ↦ λ is. ap (λ b. cond b (Some (live_node item)) (node_at number (map live_node rest))) is ∙ gone number items
    ]) refl

-- no node stands in an empty folder
not-under : (number other above : ℕ) (node : Node) (items : List LiveItem) → IsEmpty number items → node_at other (map live_node items) ≡ Some node → node.parent ≡ Some above → nat_eq above number ≡ false
not-under number other above node [] empty found under = absurd cc
not-under number other above node (item ∷ items) empty found under =
    let P : LiveItem → Type 0 = λ x. nat_eq x.parent number ≡ false in
    elim (nat_eq item.number other) as (λ b. cond b (Some (live_node item)) (node_at other (map live_node items)) ≡ Some node → nat_eq above number ≡ false) [
      | true ↦ λ h.
          let same : live_node item ≡ node = cc in
          let parents : Some item.parent ≡ Some above = ap (λ (n : Node). n.parent) same ∙ under in
          let parent : item.parent ≡ above = cc in
          subst (λ n. nat_eq n number ≡ false) parent (All-head P item items empty)
      | false ↦ λ h. not-under number other above node items (All-tail P item items empty) h under
    ] found

-- each other climbs as before
climb-left : (number : ℕ) (items : List LiveItem) → IsEmpty number items → (depth other : ℕ) → nat_eq other number ≡ false → Climbs (map live_node items) depth other
    → Climbs (map live_node (without number items)) depth other
climb-left number items empty zero other apart climb = climb
climb-left number items empty (suc depth) other apart climb =
    let nodes : List Node = map live_node items in
    let child : IsChild nodes other climb.0 = climb.1 in
    let above : nat_eq climb.0 number ≡ false = not-under number other climb.0 child.node items empty child.found child.under in (
      climb.0,
      record {
        not_root = child.not_root;
        node = child.node;
        found = other-left number other apart items ∙ child.found;
        under = child.under;
        folder = ap (λ o. nat_eq climb.0 1 || is_some_folder o) (other-left number climb.0 above items) ∙ child.folder;
      },
      climb-left number items empty depth climb.0 above climb.2,
    )

led-left : (held : Inventory) (number : ℕ) → IsItemMap held → IsEmpty number held.items → (other : ℕ) → is_some (node_at other (map live_node (without number held.items))) ≡ true
    → is_some (path_of (map live_node (without number held.items)) other) ≡ true
led-left held number sound empty other is =
    let nodes : List Node = nodes_of held in
    let left : List Node = map live_node (without number held.items) in
    elim (cases_Bool (nat_eq other number)) [
      | inl same ↦
          let none : is_some (node_at other left) ≡ false =
          subst (λ n. is_some (node_at n left) ≡ false) (sym (eqb-true other number same)) (ap is_some (gone number held.items)) in
          absurd (both_ways (is_some (node_at other left)) none is)
      | inr apart ↦
          let found : (path : List (List ℕ)) × (path_of nodes other ≡ Some path) =
          some-from (path_of nodes other) (sound.led other (sym (ap is_some (other-left number other apart held.items)) ∙ is)) in
          let climb : (depth : ℕ) × (depth ≤ length nodes) × Climbs nodes depth other = climb-of-path nodes (length nodes) other found.0 found.1 in
          ap is_some (reached left climb.0 other (climb-left number held.items empty climb.0 other apart climb.2)).1
    ]

-- a removed item, in whose folder nothing stands
pub sound-removed : (held : Inventory) (number : ℕ) → IsItemMap held → 0 < held.number → All (λ (item : LiveItem). nat_eq item.parent number ≡ false) held.items → IsItemMap (after held (Removed number))
sound-removed held number sound positive empty =
    let keep : LiveItem → Bool = λ item. not (nat_eq item.number number) in
    let grown : Inventory = after held (Removed number) in
    record {
      within = All-filter keep (IsWithin grown) held.items
          (All-weaker (IsWithin held) (IsWithin grown)
          (λ x h. record { above = h.above; below = h.below; later = h.later; done = let d : x.change ≤ held.number = h.done in omega arith }) held.items sound.within);
      numbers = AllPairs-filter (λ (x y : LiveItem). x.number < y.number) keep held.items sound.numbers;
      changes = AllPairs-filter (λ (x y : LiveItem). x.change ≢ y.change) keep held.items sound.changes;
      led = led-left held number sound empty;
      told_apart = AllPairs-filter (λ (x y : LiveItem). is_twin (live_node y) (live_node x) ≡ false) keep held.items sound.told_apart;
    }

-- each number in turn is that of a folder in which nothing is left
abbrev pub IsOrdered : List LiveItem → List ℕ → Type 0
IsOrdered items [] = Unit {0}
IsOrdered items (number ∷ numbers) = IsEmpty number items × IsOrdered (without number items) numbers

abbrev pub all_without : List ℕ → List LiveItem → List LiveItem
all_without [] items = items
all_without (number ∷ numbers) items = all_without numbers (without number items)

-- items that are removed in such an order
pub sound-removals : (held : Inventory) (numbers : List ℕ) → IsItemMap held → 0 < held.number → IsOrdered held.items numbers → IsItemMap (after_all held (map Removed numbers))
sound-removals held [] sound positive ordered = sound
sound-removals held (number ∷ numbers) sound positive ordered =
    sound-removals (after held (Removed number)) numbers (sound-removed held number sound positive ordered.0) (omega arith) ordered.1

ordered-append : (first second : List ℕ) (items : List LiveItem) → IsOrdered items first → IsOrdered (all_without first items) second → IsOrdered items (first ++ second)
ordered-append [] second items a b = b
ordered-append (number ∷ first) second items a b = (a.0, ordered-append first second (without number items) a.1 b)

-- folders in which nothing stands, in any order
ordered-level : (numbers : List ℕ) (items : List LiveItem) → All (λ item. All (λ number. nat_eq item.parent number ≡ false) numbers) items → IsOrdered items numbers
ordered-level [] items empty = tt
ordered-level (number ∷ numbers) items empty =
    let P : LiveItem → Type 0 = λ item. All (λ n. nat_eq item.parent n ≡ false) (number ∷ numbers) in
    let Q : LiveItem → Type 0 = λ item. All (λ n. nat_eq item.parent n ≡ false) numbers in
    let rest : All Q items = All-weaker P Q (λ item h. All-tail (λ n. nat_eq item.parent n ≡ false) number numbers h) items empty in (
      All-weaker P (λ item. nat_eq item.parent number ≡ false) (λ item h. All-head (λ n. nat_eq item.parent n ≡ false) number numbers h) items empty,
      ordered-level numbers (without number items) (All-filter (λ item. not (nat_eq item.number number)) Q items rest),
    )

-- what is left has none of the numbers
left-of : (P : LiveItem → Type 0) (numbers : List ℕ) (items : List LiveItem) → All P items → All (λ item. P item × All (λ n. nat_eq item.number n ≡ false) numbers) (all_without numbers items)
left-of P [] items all = All-weaker P (λ item. P item × All (λ n. nat_eq item.number n ≡ false) []) (λ item h. (h, All-nil (λ n. nat_eq item.number n ≡ false))) items all
left-of P (number ∷ numbers) items all =
    let keep : LiveItem → Bool = λ item. not (nat_eq item.number number) in
    let Q : LiveItem → Type 0 = λ item. P item × (not (nat_eq item.number number) ≡ true) in
    let kept : All P (without number items) = All-filter keep P items all in
    let passes : All (λ item. keep item ≡ true) (without number items) = filter_passes keep items in
    let both : All Q (without number items) = λ k d lt. (kept k d lt, passes k d lt) in
    let rest : All (λ item. Q item × All (λ n. nat_eq item.number n ≡ false) numbers) (all_without numbers (without number items)) = left-of Q numbers (without number items) both in
    All-weaker (λ item. Q item × All (λ n. nat_eq item.number n ≡ false) numbers) (λ item. P item × All (λ n. nat_eq item.number n ≡ false) (number ∷ numbers))
    (λ item h. (h.0.0, All-cons (λ n. nat_eq item.number n ≡ false) number numbers (not-true (nat_eq item.number number) h.0.1) h.1))
    (all_without numbers (without number items)) rest

-- what holds of all that a filter keeps holds where its test does
kept-back : (test : ℕ → Bool) (P : ℕ → Type 0) (numbers : List ℕ) → All P (filter test numbers) → All (λ n. test n ≡ true → P n) numbers
kept-back test P [] all = All-nil (λ n. test n ≡ true → P n)
kept-back test P (number ∷ numbers) all =
    (elim (test number) as (λ b. test number ≡ b → All P (cond b (number ∷ filter test numbers) (filter test numbers)) → All (λ n. test n ≡ true → P n) (number ∷ numbers)) [
      | true ↦ λ is all. All-cons (λ n. test n ≡ true → P n) number numbers (λ h. All-head P number (filter test numbers) all)
          (kept-back test P numbers (All-tail P number (filter test numbers) all))
      | false ↦ λ is all. All-cons (λ n. test n ≡ true → P n) number numbers (λ h. absurd (both_ways (test number) is h)) (kept-back test P numbers all)
    ]) refl all

numbers-back : (P : ℕ → Type 0) (items : List LiveItem) → All P (map (λ (x : LiveItem). x.number) items) → All (λ x. P x.number) items
numbers-back P [] all = All-nil (λ x. P x.number)
numbers-back P (item ∷ items) all =
    let rest : List ℕ = map (λ (x : LiveItem). x.number) items in
    All-cons (λ x. P x.number) item items (All-head P item.number rest all) (numbers-back P items (All-tail P item.number rest all))

-- an item is found by its number
found-by-number : (items : List LiveItem) → AllPairs (λ (x y : LiveItem). x.number < y.number) items → All (λ x. node_at x.number (map live_node items) ≡ Some (live_node x)) items
found-by-number [] pairs = All-nil (λ x. node_at x.number (map live_node []) ≡ Some (live_node x))
found-by-number (item ∷ items) pairs =
    let R : LiveItem → LiveItem → Type 0 = λ x y. x.number < y.number in
    let P : LiveItem → Type 0 = λ x. node_at x.number (map live_node (item ∷ items)) ≡ Some (live_node x) in
    let Q : LiveItem → Type 0 = λ x. node_at x.number (map live_node items) ≡ Some (live_node x) in
    let above : All (R item) items = AllPairs-head R item items pairs in
    let rest : All Q items = found-by-number items (AllPairs-tail R item items pairs) in
    let both : All (λ x. R item x × Q x) items = λ k d lt. (above k d lt, rest k d lt) in
    All-cons P item items (ap (λ b. cond b (Some (live_node item)) (node_at item.number (map live_node items))) (eq-eqb item.number item.number refl))
    (All-weaker (λ x. R item x × Q x) P
    (λ x h.
    let lt : item.number < x.number = h.0 in
    ap (λ b. cond b (Some (live_node item)) (node_at x.number (map live_node items))) (ne_eqb item.number x.number (λ e. omega arith)) ∙ h.1)
    items both)

-- the root is no item
root-free : (items : List LiveItem) → All (λ x. 1 < x.number) items → node_at 1 (map live_node items) ≡ None
root-free [] above = refl
root-free (item ∷ items) above =
    let P : LiveItem → Type 0 = λ x. 1 < x.number in
    let lt : 1 < item.number = All-head P item items above in
    ap (λ b. cond b (Some (live_node item)) (node_at 1 (map live_node items))) (ne_eqb item.number 1 (λ e. omega arith)) ∙ root-free items (All-tail P item items above)

-- what a test of the folder above says
above-says : (nodes : List Node) (test : ℕ → Bool) (number parent : ℕ) → IsChild nodes number parent → is_node_such test (node_at number nodes) ≡ test parent
above-says nodes test number parent child = ap (is_node_such test) child.found ∙ ap (is_parent_such test) child.under

-- as many steps as the depth tell whether a number stands below another
in-shallow : (nodes : List Node) (top : ℕ) → node_at 1 nodes ≡ None → (depth steps number : ℕ) → Climbs nodes depth number → is_in_within steps nodes top number ≡ true
    → is_in_within depth nodes top number ≡ true
in-shallow nodes top free zero zero number climb h = h
in-shallow nodes top free zero (suc steps) number climb h =
    let test : ℕ → Bool = is_in_within steps nodes top in
    elim (or_cases (nat_eq number top) (is_node_such test (node_at number nodes)) h) [
      | inl is ↦ is
      | inr is ↦
          let root : 1 ≡ number = sym (eqb-true number 1 climb) in
          let none : is_node_such test (node_at number nodes) ≡ false = ap (is_node_such test) (subst (λ n. node_at n nodes ≡ None) root free) in
          absurd (both_ways (is_node_such test (node_at number nodes)) none is)
    ]
in-shallow nodes top free (suc depth) zero number climb h = or_left (nat_eq number top) (is_node_such (is_in_within depth nodes top) (node_at number nodes)) h
in-shallow nodes top free (suc depth) (suc steps) number climb h =
    let test : ℕ → Bool = is_in_within steps nodes top in
    let less : ℕ → Bool = is_in_within depth nodes top in
    elim (or_cases (nat_eq number top) (is_node_such test (node_at number nodes)) h) [
      | inl is ↦ or_left (nat_eq number top) (is_node_such less (node_at number nodes)) is
      | inr is ↦
          let rest : less climb.0 ≡ true = in-shallow nodes top free depth steps climb.0 climb.2 (sym (above-says nodes test number climb.0 climb.1) ∙ is) in
          or_right (nat_eq number top) (is_node_such less (node_at number nodes)) (above-says nodes less number climb.0 climb.1 ∙ rest)
    ]

-- what as many steps as the depth tell, more steps tell too
in-grown : (nodes : List Node) (top depth steps more number : ℕ) → Climbs nodes depth number → steps ≤ depth → steps ≤ more → is_in_within steps nodes top number ≡ true → is_in_within more nodes top number ≡ true
in-grown nodes top depth zero zero number climb few le h = h
in-grown nodes top depth zero (suc more) number climb few le h = or_left (nat_eq number top) (is_node_such (is_in_within more nodes top) (node_at number nodes)) h
in-grown nodes top depth (suc steps) zero number climb few le h = absurd (omega arith)
in-grown nodes top zero (suc steps) (suc more) number climb few le h = absurd (omega arith)
in-grown nodes top (suc depth) (suc steps) (suc more) number climb few le h =
    let test : ℕ → Bool = is_in_within steps nodes top in
    let further : ℕ → Bool = is_in_within more nodes top in
    elim (or_cases (nat_eq number top) (is_node_such test (node_at number nodes)) h) [
      | inl is ↦ or_left (nat_eq number top) (is_node_such further (node_at number nodes)) is
      | inr is ↦
          let rest : further climb.0 ≡ true = in-grown nodes top depth steps more climb.0 climb.2 (omega arith) (omega arith) (sym (above-says nodes test number climb.0 climb.1) ∙ is) in
          or_right (nat_eq number top) (is_node_such further (node_at number nodes)) (above-says nodes further number climb.0 climb.1 ∙ rest)
    ]

-- how deep a number is
abbrev pub depth_in : List Node → ℕ → ℕ
depth_in nodes n = depth_of_path (path_of nodes n)

depth-of-climb : (nodes : List Node) (depth number : ℕ) → Climbs nodes depth number → depth_in nodes number ≡ depth
depth-of-climb nodes depth number climb =
    let found : (path : List (List ℕ)) × (path_of nodes number ≡ Some path) × (length path ≡ depth) = reached nodes depth number climb in
    ap depth_of_path found.1 ∙ found.2

-- how an item climbs
pub item-climbs : (held : Inventory) (item : LiveItem) → IsItemMap held → Contains held.items item → (depth : ℕ) × (suc depth ≤ length (nodes_of held)) × Climbs (nodes_of held) (suc depth) item.number × Climbs (nodes_of held) depth item.parent
item-climbs held item sound among =
    let nodes : List Node = nodes_of held in
    let within : IsWithin held item = All-contains (IsWithin held) held.items item sound.within among in
    let found : node_at item.number nodes ≡ Some (live_node item) =
    All-contains (λ x. node_at x.number nodes ≡ Some (live_node x)) held.items item (found-by-number held.items sound.numbers) among in
    let path : (path : List (List ℕ)) × (path_of nodes item.number ≡ Some path) = some-from (path_of nodes item.number) (sound.led item.number (ap is_some found)) in
    let climb : (depth : ℕ) × (depth ≤ length nodes) × Climbs nodes depth item.number = climb-of-path nodes (length nodes) item.number path.0 path.1 in
    (elim climb.0 as (λ d. d ≤ length nodes → Climbs nodes d item.number → (depth : ℕ) × (suc depth ≤ length nodes) × Climbs nodes (suc depth) item.number × Climbs nodes depth item.parent) [
      | zero ↦ λ le climb.
          let above : 1 < item.number = within.above in
          absurd (let e : item.number ≡ 1 = eqb-true item.number 1 climb in omega arith)
      | suc depth ↦ λ le climb.
          let same : Some climb.1.node ≡ Some (live_node item) = sym climb.1.found ∙ found in
          let node : climb.1.node ≡ live_node item = cc in
          let parents : Some climb.0 ≡ Some item.parent = sym climb.1.under ∙ ap (λ (n : Node). n.parent) node in
          let parent : climb.0 ≡ item.parent = cc in
          (depth, le, climb, subst (Climbs nodes depth) parent climb.2)
    ]) climb.1 climb.2

-- an item in a folder that stands in the top, or is the top, stands in the top and is one deeper
below-top : (held : Inventory) (top : ℕ) (item : LiveItem) → IsItemMap held → Contains held.items item → is_in (nodes_of held) top item.parent ≡ true
    → (is_in (nodes_of held) top item.number ≡ true) × (depth_in (nodes_of held) item.number ≡ suc (depth_in (nodes_of held) item.parent))
below-top held top item sound among is =
    let nodes : List Node = nodes_of held in
    let climb : (depth : ℕ) × (suc depth ≤ length nodes) × Climbs nodes (suc depth) item.number × Climbs nodes depth item.parent = item-climbs held item sound among in
    let free : node_at 1 nodes ≡ None = root-free held.items (All-weaker (IsWithin held) (λ x. 1 < x.number) (λ x h. h.above) held.items sound.within) in
    let shallow : is_in_within climb.0 nodes top item.parent ≡ true = in-shallow nodes top free climb.0 (length nodes) item.parent climb.3 is in
    let child : IsChild nodes item.number climb.2.0 = climb.2.1 in
    let found : node_at item.number nodes ≡ Some (live_node item) =
    All-contains (λ x. node_at x.number nodes ≡ Some (live_node x)) held.items item (found-by-number held.items sound.numbers) among in
    let said : is_node_such (is_in_within climb.0 nodes top) (node_at item.number nodes) ≡ is_in_within climb.0 nodes top item.parent = ap (is_node_such (is_in_within climb.0 nodes top)) found in
    let here : is_in_within (suc climb.0) nodes top item.number ≡ true =
    or_right (nat_eq item.number top) (is_node_such (is_in_within climb.0 nodes top) (node_at item.number nodes)) (said ∙ shallow) in (
      in-grown nodes top (suc climb.0) (suc climb.0) (length nodes) item.number climb.2 (omega arith) climb.1 here,
      depth-of-climb nodes (suc climb.0) item.number climb.2 ∙ ap suc (sym (depth-of-climb nodes climb.0 item.parent climb.3)),
    )

-- what is left when all below the top are removed that are at least so deep
abbrev IsLeft : Inventory → ℕ → ℕ → LiveItem → Type 0
IsLeft held top bound item = Contains held.items item × (is_in (nodes_of held) top item.number ≡ true → depth_in (nodes_of held) item.number < bound)

-- the numbers that stand in the top
abbrev numbers_in : Inventory → ℕ → List ℕ
numbers_in held top = filter (λ n. is_in (nodes_of held) top n) (map (λ (item : LiveItem). item.number) held.items)

-- those of one depth
abbrev level_of : Inventory → ℕ → ℕ → List ℕ
level_of held top bound = filter (λ n. nat_eq (depth_in (nodes_of held) n) bound) (numbers_in held top)

level-says : (held : Inventory) (top bound : ℕ) → All (λ n. (is_in (nodes_of held) top n ≡ true) × (nat_eq (depth_in (nodes_of held) n) bound ≡ true)) (level_of held top bound)
level-says held top bound =
    let inside : ℕ → Bool = λ n. is_in (nodes_of held) top n in
    let deep : ℕ → Bool = λ n. nat_eq (depth_in (nodes_of held) n) bound in
    let numbers : List ℕ = numbers_in held top in
    let a : All (λ n. inside n ≡ true) numbers = filter_passes inside (map (λ (item : LiveItem). item.number) held.items) in
    let b : All (λ n. inside n ≡ true) (filter deep numbers) = All-filter deep (λ n. inside n ≡ true) numbers a in
    let c : All (λ n. deep n ≡ true) (filter deep numbers) = filter_passes deep numbers in
    λ k d lt. (b k d lt, c k d lt)

-- no deeper item is left, so these folders are empty
level-empty : (held : Inventory) (top bound : ℕ) → IsItemMap held → (item : LiveItem) → IsLeft held top (suc bound) item → All (λ n. nat_eq item.parent n ≡ false) (level_of held top bound)
level-empty held top bound sound item left =
    let nodes : List Node = nodes_of held in
    All-weaker (λ n. (is_in nodes top n ≡ true) × (nat_eq (depth_in nodes n) bound ≡ true)) (λ n. nat_eq item.parent n ≡ false)
    (λ n h. false_from_ne_true (nat_eq item.parent n) (λ is.
    let same : n ≡ item.parent = sym (eqb-true item.parent n is) in
    let inside : is_in nodes top item.parent ≡ true = subst (λ m. is_in nodes top m ≡ true) same h.0 in
    let deep : depth_in nodes item.parent ≡ bound = subst (λ m. depth_in nodes m ≡ bound) same (eqb-true (depth_in nodes n) bound h.1) in
    let below : (is_in nodes top item.number ≡ true) × (depth_in nodes item.number ≡ suc (depth_in nodes item.parent)) = below-top held top item sound left.0 inside in
    let deeper : depth_in nodes item.number ≡ suc (depth_in nodes item.parent) = below.1 in
    let lt : depth_in nodes item.number < suc bound = left.1 below.0 in
    absurd (omega arith)))
    (level_of held top bound) (level-says held top bound)

-- once those of one depth are removed, none of this depth is left
level-gone : (held : Inventory) (top bound : ℕ) (item : LiveItem) → IsLeft held top (suc bound) item → All (λ n. nat_eq item.number n ≡ false) (level_of held top bound) → IsLeft held top bound item
level-gone held top bound item left apart =
    let nodes : List Node = nodes_of held in
    let inside : ℕ → Bool = λ n. is_in nodes top n in
    let deep : ℕ → Bool = λ n. nat_eq (depth_in nodes n) bound in
    let P : ℕ → Type 0 = λ n. nat_eq item.number n ≡ false in
    let a : All (λ n. deep n ≡ true → P n) (numbers_in held top) = kept-back deep P (numbers_in held top) apart in
    let b : All (λ n. inside n ≡ true → deep n ≡ true → P n) (map (λ (x : LiveItem). x.number) held.items) =
    kept-back inside (λ n. deep n ≡ true → P n) (map (λ (x : LiveItem). x.number) held.items) a in
    let c : All (λ x. inside x.number ≡ true → deep x.number ≡ true → P x.number) held.items = numbers-back (λ n. inside n ≡ true → deep n ≡ true → P n) held.items b in
    let own : inside item.number ≡ true → deep item.number ≡ true → P item.number =
    All-contains (λ x. inside x.number ≡ true → deep x.number ≡ true → P x.number) held.items item c left.0 in (
      left.0,
      λ is.
          let lt : depth_in nodes item.number < suc bound = left.1 is in
          elim (cases_eq (depth_in nodes item.number) bound) [
            | inl same ↦ absurd (both_ways (nat_eq item.number item.number) (own is (eq-eqb (depth_in nodes item.number) bound same)) (eq-eqb item.number item.number refl))
            | inr other ↦ omega arith
          ],
    )

ordered-levels : (held : Inventory) (top : ℕ) → IsItemMap held → (bound : ℕ) (items : List LiveItem) → All (IsLeft held top bound) items → IsOrdered items (deepest_first bound (depth_in (nodes_of held)) (numbers_in held top))
ordered-levels held top sound zero items left = tt
ordered-levels held top sound (suc bound) items left =
    let level : List ℕ = level_of held top bound in
    let P : LiveItem → Type 0 = IsLeft held top (suc bound) in
    let gone : All (λ item. P item × All (λ n. nat_eq item.number n ≡ false) level) (all_without level items) = left-of P level items left in
    ordered-append level (deepest_first bound (depth_in (nodes_of held)) (numbers_in held top)) items
    (ordered-level level items (All-weaker P (λ item. All (λ n. nat_eq item.parent n ≡ false) level) (level-empty held top bound sound) items left))
    (ordered-levels held top sound bound (all_without level items)
    (All-weaker (λ item. P item × All (λ n. nat_eq item.number n ≡ false) level) (IsLeft held top bound) (λ item h. level-gone held top bound item h.0 h.1) (all_without level items) gone))

-- the order of the removals is such an order
pub removal-ordered : (held : Inventory) (number : ℕ) → IsItemMap held → IsOrdered held.items (removal_order held number)
removal-ordered held number sound =
    let nodes : List Node = nodes_of held in
    let long : length nodes ≡ length held.items = length-map held.items live_node in
    ordered-levels held number sound (length held.items + 1) held.items
    (All-weaker (Contains held.items) (IsLeft held number (length held.items + 1))
    (λ item among.
    let climb : (depth : ℕ) × (suc depth ≤ length nodes) × Climbs nodes (suc depth) item.number × Climbs nodes depth item.parent = item-climbs held item sound among in
    let deep : depth_in nodes item.number ≡ suc climb.0 = depth-of-climb nodes (suc climb.0) item.number climb.2 in
    let le : suc climb.0 ≤ length nodes = climb.1 in
    (among, λ is. omega arith))
    held.items (All-contains_itself held.items))

remove-sound : (held : Inventory) (number : ℕ) → IsItemMap held → 0 < held.number → IsItemMap (after_all held (remove_effects held number))
remove-sound held number sound positive = sound-removals held (removal_order held number) sound positive (removal-ordered held number sound)

-- an item that is removed with all below it
pub sound-removed-all : (held : Inventory) (number : ℕ) → IsItemMap held → 0 < held.number → nat_eq number 1 ≡ false → IsItemMap (after_all held (remove_effects held number))
sound-removed-all held number sound positive not_root = remove-sound held number sound positive

-- the same of what a drive holds whose effects are these
pub sound-removed-log : (effects : List Effect) (number : ℕ) → IsItemMap (inventory effects) → IsItemMap (inventory (effects ++ remove_effects (inventory effects) number))
sound-removed-log effects number sound =
    subst IsItemMap (sym (inventory-append effects (remove_effects (inventory effects) number))) (remove-sound (inventory effects) number sound (number-positive effects))
