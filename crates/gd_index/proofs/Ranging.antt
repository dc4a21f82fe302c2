-- What the index of names and that of change numbers give in order.
use Rattle.std.proofs.Common.{◌≡◌, ℕ, ◌+◌, ◌<◌, ◌≤◌, inl, inr, drop, length, get_or, append_assoc, Bool, true, false, ◌&&◌, cond, nat_eq, nat_lt, eqb-true, eq-eqb, List, [], ◌∷◌, ◌++◌, take, map, filter, Option, Some, None, refl, ap, sym, ◌∙◌, arith}
use Rattle.std.specs.BTreeMap.{insert_entry}
use Rattle.std.specs.List.{AllByRecursion}
use Rattle.std.specs.Cmp.Lexicographic.{slice_cmp}
use Rattle.std.specs.declared.cmp.Ordering.{Ordering}
use Rattle.std.specs.declared.cmp.Ordering.TheVariants.{Less, Equal, Greater}
use Rattle.std.proofs.lemmas.Bool.{ne_eqb, cases_order}
use Rattle.std.proofs.lemmas.Cmp.{ranked, tied_itself, nat_cmp_total}
use Rattle.std.proofs.lemmas.List.{drop_more}
use Rattle.std.proofs.lemmas.Map.Keys.{sorted_head, sorted_tail}
use Rattle.gd_names.proofs.Each.{each-so}
use Rattle.gd_names.specs.Caseless.{lower_case}
use Rattle.std.specs.BTreeMap.Range.{entries_between, range_contains}
use Rattle.std.specs.List.Sorted.{IsStrictlySortedBy}
use Rattle.std.specs.Map.{keys_of, values_of}
use Rattle.std.specs.Ordering.{nat_cmp, is_lt, is_le, is_gt, ordering_then, match_ordering}
use Rattle.std.specs.declared.ops.Bound.TheVariants.{Excluded, Unbounded}
use Rattle.gd_item.specs.Children.{is_past, in_name_order_from, children_past}
use Rattle.gd_item.specs.declared.live.LiveItem.{LiveItem}
use Rattle.gd_index.specs.declared.row.Row.{Row}
use Rattle.gd_index.specs.Dated.{in_date_order_from, changed_past}
use Rattle.gd_index.specs.Indexed.{at, spot_cmp, spot_of, children_start, while_in, items_in, items_at, item_and, IsIndexed}
use Rattle.gd_index.proofs.Orders.{numbers, spots}
use Rattle.gd_index.proofs.Sorting.{each-kept, sorted_from, first-in-order}

abbrev change-of : LiveItem → ℕ
change-of item = item.change

-- ---- in order of change
date-order : (placed : List (ℕ × LiveItem)) (items : List LiveItem) → in_date_order_from placed items ≡ sorted_from numbers change-of placed items
date-order placed [] = refl
date-order placed (item ∷ items) = date-order (insert_entry nat_cmp placed item.change item) items

less-by : (b c : Bool) → (is_lt (cond b Less (cond c Equal Greater)) && true) ≡ b
less-by true c = refl
less-by false true = refl
less-by false false = refl

pub changed-first : (rows : List (ℕ × Row)) (names : List ((ℕ × List ℕ) × ℕ)) (changes : List (ℕ × ℕ)) (position most : ℕ) (items found : List LiveItem) (ns : List ℕ) → IsIndexed rows names changes
    → IsStrictlySortedBy nat_cmp (keys_of changes) → items_in rows ≡ items → found ≡ items_at rows ns → ns ≡ take most (values_of (entries_between nat_cmp (Excluded position) Unbounded changes))
    → found ≡ take most (changed_past position items)
changed-first rows names changes position most items found ns was ordered view is are =
    let p : ℕ → Bool = λ (q : ℕ). range_contains nat_cmp (Excluded position) Unbounded q in
    let ok : LiveItem → Bool = λ (item : LiveItem). nat_lt position item.change in
    let same : (item : LiveItem) → ok item ≡ p (change-of item) = λ item. sym (less-by (nat_lt position item.change) (nat_eq position item.change)) in
    is ∙ ap (items_at rows) are
    ∙ first-in-order numbers change-of rows changes was.by_change p ok same was.lined was.rises ordered most
    ∙ ap (λ entries. take most (values_of entries)) (sym (date-order [] (filter ok (items_in rows))))
    ∙ ap (λ xs. take most (changed_past position xs)) view

-- ---- one more of the items
and-append : (found : Option Row) (items : List LiveItem) → item_and found items ≡ item_and found [] ++ items
and-append None items = refl
and-append (Some row) items = refl

pub items-step : (rows : List (ℕ × Row)) (ns : List ℕ) (i : ℕ) (old new : List LiveItem) → i < length ns → old ++ items_at rows (drop i ns) ≡ items_at rows ns
    → new ≡ old ++ item_and (at nat_cmp rows (get_or ns i 0)) [] → new ++ items_at rows (drop (i + 1) ns) ≡ items_at rows ns
items-step rows ns i old new within so_far more =
    let here : Option Row = at nat_cmp rows (get_or ns i 0) in
    let rest : List LiveItem = items_at rows (drop (i + 1) ns) in
    ap (λ xs. xs ++ rest) more ∙ append_assoc old (item_and here []) rest ∙ ap (λ xs. old ++ xs) (sym (and-append here rest))
    ∙ ap (λ xs. old ++ items_at rows xs) (sym (drop_more ns i 0 within)) ∙ so_far

-- ---- the children of a folder
-- entries that rise, as recursion says it
abbrev Rising : List ((ℕ × List ℕ) × ℕ) → Type 0
Rising [] = Unit {0}
Rising (e ∷ es) = AllByRecursion (λ (f : (ℕ × List ℕ) × ℕ). spot_cmp e.0 f.0 ≡ Less) es × Rising es

of-keys : (k : ℕ × List ℕ) (es : List ((ℕ × List ℕ) × ℕ)) → AllByRecursion (λ (q : ℕ × List ℕ). spot_cmp k q ≡ Less) (keys_of es) → AllByRecursion (λ (f : (ℕ × List ℕ) × ℕ). spot_cmp k f.0 ≡ Less) es
of-keys k [] all = tt
of-keys k (e ∷ es) all = (all.0, of-keys k es all.1)

rising : (es : List ((ℕ × List ℕ) × ℕ)) → IsStrictlySortedBy spot_cmp (keys_of es) → Rising es
rising [] rises = tt
rising (e ∷ es) rises = (of-keys e.0 es (sorted_head spot_cmp e.0 (keys_of es) rises), rising es (sorted_tail spot_cmp e.0 (keys_of es) rises))

rising-kept : (test : (ℕ × List ℕ) × ℕ → Bool) (es : List ((ℕ × List ℕ) × ℕ)) → Rising es → Rising (filter test es)
rising-kept test [] rises = tt
rising-kept test (e ∷ es) rises =
    elim (test e) as (λ b. Rising (cond b (e ∷ filter test es) (filter test es))) [
      | true ↦ (each-kept (λ (f : (ℕ × List ℕ) × ℕ). spot_cmp e.0 f.0 ≡ Less) test es rises.0, rising-kept test es rises.1)
      | false ↦ rising-kept test es rises.1
    ]

not-past : (a b : ℕ) (o p : Ordering) → nat_cmp a b ≡ o → is_gt (ordering_then o p) ≡ false → a ≤ b
not-past a b Less p is low = let less : a < b = ranked a b Less (sym is) in omega (arith, less)
not-past a b Equal p is low = let same : a ≡ b = ranked a b Equal (sym is) in omega (arith, same)
not-past a b Greater p is low = absurd (cc low)

later-parent : (a b : ℕ × List ℕ) → spot_cmp a b ≡ Less → a.0 ≤ b.0
later-parent a b is = not-past a.0 b.0 (nat_cmp a.0 b.0) (slice_cmp nat_cmp a.1 b.1) refl (ap is_gt is)

abbrev In : ℕ → (ℕ × List ℕ) × ℕ → Bool
In parent e = nat_eq e.0.0 parent

none-in : (parent : ℕ) (es : List ((ℕ × List ℕ) × ℕ)) → AllByRecursion (λ (f : (ℕ × List ℕ) × ℕ). parent < f.0.0) es → filter (In parent) es ≡ []
none-in parent [] all = refl
none-in parent (e ∷ es) all =
    let off : nat_eq e.0.0 parent ≡ false = ne_eqb e.0.0 parent (λ is. absurd (omega (arith, is, all.0))) in
    ap (λ b. cond b (e ∷ filter (In parent) es) (filter (In parent) es)) off ∙ none-in parent es all.1

while-if : (b : Bool) (parent : ℕ) (e : (ℕ × List ℕ) × ℕ) (es : List ((ℕ × List ℕ) × ℕ)) → nat_eq e.0.0 parent ≡ b → parent ≤ e.0.0 → AllByRecursion (λ (f : (ℕ × List ℕ) × ℕ). spot_cmp e.0 f.0 ≡ Less) es
    → while_in parent es ≡ filter (In parent) es → cond b (e ∷ while_in parent es) [] ≡ cond b (e ∷ filter (In parent) es) (filter (In parent) es)
while-if true parent e es is from above rest = ap (λ more. e ∷ more) rest
while-if false parent e es is from above rest =
    let past : parent < e.0.0 = elim (cases_order parent e.0.0) [
      | inl same ↦ absurd (let on : nat_eq e.0.0 parent ≡ true = eq-eqb e.0.0 parent (sym same) in cc)
      | inr apart ↦ elim apart [ inl less ↦ less | inr more ↦ absurd (omega (arith, more, from)) ]
    ] in
    sym (none-in parent es (each-so (λ (f : (ℕ × List ℕ) × ℕ). spot_cmp e.0 f.0 ≡ Less) (λ (f : (ℕ × List ℕ) × ℕ). parent < f.0.0)
    (λ f less. let later : e.0.0 ≤ f.0.0 = later-parent e.0 f.0 less in omega (arith, later, past)) es above))

while-is : (parent : ℕ) (es : List ((ℕ × List ℕ) × ℕ)) → Rising es → AllByRecursion (λ (f : (ℕ × List ℕ) × ℕ). parent ≤ f.0.0) es → while_in parent es ≡ filter (In parent) es
while-is parent [] rises from = refl
while-is parent (e ∷ es) rises from = while-if (nat_eq e.0.0 parent) parent e es refl from.0 rises.0 (while-is parent es rises.1 from.1)

-- one test after another
twice-if : {X : Type 0} (a b : Bool) (x : X) (more : List X) (test : X → Bool) → test x ≡ a → filter test (cond b (x ∷ more) more) ≡ cond (a && b) (x ∷ filter test more) (filter test more)
twice-if true true x more test is = ap (λ c. cond c (x ∷ filter test more) (filter test more)) is
twice-if true false x more test is = refl
twice-if false true x more test is = ap (λ c. cond c (x ∷ filter test more) (filter test more)) is
twice-if false false x more test is = refl

twice : {X : Type 0} (first second : X → Bool) (xs : List X) → filter second (filter first xs) ≡ filter (λ x. second x && first x) xs
twice first second [] = refl
twice first second (x ∷ xs) =
    twice-if (second x) (first x) x (filter first xs) second refl ∙ ap (λ more. cond (second x && first x) (x ∷ more) more) (twice first second xs)

module _ {X : Type 0} (test : X → Bool) where
  passing-if : (b : Bool) (x : X) (more : List X) → test x ≡ b → AllByRecursion (λ (y : X). test y ≡ true) more → AllByRecursion (λ (y : X). test y ≡ true) (cond b (x ∷ more) more)
  passing-if true x more is all = (is, all)
  passing-if false x more is all = all

  passing : (xs : List X) → AllByRecursion (λ (y : X). test y ≡ true) (filter test xs)
  passing [] = tt
  passing (x ∷ xs) = passing-if (test x) x (filter test xs) refl (passing xs)

module _ (parent : ℕ) (earlier : Option (List ℕ)) where
  abbrev from : ℕ × List ℕ → Bool
  from q = range_contains spot_cmp (children_start parent earlier) Unbounded q

  from-by : (o : Ordering) (b : Bool) → (is_le o && b) ≡ true → is_gt o ≡ false
  from-by Less b is = refl
  from-by Equal b is = refl
  from-by Greater b is = absurd (cc is)

  past-by : (o : Ordering) (b : Bool) → (is_lt o && b) ≡ true → is_gt o ≡ false
  past-by Less b is = refl
  past-by Equal b is = absurd (cc is)
  past-by Greater b is = absurd (cc is)

  start-parent : (start : Option (List ℕ)) (q : ℕ × List ℕ) → range_contains spot_cmp (children_start parent start) Unbounded q ≡ true → parent ≤ q.0
  start-parent None q is = not-past parent q.0 (nat_cmp parent q.0) (slice_cmp nat_cmp [] q.1) refl (from-by (spot_cmp (parent, []) q) true is)
  start-parent (Some name) q is = not-past parent q.0 (nat_cmp parent q.0) (slice_cmp nat_cmp (lower_case name) q.1) refl (past-by (spot_cmp (parent, lower_case name) q) true is)

  -- the entries of a folder from its start on
  abbrev child-key : ℕ × List ℕ → Bool
  child-key q = nat_eq q.0 parent && from q

  pub while-part : (index : List ((ℕ × List ℕ) × ℕ)) → IsStrictlySortedBy spot_cmp (keys_of index)
      → while_in parent (entries_between spot_cmp (children_start parent earlier) Unbounded index) ≡ filter (λ (e : (ℕ × List ℕ) × ℕ). child-key e.0) index
  while-part index rises =
      let test : (ℕ × List ℕ) × ℕ → Bool = λ (e : (ℕ × List ℕ) × ℕ). from e.0 in
      while-is parent (filter test index) (rising-kept test index (rising index rises))
      (each-so (λ (e : (ℕ × List ℕ) × ℕ). test e ≡ true) (λ (e : (ℕ × List ℕ) × ℕ). parent ≤ e.0.0) (λ e is. start-parent earlier e.0 is) (filter test index) (passing test index))
      ∙ twice test (In parent) index

  -- ---- in order of name
  abbrev named : List ((ℕ × List ℕ) × LiveItem) → List (List ℕ × LiveItem)
  named entries = map (λ (e : (ℕ × List ℕ) × LiveItem). (e.0.1, e.1)) entries

  abbrev Within : List ((ℕ × List ℕ) × LiveItem) → Type 0
  Within entries = AllByRecursion (λ (e : (ℕ × List ℕ) × LiveItem). e.0.0 ≡ parent) entries

  spot-order : (k : ℕ) (a b : List ℕ) → k ≡ parent → spot_cmp (parent, a) (k, b) ≡ slice_cmp nat_cmp a b
  spot-order k a b is = ap (λ o. ordering_then o (slice_cmp nat_cmp a b)) (ap (nat_cmp parent) is ∙ tied_itself nat_cmp_total parent)

  named-by : (o : Ordering) (a b c : List ((ℕ × List ℕ) × LiveItem)) (d : List (List ℕ × LiveItem)) → named c ≡ d → named (match_ordering o a b c) ≡ match_ordering o (named a) (named b) d
  named-by Less a b c d same = refl
  named-by Equal a b c d same = refl
  named-by Greater a b c d same = same

  named-insert : (name : List ℕ) (x : LiveItem) (es : List ((ℕ × List ℕ) × LiveItem)) → Within es → named (insert_entry spot_cmp es (parent, name) x) ≡ insert_entry (slice_cmp nat_cmp) (named es) name x
  named-insert name x [] all = refl
  named-insert name x (e ∷ es) all =
      named-by (spot_cmp (parent, name) e.0) (((parent, name), x) ∷ e ∷ es) ((e.0, x) ∷ es) (e ∷ insert_entry spot_cmp es (parent, name) x) ((e.0.1, e.1) ∷ insert_entry (slice_cmp nat_cmp) (named es) name x)
      (ap (λ more. (e.0.1, e.1) ∷ more) (named-insert name x es all.1))
      ∙ ap (λ o. match_ordering o ((name, x) ∷ named (e ∷ es)) ((e.0.1, x) ∷ named es) ((e.0.1, e.1) ∷ insert_entry (slice_cmp nat_cmp) (named es) name x)) (spot-order e.0.0 name e.0.1 all.0)

  within-by : (o : Ordering) (name : List ℕ) (x : LiveItem) (e : (ℕ × List ℕ) × LiveItem) (es more : List ((ℕ × List ℕ) × LiveItem)) → Within (e ∷ es) → Within more
      → Within (match_ordering o (((parent, name), x) ∷ e ∷ es) ((e.0, x) ∷ es) (e ∷ more))
  within-by Less name x e es more all rest = (refl, all)
  within-by Equal name x e es more all rest = all
  within-by Greater name x e es more all rest = (all.0, rest)

  within-insert : (name : List ℕ) (x : LiveItem) (es : List ((ℕ × List ℕ) × LiveItem)) → Within es → Within (insert_entry spot_cmp es (parent, name) x)
  within-insert name x [] all = (refl, tt)
  within-insert name x (e ∷ es) all = within-by (spot_cmp (parent, name) e.0) name x e es (insert_entry spot_cmp es (parent, name) x) all (within-insert name x es all.1)

  name-order : (placed : List ((ℕ × List ℕ) × LiveItem)) (items : List LiveItem) → Within placed → AllByRecursion (λ (item : LiveItem). item.parent ≡ parent) items
      → in_name_order_from (named placed) items ≡ named (sorted_from spots spot_of placed items)
  name-order placed [] within all = refl
  name-order placed (item ∷ items) within all =
      let more : List ((ℕ × List ℕ) × LiveItem) = insert_entry spot_cmp placed (parent, lower_case item.name) item in
      ap (λ (entries : List (List ℕ × LiveItem)). in_name_order_from entries items) (sym (named-insert (lower_case item.name) item placed within))
      ∙ name-order more items (within-insert (lower_case item.name) item placed within) all.1
      ∙ ap (λ (k : ℕ). named (sorted_from spots spot_of (insert_entry spot_cmp placed (k, lower_case item.name) item) items)) (sym all.0)

  named-values : (es : List ((ℕ × List ℕ) × LiveItem)) → values_of (named es) ≡ values_of es
  named-values [] = refl
  named-values (e ∷ es) = ap (λ xs. e.1 ∷ xs) (named-values es)

  -- ---- which items these are
  abbrev is-child : LiveItem → Bool
  is-child item = nat_eq item.parent parent && is_past earlier item.name

  and-true : (b : Bool) → b ≡ (b && true)
  and-true true = refl
  and-true false = refl

  least : (x : List ℕ) → true ≡ (is_le (slice_cmp nat_cmp [] x) && true)
  least [] = refl
  least (y ∷ x) = refl

  from-here : (start : Option (List ℕ)) (k : ℕ) (name : List ℕ) → k ≡ parent → is_past start name ≡ range_contains spot_cmp (children_start parent start) Unbounded (k, lower_case name)
  from-here None k name is = least (lower_case name) ∙ sym (ap (λ o. is_le o && true) (spot-order k [] (lower_case name) is))
  from-here (Some before) k name is =
      and-true (is_lt (slice_cmp nat_cmp (lower_case before) (lower_case name))) ∙ sym (ap (λ o. is_lt o && true) (spot-order k (lower_case before) (lower_case name) is))

  child-if : (b : Bool) (item : LiveItem) → nat_eq item.parent parent ≡ b → (b && is_past earlier item.name) ≡ (b && from (spot_of item))
  child-if true item is = from-here earlier item.parent item.name (eqb-true item.parent parent is)
  child-if false item is = refl

  first-part : (a b : Bool) → (a && b) ≡ true → a ≡ true
  first-part true b is = refl
  first-part false b is = absurd (cc is)

  pub children-first : (rows : List (ℕ × Row)) (index : List ((ℕ × List ℕ) × ℕ)) (changes : List (ℕ × ℕ)) (most : ℕ) (items found : List LiveItem) (ns : List ℕ) → IsIndexed rows index changes
      → IsStrictlySortedBy spot_cmp (keys_of index) → items_in rows ≡ items → found ≡ items_at rows ns
      → ns ≡ take most (values_of (while_in parent (entries_between spot_cmp (children_start parent earlier) Unbounded index))) → found ≡ take most (children_past parent earlier items)
  children-first rows index changes most items found ns was ordered view is are =
      is ∙ ap (items_at rows) (are ∙ ap (λ entries. take most (values_of entries)) (while-part index ordered))
      ∙ first-in-order spots spot_of rows index was.by_name child-key is-child (λ item. child-if (nat_eq item.parent parent) item refl) was.lined was.rises ordered most
      ∙ ap (take most) (
      sym (named-values (sorted_from spots spot_of [] (filter is-child (items_in rows))))
      ∙ ap values_of (sym (name-order [] (filter is-child (items_in rows)) tt
      (each-so (λ (item : LiveItem). is-child item ≡ true) (λ (item : LiveItem). item.parent ≡ parent)
      (λ item on. eqb-true item.parent parent (first-part (nat_eq item.parent parent) (is_past earlier item.name) on)) (filter is-child (items_in rows)) (passing is-child (items_in rows))))))
      ∙ ap (λ xs. take most (children_past parent earlier xs)) view
