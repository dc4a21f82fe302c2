-- Which names of a folder are taken, as the index tells it.
use Rattle.std.proofs.Common.{◌≡◌, ℕ, ◌+◌, ◌<◌, ◌≤◌, ◌⊎◌, inl, inr, Bool, true, false, ◌&&◌, ◌||◌, cond, nat_eq, List, [], ◌∷◌, length, map, filter, Option, Some, None, refl, ap, sym, subst, ◌∙◌, arith}
use Rattle.std.specs.List.{AllByRecursion, list_any, find}
use Rattle.std.specs.List.Sorted.{IsStrictlySortedBy}
use Rattle.std.specs.Map.{keys_of}
use Rattle.std.specs.Option.{option_map, is_some}
use Rattle.std.specs.Ordering.{nat_cmp}
use Rattle.std.proofs.lemmas.Bool.{cases_order}
use Rattle.gd_names.specs.Caseless.{equal_caseless}
use Rattle.gd_names.specs.Numbered.{numbered}
use Rattle.gd_names.specs.Settling.{sibling_named, is_taken, least_number}
use Rattle.gd_names.specs.declared.conflict.Sibling.{Sibling}
use Rattle.gd_names.proofs.Settled.{number-least, renamed-free}
use Rattle.gd_names.proofs.Each.{each-both}
use Rattle.gd_item.specs.declared.live.LiveItem.{LiveItem}
use Rattle.gd_item.specs.Inventory.{live_at}
use Rattle.gd_item.specs.Nodes.{Node, live_node, is_same_parent, child_at}
use Rattle.gd_item.specs.Refusals.{live_named, sibling_of, siblings_in}
use Rattle.gd_index.specs.declared.row.Row.{Row}
use Rattle.gd_index.specs.Indexed.{at, IsRow, items_in}
use Rattle.gd_index.proofs.Lines.{Lined, got, all-found, live-row, item-of}

-- ---- the item of a name
named-if : (a b : Bool) (item : LiveItem) (more : List LiveItem) (name : List ℕ) (first : Option LiveItem) → equal_caseless item.name name ≡ b
    → find (λ (s : Sibling). equal_caseless s.name name) (map sibling_of more) ≡ option_map sibling_of first
    → find (λ (s : Sibling). equal_caseless s.name name) (map sibling_of (cond a (item ∷ more) more)) ≡ option_map sibling_of (cond a (cond b (Some item) first) first)
named-if true true item more name first is rest = ap (λ b. cond b (Some (sibling_of item)) (find (λ (s : Sibling). equal_caseless s.name name) (map sibling_of more))) is
named-if true false item more name first is rest = ap (λ b. cond b (Some (sibling_of item)) (find (λ (s : Sibling). equal_caseless s.name name) (map sibling_of more))) is ∙ rest
named-if false b item more name first is rest = rest

pub named-sibling : (parent : ℕ) (name : List ℕ) (items : List LiveItem) → sibling_named name (siblings_in parent items) ≡ option_map sibling_of (live_named parent name items)
named-sibling parent name [] = refl
named-sibling parent name (item ∷ items) =
    named-if (nat_eq item.parent parent) (equal_caseless item.name name) item (filter (λ (x : LiveItem). nat_eq x.parent parent) items) name (live_named parent name items) refl (named-sibling parent name items)

child-if : (a b : Bool) (item : LiveItem) (first : Option LiveItem) (rest : Option Node) → option_map (λ (n : Node). n.number) rest ≡ option_map (λ (x : LiveItem). x.number) first
    → option_map (λ (n : Node). n.number) (cond (a && b) (Some (live_node item)) rest) ≡ option_map (λ (x : LiveItem). x.number) (cond a (cond b (Some item) first) first)
child-if true true item first rest same = refl
child-if true false item first rest same = same
child-if false b item first rest same = same

pub child-named : (parent : ℕ) (name : List ℕ) (items : List LiveItem) → child_at parent name (map live_node items) ≡ option_map (λ (item : LiveItem). item.number) (live_named parent name items)
child-named parent name [] = refl
child-named parent name (item ∷ items) =
    child-if (nat_eq item.parent parent) (equal_caseless item.name name) item (live_named parent name items)
    (find (λ (node : Node). is_same_parent node.parent (Some parent) && equal_caseless node.name name) (map live_node items)) (child-named parent name items)

-- an item that is found is the one of its number
same-item : (a b : LiveItem) → Some a ≡ Some b → a ≡ b
same-item a b is = cc

module _ (whole : List (ℕ × Row)) (parent : ℕ) (name : List ℕ) where
  abbrev Live : ℕ × Row → Type 0
  Live e = live_at e.1.item.number (items_in whole) ≡ Some e.1.item

  live-if : (a b : Bool) (e : ℕ × Row) (x : LiveItem) (first : Option LiveItem) → Live e → (first ≡ Some x → live_at x.number (items_in whole) ≡ Some x) → cond a (cond b (Some e.1.item) first) first ≡ Some x
      → live_at x.number (items_in whole) ≡ Some x
  live-if true true e x first here rest there = subst (λ (y : LiveItem). live_at y.number (items_in whole) ≡ Some y) (same-item e.1.item x there) here
  live-if true false e x first here rest there = rest there
  live-if false b e x first here rest there = rest there

  live-named : (x : LiveItem) (rows : List (ℕ × Row)) → AllByRecursion Live rows → live_named parent name (items_in rows) ≡ Some x → live_at x.number (items_in whole) ≡ Some x
  live-named x [] all there = absurd (cc there)
  live-named x (e ∷ rows) all there =
      live-if (nat_eq e.1.item.parent parent) (equal_caseless e.1.item.name name) e x (live_named parent name (items_in rows)) all.0 (live-named x rows all.1) there

pub all-live : (rows : List (ℕ × Row)) → Lined rows → IsStrictlySortedBy nat_cmp (keys_of rows) → AllByRecursion (λ (e : ℕ × Row). live_at e.1.item.number (items_in rows) ≡ Some e.1.item) rows
all-live rows lined rises =
    each-both IsRow (λ (e : ℕ × Row). at nat_cmp rows e.0 ≡ Some e.1) (λ (e : ℕ × Row). live_at e.1.item.number (items_in rows) ≡ Some e.1.item)
    (λ e line there. ap (λ (n : ℕ). live_at n (items_in rows)) line.number ∙ live-row e.0 rows lined ∙ ap item-of there) rows lined (all-found rows rises)

named-by : (rows : List (ℕ × Row)) (parent n : ℕ) (name : List ℕ) (first : Option LiveItem) → Lined rows → IsStrictlySortedBy nat_cmp (keys_of rows) → live_named parent name (items_in rows) ≡ first
    → Some n ≡ option_map (λ (item : LiveItem). item.number) first → live_at n (items_in rows) ≡ first
named-by rows parent n name None lined rises is there = absurd (cc there)
named-by rows parent n name (Some x) lined rises is there =
    let number : n ≡ x.number = cc in
    ap (λ (k : ℕ). live_at k (items_in rows)) number ∙ live-named rows parent name x rows (all-live rows lined rises) is

-- the item of the number of a child
pub named-at : (rows : List (ℕ × Row)) (items : List LiveItem) (parent n : ℕ) (name : List ℕ) → Lined rows → IsStrictlySortedBy nat_cmp (keys_of rows) → items_in rows ≡ items
    → Some n ≡ child_at parent name (map live_node items) → live_at n items ≡ live_named parent name items
named-at rows items parent n name lined rises view there =
    let number : Some n ≡ option_map (λ (item : LiveItem). item.number) (live_named parent name (items_in rows)) =
    there ∙ ap (λ xs. child_at parent name (map live_node xs)) (sym view) ∙ child-named parent name (items_in rows) in
    ap (live_at n) (sym view) ∙ named-by rows parent n name (live_named parent name (items_in rows)) lined rises refl number ∙ ap (live_named parent name) view

none-by : (first : Option LiveItem) → None ≡ option_map (λ (item : LiveItem). item.number) first → None ≡ first
none-by None is = refl
none-by (Some x) is = absurd (cc is)

pub named-none : (items : List LiveItem) (parent : ℕ) (name : List ℕ) → None ≡ child_at parent name (map live_node items) → None ≡ live_named parent name items
named-none items parent name is = none-by (live_named parent name items) (is ∙ child-named parent name items)

-- ---- numbers that are taken
taken-if : (first : Option Sibling) (found : Option LiveItem) → first ≡ option_map sibling_of found → is_some first ≡ is_some (option_map (λ (item : LiveItem). item.number) found)
taken-if first None is = ap is_some is
taken-if first (Some x) is = ap is_some is

any-find : (test : Sibling → Bool) (siblings : List Sibling) → list_any test siblings ≡ is_some (find test siblings)
any-find test [] = refl
any-find test (s ∷ siblings) = any-if (test s) (any-find test siblings)
  where
    any-if : (b : Bool) → list_any test siblings ≡ is_some (find test siblings) → (b || list_any test siblings) ≡ is_some (cond b (Some s) (find test siblings))
    any-if true rest = refl
    any-if false rest = rest

pub taken-child : (items : List LiveItem) (parent : ℕ) (name : List ℕ) → is_taken (siblings_in parent items) name ≡ is_some (child_at parent name (map live_node items))
taken-child items parent name =
    any-find (λ (s : Sibling). equal_caseless s.name name) (siblings_in parent items)
    ∙ taken-if (sibling_named name (siblings_in parent items)) (live_named parent name items) (named-sibling parent name items)
    ∙ ap is_some (sym (child-named parent name items))

-- ---- the least number that is free
abbrev pub least : List LiveItem → ℕ → List ℕ → Bool → ℕ
least items parent name folder = least_number (siblings_in parent items) (siblings_in parent items) name folder 1

-- each lesser number is taken
abbrev pub AllTaken : List LiveItem → ℕ → List ℕ → Bool → ℕ → Type 0
AllTaken items parent name folder number = (n : ℕ) → 1 ≤ n → n < number → is_taken (siblings_in parent items) (numbered name folder n) ≡ true

few-siblings : (parent : ℕ) (items : List LiveItem) → length (siblings_in parent items) ≤ length items
few-siblings parent [] = omega arith
few-siblings parent (item ∷ items) =
    let rest : length (siblings_in parent items) ≤ length items = few-siblings parent items in
    elim (nat_eq item.parent parent) as (λ b. length (map sibling_of (cond b (item ∷ filter (λ (x : LiveItem). nat_eq x.parent parent) items) (filter (λ (x : LiveItem). nat_eq x.parent parent) items))) ≤ length (item ∷ items)) [
      | true ↦ omega (arith, rest)
      | false ↦ omega (arith, rest)
    ]

least-bound : (more siblings : List Sibling) (name : List ℕ) (folder : Bool) (n : ℕ) → least_number more siblings name folder n ≤ n + length more
least-bound [] siblings name folder n = omega arith
least-bound (s ∷ more) siblings name folder n =
    let rest : least_number more siblings name folder (n + 1) ≤ (n + 1) + length more = least-bound more siblings name folder (n + 1) in
    elim (is_taken siblings (numbered name folder n)) as (λ b. cond b (least_number more siblings name folder (n + 1)) n ≤ n + length (s ∷ more)) [ true ↦ omega (arith, rest) | false ↦ omega arith ]

not-below : (items : List LiveItem) (parent : ℕ) (name : List ℕ) (folder : Bool) (number : ℕ) → length items < 100000 → AllTaken items parent name folder number → 1 ≤ least items parent name folder
    → least items parent name folder < number → ⊥
not-below items parent name folder number few taken from below =
    let within : length (siblings_in parent items) ≤ length items = few-siblings parent items in
    let free : is_taken (siblings_in parent items) (numbered name folder (least items parent name folder)) ≡ false = renamed-free (siblings_in parent items) name folder (omega (arith, within, few)) in
    let on : is_taken (siblings_in parent items) (numbered name folder (least items parent name folder)) ≡ true = taken (least items parent name folder) from below in
    absurd (cc (free, on))

least-from : (more siblings : List Sibling) (name : List ℕ) (folder : Bool) (n : ℕ) → n ≤ least_number more siblings name folder n
least-from [] siblings name folder n = omega arith
least-from (s ∷ more) siblings name folder n =
    let rest : n + 1 ≤ least_number more siblings name folder (n + 1) = least-from more siblings name folder (n + 1) in
    elim (is_taken siblings (numbered name folder n)) as (λ b. n ≤ cond b (least_number more siblings name folder (n + 1)) n) [ true ↦ omega (arith, rest) | false ↦ omega arith ]

-- the first number that is free, and that of as many as there are items
pub least-is : (items : List LiveItem) (parent : ℕ) (name : List ℕ) (folder : Bool) (number : ℕ) → length items < 100000 → 1 ≤ number → AllTaken items parent name folder number
    → is_taken (siblings_in parent items) (numbered name folder number) ≡ false → number ≡ least items parent name folder
least-is items parent name folder number few from taken free =
    let first : 1 ≤ least items parent name folder = least-from (siblings_in parent items) (siblings_in parent items) name folder 1 in
    elim (cases_order number (least items parent name folder)) [
      | inl same ↦ same
      | inr apart ↦ elim apart [
        | inl less ↦ absurd (let on : is_taken (siblings_in parent items) (numbered name folder number) ≡ true = number-least (siblings_in parent items) name folder number from less in cc (free, on))
        | inr more ↦ absurd (not-below items parent name folder number few taken first more)
      ]
    ]

pub least-last : (items : List LiveItem) (parent : ℕ) (name : List ℕ) (folder : Bool) → length items < 100000 → AllTaken items parent name folder (length items + 1)
    → length items + 1 ≡ least items parent name folder
least-last items parent name folder few taken =
    let first : 1 ≤ least items parent name folder = least-from (siblings_in parent items) (siblings_in parent items) name folder 1 in
    let bound : least items parent name folder ≤ 1 + length (siblings_in parent items) = least-bound (siblings_in parent items) (siblings_in parent items) name folder 1 in
    let within : length (siblings_in parent items) ≤ length items = few-siblings parent items in
    elim (cases_order (length items + 1) (least items parent name folder)) [
      | inl same ↦ same
      | inr apart ↦ elim apart [
        | inl less ↦ absurd (omega (arith, less, bound, within))
        | inr more ↦ absurd (not-below items parent name folder (length items + 1) few taken first more)
      ]
    ]

-- the item of a child that was found, and as a sibling
pub named-got : (rows : List (ℕ × Row)) (items : List LiveItem) (parent n : ℕ) (name : List ℕ) (found : Option Row) → Lined rows → IsStrictlySortedBy nat_cmp (keys_of rows) → items_in rows ≡ items
    → Some n ≡ child_at parent name (map live_node items) → found ≡ at nat_cmp rows n → item-of found ≡ live_named parent name items
named-got rows items parent n name found lined rises view there is = got n rows items found lined view is ∙ named-at rows items parent n name lined rises view there

pub as-sibling : (items : List LiveItem) (parent : ℕ) (name : List ℕ) (found : Option LiveItem) → found ≡ live_named parent name items → option_map sibling_of found ≡ sibling_named name (siblings_in parent items)
as-sibling items parent name found is = ap (λ f. option_map sibling_of f) is ∙ sym (named-sibling parent name items)

-- ---- steps of the search
one-more-taken : (items : List LiveItem) (parent : ℕ) (name : List ℕ) (folder : Bool) (number n : ℕ) → AllTaken items parent name folder number → is_taken (siblings_in parent items) (numbered name folder number) ≡ true
    → 1 ≤ n → (n ≡ number) ⊎ ((n < number) ⊎ (number < n)) → n < number + 1 → is_taken (siblings_in parent items) (numbered name folder n) ≡ true
one-more-taken items parent name folder number n all here from (inl same) below = subst (λ (k : ℕ). is_taken (siblings_in parent items) (numbered name folder k) ≡ true) (sym same) here
one-more-taken items parent name folder number n all here from (inr (inl less)) below = all n from less
one-more-taken items parent name folder number n all here from (inr (inr more)) below = absurd (omega (arith, more, below))

pub taken-next : (items : List LiveItem) (parent : ℕ) (name made : List ℕ) (folder : Bool) (number : ℕ) (stands : Option ℕ) → AllTaken items parent name folder number → made ≡ numbered name folder number
    → stands ≡ child_at parent made (map live_node items) → is_some stands ≡ true → AllTaken items parent name folder (number + 1)
taken-next items parent name made folder number stands all is child there =
    λ n from below. one-more-taken items parent name folder number n all
    (ap (is_taken (siblings_in parent items)) (sym is) ∙ taken-child items parent made ∙ ap is_some (sym child) ∙ there) from (cases_order n number) below

pub free-here : (items : List LiveItem) (parent : ℕ) (name made : List ℕ) (folder : Bool) (number : ℕ) (stands : Option ℕ) → length items < 100000 → 1 ≤ number → AllTaken items parent name folder number
    → made ≡ numbered name folder number → stands ≡ child_at parent made (map live_node items) → is_some stands ≡ false → made ≡ numbered name folder (least items parent name folder)
free-here items parent name made folder number stands few from all is child there =
    let free : is_taken (siblings_in parent items) (numbered name folder number) ≡ false = ap (is_taken (siblings_in parent items)) (sym is) ∙ taken-child items parent made ∙ ap is_some (sym child) ∙ there in
    is ∙ ap (numbered name folder) (least-is items parent name folder number few from all free)

pub last-name : (items : List LiveItem) (parent : ℕ) (name made : List ℕ) (folder : Bool) (count before : ℕ) → length items < 100000 → count ≡ length items → count ≤ before → AllTaken items parent name folder (before + 1)
    → made ≡ numbered name folder (count + 1) → made ≡ numbered name folder (least items parent name folder)
last-name items parent name made folder count before few is past all made-is =
    made-is ∙ ap (λ (n : ℕ). numbered name folder (n + 1)) is ∙ ap (numbered name folder) (least-last items parent name folder few (λ n from below. all n from (omega (arith, below, past, is))))
