-- The children of a folder are the items that stand in it, each once.
use Rattle.std.proofs.Common.{◌≡◌, ℕ, ◌+◌, ◌<◌, ◌≤◌, ◌^◌, zero, suc, Bool, true, false, not, ◌&&◌, ◌||◌, cond, nat_eq, nat_lt, List, [], ◌∷◌, length, map, filter, take, get_or, Option, Some, None, inl, inr, refl, sym, ap, ◌∙◌, subst, arith}
use Rattle.std.specs.List.{All, AllPairs, AllByRecursion, list_any}
use Rattle.std.specs.Cmp.Lexicographic.{slice_cmp, pointwise}
use Rattle.std.specs.Ordering.{nat_cmp, is_eq}
use Rattle.std.specs.BTreeMap.{insert_entry}
use Rattle.std.specs.Map.{values_of}
use Rattle.std.specs.Option.{option_map}
use Rattle.std.specs.declared.cmp.Ordering.{Ordering}
use Rattle.std.specs.declared.cmp.Ordering.TheVariants.{Less, Equal, Greater}
use Rattle.std.proofs.lemmas.Bool.{both_ways, cases_Bool, eq-eqb, eqb-true, ne_eqb}
use Rattle.std.proofs.lemmas.Bool.Decides.{nat_tests}
use Rattle.std.proofs.lemmas.List.{length-map}
use Rattle.std.proofs.lemmas.Map.Lookups.{exact_bytes}
use Rattle.gd_names.specs.Caseless.{lower_case}
use Rattle.gd_names.proofs.Each.{AllPairs-tail, all-each, each-later, each-both, each-always}
use Rattle.gd_names.proofs.Small.{not-root}
use Rattle.gd_item.specs.Children.{is_past, in_name_order_from, children_past}
use Rattle.gd_item.specs.Inventory.{live_at}
use Rattle.gd_item.specs.Moves.{is_taken_by_other}
use Rattle.gd_item.specs.Nodes.{live_node, child_at, is_twin}
use Rattle.gd_item.specs.Refusals.{live_named}
use Rattle.gd_item.specs.declared.live.LiveItem.{LiveItem}
use Rattle.gd_index.proofs.Finding.{same-text, text-itself}
use Rattle.gd_index.proofs.Naming.{child-named}
use Rattle.gd_index.proofs.Sorting.{each-kept}
use Rattle.gd_store.specs.Kept.{AreApart}
use Rattle.gd_store.proofs.Folds.{each-value, each-key, each-values, values-long, at-most-one, any-value}

-- ---- an item is found by its number
pub live-each : (items : List LiveItem) → AllPairs (λ (x y : LiveItem). x.number < y.number) items → AllByRecursion (λ (x : LiveItem). live_at x.number items ≡ Some x) items
live-each [] rise = tt
live-each (x ∷ items) rise =
    let R : LiveItem → LiveItem → Type 0 = λ a b. a.number < b.number in (
      ap (λ b. cond b (Some x) (live_at x.number items)) (eq-eqb x.number x.number refl),
      each-both (R x) (λ (y : LiveItem). live_at y.number items ≡ Some y) (λ (y : LiveItem). live_at y.number (x ∷ items) ≡ Some y)
          (λ y lt found. ap (λ b. cond b (Some x) (live_at y.number items)) (ne_eqb x.number y.number (λ e. omega arith)) ∙ found)
          items (each-later R x items rise) (live-each items (AllPairs-tail R x items rise)),
    )

-- what was found at a number has it, and so is found by it
pub own-number : (number : ℕ) (items : List LiveItem) (item : LiveItem) → live_at number items ≡ Some item → item.number ≡ number
own-number number [] item found = absurd cc
own-number number (x ∷ items) item found =
    (elim (nat_eq x.number number) as (λ b. nat_eq x.number number ≡ b → cond b (Some x) (live_at number items) ≡ Some item → item.number ≡ number) [
      | true ↦ λ is h. let same : x ≡ item = cc in ap (λ (y : LiveItem). y.number) (sym same) ∙ eqb-true x.number number is
      | false ↦ λ is h. own-number number items item h
    ]) refl found

pub found-live : (number : ℕ) (items : List LiveItem) (item : LiveItem) → live_at number items ≡ Some item → live_at item.number items ≡ Some item
found-live number items item found = ap (λ n. live_at n items) (own-number number items item found) ∙ found

-- ---- items in order of name
module _ (P : LiveItem → Type 0) where
  each-ordered : (placed : List (List ℕ × LiveItem)) (items : List LiveItem) → AllByRecursion (λ (e : List ℕ × LiveItem). P e.1) placed → AllByRecursion P items
      → AllByRecursion (λ (e : List ℕ × LiveItem). P e.1) (in_name_order_from placed items)
  each-ordered placed [] stood all = stood
  each-ordered placed (item ∷ items) stood all =
      each-ordered (insert_entry (slice_cmp nat_cmp) placed (lower_case item.name) item) items (each-value (slice_cmp nat_cmp) P placed (lower_case item.name) item all.0 stood) all.1

  -- what holds of each item holds of each child
  pub each-child : (parent : ℕ) (earlier : Option (List ℕ)) (items : List LiveItem) → AllByRecursion P items → AllByRecursion P (children_past parent earlier items)
  each-child parent earlier items all =
      let test : LiveItem → Bool = λ item. nat_eq item.parent parent && is_past earlier item.name in
      each-values P (in_name_order_from [] (filter test items)) (each-ordered [] (filter test items) tt (each-kept P test items all))

fewer-ordered : (placed : List (List ℕ × LiveItem)) (items : List LiveItem) → length (in_name_order_from placed items) ≤ length placed + length items
fewer-ordered placed [] = omega arith
fewer-ordered placed (item ∷ items) =
    let put : List (List ℕ × LiveItem) = insert_entry (slice_cmp nat_cmp) placed (lower_case item.name) item in
    let one : length put ≤ suc (length placed) = at-most-one (slice_cmp nat_cmp) placed (lower_case item.name) item in
    let rest : length (in_name_order_from put items) ≤ length put + length items = fewer-ordered put items in
    omega (arith, one, rest)

fewer-kept : (test : LiveItem → Bool) (items : List LiveItem) → length (filter test items) ≤ length items
fewer-kept test [] = omega arith
fewer-kept test (item ∷ items) =
    let rest : length (filter test items) ≤ length items = fewer-kept test items in
    elim (test item) as (λ b. length (cond b (item ∷ filter test items) (filter test items)) ≤ suc (length items)) [ true ↦ omega (arith, rest) | false ↦ omega (arith, rest) ]

-- there are no more children than items
pub few-children : (parent : ℕ) (earlier : Option (List ℕ)) (items : List LiveItem) → length (children_past parent earlier items) ≤ length items
few-children parent earlier items =
    let kept : List LiveItem = filter (λ (item : LiveItem). nat_eq item.parent parent && is_past earlier item.name) items in
    let long : length (children_past parent earlier items) ≡ length (in_name_order_from [] kept) = values-long (in_name_order_from [] kept) in
    let a : length (in_name_order_from [] kept) ≤ 0 + length kept = fewer-ordered [] kept in
    let b : length kept ≤ length items = fewer-kept (λ (item : LiveItem). nat_eq item.parent parent && is_past earlier item.name) items in
    omega (arith, long, a, b)

-- ---- siblings differ
abbrev Differ : LiveItem → LiveItem → Type 0
Differ x y = x.parent ≡ y.parent → is_eq (slice_cmp nat_cmp (lower_case y.name) (lower_case x.name)) ≡ false

is-equal : (o : Ordering) → is_eq o ≡ true → o ≡ Equal
is-equal Less is = absurd cc
is-equal Equal is = refl
is-equal Greater is = absurd cc

names-apart : (a b : List ℕ) → pointwise nat_eq (lower_case a) (lower_case b) ≡ false → is_eq (slice_cmp nat_cmp (lower_case b) (lower_case a)) ≡ false
names-apart a b off =
    elim (cases_Bool (is_eq (slice_cmp nat_cmp (lower_case b) (lower_case a)))) [
      | inl tied ↦
          let same : lower_case b ≡ lower_case a = exact_bytes (lower_case b) (lower_case a) (is-equal (slice_cmp nat_cmp (lower_case b) (lower_case a)) tied) in
          let on : pointwise nat_eq (lower_case a) (lower_case b) ≡ true = subst (λ (t : List ℕ). pointwise nat_eq t (lower_case b) ≡ true) same (text-itself (lower_case b)) in
          absurd (both_ways (pointwise nat_eq (lower_case a) (lower_case b)) off on)
      | inr apart ↦ apart
    ]

last-off : (a b c d e : Bool) → a ≡ true → b ≡ true → c ≡ true → d ≡ true → (a && b && c && d && e) ≡ false → e ≡ false
last-off a b c d e p q r s off = sym (ap (λ t. t && b && c && d && e) p ∙ ap (λ t. t && c && d && e) q ∙ ap (λ t. t && d && e) r ∙ ap (λ t. t && e) s) ∙ off

-- siblings of which one has the greater number have other names
pub no-twin : (x y : LiveItem) → 1 < x.number → x.number < y.number → x.parent ≡ y.parent → is_twin (live_node y) (live_node x) ≡ false → pointwise nat_eq (lower_case x.name) (lower_case y.name) ≡ false
no-twin x y above lt same off =
    let first : nat_lt x.number y.number ≡ true = grind (arith, nat_tests) in
    let second : not (nat_eq x.number 1) ≡ true = ap not (not-root x.number above) in
    let later : 1 < y.number = omega arith in
    let third : not (nat_eq y.number 1) ≡ true = ap not (not-root y.number later) in
    last-off (nat_lt x.number y.number) (not (nat_eq x.number 1)) (not (nat_eq y.number 1)) (nat_eq x.parent y.parent) (pointwise nat_eq (lower_case x.name) (lower_case y.name))
    first second third (eq-eqb x.parent y.parent same) off

differing : (items : List LiveItem) → AreApart items → AllPairs Differ items
differing items apart i j d lt end =
    λ same.
    let within : i < length items = omega arith in
    names-apart (get_or items i d).name (get_or items j d).name
    (no-twin (get_or items i d) (get_or items j d) (apart.above i d within) (apart.rise i j d lt end) same (apart.told_apart i j d lt end))

-- ---- whether a child passes a test
pub move-or : (a b c : Bool) → (a || (b || c)) ≡ ((b || a) || c)
move-or true true c = refl
move-or true false c = refl
move-or false true c = refl
move-or false false c = refl

pub or-none : (a : Bool) → (a || false) ≡ a
or-none true = refl
or-none false = refl

module _ (top : ℕ) (P : LiveItem → Bool) where
  abbrev Absent : List (List ℕ × LiveItem) → LiveItem → Type 0
  Absent placed z = z.parent ≡ top → AllByRecursion (λ (e : List ℕ × LiveItem). is_eq (slice_cmp nat_cmp (lower_case z.name) e.0) ≡ false) placed

  abbrev standing : List LiveItem → List LiveItem
  standing items = filter (λ (item : LiveItem). nat_eq item.parent top && is_past None item.name) items

  any-from : (placed : List (List ℕ × LiveItem)) (items : List LiveItem) → AllPairs Differ items → AllByRecursion (Absent placed) items
      → list_any P (values_of (in_name_order_from placed (standing items))) ≡ (list_any (λ (item : LiveItem). nat_eq item.parent top && P item) items || list_any P (values_of placed))
  any-from placed [] pairs absent = refl
  any-from placed (y ∷ items) pairs absent =
      let here : List LiveItem → Bool = λ xs. list_any (λ (item : LiveItem). nat_eq item.parent top && P item) xs in
      (elim (nat_eq y.parent top) as (λ b. nat_eq y.parent top ≡ b
      → list_any P (values_of (in_name_order_from placed (cond (b && true) (y ∷ standing items) (standing items)))) ≡ (((b && P y) || here items) || list_any P (values_of placed))) [
        | true ↦ λ is.
            let put : List (List ℕ × LiveItem) = insert_entry (slice_cmp nat_cmp) placed (lower_case y.name) y in
            let parent : y.parent ≡ top = eqb-true y.parent top is in
            let more : AllByRecursion (Absent put) items =
            each-both (Differ y) (Absent placed) (Absent put)
            (λ z differs away same.
            each-key (slice_cmp nat_cmp) (λ (k : List ℕ). is_eq (slice_cmp nat_cmp (lower_case z.name) k) ≡ false) placed (lower_case y.name) y (differs (parent ∙ sym same)) (away same))
            items (each-later Differ y items pairs) absent.1 in
            any-from put items (AllPairs-tail Differ y items pairs) more
            ∙ ap (λ b. here items || b) (any-value (slice_cmp nat_cmp) P placed (lower_case y.name) y (absent.0 parent))
            ∙ move-or (here items) (P y) (list_any P (values_of placed))
        | false ↦ λ is. any-from placed items (AllPairs-tail Differ y items pairs) absent.1
      ]) refl

  pub any-child : (items : List LiveItem) → AreApart items → list_any P (children_past top None items) ≡ list_any (λ (item : LiveItem). nat_eq item.parent top && P item) items
  any-child items apart =
      any-from [] items (differing items apart) (each-always (Absent []) (λ z same. tt) items) ∙ or-none (list_any (λ (item : LiveItem). nat_eq item.parent top && P item) items)

-- ---- another item with a name
abbrev LaterApart : LiveItem → LiveItem → Type 0
LaterApart x y = x.parent ≡ y.parent → pointwise nat_eq (lower_case x.name) (lower_case y.name) ≡ false

later-apart : (items : List LiveItem) → AreApart items → AllPairs LaterApart items
later-apart items apart i j d lt end =
    λ same.
    let within : i < length items = omega arith in
    no-twin (get_or items i d) (get_or items j d) (apart.above i d within) (apart.rise i j d lt end) same (apart.told_apart i j d lt end)

module _ (number parent : ℕ) (name : List ℕ) where
  abbrev named : LiveItem → Bool
  named item = pointwise nat_eq (lower_case item.name) (lower_case name)

  abbrev taken : LiveItem → Bool
  taken item = nat_eq item.parent parent && not (nat_eq item.number number) && named item

  abbrev other : Option LiveItem → Bool
  other None = false
  other (Some item) = not (nat_eq item.number number)

  off-both : (a b : Bool) → b ≡ false → (a && b) ≡ false
  off-both true b off = off
  off-both false b off = refl

  none-later : (x : LiveItem) (items : List LiveItem) → x.parent ≡ parent → named x ≡ true → AllByRecursion (LaterApart x) items → list_any taken items ≡ false
  none-later x [] here is apart = refl
  none-later x (y ∷ items) here is apart =
      let rest : list_any taken items ≡ false = none-later x items here is apart.1 in
      let off : taken y ≡ false =
      (elim (nat_eq y.parent parent) as (λ b. nat_eq y.parent parent ≡ b → (b && not (nat_eq y.number number) && named y) ≡ false) [
        | true ↦ λ at.
            let parent_same : x.parent ≡ y.parent = here ∙ sym (eqb-true y.parent parent at) in
            let unnamed : named y ≡ false =
            (elim (cases_Bool (named y)) [
              | inl on ↦
                  let same : lower_case x.name ≡ lower_case y.name = same-text (lower_case x.name) (lower_case name) is ∙ sym (same-text (lower_case y.name) (lower_case name) on) in
                  let tied : pointwise nat_eq (lower_case x.name) (lower_case y.name) ≡ true = subst (λ (t : List ℕ). pointwise nat_eq (lower_case x.name) t ≡ true) same (text-itself (lower_case x.name)) in
                  absurd (both_ways (pointwise nat_eq (lower_case x.name) (lower_case y.name)) (apart.0 parent_same) tied)
              | inr un ↦ un
            ]) in
            off-both (not (nat_eq y.number number)) (named y) unnamed
        | false ↦ λ at. refl
      ]) refl in
      ap (λ b. b || list_any taken items) off ∙ rest

  alone : (a : Bool) → (a && true || false) ≡ a
  alone true = refl
  alone false = refl

  first-taken : (items : List LiveItem) → AllPairs LaterApart items → list_any taken items ≡ other (live_named parent name items)
  first-taken [] apart = refl
  first-taken (x ∷ items) apart =
      let rest : List LiveItem → Bool = list_any taken in
      let ih : list_any taken items ≡ other (live_named parent name items) = first-taken items (AllPairs-tail LaterApart x items apart) in
      (elim (nat_eq x.parent parent) as (λ b. nat_eq x.parent parent ≡ b
      → ((b && not (nat_eq x.number number) && named x) || list_any taken items) ≡ other (cond b (cond (named x) (Some x) (live_named parent name items)) (live_named parent name items))) [
        | true ↦ λ here.
            (elim (named x) as (λ b. named x ≡ b
            → ((not (nat_eq x.number number) && b) || list_any taken items) ≡ other (cond b (Some x) (live_named parent name items))) [
              | true ↦ λ is.
                  ap (λ b. (not (nat_eq x.number number) && true) || b) (none-later x items (eqb-true x.parent parent here) is (each-later LaterApart x items apart))
                  ∙ alone (not (nat_eq x.number number))
              | false ↦ λ is. ap (λ b. b || list_any taken items) (off-both (not (nat_eq x.number number)) false refl) ∙ ih
            ]) refl
        | false ↦ λ here. ih
      ]) refl

  numbered : (found : Option LiveItem) (child : Option ℕ) → child ≡ option_map (λ (item : LiveItem). item.number) found → (n : ℕ) → child ≡ Some n → not (nat_eq n number) ≡ other found
  numbered None child is n at = let bad : None ≡ Some n = sym is ∙ at in absurd cc
  numbered (Some item) child is n at = let same : Some item.number ≡ Some n = sym is ∙ at in let e : item.number ≡ n = cc in ap (λ k. not (nat_eq k number)) (sym e)

  unnumbered : (found : Option LiveItem) → None ≡ option_map (λ (item : LiveItem). item.number) found → false ≡ other found
  unnumbered None is = refl
  unnumbered (Some item) is = absurd cc

  -- whether another item has the name, as the child of that name tells it
  pub taken-some : (items : List LiveItem) → AreApart items → (n : ℕ) → Some n ≡ child_at parent name (map live_node items) → not (nat_eq n number) ≡ is_taken_by_other number parent name items
  taken-some items apart n is =
      numbered (live_named parent name items) (Some n) (is ∙ child-named parent name items) n refl ∙ sym (first-taken items (later-apart items apart))

  pub taken-none : (items : List LiveItem) → AreApart items → None ≡ child_at parent name (map live_node items) → false ≡ is_taken_by_other number parent name items
  taken-none items apart is = unnumbered (live_named parent name items) (is ∙ child-named parent name items) ∙ sym (first-taken items (later-apart items apart))

-- ---- all that is read lives
each-of-map : {R : Type 0} (see : R → LiveItem) (P : LiveItem → Type 0) (rs : List R) → AllByRecursion P (map see rs) → AllByRecursion (λ r. P (see r)) rs
each-of-map see P [] all = tt
each-of-map see P (r ∷ rs) all = (all.0, each-of-map see P rs all.1)

each-first-of : (P : LiveItem → Type 0) (n : ℕ) (xs : List LiveItem) → AllByRecursion P xs → AllByRecursion P (take n xs)
each-first-of P zero xs all = tt
each-first-of P (suc n) [] all = tt
each-first-of P (suc n) (x ∷ xs) all = (all.0, each-first-of P n xs all.1)

pub all-shown : {R : Type 0} (see : R → LiveItem) (P : LiveItem → Type 0) (n : ℕ) (xs : List LiveItem) (rs read : List R) → read ≡ rs → map see rs ≡ take n xs → AllByRecursion P xs → All (λ r. P (see r)) read
all-shown see P n xs rs read same are all =
    all-each (λ r. P (see r)) read (each-of-map see P read (subst (AllByRecursion P) (sym (ap (map see) same ∙ are)) (each-first-of P n xs all)))

-- what is read of a folder's children is no more than there are items
few-taken : {X : Type 0} (n : ℕ) (xs : List X) → length (take n xs) ≤ length xs
few-taken zero xs = omega arith
few-taken (suc n) [] = omega arith
few-taken (suc n) (x ∷ xs) = let rest : length (take n xs) ≤ length xs = few-taken n xs in omega (arith, rest)

pub few-shown : {R : Type 0} (see : R → LiveItem) (parent : ℕ) (earlier : Option (List ℕ)) (items : List LiveItem) (n : ℕ) (rs : List R) → length items < 100000 → map see rs ≡ take n (children_past parent earlier items) → length rs < 2 ^ 63
few-shown see parent earlier items n rs few are =
    let long : length rs ≡ length (take n (children_past parent earlier items)) = sym (length-map rs see) ∙ ap length are in
    let a : length (take n (children_past parent earlier items)) ≤ length (children_past parent earlier items) = few-taken n (children_past parent earlier items) in
    let b : length (children_past parent earlier items) ≤ length items = few-children parent earlier items in
    omega (arith, long, a, b, few)
