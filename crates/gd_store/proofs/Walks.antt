-- What stands below a number, from folder to folder downwards.
use Rattle.std.proofs.Common.{◌≡◌, ℕ, ◌<◌, zero, suc, Bool, true, false, ◌&&◌, ◌||◌, cond, nat_eq, List, [], ◌∷◌, length, map, filter, is_some, Option, Some, None, refl, sym, ap, ◌∙◌, subst, arith}
use Rattle.std.specs.Cmp.{nat_cmp_is}
use Rattle.std.specs.FinMap.Entries.{find, same_entries}
use Rattle.std.specs.List.{AllPairs, AllByRecursion, list_any}
use Rattle.std.specs.List.Sorted.{IsStrictlySortedBy}
use Rattle.std.specs.Map.{keys_of}
use Rattle.std.specs.Ordering.{nat_cmp, is_eq}
use Rattle.std.specs.Option.{option_map}
use Rattle.std.specs.BTreeMap.{is_at}
use Rattle.std.specs.declared.cmp.Ordering.TheVariants.{Less}
use Rattle.std.proofs.lemmas.Bool.{eq-eqb, eqb-true, eqb-false, ne_eqb}
use Rattle.std.proofs.lemmas.List.{length-map}
use Rattle.std.proofs.lemmas.List.Kept.{IsStrictlySortedBy-filter}
use Rattle.gd_names.proofs.Each.{AllPairs-tail, each-later}
use Rattle.gd_item.specs.Children.{children_past}
use Rattle.gd_item.specs.Inventory.{live_at}
use Rattle.gd_item.specs.Moves.{is_node_such, is_in_within, is_in}
use Rattle.gd_item.specs.Nodes.{Node, live_node}
use Rattle.gd_item.specs.declared.live.LiveItem.{LiveItem}
use Rattle.gd_laws.proofs.Found.{node-of-live}
use Rattle.gd_index.proofs.Lines.{query}
use Rattle.gd_index.proofs.Orders.{numbers}
use Rattle.gd_index.proofs.Sorting.{from-strict}
use Rattle.gd_store.specs.Kept.{AreApart}
use Rattle.gd_store.specs.Moved.{numbers_in}
use Rattle.gd_store.proofs.Siblings.{any-child}

abbrev Rise : LiveItem → LiveItem → Type 0
Rise x y = x.number < y.number

-- whether the folder of an item that may be there passes, and whether the item itself does
abbrev such : (ℕ → Bool) → Option LiveItem → Bool
such test None = false
such test (Some item) = test item.parent

abbrev passes : (LiveItem → Bool) → Option LiveItem → Bool
passes test None = false
passes test (Some item) = test item

such-node : (test : ℕ → Bool) (found : Option LiveItem) → is_node_such test (option_map live_node found) ≡ such test found
such-node test None = refl
such-node test (Some item) = refl

climb : (steps : ℕ) (items : List LiveItem) (top n : ℕ) → is_in_within (suc steps) (map live_node items) top n ≡ (nat_eq n top || such (is_in_within steps (map live_node items) top) (live_at n items))
climb steps items top n =
    let test : ℕ → Bool = is_in_within steps (map live_node items) top in
    ap (λ b. nat_eq n top || b) (ap (is_node_such test) (node-of-live n items) ∙ such-node test (live_at n items))

-- ---- tests of items
off-and : (a : Bool) → (a && false) ≡ false
off-and true = refl
off-and false = refl

on-and : (a : Bool) → ((a && true) || false) ≡ a
on-and true = refl
on-and false = refl

parted : (c p q a b : Bool) → ((c && (p || q)) || (a || b)) ≡ (((c && p) || a) || ((c && q) || b))
parted false p q a b = refl
parted true true q a b = refl
parted true false true true b = refl
parted true false true false b = refl
parted true false false a b = refl

any-same : (f g : LiveItem → Bool) → ((item : LiveItem) → f item ≡ g item) → (items : List LiveItem) → list_any f items ≡ list_any g items
any-same f g same [] = refl
any-same f g same (item ∷ items) = ap (λ b. b || list_any f items) (same item) ∙ ap (λ b. g item || b) (any-same f g same items)

any-parted : (c p q : LiveItem → Bool) (items : List LiveItem) → list_any (λ (x : LiveItem). c x && (p x || q x)) items ≡ (list_any (λ (x : LiveItem). c x && p x) items || list_any (λ (x : LiveItem). c x && q x) items)
any-parted c p q [] = refl
any-parted c p q (x ∷ items) =
    ap (λ b. (c x && (p x || q x)) || b) (any-parted c p q items) ∙ parted (c x) (p x) (q x) (list_any (λ (y : LiveItem). c y && p y) items) (list_any (λ (y : LiveItem). c y && q y) items)

any-off : (c : LiveItem → Bool) (items : List LiveItem) → list_any (λ (x : LiveItem). c x && false) items ≡ false
any-off c [] = refl
any-off c (x ∷ items) = ap (λ b. b || list_any (λ (y : LiveItem). c y && false) items) (off-and (c x)) ∙ any-off c items

-- no later item has the number
none-later : (g : LiveItem → Bool) (n : ℕ) (items : List LiveItem) → AllByRecursion (λ (x : LiveItem). n < x.number) items → list_any (λ (x : LiveItem). g x && nat_eq n x.number) items ≡ false
none-later g n [] above = refl
none-later g n (x ∷ items) above =
    let lt : n < x.number = above.0 in
    let rest : Bool = list_any (λ (y : LiveItem). g y && nat_eq n y.number) items in
    ap (λ b. (g x && b) || rest) (ne_eqb n x.number (λ e. omega arith)) ∙ ap (λ b. b || rest) (off-and (g x)) ∙ none-later g n items above.1

-- the item of a number passes, or no item has the number and passes
own : (g : LiveItem → Bool) (n : ℕ) (items : List LiveItem) → AllPairs Rise items → list_any (λ (x : LiveItem). g x && nat_eq n x.number) items ≡ passes g (live_at n items)
own g n [] rise = refl
own g n (x ∷ items) rise =
    let rest : Bool = list_any (λ (y : LiveItem). g y && nat_eq n y.number) items in
    (elim (nat_eq x.number n) as (λ b. nat_eq x.number n ≡ b → ((g x && nat_eq n x.number) || rest) ≡ passes g (cond b (Some x) (live_at n items))) [
      | true ↦ λ is.
          let same : x.number ≡ n = eqb-true x.number n is in
          let above : AllByRecursion (λ (y : LiveItem). n < y.number) items = subst (λ (k : ℕ). AllByRecursion (λ (y : LiveItem). k < y.number) items) same (each-later Rise x items rise) in
          ap (λ b. (g x && b) || rest) (eq-eqb n x.number (sym same)) ∙ ap (λ b. (g x && true) || b) (none-later g n items above) ∙ on-and (g x)
      | false ↦ λ is.
          ap (λ b. (g x && b) || rest) (ne_eqb n x.number (λ e. eqb-false x.number n is (sym e))) ∙ ap (λ b. b || rest) (off-and (g x)) ∙ own g n items (AllPairs-tail Rise x items rise)
    ]) refl

-- ---- what stands below a number stands in one of its children
module _ (items : List LiveItem) (rise : AllPairs Rise items) (top : ℕ) where
  abbrev nodes : List Node
  nodes = map live_node items

  abbrev under : LiveItem → Bool
  under x = nat_eq x.parent top

  at-once : (found : Option LiveItem) → passes under found ≡ such (is_in_within zero nodes top) found
  at-once None = refl
  at-once (Some item) = refl

  all-below : (steps n : ℕ) → list_any (λ (x : LiveItem). under x && is_in_within steps nodes x.number n) items ≡ such (is_in_within steps nodes top) (live_at n items)
  all-below zero n = own under n items rise ∙ at-once (live_at n items)
  all-below (suc steps) n =
      let further : Option LiveItem → LiveItem → Bool = λ found x. such (is_in_within steps nodes x.number) found in
      let first : list_any (λ (x : LiveItem). under x && is_in_within (suc steps) nodes x.number n) items ≡ list_any (λ (x : LiveItem). under x && (nat_eq n x.number || further (live_at n items) x)) items =
      any-same (λ (x : LiveItem). under x && is_in_within (suc steps) nodes x.number n) (λ (x : LiveItem). under x && (nat_eq n x.number || further (live_at n items) x)) (λ x. ap (λ b. under x && b) (climb steps items x.number n)) items in
      let by : (found : Option LiveItem) → (passes under found || list_any (λ (x : LiveItem). under x && further found x) items) ≡ such (is_in_within (suc steps) nodes top) found =
      elim [
        | None ↦ any-off under items
        | Some item ↦ ap (λ b. nat_eq item.parent top || b) (all-below steps item.parent) ∙ sym (climb steps items top item.parent)
      ] in
      first ∙ any-parted under (λ (x : LiveItem). nat_eq n x.number) (further (live_at n items)) items
      ∙ ap (λ b. b || list_any (λ (x : LiveItem). under x && further (live_at n items) x) items) (own under n items rise) ∙ by (live_at n items)

-- a number is the top, or stands in one of its children
pub down : (steps : ℕ) (items : List LiveItem) → AreApart items → (top n : ℕ)
    → (nat_eq n top || list_any (λ (child : LiveItem). is_in_within steps (map live_node items) child.number n) (children_past top None items)) ≡ is_in_within (suc steps) (map live_node items) top n
down steps items apart top n =
    ap (λ b. nat_eq n top || b) (any-child top (λ (child : LiveItem). is_in_within steps (map live_node items) child.number n) items apart ∙ all-below items apart.rise top steps n)
    ∙ sym (climb steps items top n)

-- ---- the numbers that are marked
abbrev pub has : List ℕ → ℕ → Bool
has keys n = list_any (is_at (nat_cmp n)) keys

abbrev tagged : List ℕ → List (ℕ × Unit {0})
tagged keys = map (λ (k : ℕ). (k, tt)) keys

tagged-keys : (keys : List ℕ) → keys_of (tagged keys) ≡ keys
tagged-keys [] = refl
tagged-keys (k ∷ keys) = ap (λ (ks : List ℕ). k ∷ ks) (tagged-keys keys)

abbrev tag : Bool → Option (Unit {0})
tag b = cond b (Some tt) None

tag-or : (a b : Bool) → cond a (Some tt) (tag b) ≡ tag (a || b)
tag-or true b = refl
tag-or false b = refl

tagged-find : (q : ℕ) (keys : List ℕ) → find nat_cmp q (tagged keys) ≡ tag (has keys q)
tagged-find q [] = refl
tagged-find q (k ∷ keys) = ap (λ o. cond (is_eq (nat_cmp q k)) (Some tt) o) (tagged-find q keys) ∙ tag-or (is_eq (nat_cmp q k)) (has keys q)

same-keys : (a b : List ℕ) → IsStrictlySortedBy nat_cmp a → IsStrictlySortedBy nat_cmp b → ((q : ℕ) → has a q ≡ has b q) → a ≡ b
same-keys a b up also same =
    sym (tagged-keys a)
    ∙ ap keys_of (same_entries nat_cmp numbers.total numbers.exact (tagged a) (tagged b)
    (from-strict numbers (tagged a) (subst (IsStrictlySortedBy nat_cmp) (sym (tagged-keys a)) up))
    (from-strict numbers (tagged b) (subst (IsStrictlySortedBy nat_cmp) (sym (tagged-keys b)) also))
    (λ q. tagged-find q a ∙ ap tag (same q) ∙ sym (tagged-find q b)))
    ∙ tagged-keys b

abbrev numbers_of : List LiveItem → List ℕ
numbers_of items = map (λ (item : LiveItem). item.number) items

above-all : (low : ℕ) (items : List LiveItem) → AllByRecursion (λ (item : LiveItem). low < item.number) items → AllByRecursion (λ (n : ℕ). nat_cmp low n ≡ Less) (numbers_of items)
above-all low [] above = tt
above-all low (item ∷ items) above = (sym (nat_cmp_is low item.number Less above.0), above-all low items above.1)

sorted-numbers : (items : List LiveItem) → AllPairs Rise items → IsStrictlySortedBy nat_cmp (numbers_of items)
unfolding IsStrictlySortedBy
sorted-numbers [] rise = tt
sorted-numbers (item ∷ items) rise = (above-all item.number items (each-later Rise item items rise), sorted-numbers items (AllPairs-tail Rise item items rise))

-- those of living items that pass a test
kept-has : (test : ℕ → Bool) (q : ℕ) (items : List LiveItem) → has (filter test (numbers_of items)) q ≡ (test q && is_some (live_at q items))
kept-has test q [] = sym (off-and (test q))
kept-has test q (x ∷ items) =
    let rest : List ℕ = filter test (numbers_of items) in
    let ih : has rest q ≡ (test q && is_some (live_at q items)) = kept-has test q items in
    (elim (nat_eq x.number q) as (λ b. nat_eq x.number q ≡ b → has (cond (test x.number) (x.number ∷ rest) rest) q ≡ (test q && is_some (cond b (Some x) (live_at q items)))) [
      | true ↦ λ is.
          let at : is_at (nat_cmp q) x.number ≡ true = query q x.number ∙ is in
          let same : x.number ≡ q = eqb-true x.number q is in
          (elim (test x.number) as (λ b. test x.number ≡ b → has (cond b (x.number ∷ rest) rest) q ≡ (test q && true)) [
            | true ↦ λ on. ap (λ b. b || has rest q) at ∙ sym (ap (λ b. b && true) (ap test (sym same) ∙ on))
            | false ↦ λ off. ih ∙ ap (λ b. b && is_some (live_at q items)) (ap test (sym same) ∙ off) ∙ sym (ap (λ b. b && true) (ap test (sym same) ∙ off))
          ]) refl
      | false ↦ λ is.
          let away : is_at (nat_cmp q) x.number ≡ false = query q x.number ∙ is in
          (elim (test x.number) as (λ b. has (cond b (x.number ∷ rest) rest) q ≡ (test q && is_some (live_at q items))) [
            | true ↦ ap (λ b. b || has rest q) away ∙ ih
            | false ↦ ih
          ])
    ]) refl

-- what stands in the top, and is not the top itself, lives
lives-if : (b : Bool) (found : Option LiveItem) (test : ℕ → Bool) → b ≡ false → (b || such test found) ≡ ((b || such test found) && is_some found)
lives-if true found test off = absurd cc
lives-if false None test off = refl
lives-if false (Some item) test off = and-on (test item.parent)
  where
    and-on : (a : Bool) → a ≡ (a && true)
    and-on true = refl
    and-on false = refl

lives-below : (steps : ℕ) (items : List LiveItem) (top q : ℕ) → nat_eq q top ≡ false → is_in_within steps (map live_node items) top q ≡ (is_in_within steps (map live_node items) top q && is_some (live_at q items))
lives-below zero items top q off = off ∙ sym (ap (λ b. b && is_some (live_at q items)) off)
lives-below (suc steps) items top q off =
    climb steps items top q ∙ lives-if (nat_eq q top) (live_at q items) (is_in_within steps (map live_node items) top) off
    ∙ sym (ap (λ b. b && is_some (live_at q items)) (climb steps items top q))

-- what is marked, once a top that does not live is taken out
abbrev pub marked : List LiveItem → ℕ → ℕ → Bool
marked items top q = is_in_within (length items) (map live_node items) top q

in-top : (items : List LiveItem) (top q : ℕ) → marked items top q ≡ is_in (map live_node items) top q
in-top items top q = ap (λ n. is_in_within n (map live_node items) top q) (sym (length-map items live_node))

pub with-top : (items : List LiveItem) (top q : ℕ) → is_some (live_at top items) ≡ true → marked items top q ≡ (marked items top q && is_some (live_at q items))
with-top items top q lives =
    (elim (nat_eq q top) as (λ b. nat_eq q top ≡ b → marked items top q ≡ (marked items top q && is_some (live_at q items))) [
      | true ↦ λ is.
          let same : q ≡ top = eqb-true q top is in
          let live : is_some (live_at q items) ≡ true = subst (λ (n : ℕ). is_some (live_at n items) ≡ true) (sym same) lives in
          and-is (marked items top q) (is_some (live_at q items)) live
      | false ↦ λ is. lives-below (length items) items top q is
    ]) refl
  where
    and-is : (a b : Bool) → b ≡ true → a ≡ (a && b)
    and-is true b on = sym on
    and-is false b on = refl

pub without-top : (items : List LiveItem) (top q : ℕ) → is_some (live_at top items) ≡ false → cond (is_at (nat_cmp top) q) false (marked items top q) ≡ (marked items top q && is_some (live_at q items))
without-top items top q gone =
    ap (λ b. cond b false (marked items top q)) (query top q)
    ∙ (elim (nat_eq q top) as (λ b. nat_eq q top ≡ b → cond b false (marked items top q) ≡ (marked items top q && is_some (live_at q items))) [
      | true ↦ λ is.
          let same : q ≡ top = eqb-true q top is in
          let none : is_some (live_at q items) ≡ false = subst (λ (n : ℕ). is_some (live_at n items) ≡ false) (sym same) gone in
          sym (ap (λ b. marked items top q && b) none ∙ off-and (marked items top q))
      | false ↦ λ is. lives-below (length items) items top q is
    ]) refl

target : (items : List LiveItem) (top q : ℕ) → has (numbers_in top items items) q ≡ (marked items top q && is_some (live_at q items))
target items top q = kept-has (λ n. is_in (map live_node items) top n) q items ∙ ap (λ b. b && is_some (live_at q items)) (sym (in-top items top q))

pub all-marked : (items : List LiveItem) (top : ℕ) (keys : List ℕ) → AreApart items → IsStrictlySortedBy nat_cmp keys → ((q : ℕ) → has keys q ≡ (marked items top q && is_some (live_at q items))) → keys ≡ numbers_in top items items
all-marked items top keys apart up are =
    same-keys keys (numbers_in top items items) up (IsStrictlySortedBy-filter nat_cmp (λ n. is_in (map live_node items) top n) (numbers_of items) (sorted-numbers items apart.rise))
    (λ q. are q ∙ sym (target items top q))
