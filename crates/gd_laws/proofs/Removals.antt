-- The items that are removed together are an item and all below it, the deepest first.
use Rattle.std.proofs.Common.{◌≡◌, ◌⊎◌, inl, inr, ℕ, ◌+◌, ◌<◌, ◌≤◌, zero, suc, Bool, true, false, cond, nat_eq, List, [], ◌∷◌, length, map, filter, Some, refl, sym, ap, ◌∙◌, arith}
use Rattle.std.specs.List.{All, AllPairs, AllByRecursion, Any, Contains}
use Rattle.std.proofs.lemmas.Bool.{cases_eq, eq-eqb, eqb-true}
use Rattle.std.proofs.lemmas.List.{length-map}
use Rattle.std.proofs.lemmas.List.Elements.{All-from_recursion, All-contains_itself, recursion_from_All}
use Rattle.gd_names.proofs.Each.{each-so, each-both, each-append}
use Rattle.gd_item.specs.Inventory.{Inventory}
use Rattle.gd_item.specs.Moves.{is_in, depth_of_path, deepest_first, removal_order}
use Rattle.gd_item.specs.Nodes.{Node, live_node, path_of}
use Rattle.gd_item.specs.Sound.{IsItemMap}
use Rattle.gd_item.specs.Steps.{held_by}
use Rattle.gd_item.specs.Trees.{nodes_of}
use Rattle.gd_item.specs.declared.live.LiveItem.{LiveItem}
use Rattle.gd_item.specs.declared.step.Step.{Step}
use Rattle.gd_item.proofs.Reaching.{Climbs, reached}
use Rattle.gd_item.proofs.Removing.{item-climbs}
use Rattle.gd_laws.specs.Order.{depth_of, GoesBefore}
use Rattle.gd_laws.proofs.Every.{every-drive}
use Rattle.gd_laws.proofs.Members.{Has, has-filter, contains-from-has, has-from-contains, any-from-some, SomeOf, some-left, some-right, Paired, paired, pairs-from, paired-append}

-- ---- what a test keeps
each-filter : (test : ℕ → Bool) (P : ℕ → Type 0) (numbers : List ℕ) → AllByRecursion P numbers → AllByRecursion P (filter test numbers)
each-filter test P [] all = tt
each-filter test P (n ∷ numbers) all =
    elim (test n) as (λ b. AllByRecursion P (cond b (n ∷ filter test numbers) (filter test numbers)))
    [ true ↦ (all.0, each-filter test P numbers all.1) | false ↦ each-filter test P numbers all.1 ]

each-passes : (test : ℕ → Bool) (numbers : List ℕ) → AllByRecursion (λ n. test n ≡ true) (filter test numbers)
each-passes test [] = tt
each-passes test (n ∷ numbers) =
    (elim (test n) as (λ b. test n ≡ b → AllByRecursion (λ n. test n ≡ true) (cond b (n ∷ filter test numbers) (filter test numbers)))
    [ true ↦ (λ is. (is, each-passes test numbers)) | false ↦ (λ is. each-passes test numbers) ]) refl

paired-filter : (R : ℕ → ℕ → Type 0) (test : ℕ → Bool) (numbers : List ℕ) → Paired R numbers → Paired R (filter test numbers)
paired-filter R test [] pairs = tt
paired-filter R test (n ∷ numbers) pairs =
    elim (test n) as (λ b. Paired R (cond b (n ∷ filter test numbers) (filter test numbers)))
    [ true ↦ (each-filter test (R n) numbers pairs.0, paired-filter R test numbers pairs.1) | false ↦ paired-filter R test numbers pairs.1 ]

-- ---- numbers in order of depth
module _ (depth : ℕ → ℕ) where
  abbrev level : ℕ → List ℕ → List ℕ
  level bound numbers = filter (λ n. nat_eq (depth n) bound) numbers

  abbrev Before : ℕ → ℕ → Type 0
  Before m n = (depth n < depth m) ⊎ ((depth m ≡ depth n) × (m < n))

  each-order : (P : ℕ → Type 0) (bound : ℕ) (numbers : List ℕ) → AllByRecursion P numbers → AllByRecursion P (deepest_first bound depth numbers)
  each-order P zero numbers all = tt
  each-order P (suc bound) numbers all =
      each-append P (level bound numbers) (deepest_first bound depth numbers) (each-filter (λ n. nat_eq (depth n) bound) P numbers all) (each-order P bound numbers all)

  has-order : (bound n : ℕ) (numbers : List ℕ) → depth n < bound → Has n numbers → Has n (deepest_first bound depth numbers)
  has-order zero n numbers low has = absurd (omega (arith, low))
  has-order (suc bound) n numbers low has =
      elim (cases_eq (depth n) bound) [
        | inl same ↦ some-left (λ (m : ℕ). n ≡ m) (level bound numbers) (deepest_first bound depth numbers)
            (has-filter (λ m. nat_eq (depth m) bound) n numbers (eq-eqb (depth n) bound same) has)
        | inr other ↦ some-right (λ (m : ℕ). n ≡ m) (level bound numbers) (deepest_first bound depth numbers) (has-order bound n numbers (omega (arith, low, other)) has)
      ]

  below-bound : (bound : ℕ) (numbers : List ℕ) → AllByRecursion (λ n. depth n < bound) (deepest_first bound depth numbers)
  below-bound zero numbers = tt
  below-bound (suc bound) numbers =
      each-append (λ n. depth n < suc bound) (level bound numbers) (deepest_first bound depth numbers)
      (each-so (λ n. nat_eq (depth n) bound ≡ true) (λ n. depth n < suc bound) (λ n is. let same : depth n ≡ bound = eqb-true (depth n) bound is in omega (arith, same))
      (level bound numbers) (each-passes (λ n. nat_eq (depth n) bound) numbers))
      (each-so (λ n. depth n < bound) (λ n. depth n < suc bound) (λ n low. omega (arith, low)) (deepest_first bound depth numbers) (below-bound bound numbers))

  -- numbers that rise and are of one depth
  level-pairs : (bound : ℕ) (numbers : List ℕ) → AllByRecursion (λ n. depth n ≡ bound) numbers → Paired (λ m n. m < n) numbers → Paired Before numbers
  level-pairs bound [] all rise = tt
  level-pairs bound (m ∷ numbers) all rise = (
    each-both (λ n. depth n ≡ bound) (λ n. m < n) (Before m) (λ n is low. inr (all.0 ∙ sym is, low)) numbers all.1 rise.0,
    level-pairs bound numbers all.1 rise.1,
  )

  order-pairs : (bound : ℕ) (numbers : List ℕ) → Paired (λ m n. m < n) numbers → Paired Before (deepest_first bound depth numbers)
  order-pairs zero numbers rise = tt
  order-pairs (suc bound) numbers rise =
      let flat : AllByRecursion (λ n. depth n ≡ bound) (level bound numbers) =
      each-so (λ n. nat_eq (depth n) bound ≡ true) (λ n. depth n ≡ bound) (λ n is. eqb-true (depth n) bound is) (level bound numbers) (each-passes (λ n. nat_eq (depth n) bound) numbers) in
      paired-append Before (level bound numbers) (deepest_first bound depth numbers)
      (level-pairs bound (level bound numbers) flat (paired-filter (λ m n. m < n) (λ n. nat_eq (depth n) bound) numbers rise))
      (order-pairs bound numbers rise)
      (each-so (λ n. depth n ≡ bound) (λ (m : ℕ). AllByRecursion (Before m) (deepest_first bound depth numbers))
      (λ m is. each-so (λ n. depth n < bound) (Before m) (λ n low. inl (omega (arith, low, is))) (deepest_first bound depth numbers) (below-bound bound numbers))
      (level bound numbers) flat)

-- ---- the numbers of items
abbrev numbers_of : List LiveItem → List ℕ
numbers_of items = map (λ (item : LiveItem). item.number) items

has-number : (item : LiveItem) (items : List LiveItem) → Has item items → Has item.number (numbers_of items)
has-number item [] has = absurd has
has-number item (first ∷ items) (inl same) = inl (ap (λ (i : LiveItem). i.number) same)
has-number item (first ∷ items) (inr later) = inr (has-number item items later)

each-number : (items : List LiveItem) → AllByRecursion (λ n. SomeOf (λ (item : LiveItem). item.number ≡ n) items) (numbers_of items)
each-number [] = tt
each-number (item ∷ items) = (
  inl refl,
  each-so (λ n. SomeOf (λ (i : LiveItem). i.number ≡ n) items) (λ n. SomeOf (λ (i : LiveItem). i.number ≡ n) (item ∷ items)) (λ n some. inr some) (numbers_of items) (each-number items),
)

each-below : (low : ℕ) (items : List LiveItem) → AllByRecursion (λ (y : LiveItem). low < y.number) items → AllByRecursion (λ n. low < n) (numbers_of items)
each-below low [] all = tt
each-below low (y ∷ items) all = (all.0, each-below low items all.1)

rising-numbers : (items : List LiveItem) → Paired (λ (x y : LiveItem). x.number < y.number) items → Paired (λ m n. m < n) (numbers_of items)
rising-numbers [] rise = tt
rising-numbers (item ∷ items) rise = (each-below item.number items rise.0, rising-numbers items rise.1)

-- ---- a removal
module _ (held : Inventory) (sound : IsItemMap held) (number : ℕ) where
  abbrev inside : ℕ → Bool
  inside n = is_in (nodes_of held) number n

  depth-low : (item : LiveItem) → Contains held.items item → depth_of held item.number < length held.items + 1
  depth-low item among =
      let nodes : List Node = nodes_of held in
      let climb : (depth : ℕ) × (suc depth ≤ length nodes) × Climbs nodes (suc depth) item.number × Climbs nodes depth item.parent = item-climbs held item sound among in
      let found : (path : List (List ℕ)) × (path_of nodes item.number ≡ Some path) × (length path ≡ suc climb.0) = reached nodes (suc climb.0) item.number climb.2 in
      let deep : depth_of held item.number ≡ suc climb.0 = ap depth_of_path found.1 ∙ found.2 in
      let long : length nodes ≡ length held.items = length-map held.items live_node in
      let le : suc climb.0 ≤ length nodes = climb.1 in
      omega arith

  takes : (item : LiveItem) → Contains held.items item → inside item.number ≡ true → Contains (removal_order held number) item.number
  takes item among is =
      contains-from-has item.number (removal_order held number)
      (has-order (depth_of held) (length held.items + 1) item.number (filter inside (numbers_of held.items)) (depth-low item among)
      (has-filter inside item.number (numbers_of held.items) is (has-number item held.items (has-from-contains item held.items among))))

  pub takes-all : All (λ (item : LiveItem). is_in (nodes_of held) number item.number ≡ true → Contains (removal_order held number) item.number) held.items
  takes-all =
      All-from_recursion (λ (item : LiveItem). inside item.number ≡ true → Contains (removal_order held number) item.number) held.items
      (each-so (Contains held.items) (λ (item : LiveItem). inside item.number ≡ true → Contains (removal_order held number) item.number) takes held.items
      (recursion_from_All (Contains held.items) held.items (All-contains_itself held.items)))

  pub takes-only : All (λ n. (is_in (nodes_of held) number n ≡ true) × Any (λ (item : LiveItem). item.number ≡ n) held.items) (removal_order held number)
  takes-only =
      All-from_recursion (λ n. (inside n ≡ true) × Any (λ (item : LiveItem). item.number ≡ n) held.items) (removal_order held number)
      (each-order (depth_of held) (λ n. (inside n ≡ true) × Any (λ (item : LiveItem). item.number ≡ n) held.items) (length held.items + 1) (filter inside (numbers_of held.items))
      (each-both (λ n. inside n ≡ true) (λ n. SomeOf (λ (item : LiveItem). item.number ≡ n) held.items) (λ n. (inside n ≡ true) × Any (λ (item : LiveItem). item.number ≡ n) held.items)
      (λ n is some. (is, any-from-some (λ (item : LiveItem). item.number ≡ n) held.items some)) (filter inside (numbers_of held.items))
      (each-passes inside (numbers_of held.items))
      (each-filter inside (λ n. SomeOf (λ (item : LiveItem). item.number ≡ n) held.items) (numbers_of held.items) (each-number held.items))))

  pub goes-up : AllPairs (GoesBefore held) (removal_order held number)
  goes-up =
      pairs-from (GoesBefore held) (removal_order held number)
      (order-pairs (depth_of held) (length held.items + 1) (filter inside (numbers_of held.items))
      (paired-filter (λ m n. m < n) inside (numbers_of held.items)
      (rising-numbers held.items (paired (λ (x y : LiveItem). x.number < y.number) held.items sound.numbers))))

-- ---- of every drive
pub all-log : (log : List Step) (number : ℕ) → let held = held_by log in
    All (λ (item : LiveItem). is_in (nodes_of held) number item.number ≡ true → Contains (removal_order held number) item.number) held.items
all-log log number = takes-all (held_by log) (every-drive log).tree number

pub only-log : (log : List Step) (number : ℕ) → let held = held_by log in
    All (λ n. (is_in (nodes_of held) number n ≡ true) × Any (λ (item : LiveItem). item.number ≡ n) held.items) (removal_order held number)
only-log log number = takes-only (held_by log) (every-drive log).tree number

pub up-log : (log : List Step) (number : ℕ) → AllPairs (GoesBefore (held_by log)) (removal_order (held_by log) number)
up-log log number = goes-up (held_by log) (every-drive log).tree number
