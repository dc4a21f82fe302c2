-- What holds of each pair of a list, and of a list in which an item was changed.
use Rattle.std.proofs.Common.{◌≡◌, ℕ, ◌<◌, true, false, cond, nat_eq, List, [], ◌∷◌, length, map, get_or, refl, sym, ap, ◌∙◌, subst, arith}
use Rattle.std.specs.List.{All, AllPairs}
use Rattle.std.proofs.lemmas.List.{length-map, get_or-map}
use Rattle.std.proofs.lemmas.List.Elements.{All-cons, All-head, All-tail, All-weaker}
use Rattle.std.proofs.lemmas.List.Kept.{AllPairs-cons}
use Rattle.gd_names.proofs.Each.{AllPairs-head, AllPairs-tail}
use Rattle.gd_item.specs.declared.live.LiveItem.{LiveItem}
use Rattle.gd_item.specs.Inventory.{changed}

-- a fact that looks at the images alone holds of lists with the same images
pub AllPairs-same_map : {X Y : Type 0} (f : X → Y) (R : Y → Y → Type 0) (xs ys : List X) → map f xs ≡ map f ys → AllPairs (λ x y. R (f x) (f y)) xs → AllPairs (λ x y. R (f x) (f y)) ys
AllPairs-same_map {X} {Y} f R xs ys same pairs i j d i<j j<n =
    let long : length xs ≡ length ys = sym (length-map xs f) ∙ ap length same ∙ length-map ys f in
    let j' : j < length xs = omega arith in
    let i' : i < length xs = omega arith in
    let i'' : i < length ys = omega arith in
    let at = λ (k : ℕ) (here : k < length xs) (there : k < length ys).
    sym (get_or-map f xs k d (f d) here) ∙ ap (λ zs. get_or zs k (f d)) same ∙ get_or-map f ys k d (f d) there in
    let P : Y → Type 0 = λ y. R y (f (get_or ys j d)) in
    let Q : Y → Type 0 = λ y. R (f (get_or xs i d)) y in
    subst P (at i i' i'') (subst Q (at j j' j<n) (pairs i j d i<j j'))

-- what holds of each item, and of the changed one
pub All-changed : (P : LiveItem → Type 0) (number : ℕ) (f : LiveItem → LiveItem) (items : List LiveItem) → All P items → All (λ item. P (f item)) items → All P (changed number f items)
All-changed P number f [] all each = all
All-changed P number f (item ∷ items) all each =
    elim (nat_eq item.number number) as (λ b. All P (cond b (f item ∷ items) (item ∷ changed number f items))) [
      | true ↦ All-cons P (f item) items (All-head (λ x. P (f x)) item items each) (All-tail P item items all)
      | false ↦ All-cons P item (changed number f items) (All-head P item items all)
          (All-changed P number f items (All-tail P item items all) (All-tail (λ x. P (f x)) item items each))
    ]

-- a fact on pairs that each item has with any changed item
pub AllPairs-changed : (R : LiveItem → LiveItem → Type 0) (number : ℕ) (f : LiveItem → LiveItem) (items : List LiveItem)
    → All (λ item. (other : LiveItem) → R (f other) item × R item (f other)) items → AllPairs R items → AllPairs R (changed number f items)
AllPairs-changed R number f [] each pairs = pairs
AllPairs-changed R number f (item ∷ items) each pairs =
    let P : LiveItem → Type 0 = λ x. (other : LiveItem) → R (f other) x × R x (f other) in
    elim (nat_eq item.number number) as (λ b. AllPairs R (cond b (f item ∷ items) (item ∷ changed number f items))) [
      | true ↦ AllPairs-cons R (f item) items
          (All-weaker P (R (f item)) (λ x h. (h item).0) items (All-tail P item items each)) (AllPairs-tail R item items pairs)
      | false ↦ AllPairs-cons R item (changed number f items)
          (All-changed (R item) number f items (AllPairs-head R item items pairs) (λ k d lt. (All-head P item items each (get_or items k d)).1))
          (AllPairs-changed R number f items (All-tail P item items each) (AllPairs-tail R item items pairs))
    ]

-- what holds of each item, and of the one that is changed
pub All-changed_at : (P : LiveItem → Type 0) (number : ℕ) (f : LiveItem → LiveItem) (items : List LiveItem) → All P items
    → All (λ item. nat_eq item.number number ≡ true → P (f item)) items → All P (changed number f items)
All-changed_at P number f [] all each = all
All-changed_at P number f (item ∷ items) all each =
    let Q : LiveItem → Type 0 = λ x. nat_eq x.number number ≡ true → P (f x) in
    (elim (nat_eq item.number number) as (λ b. nat_eq item.number number ≡ b → All P (cond b (f item ∷ items) (item ∷ changed number f items))) [
      | true ↦ λ is. All-cons P (f item) items (All-head Q item items each is) (All-tail P item items all)
      | false ↦ λ is. All-cons P item (changed number f items) (All-head P item items all)
          (All-changed_at P number f items (All-tail P item items all) (All-tail Q item items each))
    ]) refl

-- a fact on pairs that each item has with the changed one
pub AllPairs-changed_at : (R : LiveItem → LiveItem → Type 0) (number : ℕ) (f : LiveItem → LiveItem) (items : List LiveItem)
    → All (λ item. (other : LiveItem) → nat_eq other.number number ≡ true → R (f other) item × R item (f other)) items → AllPairs R items → AllPairs R (changed number f items)
AllPairs-changed_at R number f [] each pairs = pairs
AllPairs-changed_at R number f (item ∷ items) each pairs =
    let P : LiveItem → Type 0 = λ x. (other : LiveItem) → nat_eq other.number number ≡ true → R (f other) x × R x (f other) in
    (elim (nat_eq item.number number) as (λ b. nat_eq item.number number ≡ b → AllPairs R (cond b (f item ∷ items) (item ∷ changed number f items))) [
      | true ↦ λ is. AllPairs-cons R (f item) items
          (All-weaker P (R (f item)) (λ x h. (h item is).0) items (All-tail P item items each)) (AllPairs-tail R item items pairs)
      | false ↦ λ is. AllPairs-cons R item (changed number f items)
          (All-changed_at (R item) number f items (AllPairs-head R item items pairs)
          (λ k d lt here. (All-head P item items each (get_or items k d) here).1))
          (AllPairs-changed_at R number f items (All-tail P item items each) (AllPairs-tail R item items pairs))
    ]) refl

-- a changed item keeps its number
pub numbers-changed : (number : ℕ) (f : LiveItem → LiveItem) → ((x : LiveItem) → x.number ≡ (f x).number) → (items : List LiveItem)
    → map (λ (x : LiveItem). x.number) items ≡ map (λ (x : LiveItem). x.number) (changed number f items)
numbers-changed number f keeps [] = refl
numbers-changed number f keeps (item ∷ items) =
    elim (nat_eq item.number number) as (λ b. map (λ (x : LiveItem). x.number) (item ∷ items) ≡ map (λ (x : LiveItem). x.number) (cond b (f item ∷ items) (item ∷ changed number f items))) [
      | true ↦ ap (λ n. n ∷ map (λ (x : LiveItem). x.number) items) (keeps item)
      | false ↦ ap (λ ns. item.number ∷ ns) (numbers-changed number f keeps items)
    ]
