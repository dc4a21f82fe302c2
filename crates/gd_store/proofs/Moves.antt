-- Items of which one is moved: their paths, and whether one of them is too long.
use Rattle.std.proofs.Common.{◌≡◌, ℕ, ◌-◌, zero, suc, Bool, true, false, ◌&&◌, ◌||◌, cond, nat_eq, List, [], ◌∷◌, length, map, filter, Option, Some, None, refl, sym, ap, ◌∙◌}
use Rattle.std.specs.List.{list_any}
use Rattle.std.specs.Option.{option_map}
use Rattle.std.proofs.lemmas.Bool.{eq-eqb, ne_eqb}
use Rattle.std.proofs.lemmas.List.{length-map}
use Rattle.gd_item.specs.declared.live.LiveItem.{LiveItem}
use Rattle.gd_item.specs.Inventory.{changed, live_at, with_place}
use Rattle.gd_item.specs.Moves.{is_parent_such, is_node_such, is_in_within, is_in}
use Rattle.gd_item.specs.Nodes.{Node, live_node, node_at, is_folder, below, path_within, path_of}
use Rattle.gd_item.specs.Refusals.{is_too_long}
use Rattle.gd_item.proofs.Moving.{other-kept, folder-moved}
use Rattle.gd_laws.proofs.Living.{live-changed}
use Rattle.gd_store.specs.Moved.{is_any_long, numbers_in, place_of}
use Rattle.gd_store.proofs.Climbs.{nothing, no-folder, with-folder}

-- a change keeps how many items there are, and their numbers
pub changed-long : (number : ℕ) (f : LiveItem → LiveItem) (items : List LiveItem) → length (changed number f items) ≡ length items
changed-long number f [] = refl
changed-long number f (x ∷ items) =
    elim (nat_eq x.number number) as (λ b. length (cond b (f x ∷ items) (x ∷ changed number f items)) ≡ length (x ∷ items))
    [ true ↦ refl | false ↦ ap (λ n. suc n) (changed-long number f items) ]

abbrev numbers_of : List LiveItem → List ℕ
numbers_of items = map (λ (item : LiveItem). item.number) items

same-numbers : (number change parent : ℕ) (name : List ℕ) (items : List LiveItem) → numbers_of (changed number (with_place change parent name) items) ≡ numbers_of items
same-numbers number change parent name [] = refl
same-numbers number change parent name (x ∷ items) =
    let f : LiveItem → LiveItem = with_place change parent name in
    elim (nat_eq x.number number) as (λ b. numbers_of (cond b (f x ∷ items) (x ∷ changed number f items)) ≡ numbers_of (x ∷ items))
    [ true ↦ refl | false ↦ ap (λ ns. x.number ∷ ns) (same-numbers number change parent name items) ]

-- ---- where an item stands
module _ (number parent : ℕ) (name : List ℕ) (items : List LiveItem) where
  abbrev at_place : LiveItem → LiveItem
  at_place = with_place 0 parent name

  abbrev after_move : List LiveItem
  after_move = changed number at_place items

  live-after : (n : ℕ) → live_at n after_move ≡ cond (nat_eq number n) (option_map at_place (live_at n items)) (live_at n items)
  live-after n = live-changed n number at_place items (λ item. refl)

  -- the item itself, another one, and none
  pub place-own : (n : ℕ) (item : LiveItem) → n ≡ number → Some item ≡ live_at n items → Some (parent, name) ≡ option_map place_of (live_at n after_move)
  place-own n item same found =
      sym (ap (option_map place_of) (live-after n ∙ ap (λ b. cond b (option_map at_place (live_at n items)) (live_at n items)) (eq-eqb number n (sym same)) ∙ ap (option_map at_place) (sym found)))

  pub place-other : (n : ℕ) (item : LiveItem) → (n ≡ number → ⊥) → Some item ≡ live_at n items → Some (item.parent, item.name) ≡ option_map place_of (live_at n after_move)
  place-other n item away found =
      sym (ap (option_map place_of) (live-after n ∙ ap (λ b. cond b (option_map at_place (live_at n items)) (live_at n items)) (ne_eqb number n (λ e. away (sym e))) ∙ sym found))

  either : (b : Bool) → cond b (option_map at_place None) None ≡ None
  either true = refl
  either false = refl

  pub place-none : (n : ℕ) → None ≡ live_at n items → None ≡ option_map place_of (live_at n after_move)
  place-none n none =
      sym (ap (option_map place_of) (live-after n ∙ ap (λ (found : Option LiveItem). cond (nat_eq number n) (option_map at_place found) found) (sym none) ∙ either (nat_eq number n)))

  -- ---- the path of a number
  some-place : (found : Option LiveItem) (place : ℕ × List ℕ) → Some place ≡ option_map place_of found → (item : LiveItem) × (Some item ≡ found) × (place_of item ≡ place)
  some-place None place is = absurd cc
  some-place (Some item) place is = let same : place ≡ place_of item = cc in (item, refl, sym same)

  no-place : (found : Option LiveItem) → None ≡ option_map place_of found → None ≡ found
  no-place None is = refl
  no-place (Some item) is = absurd cc

  pub moved-nothing : (steps n : ℕ) → (n ≡ 1 → ⊥) → (steps ≡ 0 → ⊥) → None ≡ option_map place_of (live_at n after_move) → None ≡ path_within steps (map live_node after_move) n
  moved-nothing steps n away some none = nothing steps after_move n away some (no-place (live_at n after_move) none)

  pub moved-no-folder : (steps n : ℕ) (place : ℕ × List ℕ) → (n ≡ 1 → ⊥) → (steps ≡ 0 → ⊥) → Some place ≡ option_map place_of (live_at n after_move)
      → false ≡ is_folder place.0 (map live_node items) → None ≡ path_within steps (map live_node after_move) n
  moved-no-folder steps n place away some found file =
      let item = some-place (live_at n after_move) place found in
      let above : item.0.parent ≡ place.0 = ap (λ (p : ℕ × List ℕ). p.0) item.2 in
      no-folder steps after_move n item.0 away some item.1
      (file ∙ sym (ap (λ k. is_folder k (map live_node after_move)) above ∙ folder-moved number 0 parent name place.0 items))

  pub moved-with-folder : (steps n : ℕ) (place : ℕ × List ℕ) (up : Option (List (List ℕ))) → (n ≡ 1 → ⊥) → (steps ≡ 0 → ⊥) → Some place ≡ option_map place_of (live_at n after_move)
      → true ≡ is_folder place.0 (map live_node items) → up ≡ path_within (steps - 1) (map live_node after_move) place.0 → below up place.1 ≡ path_within steps (map live_node after_move) n
  moved-with-folder steps n place up away some found folder path =
      let item = some-place (live_at n after_move) place found in
      let above : item.0.parent ≡ place.0 = ap (λ (p : ℕ × List ℕ). p.0) item.2 in
      ap (below up) (sym (ap (λ (p : ℕ × List ℕ). p.1) item.2))
      ∙ with-folder steps after_move n item.0 up away some item.1
      (folder ∙ sym (ap (λ k. is_folder k (map live_node after_move)) above ∙ folder-moved number 0 parent name place.0 items))
      (path ∙ ap (λ k. path_within (steps - 1) (map live_node after_move) k) (sym above))

  pub as-many : length after_move ≡ length items
  as-many = changed-long number at_place items

  pub moved-path : (found : Option (List (List ℕ))) (count n : ℕ) → count ≡ length items → found ≡ path_within count (map live_node after_move) n → found ≡ path_of (map live_node after_move) n
  moved-path found count n is path = path ∙ ap (λ k. path_within k (map live_node after_move) n) (is ∙ sym as-many ∙ sym (length-map after_move live_node))

  -- ---- what stands in the moved item
  same-parent : (a b : ℕ → Bool) → ((n : ℕ) → a n ≡ b n) → (node : Option Node) → is_node_such a node ≡ is_node_such b node
  same-parent a b same None = refl
  same-parent a b same (Some node) = by node.parent
    where
      by : (above : Option ℕ) → is_parent_such a above ≡ is_parent_such b above
      by None = refl
      by (Some n) = same n

  inside-same : (steps n : ℕ) → is_in_within steps (map live_node after_move) number n ≡ is_in_within steps (map live_node items) number n
  inside-same zero n = refl
  inside-same (suc steps) n =
      let old : ℕ → Bool = is_in_within steps (map live_node items) number in
      let new : ℕ → Bool = is_in_within steps (map live_node after_move) number in
      (elim (nat_eq n number) as (λ b. nat_eq n number ≡ b → (b || is_node_such new (node_at n (map live_node after_move))) ≡ (b || is_node_such old (node_at n (map live_node items)))) [
        | true ↦ λ is. refl
        | false ↦ λ is. ap (is_node_such new) (other-kept number 0 parent name n is items) ∙ same-parent new old (inside-same steps) (node_at n (map live_node items))
      ]) refl

  pub in-same : (n : ℕ) → is_in (map live_node after_move) number n ≡ is_in (map live_node items) number n
  in-same n =
      ap (λ k. is_in_within k (map live_node after_move) number n) (length-map after_move live_node ∙ as-many ∙ sym (length-map items live_node)) ∙ inside-same (length (map live_node items)) n

  -- ---- whether a path is too long
  abbrev long_at : ℕ → Bool
  long_at n = is_too_long (path_of (map live_node after_move) n)

  by-numbers : (p : ℕ → Bool) (xs : List LiveItem) → list_any (λ (item : LiveItem). p item.number) xs ≡ list_any p (numbers_of xs)
  by-numbers p [] = refl
  by-numbers p (x ∷ xs) = ap (λ b. p x.number || b) (by-numbers p xs)

  filtered : (inside old : ℕ → Bool) → ((n : ℕ) → inside n ≡ old n) → (ns : List ℕ) → list_any (λ n. inside n && long_at n) ns ≡ list_any long_at (filter old ns)
  filtered inside old same [] = refl
  filtered inside old same (n ∷ ns) =
      ap (λ b. (b && long_at n) || list_any (λ m. inside m && long_at m) ns) (same n) ∙ ap (λ b. (old n && long_at n) || b) (filtered inside old same ns)
      ∙ elim (old n) as (λ b. ((b && long_at n) || list_any long_at (filter old ns)) ≡ list_any long_at (cond b (n ∷ filter old ns) (filter old ns))) [ true ↦ refl | false ↦ refl ]

  pub any-long : list_any long_at (numbers_in number items items) ≡ is_any_long number after_move
  any-long =
      let inside : ℕ → Bool = λ n. is_in (map live_node after_move) number n in
      let old : ℕ → Bool = λ n. is_in (map live_node items) number n in
      sym (by-numbers (λ n. inside n && long_at n) after_move ∙ ap (list_any (λ n. inside n && long_at n)) (same-numbers number 0 parent name items) ∙ filtered inside old in-same (numbers_of items))
