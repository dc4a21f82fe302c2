-- A sibling that is a file is one by its number too.
use Rattle.std.proofs.Common.{◌≡◌, ℕ, ◌<◌, Bool, true, false, cond, ◌||◌, nat_eq, List, [], ◌∷◌, map, filter, is_none, Some, refl, ap, ◌∙◌, subst, arith, eq-eqb}
use Rattle.std.specs.List.{All, AllPairs, find}
use Rattle.std.proofs.lemmas.Bool.Decides.{nat_tests}
use Rattle.std.proofs.lemmas.List.Elements.{All-head, All-tail}
use Rattle.gd_names.specs.declared.conflict.Sibling.{Sibling}
use Rattle.gd_names.proofs.Each.{AllPairs-head, AllPairs-tail}
use Rattle.gd_names.proofs.Small.{not-root}
use Rattle.gd_item.specs.declared.live.LiveItem.{LiveItem}
use Rattle.gd_item.specs.Nodes.{Node, live_node, node_at, is_some_folder, is_folder}
use Rattle.gd_item.specs.Refusals.{sibling_of, siblings_in}

differs : (a b : ℕ) → a < b → nat_eq a b ≡ false
differs a b lt = grind (arith, nat_tests)

-- a sibling that is found is one of the items
pub above : (p : Sibling → Bool) (parent low : ℕ) (items : List LiveItem) (sibling : Sibling) → All (λ item. low < item.number) items → find p (siblings_in parent items) ≡ Some sibling → low < sibling.id
above p parent low [] sibling all found = absurd cc
above p parent low (item ∷ items) sibling all found =
    let others : List Sibling = siblings_in parent items in
    let here : low < item.number = All-head (λ (x : LiveItem). low < x.number) item items all in
    let rest = above p parent low items sibling (All-tail (λ (x : LiveItem). low < x.number) item items all) in
    let at : cond (p (sibling_of item)) (Some (sibling_of item)) (find p others) ≡ Some sibling → low < sibling.id =
    elim (p (sibling_of item)) as (λ b. cond b (Some (sibling_of item)) (find p others) ≡ Some sibling → low < sibling.id)
    [ true ↦ (λ e. let s : sibling_of item ≡ sibling = cc in let P : Sibling → Type 0 = λ x. low < x.id in subst P s here) | false ↦ rest ] in
    let by : (b : Bool) → find p (map sibling_of (cond b (item ∷ filter (λ (x : LiveItem). nat_eq x.parent parent) items) (filter (λ (x : LiveItem). nat_eq x.parent parent) items))) ≡ Some sibling → low < sibling.id =
    elim [ true ↦ at | false ↦ rest ] in
    by (nat_eq item.parent parent) found

-- the item of its number is no folder
pub file-at : (p : Sibling → Bool) (parent : ℕ) (items : List LiveItem) (sibling : Sibling) → AllPairs (λ (x y : LiveItem). x.number < y.number) items → All (λ (item : LiveItem). 1 < item.number) items
    → find p (siblings_in parent items) ≡ Some sibling → sibling.folder ≡ false → is_folder sibling.id (map live_node items) ≡ false
file-at p parent [] sibling pairs all found file = absurd cc
file-at p parent (item ∷ items) sibling pairs all found file =
    let others : List Sibling = siblings_in parent items in
    let nodes : List Node = map live_node items in
    let big : 1 < item.number = All-head (λ (x : LiveItem). 1 < x.number) item items all in
    let later : find p others ≡ Some sibling → is_folder sibling.id (live_node item ∷ nodes) ≡ false =
    λ e.
    let ih : is_folder sibling.id nodes ≡ false = file-at p parent items sibling (AllPairs-tail (λ (x y : LiveItem). x.number < y.number) item items pairs) (All-tail (λ (x : LiveItem). 1 < x.number) item items all) e file in
    let off : nat_eq item.number sibling.id ≡ false = differs item.number sibling.id (above p parent item.number items sibling (AllPairs-head (λ (x y : LiveItem). x.number < y.number) item items pairs) e) in
    ap (λ b. nat_eq sibling.id 1 || is_some_folder (cond b (Some (live_node item)) (node_at sibling.id nodes))) off ∙ ih in
    let here : sibling_of item ≡ sibling → is_folder sibling.id (live_node item ∷ nodes) ≡ false =
    λ s.
    let no_one : nat_eq item.number 1 ≡ false = not-root item.number big in
    let same : nat_eq item.number item.number ≡ true = eq-eqb item.number item.number refl in
    let is_file : is_none item.bytes ≡ false = ap (λ (x : Sibling). x.folder) s ∙ file in
    let P : Sibling → Type 0 = λ x. is_folder x.id (live_node item ∷ nodes) ≡ false in
    subst P s (ap (λ b. b || is_some_folder (cond (nat_eq item.number item.number) (Some (live_node item)) (node_at item.number nodes))) no_one
    ∙ ap (λ b. is_some_folder (cond b (Some (live_node item)) (node_at item.number nodes))) same ∙ is_file) in
    let at : cond (p (sibling_of item)) (Some (sibling_of item)) (find p others) ≡ Some sibling → is_folder sibling.id (live_node item ∷ nodes) ≡ false =
    elim (p (sibling_of item)) as (λ b. cond b (Some (sibling_of item)) (find p others) ≡ Some sibling → is_folder sibling.id (live_node item ∷ nodes) ≡ false)
    [ true ↦ (λ e. here cc) | false ↦ later ] in
    let by : (b : Bool) → find p (map sibling_of (cond b (item ∷ filter (λ (x : LiveItem). nat_eq x.parent parent) items) (filter (λ (x : LiveItem). nat_eq x.parent parent) items))) ≡ Some sibling → is_folder sibling.id (live_node item ∷ nodes) ≡ false =
    elim [ true ↦ at | false ↦ later ] in
    by (nat_eq item.parent parent) found
