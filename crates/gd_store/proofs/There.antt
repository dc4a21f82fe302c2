-- Numbers that are there.
use Rattle.std.proofs.Common.{◌≡◌, ℕ, Bool, true, false, ◌||◌, not, cond, nat_eq, List, [], ◌∷◌, map, filter, is_some, is_none, Bor, Option, Some, None, refl, sym, ap, ◌∙◌, subst, eq-eqb}
use Rattle.std.proofs.lemmas.Bool.{ne_eqb, or_right}
use Rattle.std.specs.List.{find}
use Rattle.std.specs.Option.{option_copied, option_map}
use Rattle.gd_names.specs.Caseless.{equal_caseless}
use Rattle.gd_names.specs.declared.conflict.Conflict.{Conflict}
use Rattle.gd_names.specs.declared.conflict.Settle.TheVariants.{Over}
use Rattle.gd_names.specs.declared.conflict.Sibling.{Sibling}
use Rattle.gd_names.proofs.Settled.{over-sibling}
use Rattle.gd_names.proofs.Small.{clear, un-not}
use Rattle.gd_item.specs.Inventory.{Inventory, live_at}
use Rattle.gd_item.specs.Nodes.{live_node, node_at, is_folder, is_some_folder}
use Rattle.gd_item.specs.Refusals.{is_there, settled_in, sibling_of, siblings_in, put_over_refusal}
use Rattle.gd_item.specs.Trees.{nodes_of}
use Rattle.gd_item.specs.declared.condition.Condition.{Condition}
use Rattle.gd_item.specs.declared.live.LiveItem.{LiveItem}
use Rattle.gd_laws.proofs.Found.{node-of-live}

mapped-some : {X Y : Type 0} (f : X → Y) (found : Option X) → is_some (option_map f found) ≡ is_some found
mapped-some f None = refl
mapped-some f (Some x) = refl

-- a number is there that is the root's or that of a living item
pub there-is : (number : ℕ) (items : List LiveItem) → is_there number (map live_node items) ≡ (nat_eq number 1 || is_some (live_at number items))
there-is number items =
    ap (λ found. nat_eq number 1 || is_some found) (node-of-live number items) ∙ ap (λ b. nat_eq number 1 || b) (mapped-some live_node (live_at number items))

-- a file that may be put over another is there, and so is the one over which a name is settled
pub over-there : (held : Inventory) (number : ℕ) (bytes : List ℕ) (condition : Condition) (others : ℕ) → put_over_refusal held number bytes condition others ≡ None → is_there number (nodes_of held) ≡ true
over-there held number bytes condition others allowed = un-not _ (clear _ _ _ (sym allowed)).0

sibling-live : (p : Sibling → Bool) (parent : ℕ) (items : List LiveItem) (sibling : Sibling) → find p (siblings_in parent items) ≡ Some sibling → is_some (live_at sibling.id items) ≡ true
sibling-live p parent [] sibling found = absurd cc
sibling-live p parent (item ∷ items) sibling found =
    let others : List Sibling = siblings_in parent items in
    let IsLive : Sibling → Type 0 = λ s. is_some (live_at s.id (item ∷ items)) ≡ true in
    let later : find p others ≡ Some sibling → IsLive sibling =
    λ e.
    elim (nat_eq item.number sibling.id) as (λ b. is_some (cond b (Some item) (live_at sibling.id items)) ≡ true)
    [ true ↦ refl | false ↦ sibling-live p parent items sibling e ] in
    let here : IsLive (sibling_of item) = ap (λ b. is_some (cond b (Some item) (live_at item.number items))) (eq-eqb item.number item.number refl) in
    let at : cond (p (sibling_of item)) (Some (sibling_of item)) (find p others) ≡ Some sibling → IsLive sibling =
    elim (p (sibling_of item)) as (λ b. cond b (Some (sibling_of item)) (find p others) ≡ Some sibling → IsLive sibling)
    [ true ↦ (λ e. let same : sibling_of item ≡ sibling = cc in subst IsLive same here) | false ↦ later ] in
    let by : (b : Bool) → find p (map sibling_of (cond b (item ∷ filter (λ (x : LiveItem). nat_eq x.parent parent) items) (filter (λ (x : LiveItem). nat_eq x.parent parent) items))) ≡ Some sibling → IsLive sibling =
    elim [ true ↦ at | false ↦ later ] in
    by (nat_eq item.parent parent) found

pub settled-there : (held : Inventory) (parent : ℕ) (name : List ℕ) (behaviour : Conflict) (number : ℕ) → settled_in held parent name behaviour false ≡ Over number → is_there number (nodes_of held) ≡ true
settled-there held parent name behaviour number is =
    let over = over-sibling behaviour (siblings_in parent held.items) name false number is in
    let live : is_some (live_at over.0.id held.items) ≡ true = sibling-live (λ (s : Sibling). equal_caseless s.name name) parent held.items over.0 over.1 in
    there-is number held.items ∙ or_right (nat_eq number 1) (is_some (live_at number held.items)) (subst (λ n. is_some (live_at n held.items) ≡ true) over.2 live)

-- no folder goes over another item
pub folder-over : (held : Inventory) (parent : ℕ) (name : List ℕ) (behaviour : Conflict) (number : ℕ) → settled_in held parent name behaviour true ≡ Over number → ⊥
folder-over held parent name behaviour number is =
    let over = over-sibling behaviour (siblings_in parent held.items) name true number is in
    let not_true : true ≡ false = over.4 in
    cc

-- ---- whether a number is there, and is a folder, as its item tells it
copied-some : (found : Option (Bor LiveItem)) → is_some (option_copied found) ≡ is_some found
copied-some None = refl
copied-some (Some item) = refl

pub known : (number : ℕ) (items : List LiveItem) (found : Option (Bor LiveItem)) (b : Bool) → (number ≡ 1 → ⊥) → option_copied found ≡ live_at number items → b ≡ is_some found → b ≡ is_there number (map live_node items)
known number items found b away got is =
    is ∙ sym (copied-some found) ∙ ap is_some got ∙ sym (ap (λ one. one || is_some (live_at number items)) (ne_eqb number 1 away)) ∙ sym (there-is number items)

folder-by : (number : ℕ) (items : List LiveItem) (found : Option LiveItem) → (number ≡ 1 → ⊥) → found ≡ live_at number items → is_some_folder (option_map live_node found) ≡ is_folder number (map live_node items)
folder-by number items found away got =
    ap (λ (o : Option LiveItem). is_some_folder (option_map live_node o)) got ∙ sym (ap is_some_folder (node-of-live number items))
    ∙ sym (ap (λ one. one || is_some_folder (node_at number (map live_node items))) (ne_eqb number 1 away))

pub folder-none : (number : ℕ) (items : List LiveItem) → (number ≡ 1 → ⊥) → None ≡ live_at number items → false ≡ is_folder number (map live_node items)
folder-none number items away got = folder-by number items None away got

pub none-told : {X : Type 0} (found : Option X) (b : Bool) → is_some found ≡ not b → b ≡ is_none found
none-told None true is = refl
none-told None false is = absurd cc
none-told (Some x) true is = absurd cc
none-told (Some x) false is = refl

pub folder-some : (number : ℕ) (items : List LiveItem) (item : LiveItem) (b : Bool) → (number ≡ 1 → ⊥) → Some item ≡ live_at number items → b ≡ is_none item.bytes → b ≡ is_folder number (map live_node items)
folder-some number items item b away got is = is ∙ folder-by number items (Some item) away got

pub alive : (number : ℕ) (items : List LiveItem) (found : Option (Bor LiveItem)) (b : Bool) → option_copied found ≡ live_at number items → is_some found ≡ b → is_some (live_at number items) ≡ b
alive number items found b got is = sym (ap is_some got) ∙ copied-some found ∙ is
