-- What single calls of the store give.
use Rattle.std.proofs.Common.{◌≡◌, ℕ, suc, ◌-◌, ◌<◌, length, get_or, arith, Bool, true, false, ◌||◌, not, cond, nat_eq, List, [], ◌∷◌, ◌++◌, map, take, Option, Some, None, Result, Ok, Err, IfOk, refl, sym, ap, ◌∙◌, subst, inl, inr}
use Rattle.std.proofs.lemmas.Bool.{cases_Bool}
use Rattle.std.specs.Option.{option_map}
use Rattle.gd_names.specs.declared.conflict.Settle.{Settle}
use Rattle.gd_names.specs.declared.conflict.Settle.TheVariants.{Free, Over, Refuse}
use Rattle.gd_item.specs.Answers.{about, made_or_is, found_reply, content_reply, children_reply, last_child_name, next_child}
use Rattle.gd_item.specs.Children.{children_past, first_children, has_more_children}
use Rattle.gd_item.specs.Ids.{item_id}
use Rattle.gd_item.specs.Inventory.{Inventory, Effect, live_at, inventory}
use Rattle.gd_item.specs.Nodes.{live_node, node_at}
use Rattle.gd_item.specs.Places.{last_name}
use Rattle.gd_item.specs.Records.{record_at, record_with}
use Rattle.gd_item.specs.Refusals.{touched, is_made, file_refusal, folder_effect}
use Rattle.gd_item.specs.Targets.{name_in_path}
use Rattle.gd_item.specs.Versions.{content_of, content_at}
use Rattle.gd_item.specs.declared.fault.StoreFault.{StoreFault}
use Rattle.gd_item.specs.declared.fault.StoreFault.TheVariants.{NotFound, NotFile}
use Rattle.gd_item.specs.declared.id.ItemId.{ItemId}
use Rattle.gd_item.specs.declared.item.Item.{Item}
use Rattle.gd_item.specs.declared.live.LiveItem.{LiveItem}
use Rattle.gd_item.specs.declared.reply.Reply.TheVariants as reply
use Rattle.gd_item.proofs.Effects.{inventory-snoc}
use Rattle.gd_store.specs.Stands.{StoreValue, Stands, Answers, record_after, given_unless}
use Rattle.gd_store.proofs.Given.{given-ok}
use Rattle.gd_api.specs.Replies.{Steps, last_item_name}
use Rattle.gd_store.proofs.Siblings.{own-number}

-- an address names this number
pub id-found : (found : Option ℕ) (id : ItemId) → option_map item_id found ≡ Some id → found ≡ Some id.0
id-found None id h = absurd cc
id-found (Some n) id h = let same : item_id n ≡ id = cc in ap Some (ap (λ (i : ItemId). i.0) same)

-- the record that a step gives is its reply
stepped : (store : StoreValue) (epoch floor : ℕ) (log : List Effect) (effect : Effect) (item : Item) → record_after (inventory log) effect ≡ Some item → Stands store (log ++ effect ∷ []) epoch floor
    → Steps store epoch floor log (effect ∷ []) (made_or_is (is_made effect) item)
stepped store epoch floor log effect item is stands =
    let after : record_at (touched (inventory log) effect) true (inventory (log ++ effect ∷ [])) ≡ Some item =
    ap (λ held. record_at (touched (inventory log) effect) true held) (inventory-snoc log effect) ∙ is in
    record { replied = sym (ap (about (made_or_is (is_made effect))) after); stands = stands }

pub item-stepped : (store : StoreValue) (epoch floor : ℕ) (log : List Effect) (refusal : Option StoreFault) (effect : Effect) (item : Item) (made : Bool) → is_made effect ≡ made
    → Answers refusal (Ok item) (λ item. (record_after (inventory log) effect ≡ Some item) × Stands store (log ++ effect ∷ []) epoch floor)
    → Answers refusal (Ok (made_or_is made item)) (Steps store epoch floor log (effect ∷ []))
item-stepped store epoch floor log refusal effect item made is answer =
    let P : Bool → Type 0 = λ b. Steps store epoch floor log (effect ∷ []) (made_or_is b item) in
    record { ok = (answer.ok.0, subst P is (stepped store epoch floor log effect item answer.ok.1.0 answer.ok.1.1)); err = tt }

pub item-put : (store : StoreValue) (epoch floor : ℕ) (log : List Effect) (refusal : Option StoreFault) (effect : Effect) (put : Item × Bool) (made : Bool) → put.1 ≡ made
    → Answers refusal (Ok put) (λ put. (record_after (inventory log) effect ≡ Some put.0) × (put.1 ≡ is_made effect) × Stands store (log ++ effect ∷ []) epoch floor)
    → Answers refusal (Ok (made_or_is made put.0)) (Steps store epoch floor log (effect ∷ []))
item-put store epoch floor log refusal effect put made is answer =
    item-stepped store epoch floor log refusal effect put.0 made (sym answer.ok.1.1 ∙ is) (record { ok = (answer.ok.0, (answer.ok.1.0, answer.ok.1.2)); err = tt })

-- a folder that is made is a new item
pub folder-is-made : (parent : ℕ) (name : List ℕ) (settle : Settle) → is_made (folder_effect parent name settle) ≡ true
folder-is-made parent name (Free free) = refl
folder-is-made parent name (Over number) = refl
folder-is-made parent name Refuse = refl

-- where no item is found there is no node
no-node : (number : ℕ) (items : List LiveItem) → live_at number items ≡ None → node_at number (map live_node items) ≡ None
no-node number [] is = refl
no-node number (first ∷ items) is = elim (cases_Bool (nat_eq first.number number)) [
  | inl here ↦
      let is' : Some first ≡ None = rw here at is in
      absurd cc
  | inr later ↦
      let rest : node_at number (map live_node items) ≡ None = no-node number items (rw later at is) in
      rw (later, rest)
]

-- a file that is found
no-file : (root : Bool) → cond (not (root || false)) (Some NotFound) (cond (root || false) (Some NotFile) None) ≡ None → ⊥
no-file true is = cc
no-file false is = cc

found-in : (held : Inventory) (number : ℕ) (found : Option LiveItem) → live_at number held.items ≡ found → file_refusal held number ≡ None
    → reply.Found (item_id number) (content_of found) ≡ about found_reply found
found-in held number None is allowed =
    let none : node_at number (map live_node held.items) ≡ None = no-node number held.items is in
    let refused : file_refusal held number ≡ cond (not (nat_eq number 1 || false)) (Some NotFound) (cond (nat_eq number 1 || false) (Some NotFile) None) = rw none in
    absurd (no-file (nat_eq number 1) (sym refused ∙ allowed))
found-in held number (Some item) is allowed = ap (λ n. reply.Found (item_id n) item.content) (sym (own-number number held.items item is))

content-found : (held : Inventory) (number content : ℕ) → file_refusal held number ≡ None → content ≡ content_at number held → reply.Found (item_id number) content ≡ content_reply held number
content-found held number content allowed is = ap (λ n. reply.Found (item_id number) n) is ∙ found-in held number (live_at number held.items) refl allowed

pub content-given : (held : Inventory) (number content : ℕ) → Ok content ≡ given_unless (file_refusal held number) (content_at number held)
    → Ok (reply.Found (item_id number) content) ≡ given_unless (file_refusal held number) (content_reply held number)
content-given held number content is =
    let given = given-ok (file_refusal held number) content (content_at number held) is in
    ap (λ r. Ok r) (content-found held number content given.0 given.1) ∙ ap (λ refusal. given_unless refusal (content_reply held number)) (sym given.0)

-- the name of the last item, which stands before the end
pub last-by-index : (items : List Item) (last : Item) → 0 < length items → last ≡ get_or items (length items - 1) last → Some last.name ≡ last_item_name items
last-by-index [] last some is = absurd (omega arith)
last-by-index (item ∷ []) last some is = ap (λ (i : Item). Some i.name) is
last-by-index (item ∷ next ∷ items) last some is =
    let before : length (item ∷ next ∷ items) - 1 ≡ suc (length (next ∷ items) - 1) = omega arith in
    last-by-index (next ∷ items) last (omega arith) (is ∙ ap (λ n. get_or (item ∷ next ∷ items) n last) before)

-- the last of some records has the name of the last item
last-named : (held : Inventory) (items : List LiveItem) → last_item_name (map (record_with true held) items) ≡ last_child_name items
last-named held [] = refl
last-named held (item ∷ []) = refl
last-named held (item ∷ next ∷ items) = last-named held (next ∷ items)

pub children-listed : (held : Inventory) (earlier : Option (List ℕ)) (size parent : ℕ) (items : List Item) (more : Bool) (next : Option (List ℕ)) → items ≡ first_children parent earlier size held → more ≡ has_more_children parent earlier size held
    → next ≡ cond more (last_item_name items) None → reply.Listed items next ≡ children_reply held earlier size parent
children-listed held earlier size parent items more next given follows named =
    let last : last_item_name items ≡ last_child_name (take size (children_past parent earlier held.items)) =
    ap last_item_name given ∙ last-named held (take size (children_past parent earlier held.items)) in
    let told : next ≡ next_child parent earlier size held =
    named ∙ ap (λ b. cond b (last_item_name items) None) follows ∙ ap (λ n. cond (has_more_children parent earlier size held) n None) last in
    ap (λ (i : List Item). reply.Listed i next) given ∙ ap (λ n. reply.Listed (first_children parent earlier size held) n) told

-- the last of some names
last-name : (names : List (List ℕ)) (last : List ℕ) → 0 < length names → last ≡ get_or names (length names - 1) last → last ≡ last_name names
last-name [] last some is = absurd (omega arith)
last-name (name ∷ []) last some is = is
last-name (name ∷ next ∷ names) last some is =
    let before : length (name ∷ next ∷ names) - 1 ≡ suc (length (next ∷ names) - 1) = omega arith in
    last-name (next ∷ names) last (omega arith) (is ∙ ap (λ n. get_or (name ∷ next ∷ names) n last) before)

pub last-in-path : (names : List (List ℕ)) (last : List ℕ) → 0 < length names → last ≡ get_or names (length names - 1) last → Some last ≡ name_in_path names
last-in-path [] last some is = absurd (omega arith)
last-in-path (name ∷ names) last some is = ap Some (last-name (name ∷ names) last some is)

pub ok-so : {T E : Type 0} {P Q : T → Type 0} (result : Result T E) → ((x : T) → P x → Q x) → IfOk result P → IfOk result Q
ok-so (Ok x) so told = so x told
ok-so (Err e) so told = tt
