-- The records of items that are found, added and changed.
use Rattle.std.proofs.Common.{◌≡◌, ℕ, ◌<◌, Bool, true, false, not, ◌||◌, cond, nat_eq, List, [], ◌∷◌, ◌++◌, map, filter, is_some, Option, Some, None, refl, sym, ap, ◌∙◌, eq-eqb, arith}
use Rattle.std.specs.List.{All, AllByRecursion}
use Rattle.std.specs.Option.{option_map}
use Rattle.std.proofs.lemmas.Bool.{ne_eqb, or_parts}
use Rattle.gd_names.proofs.Each.{each}
use Rattle.gd_names.proofs.Small.{neither}
use Rattle.gd_item.specs.Inventory.{changed, live_at, with_bytes, with_place}
use Rattle.gd_item.specs.Nodes.{live_node, node_at, is_folder, is_some_folder, path_of}
use Rattle.gd_item.specs.Records.{child_count, kind_at, root_record, digest_record, parent_path_text}
use Rattle.gd_item.specs.Refusals.{is_there}
use Rattle.gd_item.specs.declared.digest.Digest.{Digest}
use Rattle.gd_item.specs.declared.item.Item.{Item}
use Rattle.gd_item.specs.declared.item.Kind.{Kind}
use Rattle.gd_item.specs.declared.item.Kind.TheVariants.{Folder, File}
use Rattle.gd_item.specs.declared.live.LiveItem.{LiveItem}
use Rattle.gd_item.proofs.Soundness.{nodes-over}
use Rattle.gd_laws.proofs.Living.{live-changed}
use Rattle.gd_index.specs.Indexed.{digest_in, digest_of_live}
use Rattle.gd_store.specs.Recorded.{record_in, recorded_at, without_kind}
use Rattle.gd_store.proofs.Insides.{same-nodes}
use Rattle.gd_store.proofs.Siblings.{own-number}
use Rattle.gd_store.proofs.There.{there-is}

-- ---- what an item is, as its digest tells it
file-of : (bytes : Option (List ℕ)) (digest : Digest) (number : ℕ) (items : List LiveItem) → Some digest ≡ digest_in bytes → File digest ≡ kind_at bytes number items
file-of None digest number items is = absurd cc
file-of (Some bytes) digest number items is = let same : digest ≡ digest_record bytes = cc in ap (λ (d : Digest). File d) same

folder-of : (bytes : Option (List ℕ)) (number : ℕ) (items : List LiveItem) → None ≡ digest_in bytes → Folder (child_count number items) ≡ kind_at bytes number items
folder-of None number items is = refl
folder-of (Some bytes) number items is = absurd cc

pub kind-file : (items : List LiveItem) (number : ℕ) (digest : Digest) (item : LiveItem) → Some digest ≡ digest_of_live (live_at number items) → live_at number items ≡ Some item → File digest ≡ kind_at item.bytes number items
kind-file items number digest item is found = file-of item.bytes digest number items (is ∙ ap digest_of_live found)

pub kind-folder : (items : List LiveItem) (number : ℕ) (item : LiveItem) → None ≡ digest_of_live (live_at number items) → live_at number items ≡ Some item → Folder (child_count number items) ≡ kind_at item.bytes number items
kind-folder items number item is found = folder-of item.bytes number items (is ∙ ap digest_of_live found)

-- ---- an item that was just added
live-added : (items : List LiveItem) (item : LiveItem) → is_some (live_at item.number (items ++ item ∷ [])) ≡ true
live-added [] item = ap (λ b. is_some (cond b (Some item) None)) (eq-eqb item.number item.number refl)
live-added (first ∷ items) item =
    elim (nat_eq first.number item.number) as (λ b. is_some (cond b (Some first) (live_at item.number (items ++ item ∷ []))) ≡ true)
    [ true ↦ refl | false ↦ live-added items item ]

recorded-if : (one : Bool) (root : Item) (record_it : LiveItem → Item) (found : Option LiveItem) → is_some found ≡ true → None ≡ cond one (Some root) (option_map record_it found) → ⊥
recorded-if true root record_it found there none = cc
recorded-if false root record_it None there none = cc
recorded-if false root record_it (Some item) there none = cc

pub added-recorded : (items grown : List LiveItem) (item : LiveItem) → grown ≡ items ++ item ∷ [] → None ≡ recorded_at item.number true grown → ⊥
added-recorded items grown item is none =
    recorded-if (nat_eq item.number 1) (root_record grown) (record_in true grown) (live_at item.number grown) (ap (λ xs. is_some (live_at item.number xs)) is ∙ live-added items item) none

-- the items of before, once it is taken out
none-out : (item : LiveItem) (items : List LiveItem) → AllByRecursion (λ (x : LiveItem). x.number < item.number) items → filter (λ (x : LiveItem). not (nat_eq x.number item.number)) (items ++ item ∷ []) ≡ items
none-out item [] below = ap (λ b. cond (not b) (item ∷ []) []) (eq-eqb item.number item.number refl)
none-out item (x ∷ items) below =
    let lt : x.number < item.number = below.0 in
    ap (λ b. cond (not b) (x ∷ filter (λ (y : LiveItem). not (nat_eq y.number item.number)) (items ++ item ∷ [])) (filter (λ (y : LiveItem). not (nat_eq y.number item.number)) (items ++ item ∷ []))) (ne_eqb x.number item.number (λ e. omega arith))
    ∙ ap (λ xs. x ∷ xs) (none-out item items below.1)

pub taken-out : (item : LiveItem) (items grown left : List LiveItem) → All (λ (x : LiveItem). x.number < item.number) items → grown ≡ items ++ item ∷ [] → left ≡ filter (λ (x : LiveItem). not (nat_eq x.number item.number)) grown → left ≡ items
taken-out item items grown left below is out =
    out ∙ ap (filter (λ (x : LiveItem). not (nat_eq x.number item.number))) is ∙ none-out item items (each (λ (x : LiveItem). x.number < item.number) items below)

-- ---- an item that is there and is not the root lives
pub lives : (items : List LiveItem) (number : ℕ) → is_there number (map live_node items) ≡ true → nat_eq number 1 ≡ false → None ≡ live_at number items → ⊥
lives items number there not_root none =
    let is : (nat_eq number 1 || is_some (live_at number items)) ≡ true = sym (there-is number items) ∙ there in
    let bad : false ≡ true = sym (ap (λ b. b || is_some (live_at number items)) not_root ∙ ap is_some (sym none)) ∙ is in
    cc

pub file-lives : (items : List LiveItem) (number : ℕ) → is_there number (map live_node items) ≡ true → is_folder number (map live_node items) ≡ false → None ≡ live_at number items → ⊥
file-lives items number there file none = lives items number there (neither (nat_eq number 1) (is_some_folder (node_at number (map live_node items))) file).0 none

-- ---- an item that was just changed
changed-live : (items : List LiveItem) (number : ℕ) (f : LiveItem → LiveItem) (item : LiveItem) → ((x : LiveItem) → (f x).number ≡ x.number) → live_at number items ≡ Some item → live_at number (changed number f items) ≡ Some (f item)
changed-live items number f item same found =
    live-changed number number f items same ∙ ap (λ b. cond b (option_map f (live_at number items)) (live_at number items)) (eq-eqb number number refl) ∙ ap (option_map f) found

told : (items : List LiveItem) (number : ℕ) (item : LiveItem) (kind : Kind) → nat_eq number 1 ≡ false → live_at number items ≡ Some item → kind ≡ kind_at item.bytes number items
    → recorded_at number true items ≡ Some (record (record_in true items item) { kind = kind })
told items number item kind not_root found is =
    let own : item.number ≡ number = own-number number items item found in
    let kinds : kind_at item.bytes item.number items ≡ kind = ap (λ n. kind_at item.bytes n items) own ∙ sym is in
    ap (λ b. cond b (Some (root_record items)) (option_map (record_in true items) (live_at number items))) not_root
    ∙ ap (option_map (record_in true items)) found
    ∙ ap (λ (k : Kind). Some (record (record_in true items item) { kind = k })) kinds

-- the record that was made before the change, with what the item is after it
pub changed-recorded : (f : LiveItem → LiveItem) → ((x : LiveItem) → (f x).number ≡ x.number) → (items after : List LiveItem) (number : ℕ) (item : LiveItem) (made : Item) (kind : Kind) → nat_eq number 1 ≡ false
    → Some item ≡ live_at number items → after ≡ changed number f items → made ≡ without_kind (record_in true (changed item.number f items) (f item))
    → ((x : LiveItem) → live_at number after ≡ Some x → kind ≡ kind_at x.bytes number after) → recorded_at number true (changed number f items) ≡ Some (record made { kind = kind })
changed-recorded f same items after number item made kind not_root found is made-is kinds =
    let own : item.number ≡ number = own-number number items item (sym found) in
    let there : live_at number (changed number f items) ≡ Some (f item) = changed-live items number f item same (sym found) in
    let kind-is : kind ≡ kind_at (f item).bytes number (changed number f items) =
    kinds (f item) (ap (live_at number) is ∙ there) ∙ ap (kind_at (f item).bytes number) is in
    told (changed number f items) number (f item) kind not_root there kind-is
    ∙ ap (λ (n : ℕ). Some (record (record_in true (changed n f items) (f item)) { kind = kind })) (sym own)
    ∙ ap (λ (m : Item). Some (record m { kind = kind })) (sym made-is)

-- ---- the path of the folder of a changed item
pub written-path : (items : List LiveItem) (number change parent : ℕ) (bytes : List ℕ) → is_folder number (map live_node items) ≡ false
    → option_map parent_path_text (path_of (map live_node items) parent) ≡ option_map parent_path_text (path_of (map live_node (changed number (with_bytes change bytes) items)) parent)
written-path items number change parent bytes file =
    ap (λ nodes. option_map parent_path_text (path_of nodes parent)) (nodes-over number change bytes items (or_parts (nat_eq number 1) (is_some_folder (node_at number (map live_node items))) file).1)

pub placed-path : (items : List LiveItem) (number change parent : ℕ) (name : List ℕ)
    → path_of (map live_node (changed number (with_place 0 parent name) items)) parent ≡ path_of (map live_node (changed number (with_place change parent name) items)) parent
placed-path items number change parent name = ap (λ nodes. path_of nodes parent) (same-nodes number 0 change parent name items)

-- a file that is found is one by its own number too, and is not the root
pub own-file : (items : List LiveItem) (number : ℕ) (item : LiveItem) → Some item ≡ live_at number items → is_folder number (map live_node items) ≡ false → is_folder item.number (map live_node items) ≡ false
own-file items number item found file = ap (λ n. is_folder n (map live_node items)) (own-number number items item (sym found)) ∙ file

pub file-not-root : (items : List LiveItem) (number : ℕ) → is_folder number (map live_node items) ≡ false → nat_eq number 1 ≡ false
file-not-root items number file = (neither (nat_eq number 1) (is_some_folder (node_at number (map live_node items))) file).0
