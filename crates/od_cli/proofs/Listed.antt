-- What a drive lists lives on it, and a file has its bytes there.
use Rattle.std.proofs.Common.{◌≡◌, ℕ, zero, suc, ◌<◌, true, ◌||◌, not, cond, nat_eq, List, [], ◌∷◌, Option, Some, None, is_some, is_none, Result, Ok, Err, IfOk, IfErr, inl, inr, refl, sym, ap, ◌∙◌, subst, eq-eqb, arith}
use Rattle.std.specs.List.{All, AllByRecursion}
use Rattle.std.specs.Map.{values_of}
use Rattle.std.specs.Option.{option_map}
use Rattle.gd_names.specs.Causes.{first_cause}
use Rattle.gd_names.specs.Ordered.{in_order}
use Rattle.gd_item.specs.Inventory.{Inventory, Effect, inventory, live_at}
use Rattle.gd_item.specs.Nodes.{Node, live_node, node_at, path_of, is_some_folder}
use Rattle.gd_item.specs.Records.{kind_at, record_of, records_of}
use Rattle.gd_item.specs.Refusals.{file_refusal, missing}
use Rattle.gd_item.specs.Sound.{IsItemMap, IsWithin}
use Rattle.gd_item.specs.Trees.{at_path, nodes_of, placed}
use Rattle.gd_item.specs.Versions.{version_at, content_at, content_of, item_version, file_version, replaced_bytes}
use Rattle.gd_item.specs.declared.digest.Digest.{Digest}
use Rattle.gd_item.specs.declared.fault.StoreFault.{StoreFault}
use Rattle.gd_item.specs.declared.fault.StoreFault.TheVariants.{Memory, NotFound, NotFile}
use Rattle.gd_item.specs.declared.item.Item.{Item}
use Rattle.gd_item.specs.declared.item.Kind.TheVariants.{File, Bare, Deleted}
use Rattle.gd_item.specs.declared.live.LiveItem.{LiveItem}
use Rattle.gd_store.specs.Stands as store
use Rattle.gd_store.specs.Stands.{StoreValue}
use Rattle.gd_names.proofs.Each.{each, each-both}
use Rattle.gd_names.proofs.Small.{not-root}
use Rattle.gd_names.proofs.Ordered.{all-in-order-from}
use Rattle.gd_laws.proofs.Found.{node-of-live}
use Rattle.gd_store.proofs.Given.{given-ok}
use Rattle.gd_laws.specs.Placed.{placed_items}
use Rattle.od_mirror.specs.Pulled.{paths_of, with_records}
use Rattle.gd_names.proofs.Mapped.{mapped}
use Rattle.od_pages.proofs.Standing.{paths-of-placed}
use Rattle.od_cli.specs.Worlds.{Holds}
use Rattle.od_cli.specs.Pulled.{whole_items, AreListed, IsFileAt, IsListed}
use Rattle.od_cli.proofs.Pulls.{records-are, sound-of}
use Rattle.od_cli.proofs.Shown.{own}

-- a living item that is no root
pub record Lives (held : Inventory) (live : LiveItem) : Type 0 where
  pub above : 1 < live.number
  pub there : live_at live.number held.items ≡ Some live

all-live : (held : Inventory) → IsItemMap held → AllByRecursion (Lives held) held.items
all-live held sound =
    each-both (IsWithin held) (λ (live : LiveItem). live_at live.number held.items ≡ Some live) (Lives held) (λ live within there. record { above = within.above; there = there }) held.items
    (each (IsWithin held) held.items sound.within) (own held.items sound.numbers)

abbrev LivesAt : Inventory → List (List ℕ) × LiveItem → Type 0
LivesAt held entry = Lives held entry.1

put-at : (held : Inventory) (path : Option (List (List ℕ))) (live : LiveItem) (rest : List (List (List ℕ) × LiveItem)) → Lives held live → AllByRecursion (LivesAt held) rest → AllByRecursion (LivesAt held) (at_path path live rest)
put-at held None live rest here all = all
put-at held (Some path) live rest here all = (here, all)

placed-live : (held : Inventory) (nodes : List Node) (items : List LiveItem) → AllByRecursion (Lives held) items → AllByRecursion (LivesAt held) (placed (λ (item : LiveItem). item.number) nodes items)
placed-live held nodes [] all = tt
placed-live held nodes (live ∷ items) all =
    put-at held (path_of nodes live.number) live (placed (λ (item : LiveItem). item.number) nodes items) all.0 (placed-live held nodes items all.1)

abbrev IsListedAt : Inventory → List (List ℕ) × Item → Type 0
IsListedAt held entry = IsListed held entry.1

records-listed : (held : Inventory) (entries : List (List (List ℕ) × LiveItem)) → AllByRecursion (LivesAt held) entries → AllByRecursion (IsListedAt held) (mapped (record_of held.items) entries)
records-listed held [] all = tt
records-listed held (entry ∷ entries) all = (record { live = entry.1; above = all.0.above; there = all.0.there; item_is = refl }, records-listed held entries all.1)

all-of : {X : Type 0} (P : X → Type 0) (xs : List X) → AllByRecursion P xs → All P xs
all-of P [] all k d inside = absurd (omega arith)
all-of P (x ∷ xs) all zero d inside = all.0
all-of P (x ∷ xs) all (suc k) d inside = all-of P xs all.1 k d (omega arith)

-- what a drive lists lives on it
are-listed : (held : Inventory) → IsItemMap held → AreListed held (paths_of (records_of held))
are-listed held sound =
    let entries : List (List (List ℕ) × LiveItem) = in_order (placed_items held) in
    let live : AllByRecursion (LivesAt held) entries = all-in-order-from (LivesAt held) [] (placed_items held) tt (placed-live held (nodes_of held) held.items (all-live held sound)) in
    subst (AreListed held) (sym (paths-of-placed held sound)) (all-of (IsListedAt held) (mapped (record_of held.items) entries) (records-listed held entries live))

pub paths-listed : (value : StoreValue) (log : List Effect) (page : List Item) (paths slice : List (List (List ℕ) × Item)) → Holds value log → page ≡ whole_items (inventory log) → paths ≡ paths_of (values_of (with_records [] page))
    → slice ≡ paths → AreListed (inventory log) slice
paths-listed value log page paths slice stands is are lent =
    subst (AreListed (inventory log)) (sym (lent ∙ are ∙ ap paths_of (records-are page value log stands is))) (are-listed (inventory log) (sound-of value log stands))

-- a listed file
file-bytes : (bytes : Option (List ℕ)) (number : ℕ) (items : List LiveItem) (digest : Digest) → kind_at bytes number items ≡ File digest → (found : List ℕ) × (bytes ≡ Some found)
file-bytes None number items digest is = absurd (cc is)
file-bytes (Some bytes) number items digest is = (bytes, refl)

pub file-at : (held : Inventory) (item : Item) (digest : Digest) → IsListed held item → item.kind ≡ File digest → IsFileAt held item.id.0
file-at held item digest listed is =
    let live : LiveItem = listed.live in
    let bytes = file-bytes live.bytes live.number held.items digest (ap (λ (i : Item). i.kind) (sym listed.item_is) ∙ is) in
    let same : live.number ≡ item.id.0 = ap (λ (i : Item). i.id.0) (sym listed.item_is) in
    let P : ℕ → Type 0 = λ n. IsFileAt held n in
    subst P same (record { live = live; bytes = bytes.0; above = listed.above; there = listed.there; bytes_are = bytes.1 })

-- what is listed is neither bare nor deleted
kind-bare : (bytes : Option (List ℕ)) (number : ℕ) (items : List LiveItem) → kind_at bytes number items ≡ Bare → ⊥
kind-bare None number items is = cc is
kind-bare (Some bytes) number items is = cc is

kind-deleted : (bytes : Option (List ℕ)) (number : ℕ) (items : List LiveItem) → kind_at bytes number items ≡ Deleted → ⊥
kind-deleted None number items is = cc is
kind-deleted (Some bytes) number items is = cc is

pub never-bare : (held : Inventory) (item : Item) → IsListed held item → item.kind ≡ Bare → ⊥
never-bare held item listed is =
    kind-bare listed.live.bytes listed.live.number held.items (ap (λ (i : Item). i.kind) (sym listed.item_is) ∙ is)

pub never-deleted : (held : Inventory) (item : Item) → IsListed held item → item.kind ≡ Deleted → ⊥
never-deleted held item listed is =
    kind-deleted listed.live.bytes listed.live.number held.items (ap (λ (i : Item). i.kind) (sym listed.item_is) ∙ is)

-- it is no folder, and has a version
pub no-refusal : (held : Inventory) (number : ℕ) → IsFileAt held number → file_refusal held number ≡ None
no-refusal held number file =
    let at : node_at number (nodes_of held) ≡ Some (live_node file.live) = node-of-live number held.items ∙ ap (option_map live_node) file.there in
    ap (λ (node : Option Node). first_cause ((not (nat_eq number 1 || is_some node), NotFound) ∷ (nat_eq number 1 || is_some_folder node, NotFile) ∷ [])) at
    ∙ ap (λ b. first_cause ((not (b || true), NotFound) ∷ (b || is_none file.live.bytes, NotFile) ∷ [])) (not-root number file.above)
    ∙ ap (λ (bytes : Option (List ℕ)). cond (is_none bytes) (Some NotFile) None) file.bytes_are

pub has-version : (held : Inventory) (number : ℕ) (file : IsFileAt held number) → version_at number (content_at number held) held ≡ Some file.bytes
has-version held number file =
    ap (λ (found : Option LiveItem). item_version (content_of found) held.replaced found) file.there
    ∙ ap (λ bytes. file_version file.live.content held.replaced file.live bytes) file.bytes_are
    ∙ ap (λ b. cond b (Some file.bytes) (replaced_bytes file.live.number file.live.content held.replaced)) (eq-eqb file.live.content file.live.content refl)

-- a call that is not refused fails for want of memory alone
pub memory-alone : {T : Type 0} (refusal : Option StoreFault) (result : Result T StoreFault) (Done : T → Type 0) → store.Answers refusal result Done → refusal ≡ None → IfErr result (λ fault. fault ≡ Memory)
memory-alone refusal (Ok x) Done answers none = tt
memory-alone refusal (Err fault) Done answers none = elim answers.err [
  | inl memory ↦ memory
  | inr is ↦ absurd (let odd : None ≡ Some fault = sym none ∙ is in cc)
]

pub never-missing : (held : Inventory) (number content : ℕ) → IsFileAt held number → content ≡ content_at number held → missing (version_at number content held) ≡ None
never-missing held number content file is = ap (λ c. missing (version_at number c held)) is ∙ ap missing (has-version held number file)

-- the content number that a store gives is that of the file
pub content-is : (held : Inventory) (number content : ℕ) → Ok content ≡ store.given_unless (file_refusal held number) (content_at number held) → content ≡ content_at number held
content-is held number content is = (given-ok (file_refusal held number) content (content_at number held) is).1

pub never-refused : (held : Inventory) (number : ℕ) (fault : StoreFault) → IsFileAt held number → Err fault ≡ store.given_unless (file_refusal held number) (content_at number held) → ⊥
never-refused held number fault file is =
    let given : Err fault ≡ Ok (content_at number held) = is ∙ ap (λ refusal. store.given_unless refusal (content_at number held)) (no-refusal held number file) in
    cc given

-- the bytes of that version are those that stand in it
pub version-found : (value : StoreValue) (number content : ℕ) (result : Result (List ℕ) StoreFault)
    → ((log : List Effect) → Holds value log → store.Answers (missing (version_at number content (inventory log))) result (λ bytes. version_at number content (inventory log) ≡ Some bytes))
    → ((log : List Effect) → Holds value log → content ≡ content_at number (inventory log))
    → IfOk result (λ bytes. (log : List Effect) → Holds value log → version_at number (content_at number (inventory log)) (inventory log) ≡ Some bytes)
version-found value number content (Ok bytes) answers is =
    λ log stands. ap (λ c. version_at number c (inventory log)) (sym (is log stands)) ∙ (answers log stands).ok.1
version-found value number content (Err fault) answers is = tt
