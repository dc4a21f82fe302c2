-- What a drive's store shows of its items is their bytes.
use Rattle.std.proofs.Common.{◌≡◌, ℕ, ◌+◌, ◌<◌, false, cond, nat_eq, List, [], ◌∷◌, ◌++◌, codes, length, Option, Some, None, refl, sym, ap, ◌∙◌, eq-eqb, append_assoc, append-nil, arith}
use Rattle.std.specs.Fmt.{decimal}
use Rattle.std.specs.List.{AllByRecursion, AllPairs, flat_map}
use Rattle.std.specs.Map.{values_of}
use Rattle.std.proofs.lemmas.Bool.Decides.{nat_tests}
use Rattle.gd_names.specs.Ordered.{in_order}
use Rattle.gd_item.specs.Inventory.{Inventory, Effect, inventory, live_at}
use Rattle.gd_item.specs.Nodes.{Node, path_of}
use Rattle.gd_item.specs.Records.{record_of, kind_at}
use Rattle.gd_item.specs.Sound.{IsItemMap}
use Rattle.gd_item.specs.Steps.{state_of}
use Rattle.gd_item.specs.Trees.{tree_of, placed, at_path, nodes_of}
use Rattle.gd_item.specs.Versions.{content_of, item_version, file_version, replaced_bytes}
use Rattle.gd_item.specs.declared.item.Item.{Item}
use Rattle.gd_item.specs.declared.live.LiveItem.{LiveItem}
use Rattle.gd_item.specs.declared.step.Step.{Step}
use Rattle.gd_names.proofs.Each.{AllPairs-tail, each-later, each-both}
use Rattle.gd_item.proofs.Effects.{number-inventory}
use Rattle.gd_store.specs.Stands.{StoreValue}
use Rattle.gd_item.specs.Records.{records_of}
use Rattle.gd_laws.specs.Placed.{placed_items}
use Rattle.od_mirror.specs.Pulled.{paths_of, with_records}
use Rattle.gd_names.proofs.Mapped.{mapped, in-order-mapped}
use Rattle.od_pages.proofs.Standing.{paths-of-placed, tree-of-placed}
use Rattle.od_cli.specs.Played.{content_line, drive_text}
use Rattle.od_cli.specs.Plays.{Plays}
use Rattle.od_cli.specs.Pulled.{shown_kind, shown_line, whole_items}
use Rattle.od_cli.specs.Worlds.{WorldValue, Holds}
use Rattle.od_cli.specs.declared.line.Line.TheVariants.{Drive}
use Rattle.od_cli.proofs.Pulls.{sound-of, records-are}

differs : (a b : ℕ) → a < b → nat_eq a b ≡ false
differs a b lt = grind (arith, nat_tests)

-- the item of a number is the one that has it
pub own : (items : List LiveItem) → AllPairs (λ (x y : LiveItem). x.number < y.number) items → AllByRecursion (λ (item : LiveItem). live_at item.number items ≡ Some item) items
own [] pairs = tt
own (item ∷ items) pairs = (
  ap (λ b. cond b (Some item) (live_at item.number items)) (eq-eqb item.number item.number refl),
  each-both (λ (y : LiveItem). item.number < y.number) (λ (y : LiveItem). live_at y.number items ≡ Some y) (λ (y : LiveItem). live_at y.number (item ∷ items) ≡ Some y)
      (λ y lt is. ap (λ b. cond b (Some item) (live_at y.number items)) (differs item.number y.number lt) ∙ is) items
      (each-later (λ (x y : LiveItem). x.number < y.number) item items pairs) (own items (AllPairs-tail (λ (x y : LiveItem). x.number < y.number) item items pairs)),
)

-- what is shown of an item
abbrev pub shown : Inventory → LiveItem → Option (List ℕ)
shown drive item = shown_kind drive item.number (kind_at item.bytes item.number drive.items)

shown-by : (drive : Inventory) (item : LiveItem) (bytes : Option (List ℕ)) → live_at item.number drive.items ≡ Some item → item.bytes ≡ bytes → shown_kind drive item.number (kind_at bytes item.number drive.items) ≡ bytes
shown-by drive item None is has = refl
shown-by drive item (Some bytes) is has =
    ap (λ (found : Option LiveItem). item_version (content_of found) drive.replaced found) is
    ∙ ap (λ b. file_version item.content drive.replaced item b) has
    ∙ ap (λ b. cond b (Some bytes) (replaced_bytes item.number item.content drive.replaced)) (eq-eqb item.content item.content refl)

-- items in their places show their bytes there
placed-shown : (drive : Inventory) (nodes : List Node) (items : List LiveItem) → AllByRecursion (λ (item : LiveItem). live_at item.number drive.items ≡ Some item) items
    → mapped (shown drive) (placed (λ (item : LiveItem). item.number) nodes items) ≡ mapped (λ (item : LiveItem). item.bytes) (placed (λ (item : LiveItem). item.number) nodes items)
placed-shown drive nodes [] all = refl
placed-shown drive nodes (item ∷ items) all =
    let rest : List (List (List ℕ) × LiveItem) = placed (λ (i : LiveItem). i.number) nodes items in
    let later : mapped (shown drive) rest ≡ mapped (λ (i : LiveItem). i.bytes) rest = placed-shown drive nodes items all.1 in
    let at : (path : Option (List (List ℕ))) → mapped (shown drive) (at_path path item rest) ≡ mapped (λ (i : LiveItem). i.bytes) (at_path path item rest) =
    elim [
      | None ↦ later
      | Some path ↦ ap (λ b. (path, b) ∷ mapped (shown drive) rest) (shown-by drive item item.bytes all.0 refl) ∙ ap (λ xs. (path, item.bytes) ∷ xs) later
    ] in
    at (path_of nodes item.number)

same-lines : (drive : Inventory) (entries : List (List (List ℕ) × LiveItem)) → flat_map (shown_line drive) (mapped (record_of drive.items) entries) ≡ flat_map content_line (mapped (shown drive) entries)
same-lines drive [] = refl
same-lines drive (entry ∷ entries) = ap (λ lines. content_line (entry.0, shown drive entry.1) ++ lines) (same-lines drive entries)

-- the lines of what a drive holds are those of its tree
pub shown-lines : (drive : Inventory) → IsItemMap drive → flat_map (shown_line drive) (paths_of (records_of drive)) ≡ flat_map content_line (tree_of drive)
shown-lines drive sound =
    let entries : List (List (List ℕ) × LiveItem) = placed_items drive in
    let bytes : LiveItem → Option (List ℕ) = λ (item : LiveItem). item.bytes in
    let same : mapped (shown drive) (in_order entries) ≡ mapped bytes (in_order entries) =
    sym (in-order-mapped (shown drive) entries) ∙ ap in_order (placed-shown drive (nodes_of drive) drive.items (own drive.items sound.numbers)) ∙ in-order-mapped bytes entries in
    ap (λ (xs : List (List (List ℕ) × Item)). flat_map (shown_line drive) xs) (paths-of-placed drive sound)
    ∙ same-lines drive (in_order entries) ∙ ap (λ (xs : List (List (List ℕ) × Option (List ℕ))). flat_map content_line xs) (same ∙ sym (tree-of-placed drive))

-- what is printed of a store
pub store-printed : (value : StoreValue) (log : List Effect) (page : List Item) (paths slice : List (List (List ℕ) × Item)) (number : ℕ) (old first new : List ℕ) → Holds value log → page ≡ whole_items (inventory log)
    → paths ≡ paths_of (values_of (with_records [] page)) → slice ≡ paths → number ≡ length log + 1 → first ≡ old ++ (codes "drive" ++ codes " " ++ decimal number ++ codes "\n")
    → new ≡ first ++ flat_map (shown_line (inventory log)) slice → new ≡ old ++ drive_text (inventory log)
store-printed value log page paths slice number old first new stands is are lent named begins ends =
    let drive : Inventory = inventory log in
    let own_number : number ≡ drive.number = named ∙ sym (number-inventory log) in
    let all : slice ≡ paths_of (records_of drive) = lent ∙ are ∙ ap paths_of (records-are page value log stands is) in
    let lines : flat_map (shown_line drive) slice ≡ flat_map content_line (tree_of drive) =
    ap (λ (xs : List (List (List ℕ) × Item)). flat_map (shown_line drive) xs) all ∙ shown-lines drive (sound-of value log stands) in
    ends ∙ ap (λ f. f ++ flat_map (shown_line drive) slice) (begins ∙ ap (λ n. old ++ (codes "drive " ++ decimal n ++ codes "\n")) own_number)
    ∙ append_assoc old (codes "drive " ++ decimal drive.number ++ codes "\n") (flat_map (shown_line drive) slice)
    ∙ ap (λ l. old ++ ((codes "drive " ++ decimal drive.number ++ codes "\n") ++ l)) lines

-- so the line was played
pub drive-plays : (world : WorldValue) (value : StoreValue) (old new : List ℕ) → Holds value (state_of world.log).effects → ((effects : List Effect) → Holds value effects → new ≡ old ++ drive_text (inventory effects)) → Plays world world old new Drive
drive-plays world value old new stands printed = record {
  world = ap (λ (l : List Step). record world { log = l }) (sym (append-nil world.log));
  printed = printed (state_of world.log).effects stands;
}
