-- The items of a pull print as the drive's tree does.
use Rattle.std.proofs.Common.{◌≡◌, ℕ, ◌+◌, Bool, false, cond, List, [], ◌∷◌, ◌++◌, codes, length, Option, Some, None, refl, sym, ap, ◌∙◌, append_assoc}
use Rattle.std.specs.Fmt.{decimal}
use Rattle.std.specs.List.{flat_map}
use Rattle.gd_names.specs.Ordered.{in_order}
use Rattle.gd_item.specs.Inventory.{Inventory, Effect, inventory}
use Rattle.gd_item.specs.Records.{record_of, size_of, kind_at}
use Rattle.gd_item.specs.Trees.{tree_of}
use Rattle.gd_item.specs.declared.item.Item.{Item}
use Rattle.gd_item.specs.declared.live.LiveItem.{LiveItem}
use Rattle.gd_item.proofs.Effects.{number-inventory}
use Rattle.gd_item.specs.Sound.{IsItemMap}
use Rattle.gd_store.specs.Stands.{StoreValue}
use Rattle.std.specs.Map.{values_of}
use Rattle.gd_item.specs.Records.{records_of}
use Rattle.gd_laws.specs.Placed.{placed_items}
use Rattle.od_mirror.specs.Pulled.{Pulled, paths_of, with_records}
use Rattle.gd_names.proofs.Mapped.{mapped}
use Rattle.od_pages.proofs.Standing.{paths-of-placed, tree-of-placed}
use Rattle.od_cli.specs.Played.{entry_line, pulled_text}
use Rattle.od_cli.specs.Pulled.{item_line, kind_line, whole_items}
use Rattle.gd_item.specs.Steps.{state_of, held_by}
use Rattle.gd_item.specs.declared.step.Step.{Step}
use Rattle.od_cli.specs.Plays.{Plays}
use Rattle.od_cli.specs.Pulling.{HasAll, TakesPages}
use Rattle.od_cli.specs.Worlds.{WorldValue, Holds}
use Rattle.od_cli.specs.declared.line.Line.TheVariants.{Pull}
use Rattle.od_cli.proofs.Pulls.{all-are, sound-of, records-are}

-- an item prints as its entry does
same-line : (path : List (List ℕ)) (bytes : Option (List ℕ)) (number : ℕ) (items : List LiveItem) → kind_line path (size_of bytes) (kind_at bytes number items) ≡ entry_line (path, bytes)
same-line path None number items = refl
same-line path (Some bytes) number items = refl

same-lines : (items : List LiveItem) (placed : List (List (List ℕ) × LiveItem)) → flat_map item_line (mapped (record_of items) placed) ≡ flat_map entry_line (mapped (λ (item : LiveItem). item.bytes) placed)
same-lines items [] = refl
same-lines items (entry ∷ placed) =
    ap (λ line. line ++ flat_map item_line (mapped (record_of items) placed)) (same-line entry.0 entry.1.bytes entry.1.number items)
    ∙ ap (λ lines. entry_line (entry.0, entry.1.bytes) ++ lines) (same-lines items placed)

-- the lines of what was pulled are those of the tree
pub tree-lines : (held : Inventory) → IsItemMap held → flat_map item_line (paths_of (records_of held)) ≡ flat_map entry_line (tree_of held)
tree-lines held sound =
    ap (λ (xs : List (List (List ℕ) × Item)). flat_map item_line xs) (paths-of-placed held sound)
    ∙ same-lines held.items (in_order (placed_items held)) ∙ sym (ap (λ (xs : List (List (List ℕ) × Option (List ℕ))). flat_map entry_line xs) (tree-of-placed held))

-- a pull prints the drive's number and its tree
pub pull-printed : (value : StoreValue) (log : List Effect) (page : List Item) (paths : List (List (List ℕ) × Item)) (number : ℕ) (old first new : List ℕ) → Holds value log → page ≡ whole_items (inventory log)
    → paths ≡ paths_of (values_of (with_records [] page)) → number ≡ length log + 1 → first ≡ old ++ (codes "pull" ++ codes " " ++ decimal number ++ codes "\n") → new ≡ first ++ flat_map item_line paths → new ≡ old ++ pulled_text (inventory log)
pull-printed value log page paths number old first new stands is are own begins ends =
    let named : number ≡ (inventory log).number = own ∙ sym (number-inventory log) in
    let all : paths ≡ paths_of (records_of (inventory log)) = are ∙ ap paths_of (records-are page value log stands is) in
    let lines : flat_map item_line paths ≡ flat_map entry_line (tree_of (inventory log)) =
    ap (λ (xs : List (List (List ℕ) × Item)). flat_map item_line xs) all ∙ tree-lines (inventory log) (sound-of value log stands) in
    ends ∙ ap (λ f. f ++ flat_map item_line paths) (begins ∙ ap (λ n. old ++ (codes "pull " ++ decimal n ++ codes "\n")) named)
    ∙ append_assoc old (codes "pull " ++ decimal (inventory log).number ++ codes "\n") (flat_map item_line paths)
    ∙ ap (λ l. old ++ ((codes "pull " ++ decimal (inventory log).number ++ codes "\n") ++ l)) lines

-- so does one that has ended
pub pulled-printed : (log : List Step) (pulled : Pulled) (value : StoreValue) (paths slice : List (List (List ℕ) × Item)) (number : ℕ) (old first new : List ℕ) → HasAll (state_of log) pulled → (state_of log).plain ≡ false
    → Holds value (state_of log).effects → paths ≡ paths_of (values_of pulled.items) → slice ≡ paths → number ≡ length (state_of log).effects + 1
    → first ≡ old ++ (codes "pull" ++ codes " " ++ decimal number ++ codes "\n") → new ≡ first ++ flat_map item_line slice → new ≡ old ++ pulled_text (held_by log)
pulled-printed log pulled value paths slice number old first new all whole stands are same is begins ends =
    pull-printed value (state_of log).effects (whole_items (held_by log)) paths number old first new stands refl (are ∙ ap paths_of (all-are log pulled all whole)) is begins
    (ends ∙ ap (λ (xs : List (List (List ℕ) × Item)). first ++ flat_map item_line xs) same)

-- so the line was played
pub pull-plays : (before after : WorldValue) (pulled : Pulled) (ended : Bool) (old new : List ℕ) → TakesPages before after pulled ended → new ≡ old ++ cond ended (pulled_text (held_by before.log)) (codes "pull Endless\n")
    → Plays before after old new Pull
pull-plays before after pulled ended old new takes printed = record {
  world = takes.world;
  printed = printed ∙ ap (λ b. old ++ cond b (pulled_text (held_by before.log)) (codes "pull Endless\n")) takes.ended_is;
}
