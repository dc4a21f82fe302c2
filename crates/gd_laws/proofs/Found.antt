-- What an effect that is not refused finds in what a drive holds: a place for what is made, moved or put, and a folder in
-- which nothing is left where one is removed.
use Rattle.std.proofs.Common.{◌≡◌, ℕ, ◌+◌, ◌-◌, ◌^◌, ◌<◌, ◌≤◌, true, false, not, ◌||◌, cond, nat_eq, nat_lt, List, [], ◌∷◌, length, map, is_some, Option, Some, None, refl, sym, ap, ◌∙◌, arith}
use Rattle.std.specs.List.{All}
use Rattle.std.specs.Option.{option_map}
use Rattle.std.proofs.lemmas.Bool.{both_ways}
use Rattle.gd_names.specs.Names.{name_fault}
use Rattle.gd_names.specs.Settling.{is_taken}
use Rattle.gd_names.specs.declared.conflict.Conflict.{Conflict}
use Rattle.gd_names.specs.declared.conflict.Settle.{Settle}
use Rattle.gd_names.specs.declared.conflict.Settle.TheVariants.{Free, Over, Refuse}
use Rattle.gd_names.proofs.Each.{each}
use Rattle.gd_names.proofs.NumberedNames.{settled-named}
use Rattle.gd_names.proofs.Settled.{settled-free, over-sibling}
use Rattle.gd_names.proofs.Small.{clear, un-not, not-below, not-some}
use Rattle.gd_item.specs.Inventory.{Inventory, Effect, MadeFolder, PutNew, PutOver, Moved, Removed, live_at, after}
use Rattle.gd_item.specs.Moves.{is_in, is_taken_by_other, is_any_too_long, is_bad_name, name_of, new_parent, new_name, patch_refusal, patch_effect, removal_order, remove_refusal, remove_effects}
use Rattle.gd_item.specs.Nodes.{live_node, node_at, is_folder, below, path_of}
use Rattle.gd_item.specs.Refusals.{is_there, is_met, is_too_long, is_over_quota, settled_in, siblings_in, folder_effect, file_effect, make_folder_refusal, make_folder_effect, put_over_refusal, put_refusal, put_effect}
use Rattle.gd_item.specs.Sound.{IsItemMap}
use Rattle.gd_item.specs.Trees.{nodes_of}
use Rattle.gd_item.specs.declared.condition.Condition.{Condition}
use Rattle.gd_item.specs.declared.fault.StoreFault.TheVariants.{NotFound, NotFolder, Root, BadName, Modified, IntoItself, NameTaken, PathTooLong, Quota}
use Rattle.gd_item.specs.declared.live.LiveItem.{LiveItem}
use Rattle.gd_item.specs.declared.live.Place.{Place}
use Rattle.gd_item.specs.declared.live.Place.TheVariants as place
use Rattle.gd_item.proofs.Removing.{IsOrdered, removal-ordered}
use Rattle.gd_laws.proofs.Allowed.{MayMake, may-make, MayPut, may-put, has-room, room-for-one, next-number}
use Rattle.gd_laws.proofs.Counts.{siblings-few}
use Rattle.gd_laws.proofs.Living.{of-living}
use Rattle.gd_laws.proofs.Sounds.{few-items, over-file, over-room}

-- a place where an item may be made
pub record MayStand (held : Inventory) (parent : ℕ) (name : List ℕ) : Type 0 where
  pub there : is_there parent (nodes_of held) ≡ true
  pub folder : is_folder parent (nodes_of held) ≡ true
  pub free : is_taken (siblings_in parent held.items) name ≡ false
  pub named : name_fault name ≡ None
  pub short : is_too_long (below (path_of (nodes_of held) parent) name) ≡ false
  pub room : length held.items + 1 < 100000

-- a place to which an item may be moved
pub record MayMove (held : Inventory) (number parent : ℕ) (name : List ℕ) : Type 0 where
  pub not_root : nat_eq number 1 ≡ false
  pub there : is_there parent (nodes_of held) ≡ true
  pub folder : is_folder parent (nodes_of held) ≡ true
  pub outside : is_in (nodes_of held) number parent ≡ false
  pub free : is_taken_by_other number parent name held.items ≡ false
  pub named : name_fault name ≡ None
  pub short : is_any_too_long (after held (Moved number parent name)) number ≡ false

abbrev pub Finds : Inventory → Effect → Type 0
Finds held (MadeFolder parent name) = MayStand held parent name
Finds held (PutNew parent name bytes) = MayStand held parent name × (length bytes ≤ 67108864)
Finds held (PutOver number bytes) = (is_folder number (nodes_of held) ≡ false) × (length bytes ≤ 67108864)
Finds held (Moved number parent name) = MayMove held number parent name
Finds held (Removed number) = All (λ (item : LiveItem). nat_eq item.parent number ≡ false) held.items

-- the same of several effects, each of which has a number left
abbrev pub AllFind : Inventory → List Effect → Type 0
AllFind held [] = Unit {0}
AllFind held (effect ∷ effects) = (held.number + 1 < 2 ^ 64) × Finds held effect × AllFind (after held effect) effects

-- ---- a folder that is made
folder-finds : (held : Inventory) (parent : ℕ) (name : List ℕ) (behaviour : Conflict) (settle : Settle) → settled_in held parent name behaviour true ≡ settle → MayMake held parent name settle
    → Finds held (folder_effect parent name settle)
folder-finds held parent name behaviour (Free free) is may =
    let few : length (siblings_in parent held.items) < 100000 = siblings-few parent 100000 held.items held.items (siblings_in parent held.items) refl refl (few-items held 1 0 may.room) in
    record {
      there = may.there;
      folder = may.folder;
      free = settled-free behaviour (siblings_in parent held.items) name free true few is;
      named = settled-named behaviour (siblings_in parent held.items) name free true few (not-some (name_fault name) may.named) is;
      short = may.fits;
      room = room-for-one held (Free free) free 0 refl may.room;
    }
folder-finds held parent name behaviour (Over id) is may =
    let over = over-sibling behaviour (siblings_in parent held.items) name true id is in
    let not_true : true ≡ false = over.4 in
    absurd cc
folder-finds held parent name behaviour Refuse is may = let had : true ≡ false = may.had in absurd cc

pub make-finds : (held : Inventory) (parent : ℕ) (name : List ℕ) (behaviour : Conflict) → None ≡ make_folder_refusal held parent name behaviour → AllFind held (make_folder_effect held parent name behaviour ∷ [])
make-finds held parent name behaviour allowed =
    let settle : Settle = settled_in held parent name behaviour true in
    let may : MayMake held parent name settle = may-make held parent name behaviour settle refl allowed in
    (next-number held _ 0 may.room, folder-finds held parent name behaviour settle refl may, tt)

-- ---- a file that is put
file-finds : (held : Inventory) (parent : ℕ) (name bytes : List ℕ) (behaviour : Conflict) (others : ℕ) (settle : Settle) → IsItemMap held → length bytes ≤ 67108864
    → settled_in held parent name behaviour false ≡ settle → MayPut held parent name bytes others settle → Finds held (file_effect parent name bytes settle)
file-finds held parent name bytes behaviour others (Free free) tree small is may =
    let few : length (siblings_in parent held.items) < 100000 = siblings-few parent 100000 held.items held.items (siblings_in parent held.items) refl refl (few-items held 1 _ may.room) in (
      record {
        there = may.there;
        folder = may.folder;
        free = settled-free behaviour (siblings_in parent held.items) name free false few is;
        named = settled-named behaviour (siblings_in parent held.items) name free false few (not-some (name_fault name) may.named) is;
        short = may.fits;
        room = room-for-one held (Free free) free _ refl may.room;
      },
      small,
    )
file-finds held parent name bytes behaviour others (Over id) tree small is may = (over-file held parent name behaviour id tree is, small)
file-finds held parent name bytes behaviour others Refuse tree small is may = let had : true ≡ false = may.had in absurd cc

over-finds : (held : Inventory) (number : ℕ) (bytes : List ℕ) (condition : Condition) (others : ℕ) → length bytes ≤ 67108864 → None ≡ put_over_refusal held number bytes condition others
    → AllFind held (PutOver number bytes ∷ [])
over-finds held number bytes condition others small allowed =
    let a = clear _ _ _ allowed in
    let b = clear _ _ _ a.1 in
    (next-number held 0 _ (over-room held number bytes condition others allowed), (b.0, small), tt)

pub put-finds : (held : Inventory) (place : Place) (bytes : List ℕ) (behaviour : Conflict) (condition : Condition) (others : ℕ) → IsItemMap held → length bytes ≤ 67108864
    → None ≡ put_refusal held place bytes behaviour condition others → AllFind held (put_effect held place bytes behaviour ∷ [])
put-finds held (place.Over id) bytes behaviour condition others tree small allowed = over-finds held id.0 bytes condition others small allowed
put-finds held (place.Under id name) bytes behaviour condition others tree small allowed =
    let settle : Settle = settled_in held id.0 name behaviour false in
    let may : MayPut held id.0 name bytes others settle = may-put held id.0 name bytes behaviour condition others settle refl allowed in
    (next-number held _ _ may.room, file-finds held id.0 name bytes behaviour others settle tree small refl may, tt)

-- the kept bytes stay within their limit, with those of the sessions
pub put-light : (held : Inventory) (place : Place) (bytes : List ℕ) (behaviour : Conflict) (condition : Condition) (others : ℕ) → None ≡ put_refusal held place bytes behaviour condition others
    → held.kept + (length bytes + others) ≤ 536870912
put-light held (place.Over id) bytes behaviour condition others allowed = (over-room held id.0 bytes condition others allowed).light
put-light held (place.Under id name) bytes behaviour condition others allowed =
    (may-put held id.0 name bytes behaviour condition others (settled_in held id.0 name behaviour false) refl allowed).room.light

-- ---- an item that is moved
-- a node is that of the living item
pub node-of-live : (number : ℕ) (items : List LiveItem) → node_at number (map live_node items) ≡ option_map live_node (live_at number items)
node-of-live number [] = refl
node-of-live number (item ∷ items) =
    elim (nat_eq item.number number) as (λ b. cond b (Some (live_node item)) (node_at number (map live_node items)) ≡ option_map live_node (cond b (Some item) (live_at number items)))
    [ true ↦ refl | false ↦ node-of-live number items ]

-- an item that is there has a name that it may have
abbrev IsNamed : LiveItem → Type 0
IsNamed item = name_fault item.name ≡ None

old-name : (number : ℕ) (items : List LiveItem) (found : Option LiveItem) → live_at number items ≡ found → is_some (node_at number (map live_node items)) ≡ true → All IsNamed items → name_fault (name_of found) ≡ None
old-name number items None is there names =
    absurd (both_ways (is_some (node_at number (map live_node items))) (ap is_some (node-of-live number items ∙ ap (option_map live_node) is)) there)
old-name number items (Some item) is there names = (of-living IsNamed number items item (each IsNamed items names) is).0

named-at : (held : Inventory) (number : ℕ) (name : Option (List ℕ)) → is_bad_name name ≡ false → is_there number (nodes_of held) ≡ true → nat_eq number 1 ≡ false → All IsNamed held.items
    → name_fault (new_name held number name) ≡ None
named-at held number None good there not_root names =
    old-name number held.items (live_at number held.items) refl (sym (ap (λ b. b || is_some (node_at number (nodes_of held))) not_root) ∙ there) names
named-at held number (Some name) good there not_root names = not-some (name_fault name) good

pub move-finds : (held : Inventory) (number : ℕ) (name : Option (List ℕ)) (parent : Option ℕ) (condition : Condition) → All (λ (item : LiveItem). name_fault item.name ≡ None) held.items
    → None ≡ patch_refusal held number name parent condition → AllFind held (patch_effect held number name parent ∷ [])
move-finds held number name parent condition names allowed =
    let to : ℕ = new_parent held number parent in
    let named : List ℕ = new_name held number name in
    let a = clear (not (is_there number (nodes_of held))) NotFound _ allowed in
    let b = clear (nat_eq number 1) Root _ a.1 in
    let c = clear (is_bad_name name) BadName _ b.1 in
    let d = clear (not (is_there to (nodes_of held))) NotFound _ c.1 in
    let e = clear (not (is_folder to (nodes_of held))) NotFolder _ d.1 in
    let f = clear (not (is_met condition (live_at number held.items))) Modified _ e.1 in
    let g = clear (is_in (nodes_of held) number to) IntoItself _ f.1 in
    let h = clear (is_taken_by_other number to named held.items) NameTaken _ g.1 in
    let i = clear (is_any_too_long (after held (Moved number to named)) number) PathTooLong _ h.1 in
    let j = clear (is_over_quota held 0 0) Quota _ i.1 in (
      next-number held 0 0 (has-room held 0 0 j.0),
      record {
        not_root = b.0;
        there = un-not _ d.0;
        folder = un-not _ e.0;
        outside = g.0;
        free = h.0;
        named = named-at held number name c.0 (un-not _ a.0) b.0 names;
        short = i.0;
      },
      tt,
    )

-- ---- an item that is removed with all below it
removals-find : (held : Inventory) (numbers : List ℕ) → IsOrdered held.items numbers → held.number + length numbers < 2 ^ 64 → AllFind held (map Removed numbers)
removals-find held [] ordered low = tt
removals-find held (number ∷ numbers) ordered low =
    (omega (arith, low), ordered.0, removals-find (after held (Removed number)) numbers ordered.1 (omega (arith, low)))

pub remove-finds : (held : Inventory) (number : ℕ) (condition : Condition) → IsItemMap held → None ≡ remove_refusal held number condition → AllFind held (remove_effects held number)
remove-finds held number condition tree allowed =
    let a = clear (not (is_there number (nodes_of held))) NotFound _ allowed in
    let b = clear (nat_eq number 1) Root _ a.1 in
    let c = clear (not (is_met condition (live_at number held.items))) Modified _ b.1 in
    let d = clear (nat_lt (2 ^ 64 - 1) (held.number + length (removal_order held number))) Quota _ c.1 in
    let low : held.number + length (removal_order held number) ≤ 2 ^ 64 - 1 = not-below (2 ^ 64 - 1) (held.number + length (removal_order held number)) d.0 in
    removals-find held (removal_order held number) (removal-ordered held number tree) (omega (arith, low))
