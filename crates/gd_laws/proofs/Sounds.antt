-- What a drive has room for, and what stands over what.
use Rattle.std.proofs.Common.{◌≡◌, ℕ, ◌+◌, ◌^◌, ◌<◌, ◌≤◌, false, not, cond, nat_eq, map, List, [], ◌∷◌, length, Option, Some, None, refl, sym, subst, arith}
use Rattle.std.specs.List.{All}
use Rattle.std.proofs.lemmas.List.Elements.{All-weaker}
use Rattle.gd_names.specs.Caseless.{equal_caseless}
use Rattle.gd_names.specs.declared.conflict.Conflict.{Conflict}
use Rattle.gd_names.specs.declared.conflict.Sibling.{Sibling}
use Rattle.gd_names.specs.declared.conflict.Settle.TheVariants.{Over}
use Rattle.gd_names.proofs.Settled.{over-sibling}
use Rattle.gd_names.proofs.Small.{clear}
use Rattle.gd_item.specs.Inventory.{Inventory, after, after_all, Moved, Removed, live_at}
use Rattle.gd_item.specs.Moves.{new_parent, new_name, is_bad_name, is_in, is_taken_by_other, is_any_too_long, patch_refusal, removal_order, remove_effects}
use Rattle.gd_item.specs.Nodes.{is_folder, path_of}
use Rattle.gd_item.specs.Refusals.{is_there, is_met, is_too_long, is_over_quota, settled_in, siblings_in, put_over_refusal}
use Rattle.gd_item.specs.Sound.{IsWithin, IsItemMap}
use Rattle.gd_item.specs.Trees.{nodes_of}
use Rattle.gd_item.specs.declared.condition.Condition.{Condition}
use Rattle.gd_item.specs.declared.fault.StoreFault.{StoreFault}
use Rattle.gd_item.specs.declared.live.LiveItem.{LiveItem}
use Rattle.gd_item.specs.declared.fault.StoreFault.TheVariants.{NotFound, NotFolder, NotFile, Root, BadName, Modified, IntoItself, NameTaken, PathTooLong, Quota}
use Rattle.gd_laws.proofs.Allowed.{HasRoom, has-room, next-number}
use Rattle.gd_laws.proofs.Files.{file-at}

pub few-items : (held : Inventory) (items bytes : ℕ) → HasRoom held items bytes → length held.items < 100000
few-items held items bytes room = let few : length held.items + 1 + items ≤ 100000 = room.few in omega arith

-- a file that stands in a folder is one by its number
pub over-file : (held : Inventory) (parent : ℕ) (name : List ℕ) (behaviour : Conflict) (number : ℕ) → IsItemMap held → settled_in held parent name behaviour false ≡ Over number → is_folder number (nodes_of held) ≡ false
over-file held parent name behaviour number sound is =
    let over = over-sibling behaviour (siblings_in parent held.items) name false number is in
    let big : All (λ (x : LiveItem). 1 < x.number) held.items = All-weaker (IsWithin held) (λ x. 1 < x.number) (λ x h. h.above) held.items sound.within in
    let P : ℕ → Type 0 = λ n. is_folder n (nodes_of held) ≡ false in
    subst P over.2 (file-at (λ (s : Sibling). equal_caseless s.name name) parent held.items over.0 sound.numbers big over.1 over.3)

-- the drive has room for a file that is put over another
pub over-room : (held : Inventory) (number : ℕ) (bytes : List ℕ) (condition : Condition) (others : ℕ) → None ≡ put_over_refusal held number bytes condition others → HasRoom held 0 (length bytes + others)
over-room held number bytes condition others allowed =
    let full : Option StoreFault = cond (is_over_quota held 0 (length bytes + others)) (Some Quota) None in
    let long : Option StoreFault = cond (is_too_long (path_of (nodes_of held) number)) (Some PathTooLong) full in
    let unmet : Option StoreFault = cond (not (is_met condition (live_at number held.items))) (Some Modified) long in
    let folder : Option StoreFault = cond (is_folder number (nodes_of held)) (Some NotFile) unmet in
    let a : (not (is_there number (nodes_of held)) ≡ false) × (None ≡ folder) = clear (not (is_there number (nodes_of held))) NotFound folder allowed in
    let b : (is_folder number (nodes_of held) ≡ false) × (None ≡ unmet) = clear (is_folder number (nodes_of held)) NotFile unmet a.1 in
    let c : (not (is_met condition (live_at number held.items)) ≡ false) × (None ≡ long) = clear (not (is_met condition (live_at number held.items))) Modified long b.1 in
    let d : (is_too_long (path_of (nodes_of held) number) ≡ false) × (None ≡ full) = clear (is_too_long (path_of (nodes_of held) number)) PathTooLong full c.1 in
    let e : is_over_quota held 0 (length bytes + others) ≡ false = (clear (is_over_quota held 0 (length bytes + others)) Quota None d.1).0 in
    has-room held 0 (length bytes + others) e

pub over-light : (held : Inventory) (number : ℕ) (bytes : List ℕ) (condition : Condition) (others : ℕ) → None ≡ put_over_refusal held number bytes condition others → held.kept + length bytes ≤ 536870912
over-light held number bytes condition others allowed =
    let light : held.kept + (length bytes + others) ≤ 536870912 = (over-room held number bytes condition others allowed).light in
    omega arith

-- removals keep the count of bytes
pub removals-kept : (numbers : List ℕ) (held : Inventory) → (after_all held (map Removed numbers)).kept ≡ held.kept
removals-kept [] held = refl
removals-kept (number ∷ numbers) held = removals-kept numbers (after held (Removed number))

pub removals-light : (held : Inventory) (number : ℕ) → held.kept ≤ 536870912 → (after_all held (remove_effects held number)).kept ≤ 536870912
removals-light held number light = subst (λ kept. kept ≤ 536870912) (sym (removals-kept (removal_order held number) held)) light

-- an item may be moved only before the last number
pub may-move : (held : Inventory) (number : ℕ) (name : Option (List ℕ)) (parent : Option ℕ) (condition : Condition) → None ≡ patch_refusal held number name parent condition → held.number + 1 < 2 ^ 64
may-move held number name parent condition h =
    let to : ℕ = new_parent held number parent in
    let named : List ℕ = new_name held number name in
    let a = clear (not (is_there number (nodes_of held))) NotFound _ h in
    let b = clear (nat_eq number 1) Root _ a.1 in
    let c = clear (is_bad_name name) BadName _ b.1 in
    let d = clear (not (is_there to (nodes_of held))) NotFound _ c.1 in
    let e = clear (not (is_folder to (nodes_of held))) NotFolder _ d.1 in
    let f = clear (not (is_met condition (live_at number held.items))) Modified _ e.1 in
    let g = clear (is_in (nodes_of held) number to) IntoItself _ f.1 in
    let i = clear (is_taken_by_other number to named held.items) NameTaken _ g.1 in
    let j = clear (is_any_too_long (after held (Moved number to named)) number) PathTooLong _ i.1 in
    let k = clear (is_over_quota held 0 0) Quota _ j.1 in
    next-number held 0 0 (has-room held 0 0 k.0)
