-- What a store holds stays a tree, and its kept bytes stay within the limit.
use Rattle.std.proofs.Common.{◌≡◌, ◌+◌, ◌<◌, ◌≤◌, true, false, ℕ, List, [], ◌∷◌, length, Option, None, refl, sym, subst, arith}
use Rattle.gd_names.specs.declared.conflict.Conflict.{Conflict}
use Rattle.gd_names.specs.declared.conflict.Settle.{Settle}
use Rattle.gd_names.specs.declared.conflict.Settle.TheVariants.{Free, Over, Refuse}
use Rattle.gd_names.proofs.Settled.{settled-free}
use Rattle.gd_names.proofs.Small.{clear, un-not}
use Rattle.gd_item.specs.Inventory.{Inventory, after, after_all, PutOver}
use Rattle.gd_item.specs.Moves.{new_parent, new_name, patch_refusal, patch_effect, remove_refusal, remove_effects}
use Rattle.gd_item.specs.Refusals.{settled_in, siblings_in, folder_effect, file_effect, make_folder_refusal, make_folder_effect, put_over_refusal, put_under_refusal}
use Rattle.gd_item.specs.Sound.{IsItemMap}
use Rattle.gd_item.specs.declared.condition.Condition.{Condition}
use Rattle.gd_item.proofs.Moving.{sound-moved}
use Rattle.gd_item.proofs.Removing.{sound-removed-all}
use Rattle.gd_item.proofs.Soundness.{sound-file, sound-over}
use Rattle.gd_laws.proofs.Allowed.{MayPut, may-put}
use Rattle.gd_laws.proofs.Counts.{siblings-few}
use Rattle.gd_laws.proofs.Found.{make-finds}
use Rattle.gd_laws.proofs.Orderly.{tree-after}
use Rattle.gd_laws.proofs.Sounds.{few-items, over-file, over-light, removals-light}
use Rattle.gd_store.proofs.Steps.{IsSound, IsBegun}

-- a folder that is made
folder-light : (held : Inventory) (parent : ℕ) (name : List ℕ) (settle : Settle) → held.kept ≤ 536870912 → (after held (folder_effect parent name settle)).kept ≤ 536870912
folder-light held parent name (Free free) light = light
folder-light held parent name (Over id) light = light
folder-light held parent name Refuse light = light

pub make-sound : (old new : Inventory) (parent : ℕ) (name : List ℕ) (behaviour : Conflict) → IsBegun old → None ≡ make_folder_refusal old parent name behaviour
    → new ≡ after old (make_folder_effect old parent name behaviour) → IsSound new
make-sound old new parent name behaviour begun allowed is =
    subst IsSound (sym is) (record {
      map = tree-after old (make_folder_effect old parent name behaviour) begun.sound begun.next begun.number (make-finds old parent name behaviour allowed).1;
      light = folder-light old parent name (settled_in old parent name behaviour true) begun.light;
    })

-- a file that is put under a folder
pub under-sound : (held : Inventory) (parent : ℕ) (name bytes : List ℕ) (behaviour : Conflict) (others : ℕ) (settle : Settle) → IsItemMap held → 1 < held.next → 0 < held.number → settled_in held parent name behaviour false ≡ settle
    → MayPut held parent name bytes others settle → IsItemMap (after held (file_effect parent name bytes settle))
under-sound held parent name bytes behaviour others (Free free) sound next number is may =
    sound-file held parent free bytes sound next number may.there may.folder
    (settled-free behaviour (siblings_in parent held.items) name free false (siblings-few parent 100000 held.items held.items (siblings_in parent held.items) refl refl (few-items held _ _ may.room)) is)
under-sound held parent name bytes behaviour others (Over id) sound next number is may =
    sound-over held id bytes sound number (over-file held parent name behaviour id sound is)
under-sound held parent name bytes behaviour others Refuse sound next number is may = let had : true ≡ false = may.had in absurd cc

file-light : (held : Inventory) (parent : ℕ) (name bytes : List ℕ) (others : ℕ) (settle : Settle) → MayPut held parent name bytes others settle → (after held (file_effect parent name bytes settle)).kept ≤ 536870912
file-light held parent name bytes others (Free free) may = let light : held.kept + (length bytes + others) ≤ 536870912 = may.room.light in omega arith
file-light held parent name bytes others (Over id) may = let light : held.kept + (length bytes + others) ≤ 536870912 = may.room.light in omega arith
file-light held parent name bytes others Refuse may = let light : held.kept + (length bytes + others) ≤ 536870912 = may.room.light in omega arith

pub put-under-sound : (old new : Inventory) (parent : ℕ) (name bytes : List ℕ) (behaviour : Conflict) (condition : Condition) (others : ℕ) → IsBegun old
    → None ≡ put_under_refusal old parent name bytes behaviour condition others → new ≡ after old (file_effect parent name bytes (settled_in old parent name behaviour false)) → IsSound new
put-under-sound old new parent name bytes behaviour condition others begun allowed is =
    let settle : Settle = settled_in old parent name behaviour false in
    let may = may-put old parent name bytes behaviour condition others settle refl allowed in
    subst IsSound (sym is) (record {
      map = under-sound old parent name bytes behaviour others settle begun.sound begun.next begun.number refl may;
      light = file-light old parent name bytes others settle may;
    })

-- a file that is put over another
pub put-over-sound : (old new : Inventory) (number : ℕ) (bytes : List ℕ) (condition : Condition) (others : ℕ) → IsBegun old
    → None ≡ put_over_refusal old number bytes condition others → new ≡ after old (PutOver number bytes) → IsSound new
put-over-sound old new number bytes condition others begun allowed is =
    let a = clear _ _ _ allowed in
    let b = clear _ _ _ a.1 in
    subst IsSound (sym is) (record { map = sound-over old number bytes begun.sound begun.number b.0; light = over-light old number bytes condition others allowed })

-- an item that is moved
pub moved-sound : (old new : Inventory) (number : ℕ) (name : Option (List ℕ)) (parent : Option ℕ) (condition : Condition) → IsBegun old → None ≡ patch_refusal old number name parent condition
    → new ≡ after_all old (patch_effect old number name parent ∷ []) → IsSound new
moved-sound old new number name parent condition begun allowed is =
    let a = clear _ _ _ allowed in
    let b = clear _ _ _ a.1 in
    let c = clear _ _ _ b.1 in
    let d = clear _ _ _ c.1 in
    let e = clear _ _ _ d.1 in
    let f = clear _ _ _ e.1 in
    let g = clear _ _ _ f.1 in
    let h = clear _ _ _ g.1 in
    subst IsSound (sym is)
    (record { map = sound-moved old number (new_parent old number parent) (new_name old number name) begun.sound begun.number b.0 (un-not _ d.0) (un-not _ e.0) g.0 h.0; light = begun.light })

-- an item that is removed with all below it
pub removed-sound : (old new : Inventory) (number : ℕ) (condition : Condition) → IsBegun old → None ≡ remove_refusal old number condition → new ≡ after_all old (remove_effects old number) → IsSound new
removed-sound old new number condition begun allowed is =
    let a = clear _ _ _ allowed in
    let b = clear _ _ _ a.1 in
    subst IsSound (sym is) (record { map = sound-removed-all old number begun.sound begun.number b.0; light = removals-light old number begun.light })
