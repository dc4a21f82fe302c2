-- What holds where a call has no refusal.
use Rattle.std.proofs.Common.{◌≡◌, ℕ, ◌+◌, ◌-◌, ◌^◌, ◌<◌, ◌≤◌, true, false, ◌||◌, nat_lt, List, length, is_some, None, refl, sym, ap, subst, arith}
use Rattle.gd_names.specs.Names.{name_fault}
use Rattle.gd_names.specs.declared.conflict.Conflict.{Conflict}
use Rattle.gd_names.specs.declared.conflict.Settle.{Settle}
use Rattle.gd_names.specs.declared.conflict.Settle.TheVariants.{Free, Refuse}
use Rattle.gd_names.proofs.Small.{clear, un-not, neither, not-below}
use Rattle.gd_item.specs.declared.condition.Condition.{Condition}
use Rattle.gd_item.specs.Inventory.{Inventory}
use Rattle.gd_item.specs.Nodes.{is_folder}
use Rattle.gd_item.specs.Refusals.{is_there, settled_in, is_refuse, settled_path, is_too_long, made_items, is_over_quota, make_folder_refusal, put_under_refusal}
use Rattle.gd_item.specs.Trees.{nodes_of}

-- the room that a drive has
pub record HasRoom (held : Inventory) (items bytes : ℕ) : Type 0 where
  pub few : length held.items + 1 + items ≤ 100000
  pub early : held.number + 1 ≤ 2 ^ 64 - 1
  pub light : held.kept + bytes ≤ 536870912

pub has-room : (held : Inventory) (items bytes : ℕ) → is_over_quota held items bytes ≡ false → HasRoom held items bytes
has-room held items bytes h =
    let a = neither (nat_lt 100000 (length held.items + 1 + items) || nat_lt (2 ^ 64 - 1) (held.number + 1)) (nat_lt 536870912 (held.kept + bytes)) h in
    let b = neither (nat_lt 100000 (length held.items + 1 + items)) (nat_lt (2 ^ 64 - 1) (held.number + 1)) a.0 in
    record {
      few = not-below 100000 (length held.items + 1 + items) b.0;
      early = not-below (2 ^ 64 - 1) (held.number + 1) b.1;
      light = not-below 536870912 (held.kept + bytes) a.1;
    }

-- a folder may be made
pub record MayMake (held : Inventory) (parent : ℕ) (name : List ℕ) (settle : Settle) : Type 0 where
  pub there : is_there parent (nodes_of held) ≡ true
  pub folder : is_folder parent (nodes_of held) ≡ true
  pub named : is_some (name_fault name) ≡ false
  pub had : is_refuse settle ≡ false
  pub fits : is_too_long (settled_path held parent settle) ≡ false
  pub room : HasRoom held (made_items settle) 0

pub may-make : (held : Inventory) (parent : ℕ) (name : List ℕ) (behaviour : Conflict) (settle : Settle) → settle ≡ settled_in held parent name behaviour true
    → None ≡ make_folder_refusal held parent name behaviour → MayMake held parent name settle
may-make held parent name behaviour settle is h =
    let P : Settle → Type 0 = λ s. MayMake held parent name s in
    let a = clear _ _ _ h in
    let b = clear _ _ _ a.1 in
    let c = clear _ _ _ b.1 in
    let d = clear _ _ _ c.1 in
    let e = clear _ _ _ d.1 in
    let f = clear _ _ _ e.1 in
    subst P (sym is) (record {
      there = un-not _ a.0;
      folder = un-not _ b.0;
      named = c.0;
      had = d.0;
      fits = e.0;
      room = has-room _ _ _ f.0;
    })

-- a name that is not to be had is refused
pub not-refused : {T : Type 0} → (settle : Settle) → settle ≡ Refuse → is_refuse settle ≡ false → T
not-refused settle is had = absurd (let e : is_refuse settle ≡ true = ap is_refuse is in cc)

-- the drive has room for one more item where a name is free
pub room-for-one : (held : Inventory) (settle : Settle) (free : List ℕ) (bytes : ℕ) → settle ≡ Free free → HasRoom held (made_items settle) bytes → length held.items + 1 < 100000
room-for-one held settle free bytes is room =
    let one : made_items settle ≡ 1 = ap made_items is in
    let few : length held.items + 1 + made_items settle ≤ 100000 = room.few in
    omega arith

pub next-number : (held : Inventory) (items bytes : ℕ) → HasRoom held items bytes → held.number + 1 < 2 ^ 64
next-number held items bytes room =
    let early : held.number + 1 ≤ 2 ^ 64 - 1 = room.early in
    omega arith

-- the room for a folder that is made
pub room-to-make : (held : Inventory) (parent : ℕ) (name free : List ℕ) (behaviour : Conflict) → settled_in held parent name behaviour true ≡ Free free → None ≡ make_folder_refusal held parent name behaviour
    → length held.items + 1 < 100000
room-to-make held parent name free behaviour is h =
    let may = may-make held parent name behaviour (settled_in held parent name behaviour true) refl h in
    room-for-one held (settled_in held parent name behaviour true) free 0 is may.room

pub number-to-make : (held : Inventory) (parent : ℕ) (name : List ℕ) (behaviour : Conflict) → None ≡ make_folder_refusal held parent name behaviour → held.number + 1 < 2 ^ 64
number-to-make held parent name behaviour h =
    let may = may-make held parent name behaviour (settled_in held parent name behaviour true) refl h in
    next-number held _ 0 may.room

-- a file may be put under a folder
pub record MayPut (held : Inventory) (parent : ℕ) (name bytes : List ℕ) (others : ℕ) (settle : Settle) : Type 0 where
  pub there : is_there parent (nodes_of held) ≡ true
  pub folder : is_folder parent (nodes_of held) ≡ true
  pub named : is_some (name_fault name) ≡ false
  pub had : is_refuse settle ≡ false
  pub fits : is_too_long (settled_path held parent settle) ≡ false
  pub room : HasRoom held (made_items settle) (length bytes + others)

pub may-put : (held : Inventory) (parent : ℕ) (name bytes : List ℕ) (behaviour : Conflict) (condition : Condition) (others : ℕ) (settle : Settle) → settle ≡ settled_in held parent name behaviour false
    → None ≡ put_under_refusal held parent name bytes behaviour condition others → MayPut held parent name bytes others settle
may-put held parent name bytes behaviour condition others settle is h =
    let P : Settle → Type 0 = λ s. MayPut held parent name bytes others s in
    let a = clear _ _ _ h in
    let b = clear _ _ _ a.1 in
    let c = clear _ _ _ b.1 in
    let d = clear _ _ _ c.1 in
    let e = clear _ _ _ d.1 in
    let f = clear _ _ _ e.1 in
    let g = clear _ _ _ f.1 in
    subst P (sym is) (record {
      there = un-not _ a.0;
      folder = un-not _ b.0;
      named = c.0;
      had = e.0;
      fits = f.0;
      room = has-room _ _ _ g.0;
    })

-- the kept bytes stay in their type
pub kept-fits : (held : Inventory) (items others : ℕ) (bytes copy : List ℕ) → copy ≡ bytes → HasRoom held items (length bytes + others) → held.kept + length copy < 2 ^ 64
kept-fits held items others bytes copy same room =
    let light : held.kept + (length bytes + others) ≤ 536870912 = room.light in
    let long : length copy ≡ length bytes = ap length same in
    omega arith
