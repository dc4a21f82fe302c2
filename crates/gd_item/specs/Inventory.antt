-- What a drive holds is read off the list of its effects. An effect is one made folder, one put, one move or one
-- removal; each raises the drive's number by one, and made items get the numbers 2, 3 and so on.
use Rattle.std.specs.Prelude.{ℕ, ◌+◌, ◌-◌, not, cond, List, [], ◌∷◌, ◌++◌, length, take, filter, nat_eq, Option, Some, None}
use Rattle.gd_item.specs.declared.live.LiveItem.{LiveItem}
use Rattle.gd_item.specs.declared.live.Tombstone.{Tombstone}
use Rattle.gd_item.specs.declared.live.Version.{Version}

-- what one accepted step did
pub data Effect : Type 0 where
  MadeFolder : (parent : ℕ) (name : List ℕ) → Effect
  PutNew : (parent : ℕ) (name : List ℕ) (bytes : List ℕ) → Effect
  PutOver : (number : ℕ) (bytes : List ℕ) → Effect
  Moved : (number parent : ℕ) (name : List ℕ) → Effect
  Removed : (number : ℕ) → Effect

-- what a drive holds: its change number, the number of the next item, the items that live in order of number, the
-- removed ones in order of removal, the versions that a later put replaced, and how many bytes all puts brought
pub record Inventory : Type 0 where
  pub number : ℕ
  pub next : ℕ
  pub items : List LiveItem
  pub removed : List Tombstone
  pub replaced : List Version
  pub kept : ℕ

-- a new drive has its root alone
abbrev pub new_drive : Inventory
new_drive = record { number = 1; next = 2; items = []; removed = []; replaced = []; kept = 0 }

-- an item that was just made at this change number
abbrev pub made_folder : ℕ → ℕ → ℕ → List ℕ → LiveItem
made_folder change number parent name =
    record { number = number; parent = parent; name = name; bytes = None; change = change; content = 0 }

abbrev pub made_file : ℕ → ℕ → ℕ → List ℕ → List ℕ → LiveItem
made_file change number parent name bytes =
    record { number = number; parent = parent; name = name; bytes = Some bytes; change = change; content = change }

-- an item with new bytes, and one at a new place
abbrev pub with_bytes : ℕ → List ℕ → LiveItem → LiveItem
with_bytes change bytes item = record item { bytes = Some bytes; change = change; content = change }

abbrev pub with_place : ℕ → ℕ → List ℕ → LiveItem → LiveItem
with_place change parent name item = record item { parent = parent; name = name; change = change }

-- the items, of which the one with this number is changed
abbrev pub changed : ℕ → (LiveItem → LiveItem) → List LiveItem → List LiveItem
changed number change [] = []
changed number change (item ∷ items) = cond (nat_eq item.number number) (change item ∷ items) (item ∷ changed number change items)

-- the living item of a number
abbrev pub live_at : ℕ → List LiveItem → Option LiveItem
live_at number [] = None
live_at number (item ∷ items) = cond (nat_eq item.number number) (Some item) (live_at number items)

-- the tombstone of an item that is removed at this change number
abbrev pub tombstone_of : ℕ → Option LiveItem → List Tombstone
tombstone_of change None = []
tombstone_of change (Some item) = record { number = item.number; parent = item.parent; change = change } ∷ []

-- the version that stands in a file, and that of an item that may be there
abbrev pub version_in : LiveItem → Option (List ℕ) → List Version
version_in item None = []
version_in item (Some bytes) = record { item = item.number; content = item.content; bytes = bytes } ∷ []

abbrev pub version_of : Option LiveItem → List Version
version_of None = []
version_of (Some item) = version_in item item.bytes

-- what the drive holds after one more effect
abbrev pub after : Inventory → Effect → Inventory
after held (MadeFolder parent name) =
    record held { number = held.number + 1; next = held.next + 1; items = held.items ++ made_folder (held.number + 1) held.next parent name ∷ [] }
after held (PutNew parent name bytes) =
    record held { number = held.number + 1; next = held.next + 1; items = held.items ++ made_file (held.number + 1) held.next parent name bytes ∷ []; kept = held.kept + length bytes }
after held (PutOver number bytes) =
    record held { number = held.number + 1; items = changed number (with_bytes (held.number + 1) bytes) held.items; replaced = held.replaced ++ version_of (live_at number held.items); kept = held.kept + length bytes }
after held (Moved number parent name) =
    record held { number = held.number + 1; items = changed number (with_place (held.number + 1) parent name) held.items }
after held (Removed number) =
    record held { number = held.number + 1; items = filter (λ item. not (nat_eq item.number number)) held.items; removed = held.removed ++ tombstone_of (held.number + 1) (live_at number held.items) }

-- what the drive holds after these effects
abbrev pub after_all : Inventory → List Effect → Inventory
after_all held [] = held
after_all held (effect ∷ effects) = after_all (after held effect) effects

-- what a drive holds whose effects are these
abbrev pub inventory : List Effect → Inventory
inventory effects = after_all new_drive effects

-- what it held after the first effects, whose number was this
abbrev pub inventory_at : ℕ → List Effect → Inventory
inventory_at number effects = inventory (take (number - 1) effects)
