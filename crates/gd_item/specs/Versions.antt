-- The versions that a drive accepted: one for each put, with the item, its content number and its bytes.
use Rattle.std.specs.Prelude.{ℕ, ◌+◌, ◌&&◌, cond, List, [], ◌∷◌, ◌++◌, length, map, filter, reverse, nat_eq, Option, Some, None}
use Rattle.gd_item.specs.Inventory.{Effect, MadeFolder, PutNew, PutOver, Moved, Removed, Inventory, new_drive, live_at, after}
use Rattle.gd_item.specs.declared.live.LiveItem.{LiveItem}
use Rattle.gd_item.specs.declared.live.Version.{Version}
use Rattle.gd_item.specs.declared.live.VersionInfo.{VersionInfo}

-- the version that an effect put
abbrev pub put_by : Inventory → Effect → List Version
put_by held (MadeFolder parent name) = []
put_by held (PutNew parent name bytes) = record { item = held.next; content = held.number + 1; bytes = bytes } ∷ []
put_by held (PutOver number bytes) = record { item = number; content = held.number + 1; bytes = bytes } ∷ []
put_by held (Moved number parent name) = []
put_by held (Removed number) = []

-- the versions that effects put, one after the other
abbrev pub accepted_after : Inventory → List Effect → List Version
accepted_after held [] = []
accepted_after held (effect ∷ effects) = put_by held effect ++ accepted_after (after held effect) effects

-- all versions that a drive accepted whose effects are these
abbrev pub accepted : List Effect → List Version
accepted effects = accepted_after new_drive effects

-- the bytes of an item's replaced version
abbrev pub replaced_bytes : ℕ → ℕ → List Version → Option (List ℕ)
replaced_bytes number content [] = None
replaced_bytes number content (version ∷ versions) =
    cond (nat_eq version.item number && nat_eq version.content content) (Some version.bytes) (replaced_bytes number content versions)

-- the bytes of a version of a living file: those that stand in it, or replaced ones
abbrev pub file_version : ℕ → List Version → LiveItem → Option (List ℕ) → Option (List ℕ)
file_version content replaced item None = None
file_version content replaced item (Some bytes) = cond (nat_eq item.content content) (Some bytes) (replaced_bytes item.number content replaced)

abbrev pub item_version : ℕ → List Version → Option LiveItem → Option (List ℕ)
item_version content replaced None = None
item_version content replaced (Some item) = file_version content replaced item item.bytes

-- the bytes of a version of an item, if it is a living file that has such a version
abbrev pub version_at : ℕ → ℕ → Inventory → Option (List ℕ)
version_at number content held = item_version content held.replaced (live_at number held.items)

-- the content number of the item of a number
abbrev pub content_of : Option LiveItem → ℕ
content_of None = 0
content_of (Some item) = item.content

abbrev pub content_at : ℕ → Inventory → ℕ
content_at number held = content_of (live_at number held.items)

-- the list of an item's versions: of each its content number and its size, the last one first
abbrev pub info_of : Version → VersionInfo
info_of version = record { version = version.content; size = length version.bytes }

abbrev pub versions_of : ℕ → List Version → List VersionInfo
versions_of number versions = reverse (map info_of (filter (λ (version : Version). nat_eq version.item number) versions))
