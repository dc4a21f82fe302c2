-- What the feed past a position has: the root, what lives and what was removed, each where it changed past the position.
use Rattle.std.specs.Prelude.{◌≡◌, ◌⊎◌, ℕ, ◌<◌, Any}
use Rattle.gd_item.specs.Inventory.{Inventory}
use Rattle.gd_item.specs.Records.{record_of, root_record, deleted_record}
use Rattle.gd_item.specs.declared.item.Item.{Item}
use Rattle.gd_item.specs.declared.live.LiveItem.{LiveItem}
use Rattle.gd_item.specs.declared.live.Tombstone.{Tombstone}

-- the root, where the feed is read from its beginning
abbrev pub IsRootEntry : Inventory → ℕ → ℕ × Item → Type 0
IsRootEntry held position entry = (position ≡ 0) × (entry ≡ (1, root_record held.items))

-- a living item, with its record
abbrev pub IsLivingEntry : Inventory → ℕ → ℕ × Item → Type 0
IsLivingEntry held position entry =
    Any (λ (item : LiveItem). (position < item.change) × (entry ≡ (item.change, record_of held.items item))) held.items

-- an item that was removed past the position and past the start
abbrev pub IsRemovedEntry : Inventory → ℕ → ℕ → ℕ × Item → Type 0
IsRemovedEntry held position start entry =
    Any (λ (stone : Tombstone). (position < stone.change) × (start < stone.change) × (entry ≡ (stone.change, deleted_record stone))) held.removed

abbrev pub IsEntry : Inventory → ℕ → ℕ → ℕ × Item → Type 0
IsEntry held position start entry = IsRootEntry held position entry ⊎ (IsLivingEntry held position entry ⊎ IsRemovedEntry held position start entry)
