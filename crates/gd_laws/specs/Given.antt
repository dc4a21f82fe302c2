-- The versions of an item that a drive can still give.
use Rattle.std.specs.Prelude.{ℕ, Bool, List, ◌++◌, filter, nat_eq}
use Rattle.gd_item.specs.Inventory.{Inventory, live_at, version_of}
use Rattle.gd_item.specs.declared.live.Version.{Version}

-- whether a version is one of this item
abbrev pub is_version_of : ℕ → Version → Bool
is_version_of number version = nat_eq version.item number

-- the versions of an item that later puts replaced, and then the one that stands in it
abbrev pub given_versions : ℕ → Inventory → List Version
given_versions number held = filter (is_version_of number) held.replaced ++ version_of (live_at number held.items)
