-- What holds of a store's items and tombstones at all times.
use Rattle.std.specs.Prelude.{◌≡◌, ◌+◌, ◌<◌, ◌≤◌, false, List, length}
use Rattle.std.specs.List.{All, AllPairs}
use Rattle.gd_item.specs.Inventory.{Inventory}
use Rattle.gd_item.specs.Nodes.{live_node, is_twin}
use Rattle.gd_item.specs.Sound.{IsItemMap}
use Rattle.gd_item.specs.declared.live.LiveItem.{LiveItem}
use Rattle.gd_item.specs.declared.live.Tombstone.{Tombstone}

-- items in order of number, none of which is the root, and siblings with different names
pub record AreApart (items : List LiveItem) : Type 0 where
  pub above : All (λ (item : LiveItem). 1 < item.number) items
  pub rise : AllPairs (λ (x y : LiveItem). x.number < y.number) items
  pub told_apart : AllPairs (λ (x y : LiveItem). is_twin (live_node y) (live_node x) ≡ false) items

-- no number is given above the drive's own, and tombstones stand in order of change
pub record IsNumbered (held : Inventory) : Type 0 where
  pub begun : 1 < held.next
  pub given : held.next ≤ held.number + 1
  pub rise : AllPairs (λ (x y : Tombstone). x.change < y.change) held.removed
  pub done : All (λ (stone : Tombstone). stone.change ≤ held.number) held.removed

-- fewer than 100,000 items beside the root, and a tree
pub record IsKept (held : Inventory) : Type 0 where
  pub few : length held.items < 100000
  pub numbered : IsNumbered held
  pub map : IsItemMap held
