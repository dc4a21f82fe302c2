-- What a drive holds makes a tree. The facts on pairs are about an item and each later one.
use Rattle.std.specs.Prelude.{◌≡◌, ℕ, ◌<◌, ◌≤◌, ◌≢◌, true, false, is_some}
use Rattle.std.specs.List.{All, AllPairs}
use Rattle.gd_item.specs.declared.live.LiveItem.{LiveItem}
use Rattle.gd_item.specs.Inventory.{Inventory}
use Rattle.gd_item.specs.Nodes.{live_node, node_at, path_of, is_twin}
use Rattle.gd_item.specs.Trees.{nodes_of}

-- an item's number is above the root's and below the next one, its change number is above the root's and at most the
-- drive's
pub record IsWithin (held : Inventory) (item : LiveItem) : Type 0 where
  pub above : 1 < item.number
  pub below : item.number < held.next
  pub later : 1 < item.change
  pub done : item.change ≤ held.number

-- numbers rise and change numbers differ, every item's folders lead up to the root, and siblings differ, also but for
-- case
pub record IsItemMap (held : Inventory) : Type 0 where
  pub within : All (IsWithin held) held.items
  pub numbers : AllPairs (λ (x y : LiveItem). x.number < y.number) held.items
  pub changes : AllPairs (λ (x y : LiveItem). x.change ≢ y.change) held.items
  pub led : (number : ℕ) → is_some (node_at number (nodes_of held)) ≡ true → is_some (path_of (nodes_of held) number) ≡ true
  pub told_apart : AllPairs (λ (x y : LiveItem). is_twin (live_node y) (live_node x) ≡ false) held.items
