-- What holds of every drive, whatever its log.
use Rattle.std.specs.Prelude.{◌≡◌, ◌≢◌, ℕ, ◌+◌, ◌^◌, ◌<◌, ◌≤◌, Bool, false, length, Option, Some, None}
use Rattle.std.specs.List.{All, AllByRecursion, AllPairs}
use Rattle.gd_names.specs.Names.{name_fault}
use Rattle.gd_item.specs.Inventory.{Inventory, live_at}
use Rattle.gd_item.specs.Nodes.{path_of}
use Rattle.gd_item.specs.Records.{size_of}
use Rattle.gd_item.specs.Refusals.{is_too_long}
use Rattle.gd_item.specs.Sessions.{State, Session, held, held_bytes}
use Rattle.gd_item.specs.Sound.{IsItemMap}
use Rattle.gd_item.specs.Trees.{nodes_of}
use Rattle.gd_item.specs.Versions.{accepted}
use Rattle.gd_item.specs.declared.live.LiveItem.{LiveItem}
use Rattle.gd_item.specs.declared.live.Tombstone.{Tombstone}
use Rattle.gd_item.specs.declared.live.Version.{Version}

-- an item that was removed: its number was given and no living item has it, and its change number is no living item's
pub record IsGone (held : Inventory) (stone : Tombstone) : Type 0 where
  pub above : 1 < stone.number
  pub made : stone.number < held.next
  pub later : 1 < stone.change
  pub done : stone.change ≤ held.number
  pub gone : live_at stone.number held.items ≡ None
  pub apart : AllByRecursion (λ (item : LiveItem). item.change ≢ stone.change) held.items

-- the bytes of a session come up to its whole length, where that is known, and else there are none; all of them stand
-- only where the session is deferred
abbrev pub IsFilledTo : Bool → ℕ → Option ℕ → Type 0
IsFilledTo defer count None = count ≡ 0
IsFilledTo defer count (Some total) = (count ≤ total) × (total ≤ 67108864) × (defer ≡ false → count < total)

-- a session that lives, where so many were opened
pub record IsOpen (openers : ℕ) (session : Session) : Type 0 where
  pub from_one : 1 ≤ session.number
  pub given : session.number ≤ openers
  pub filled : IsFilledTo session.defer (length session.filled) session.total

pub record EveryDrive (state : State) : Type 0 where
  -- the items: they are a tree, with names and paths that an item may have
  pub tree : IsItemMap (held state)
  pub few : length (held state).items < 100000
  pub names : All (λ (item : LiveItem). name_fault item.name ≡ None) (held state).items
  pub paths : (number : ℕ) → is_too_long (path_of (nodes_of (held state)) number) ≡ false
  -- their bytes, those of every version, and what counts against the limit
  pub sizes : All (λ (item : LiveItem). size_of item.bytes ≤ 67108864) (held state).items
  pub versions : All (λ (version : Version). length version.bytes ≤ 67108864) (accepted state.effects)
  pub light : (held state).kept + held_bytes state.sessions ≤ 536870912
  -- the numbers: that of the drive, that of the next item, and those of the removed ones, in order of their removal
  pub begun : 0 < (held state).number
  pub number : (held state).number < 2 ^ 64
  pub next_begun : 1 < (held state).next
  pub next : (held state).next ≤ (held state).number + 1
  pub gone : All (IsGone (held state)) (held state).removed
  pub gone_once : AllPairs (λ (x y : Tombstone). x.number ≢ y.number) (held state).removed
  pub gone_in_order : AllPairs (λ (x y : Tombstone). x.change < y.change) (held state).removed
  -- the epoch, and the floor
  pub epoch_begun : 1 ≤ state.epoch
  pub epoch : state.epoch < 2 ^ 64
  pub floor : state.floor ≤ (held state).number
  -- the sessions
  pub sessions : All (IsOpen (length state.openers)) state.sessions
  pub session_numbers : AllPairs (λ (x y : Session). x.number < y.number) state.sessions
  pub few_sessions : length state.sessions ≤ 1000
  pub openers : length state.openers < 2 ^ 64
