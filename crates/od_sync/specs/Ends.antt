-- How a sync ends for what stopped it, and the causes of its ends.
use Rattle.std.specs.Prelude.{◌≡◌, ℕ, ◌-◌, ◌≤◌, Result, IsErrOf}
use Rattle.gd_names.specs.Streams.{Rose}
use Rattle.gd_item.specs.declared.id.ItemId.{ItemId}
use Rattle.od_keeper.specs.declared.fault.KeeperFault.{KeeperFault}
use Rattle.od_keeper.specs.declared.fault.KeeperFault.TheVariants as keeper
use Rattle.od_transfer.specs.Asking.{RoseBy}
use Rattle.od_sync.specs.declared.ends.SyncEnd.{SyncEnd}
use Rattle.od_sync.specs.declared.ends.SyncEnd.TheVariants as end
use Rattle.od_sync.specs.declared.ends.SyncStop.{SyncStop}
use Rattle.od_sync.specs.declared.ends.SyncStop.TheVariants as stop
use Rattle.od_sync.specs.declared.pulling.PullStop.{PullStop}
use Rattle.od_sync.specs.declared.pulling.PullStop.TheVariants as pull
use Rattle.od_sync.specs.declared.scanning.FolderFault.{FolderFault}
use Rattle.od_sync.specs.declared.scanning.FolderFault.TheVariants as folder

abbrev pub end_of_stop : SyncStop → SyncEnd
end_of_stop stop.LinkFault = end.LinkFault
end_of_stop stop.TreeFault = end.TreeFault
end_of_stop stop.KeeperFault = end.KeeperFault
end_of_stop (stop.BadPages id) = end.BadPages id
end_of_stop stop.Unserved = end.Unserved
end_of_stop stop.Memory = end.Memory

abbrev pub stop_of_pull : PullStop → SyncStop
stop_of_pull pull.LinkFault = stop.LinkFault
stop_of_pull pull.Unserved = stop.Unserved
stop_of_pull (pull.BadPages id) = stop.BadPages id
stop_of_pull pull.Memory = stop.Memory

abbrev pub stop_of_folder : FolderFault → SyncStop
stop_of_folder folder.Failed = stop.TreeFault
stop_of_folder folder.Memory = stop.Memory

abbrev pub stop_of_keeper : KeeperFault → SyncStop
stop_of_keeper keeper.Failed = stop.KeeperFault
stop_of_keeper keeper.Memory = stop.Memory

-- the counts of a sync's objects: failures of the drive, its replies and the failures in a row, and failures of the folder
-- and of the keeper
pub record Counts : Type 0 where
  pub link_faults : ℕ
  pub answers : ℕ
  pub in_row : ℕ
  pub tree_faults : ℕ
  pub keeper_faults : ℕ

abbrev pub counts : ℕ → ℕ → ℕ → ℕ → ℕ → Counts
counts link_faults answers in_row tree_faults keeper_faults =
    record { link_faults = link_faults; answers = answers; in_row = in_row; tree_faults = tree_faults; keeper_faults = keeper_faults }

-- so many replies and so many failures, three together
abbrev pub ThreeSends : Counts → Counts → Type 0
ThreeSends before now =
    (replies : ℕ) × (replies ≤ 3) × RoseBy replies before.answers now.answers × RoseBy (3 - replies) before.link_faults now.link_faults

-- no count falls, and what stopped a sync shows in the counts
pub record HasStopCause (before now : Counts) {T : Type 0} (result : Result T SyncStop) : Type 0 where
  pub link_later : before.link_faults ≤ now.link_faults
  pub answers_later : before.answers ≤ now.answers
  pub tree_later : before.tree_faults ≤ now.tree_faults
  pub keeper_later : before.keeper_faults ≤ now.keeper_faults
  pub link : IsErrOf result stop.LinkFault → RoseBy 3 before.link_faults now.link_faults × (3 ≤ now.in_row)
  pub tree : IsErrOf result stop.TreeFault → Rose before.tree_faults now.tree_faults
  pub keeper : IsErrOf result stop.KeeperFault → Rose before.keeper_faults now.keeper_faults
  pub bad : (id : ItemId) → IsErrOf result (stop.BadPages id) → Rose before.answers now.answers
  pub unserved : IsErrOf result stop.Unserved → Rose before.answers now.answers × ThreeSends before now

-- no count falls, and each end shows in the counts; want of memory alone shows in none
pub record HasCause (before now : Counts) (ended : SyncEnd) : Type 0 where
  pub link_later : before.link_faults ≤ now.link_faults
  pub answers_later : before.answers ≤ now.answers
  pub tree_later : before.tree_faults ≤ now.tree_faults
  pub keeper_later : before.keeper_faults ≤ now.keeper_faults
  pub settled : ended ≡ end.Settled → Rose before.answers now.answers
  pub unsettled : ended ≡ end.Unsettled → RoseBy 3 before.answers now.answers
  pub link : ended ≡ end.LinkFault → RoseBy 3 before.link_faults now.link_faults × (3 ≤ now.in_row)
  pub tree : ended ≡ end.TreeFault → Rose before.tree_faults now.tree_faults
  pub keeper : ended ≡ end.KeeperFault → Rose before.keeper_faults now.keeper_faults
  pub bad : (id : ItemId) → ended ≡ end.BadPages id → Rose before.answers now.answers
  pub unserved : ended ≡ end.Unserved → Rose before.answers now.answers × ThreeSends before now
