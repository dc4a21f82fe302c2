-- What a keeper says of a fault of its database, and how often it has met one that is not want of memory.
use Rattle.std.specs.Prelude.{ℕ}
use Rattle.od_keeper.specs.declared.fault.KeeperFault.{KeeperFault}
use Rattle.od_keeper.specs.declared.fault.KeeperFault.TheVariants as keeper
use Rattle.od_database.specs.declared.fault.DatabaseFault.{DatabaseFault}
use Rattle.od_database.specs.declared.fault.DatabaseFault.TheVariants.{Refused, NoImage, Memory}

abbrev pub keeper_fault : DatabaseFault → KeeperFault
keeper_fault Refused = keeper.Failed
keeper_fault NoImage = keeper.Failed
keeper_fault Memory = keeper.Memory
