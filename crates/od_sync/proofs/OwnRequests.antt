-- The requests of a sync leave a drive as it is that no one else asks: it holds the same, and a token that it serves it serves again.
use Rattle.std.proofs.Common.{◌≡◌, Bool, List, ◌++◌, refl}
use Rattle.gd_item.specs.Steps.{state_of}
use Rattle.gd_item.specs.declared.request.Request.{Request}
use Rattle.gd_item.specs.declared.request.Request.TheVariants.{Content, Download, Delta}
use Rattle.gd_item.specs.declared.step.Step.{Step}
use Rattle.od_transfer.specs.Alone.{AreOwnServed}
use Rattle.od_transfer.specs.Asking.{OwnAre}
use Rattle.od_transfer.proofs.Alone.{IsReading, reading_keeps}
use Rattle.od_transfer.proofs.Logs.{such-also}
use Rattle.od_sync.specs.Syncing.{IsSyncRequest}

-- they only read
sync-reads : (request : Request) (served heard : Bool) → IsSyncRequest request served heard → IsReading request served heard
sync-reads (Content at) served heard is = refl
sync-reads (Download id version) served heard is = refl
sync-reads (Delta token) served heard is = refl
sync-reads request served heard is = absurd (cc is)

pub own_requests_keep : (old part : List Step) → OwnAre IsSyncRequest part → AreOwnServed part → state_of (old ++ part) ≡ state_of old
own_requests_keep old part such own = reading_keeps old part own (such-also IsSyncRequest IsReading sync-reads part such)
