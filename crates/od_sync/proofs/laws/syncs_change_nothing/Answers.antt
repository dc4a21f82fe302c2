use Rattle.od_sync.proofs.OwnRequests.{own_requests_keep}
use Rattle.od_sync.proofs.laws.syncs_change_nothing.Goals as goal

pub returns : goal.returns
returns c = own_requests_keep
