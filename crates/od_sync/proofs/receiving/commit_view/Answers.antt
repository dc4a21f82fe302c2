use Rattle.od_sync.proofs.ReceivedImages.{received-is}
use Rattle.od_sync.proofs.receiving.commit_view.Goals as goal

pub returns-clause-received : goal.returns-clause-received
returns-clause-received g c =
    received-is c.args.image.now c.in_ok-image.image c.as_slice.result.now c.args.view.now.items c.args.view.now.token c.in_ok-remote.remote c.in_ok-change.change c.as_slice.ensures c.in_ok-change.ensures c.in_ok-image.ensures.next c.in_ok-remote.ensures
