use Rattle.od_sync.proofs.Going.{are-sides}
use Rattle.od_sync.proofs.looking.commit_agreement.Goals as goal

pub returns-clause-sides : goal.returns-clause-sides
returns-clause-sides g c =
    are-sides c.args.received c.args.local c.as_slice-2.result.now c.as_slice.result.now c.as_slice-3.result.now c.in_ok-image.image c.in_ok-change.change
    c.as_slice.ensures c.as_slice-2.ensures c.as_slice-3.ensures c.in_ok-change.ensures c.in_ok-image.ensures.next
