use Rattle.od_reconcile.proofs.CopyNames.{copy-is}
use Rattle.od_reconcile.proofs.copies.copy_among.Goals as goal

pub returns : goal.returns
returns c = copy-is c.args.name.now c.args.folder c.args.host.now c.args.names.now c.in_ok-copy.copy c.in_ok-copy.ensures.some c.in_ok-copy.ensures.none
