use Rattle.od_reconcile.proofs.Fronts.{from-in}
use Rattle.od_reconcile.proofs.folders.from_all.Goals as goal

pub returns : goal.returns
returns c = λ path. from-in path c.in_ok-folders.folders.keys c.add_all.new.folders.keys c.args.marked.now c.in_ok-folders.ensures c.in_ok-add_all.ensures
