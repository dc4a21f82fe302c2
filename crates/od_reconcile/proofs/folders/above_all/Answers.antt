use Rattle.od_reconcile.proofs.Fronts.{above-in}
use Rattle.od_reconcile.proofs.folders.above_all.Goals as goal

pub returns : goal.returns
returns c = λ path. above-in path c.in_ok-folders.folders.keys c.args.marked.now c.in_ok-folders.ensures
