use Rattle.od_run.proofs.Goods.{nothing-lost}
use Rattle.od_run.proofs.laws.it_loses_nothing.Goals as goal

pub returns : goal.returns
returns c = nothing-lost
