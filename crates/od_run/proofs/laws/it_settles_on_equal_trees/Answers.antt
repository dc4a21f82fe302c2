use Rattle.od_run.proofs.Goods.{settled-equal}
use Rattle.od_run.proofs.laws.it_settles_on_equal_trees.Goals as goal

pub returns : goal.returns
returns c = settled-equal
