use Rattle.std.proofs.Common.{List}
use Rattle.od_tree.specs.Local.{spot_at}
use Rattle.od_tree.specs.declared.local.Spot.{Spot}
use Rattle.od_tree.proofs.Removing.{taken}
use Rattle.od_tree.proofs.spots.take_spot.Goals as goal

pub returns-in-Some-clause-spot : goal.returns-in-Some-clause-spot
returns-in-Some-clause-spot c =
    taken (λ (xs : List Spot). spot_at c.args.at.now xs) c.as_slice.result.now c.args.spots.now.items c.in-Some.index c.remove.result c.as_slice.ensures.value c.in-Some.ensures.left.0 c.remove.ensures.value
    c.in-Some.ensures.spot
