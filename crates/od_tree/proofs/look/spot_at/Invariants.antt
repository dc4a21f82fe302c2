use Rattle.std.proofs.Common.{◌≡◌, drop}
use Rattle.od_tree.specs.Local.{spot_at}
use Rattle.od_tree.proofs.look.spot_at.Given as goal

abbrev pub invariant-loop-spot : goal.invariant-loop-spot
invariant-loop-spot l = spot_at l.names l.spots ≡ spot_at l.names (drop l.spot-index l.spots)
