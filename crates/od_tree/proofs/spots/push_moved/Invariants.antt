use Rattle.std.proofs.Common.{◌≡◌, ◌++◌, drop}
use Rattle.od_tree.specs.Local.{moved_from}
use Rattle.od_tree.proofs.spots.push_moved.Given as goal

abbrev pub invariant-loop-spot : goal.invariant-loop-spot
invariant-loop-spot l = l.moved.items ++ moved_from l.from l.to (drop l.spot-index l.spots) ≡ l.fn.moved.items ++ moved_from l.from l.to l.spots
