use Rattle.std.proofs.Common.{length, ◌-◌, ◌≡◌, ◌≤◌, ◌++◌, take, drop}
use Rattle.od_tree.specs.Local.{spot_at, without_spot}
use Rattle.od_tree.proofs.spots.index_at.Given as goal

abbrev pub invariant-loop-index : goal.invariant-loop-index
invariant-loop-index l =
    (l.index ≤ length l.spots)
    × (without_spot l.at l.spots ≡ take l.index l.spots ++ without_spot l.at (drop l.index l.spots))
    × (spot_at l.at l.spots ≡ spot_at l.at (drop l.index l.spots))

abbrev pub decreases-loop-index : goal.decreases-loop-index
decreases-loop-index l = length l.spots - l.index
