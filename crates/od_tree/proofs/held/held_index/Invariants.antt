use Rattle.std.proofs.Common.{length, ◌-◌, ◌≡◌, ◌≤◌, ◌++◌, take, drop}
use Rattle.od_tree.specs.Local.{held_at, without_held}
use Rattle.od_tree.proofs.held.held_index.Given as goal

abbrev pub invariant-loop-index : goal.invariant-loop-index
invariant-loop-index l =
    (l.index ≤ length l.held)
    × (without_held l.number l.held ≡ take l.index l.held ++ without_held l.number (drop l.index l.held))
    × (held_at l.number l.held ≡ held_at l.number (drop l.index l.held))

abbrev pub decreases-loop-index : goal.decreases-loop-index
decreases-loop-index l = length l.held - l.index
