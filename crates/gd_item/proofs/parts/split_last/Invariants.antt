use Rattle.std.proofs.Common.{◌≡◌, ◌++◌, length}
use Rattle.gd_item.specs.Places.{names_above, last_name}
use Rattle.gd_item.proofs.parts.split_last.Given as goal

abbrev pub invariant-loop-names : goal.invariant-loop-names
invariant-loop-names l = (l.above ++ names_above l.names ≡ names_above l.fn.path) × (last_name l.names ≡ last_name l.fn.path)

abbrev pub decreases-loop-names : goal.decreases-loop-names
decreases-loop-names l = length l.names
