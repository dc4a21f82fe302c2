use Rattle.std.proofs.Common.{◌≡◌, drop}
use Rattle.od_tree.specs.Local.{held_at}
use Rattle.od_tree.proofs.held.held_at.Given as goal

abbrev pub invariant-loop-file : goal.invariant-loop-file
invariant-loop-file l = held_at l.number l.held ≡ held_at l.number (drop l.file-index l.held)
