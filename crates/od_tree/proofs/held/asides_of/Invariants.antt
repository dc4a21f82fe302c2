use Rattle.std.proofs.Common.{◌≡◌, ◌++◌, drop}
use Rattle.od_tree.specs.Holding.{asides_of}
use Rattle.od_tree.proofs.held.asides_of.Given as goal

abbrev pub invariant-loop-file : goal.invariant-loop-file
invariant-loop-file l = l.asides ++ asides_of (drop l.file-index l.held) ≡ asides_of l.held
