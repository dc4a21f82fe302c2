use Rattle.std.proofs.Common.{◌≡◌, ◌++◌, drop}
use Rattle.od_tree.specs.Holding.{files_of}
use Rattle.od_tree.proofs.held.files_of.Given as goal

abbrev pub invariant-loop-file : goal.invariant-loop-file
invariant-loop-file l = l.files ++ files_of (drop l.file-index l.held) ≡ files_of l.held
