use Rattle.std.proofs.Common.{◌≡◌, max, drop}
use Rattle.od_tree.specs.Local.{greatest_number}
use Rattle.od_tree.proofs.held.greatest_number.Given as goal

abbrev pub invariant-loop-file : goal.invariant-loop-file
invariant-loop-file l = max l.greatest (greatest_number (drop l.file-index l.held)) ≡ greatest_number l.held
