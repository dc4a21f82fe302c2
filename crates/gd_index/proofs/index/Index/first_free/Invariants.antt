use Rattle.std.proofs.Common.{◌+◌}
use Rattle.gd_index.proofs.Naming.{AllTaken}
use Rattle.gd_index.proofs.index.Index.first_free.Given as goal

abbrev pub invariant-loop-before : goal.invariant-loop-before
invariant-loop-before l = AllTaken l.self l.parent l.name l.folder (l.before + 1)
