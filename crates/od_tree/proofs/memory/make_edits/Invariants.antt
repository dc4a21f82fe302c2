use Rattle.std.proofs.Common.{◌≡◌, true, take}
use Rattle.od_tree.specs.Doing.{Begins}
use Rattle.od_tree.specs.Memory.{is_empty}
use Rattle.od_tree.specs.Tied.{with_tied}
use Rattle.od_tree.proofs.memory.make_edits.Given as goal

abbrev pub invariant-loop-call : goal.invariant-loop-call
invariant-loop-call l = record {
  log : Begins l.fn.folder l.folder;
  tied : l.folder ≡ with_tied l.fn.folder (take l.call-index l.edits) l.kind l.number;
  alone : is_empty l.edits ≡ true → l.folder ≡ l.fn.folder;
}
