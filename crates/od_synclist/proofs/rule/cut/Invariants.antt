use Rattle.std.proofs.Common.{◌≡◌, ◌++◌, [], drop}
use Rattle.gd_names.specs.Paths.{parts_from}
use Rattle.od_synclist.proofs.rule.cut.Given as goal

abbrev pub invariant-loop-b : goal.invariant-loop-b
invariant-loop-b l = l.components ++ parts_from l.current (drop l.b-index l.text) ≡ l.fn.begun ++ parts_from [] l.text
