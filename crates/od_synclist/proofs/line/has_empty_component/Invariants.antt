use Rattle.std.proofs.Common.{◌≡◌, drop}
use Rattle.od_synclist.specs.Rules.{has_empty_component}
use Rattle.od_synclist.proofs.Components.{is_any_empty}
use Rattle.od_synclist.proofs.line.has_empty_component.Given as goal

abbrev pub invariant-loop-b : goal.invariant-loop-b
invariant-loop-b l = has_empty_component l.line ≡ is_any_empty l.is_empty (drop l.b-index l.b-items)
