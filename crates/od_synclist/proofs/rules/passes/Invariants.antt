use Rattle.std.proofs.Common.{◌≡◌, drop}
use Rattle.od_synclist.specs.Rules.{passes}
use Rattle.od_synclist.proofs.Verdict.{passes_from}
use Rattle.od_synclist.proofs.rules.passes.Given as goal

abbrev pub invariant-loop-rule : goal.invariant-loop-rule
invariant-loop-rule l = passes l.rules l.names l.folder ≡ passes_from l.included (drop l.rule-index l.rules) l.names l.folder
