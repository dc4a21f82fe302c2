use Rattle.std.proofs.Common.{◌≡◌, ◌++◌, length, map, filter}
use Rattle.od_synclist.specs.Rules.{is_rule, rule_of, rules_of}
use Rattle.std.specs.Str.Lines.{lines}
use Rattle.od_synclist.proofs.rules.read_rules.Given as goal

abbrev pub invariant-loop-rest : goal.invariant-loop-rest
invariant-loop-rest l = l.rules ++ map rule_of (filter is_rule (lines l.rest)) ≡ rules_of l.bytes

abbrev pub decreases-loop-rest : goal.decreases-loop-rest
decreases-loop-rest l = length l.rest
