use Rattle.std.proofs.Common.{string_bytes}
use Rattle.od_gen.specs.Generated.{rule_text}
use Rattle.od_gen.proofs.Loops.{one_more}
use Rattle.od_gen.proofs.push_rules.Goals as goal

pub loop-i-preserved : goal.loop-i-preserved
loop-i-preserved c = one_more rule_text (string_bytes c.args.script.now) _ _ c.loop-i.i c.loop-i.invariant c.in_ok-push_rule.ensures
