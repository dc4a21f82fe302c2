use Rattle.std.proofs.Common.{◌≡◌, ◌++◌, string_bytes}
use Rattle.std.specs.List.{flat_map}
use Rattle.od_gen.specs.Generated.{rule_text, up_to}
use Rattle.od_gen.proofs.push_rules.Given as goal

abbrev pub invariant-loop-i : goal.invariant-loop-i
invariant-loop-i l = string_bytes l.script ≡ string_bytes l.fn.script ++ flat_map rule_text (up_to l.i)
