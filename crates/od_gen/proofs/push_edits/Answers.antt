use Rattle.std.proofs.Common.{string_bytes}
use Rattle.od_gen.specs.Generated.{edits_text}
use Rattle.od_gen.proofs.Loops.{one_more, both}
use Rattle.od_gen.proofs.push_edits.Goals as goal

pub loop-i-preserved : goal.loop-i-preserved
loop-i-preserved c = one_more edits_text (string_bytes c.args.script.now) _ _ c.loop-i.i c.loop-i.invariant
    (both _ _ _ _ _ c.in_ok-push_numbered.ensures c.in_ok-push_numbered-2.ensures)
