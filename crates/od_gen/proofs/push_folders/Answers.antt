use Rattle.std.proofs.Common.{string_bytes}
use Rattle.od_gen.specs.Generated.{folder_text}
use Rattle.od_gen.proofs.Loops.{one_more}
use Rattle.od_gen.proofs.push_folders.Goals as goal

pub loop-j-preserved : goal.loop-j-preserved
loop-j-preserved c = one_more folder_text (string_bytes c.args.script.now) _ _ c.loop-j.j c.loop-j.invariant c.in_ok-push_numbered.ensures
