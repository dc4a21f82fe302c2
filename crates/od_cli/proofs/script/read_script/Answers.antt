use Rattle.std.proofs.Common.{ap, ◌+◌}
use Rattle.od_cli.proofs.Scripts.{line_read}
use Rattle.od_cli.proofs.script.read_script.Goals as goal

pub loop-line-preserved : goal.loop-line-preserved
loop-line-preserved c = (
  line_read _ c.loop-line.lines _ c.push_found.new.lines (c.loop-line.number + 1) c.loop-line.line-index c.loop-line.followed c.is_still_followed-followed.result c.as_slice-line-items.result.now c.line-item.result c.as_slice.result.now c.loop-line-test.true c.line-item.is c.as_slice.ensures c.in-Ok.ensures.ok c.is_still_followed-followed.ensures c.in_ok-push_found-in-Ok.ensures c.loop-line.invariant.0,
  ap (λ n. n + 1) c.loop-line.invariant.1,
)
