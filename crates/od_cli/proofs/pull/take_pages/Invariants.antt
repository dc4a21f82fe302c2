use Rattle.od_cli.proofs.Pages.{TakingOn}
use Rattle.od_cli.proofs.pull.take_pages.Given as goal

abbrev pub invariant-loop-left : goal.invariant-loop-left
invariant-loop-left l = TakingOn l.fn.world l.world l.mirror l.left

abbrev pub decreases-loop-left : goal.decreases-loop-left
decreases-loop-left l = l.left
