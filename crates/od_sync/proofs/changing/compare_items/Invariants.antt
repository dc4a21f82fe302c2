use Rattle.std.proofs.Common.{◌≡◌, ◌++◌, ◌+◌, length}
use Rattle.od_sync.specs.PullChanges.{pull_gone, pull_put}
use Rattle.od_sync.proofs.changing.compare_items.Given as goal

abbrev pub invariant-loop-ours : goal.invariant-loop-ours
invariant-loop-ours l = record {
  gone : l.gone ++ pull_gone l.ours l.theirs ≡ l.fn.gone ++ pull_gone l.fn.kept l.fn.items;
  put : l.put ++ pull_put l.ours l.theirs ≡ l.fn.put ++ pull_put l.fn.kept l.fn.items;
}

abbrev pub decreases-loop-ours : goal.decreases-loop-ours
decreases-loop-ours l = length l.ours + length l.theirs
