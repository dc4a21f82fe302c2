use Rattle.std.proofs.Common.{◌≡◌, [], ◌++◌, drop}
use Rattle.od_sync.specs.PullChanges.{pull_gone}
use Rattle.od_sync.proofs.changing.push_ids.Given as goal

abbrev pub invariant-loop-item : goal.invariant-loop-item
invariant-loop-item l = l.ids ++ pull_gone (drop l.item-index l.items) [] ≡ l.fn.ids ++ pull_gone l.items []
