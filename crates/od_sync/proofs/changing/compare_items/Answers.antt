use Rattle.std.proofs.Common.{◌++◌}
use Rattle.od_sync.specs.PullChanges.{pull_gone, pull_put}
use Rattle.od_sync.proofs.PullWalks.{gone-more, put-next}
use Rattle.od_sync.proofs.changing.compare_items.Goals as goal

pub loop-ours-preserved-in-Equal : goal.loop-ours-preserved-in-Equal
loop-ours-preserved-in-Equal c =
    let gone = c.args.gone.now ++ pull_gone c.args.kept.now c.args.items.now in
    let put = c.args.put.now ++ pull_put c.args.kept.now c.args.items.now in
    record {
      gone = gone-more c.loop-ours.ours.now c.loop-ours.theirs.now c.old-item.result c.new-item.result c.loop-ours.gone gone c.in-len1-up.len_at_least c.in-len1-up-theirs.len_at_least c.old-item.is c.new-item.is c.in-Equal.ensures c.loop-ours.invariant.gone;
      put = put-next c.loop-ours.ours.now c.loop-ours.theirs.now c.old-item.result c.new-item.result c.loop-ours.put c.push_unless_same.new.put put c.in-len1-up.len_at_least c.in-len1-up-theirs.len_at_least c.old-item.is c.new-item.is c.in-Equal.ensures c.in_ok-push_unless_same-in-Equal.ensures c.loop-ours.invariant.put;
    }
