use Rattle.std.proofs.Common.{◌<◌, ◌+◌, length, drop, arith}
use Rattle.od_merge.specs.Sides.{at}
use Rattle.od_reconcile.proofs.Indexes.{drop-next, index-more}
use Rattle.od_reconcile.proofs.entries.index.Goals as goal

pub loop-entry-preserved : goal.loop-entry-preserved
loop-entry-preserved c = λ q.
    let tree = c.args.tree.now in
    let i = c.loop-entry.entry-index in
    let less : i < length tree = omega arith in
    index-more q (at c.loop-entry.found.entries q) (at c.put_absent.new.index.entries q) c.entry-item.result (drop i tree) (drop (i + 1) tree) tree
    (drop-next tree i c.entry-item.result less c.entry-item.is) (c.loop-entry.invariant q) (c.in_ok-put_absent.ensures q)
