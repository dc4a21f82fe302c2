use Rattle.std.proofs.Common.{◌<◌, ◌+◌, length, drop, arith}
use Rattle.od_reconcile.specs.Plans.{item_at}
use Rattle.od_reconcile.proofs.Indexes.{drop-next}
use Rattle.od_reconcile.proofs.Listed.{items-more}
use Rattle.od_reconcile.proofs.planning.index_of.Goals as goal

pub loop-entry-preserved : goal.loop-entry-preserved
loop-entry-preserved c = λ q.
    let items = c.args.items.now in
    let i = c.loop-entry.entry-index in
    let less : i < length items = omega arith in
    items-more q (item_at c.loop-entry.found.entries q) (item_at c.put_absent.new.index.entries q) c.entry-item.result (drop i items) (drop (i + 1) items) items
    (drop-next items i c.entry-item.result less c.entry-item.is) (c.loop-entry.invariant q) (c.in_ok-put_absent.ensures q)
