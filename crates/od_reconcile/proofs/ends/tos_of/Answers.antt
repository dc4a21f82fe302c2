use Rattle.std.proofs.Common.{◌<◌, ◌+◌, length, drop, arith}
use Rattle.od_reconcile.specs.Holding.{stands_at}
use Rattle.od_reconcile.proofs.Ending.{ends-more}
use Rattle.od_reconcile.proofs.Indexes.{drop-next}
use Rattle.od_reconcile.proofs.ends.tos_of.Goals as goal

pub loop-pair-preserved : goal.loop-pair-preserved
loop-pair-preserved c = λ q.
    let pairs = c.args.pairs.now in
    let i = c.loop-pair.pair-index in
    let less : i < length pairs = omega arith in
    ends-more q (stands_at c.loop-pair.tos.entries q) (stands_at c.put_absent.new.tos.entries q) c.pair-item.result (drop i pairs) (drop (i + 1) pairs) pairs
    (drop-next pairs i c.pair-item.result less c.pair-item.is) (c.loop-pair.invariant q) (c.in_ok-put_absent.ensures q)
