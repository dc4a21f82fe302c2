use Rattle.std.proofs.Common.{◌<◌, ◌+◌, length, drop, arith}
use Rattle.od_reconcile.specs.Ready.{mark_at}
use Rattle.od_reconcile.proofs.Indexes.{drop-next, marks-more}
use Rattle.od_reconcile.proofs.both.marks_of.Goals as goal

pub loop-row-preserved : goal.loop-row-preserved
loop-row-preserved c = λ q.
    let rows = c.args.rows.now in
    let i = c.loop-row.row-index in
    let less : i < length rows = omega arith in
    marks-more q (mark_at c.loop-row.marks.entries q) (mark_at c.put_absent.new.marks.entries q) c.row-item.result (drop i rows) (drop (i + 1) rows) rows
    (drop-next rows i c.row-item.result less c.row-item.is) (c.loop-row.invariant q) (c.in_ok-put_absent.ensures q)
