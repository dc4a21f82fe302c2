use Rattle.std.proofs.Common.{◌<◌, ◌+◌, ◌++◌, length, drop, arith}
use Rattle.od_merge.specs.Sides.{paths_of}
use Rattle.od_reconcile.specs.Copying.{names_in}
use Rattle.od_reconcile.specs.Taken.{names_at}
use Rattle.od_reconcile.proofs.FolderNames.{tree-more}
use Rattle.od_reconcile.proofs.Indexes.{drop-next}
use Rattle.od_reconcile.proofs.taken.add_tree.Goals as goal

pub loop-entry-preserved : goal.loop-entry-preserved
loop-entry-preserved c = λ q.
    let tree = c.args.tree.now in
    let i = c.loop-entry.entry-index in
    let less : i < length tree = omega arith in
    tree-more q (names_at c.loop-entry.index.entries q) (names_at c.add_path.new.index.entries q) (names_at c.args.index.now.entries q ++ names_in q (paths_of tree))
    c.entry-item.result (drop i tree) (drop (i + 1) tree) (drop-next tree i c.entry-item.result less c.entry-item.is) (c.loop-entry.invariant q) (c.in_ok-add_path.ensures q)
