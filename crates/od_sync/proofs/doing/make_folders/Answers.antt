use Rattle.std.proofs.Common.{arith}
use Rattle.od_sync.proofs.SyncAlone.{tree-then}
use Rattle.od_sync.proofs.Placed.{folder-then, makes-more}
use Rattle.od_sync.proofs.doing.make_folders.Goals as goal

pub returns-in_err-make_next-clause-log : goal.returns-in_err-make_next-clause-log
returns-in_err-make_next-clause-log g c =
    folder-then c.args.folders.now c.loop-folder.folder-index c.folder-item.result (g.T.Tree.log c.args.tree.now) (g.T.Tree.log c.loop-folder.tree) (g.T.Tree.log c.make_next.new.tree) c.loop-folder-test.true
    c.folder-item.is c.loop-folder.invariant.log c.make_next.ensures.log

pub returns-in_err-make_next-clause-undisturbed : goal.returns-in_err-make_next-clause-undisturbed
returns-in_err-make_next-clause-undisturbed g c =
    tree-then (g.T.Tree.undisturbed c.args.tree.now) (g.T.Tree.undisturbed c.loop-folder.tree) (g.T.Tree.undisturbed c.make_next.new.tree)
    (g.T.Tree.faults c.args.tree.now) (g.T.Tree.faults c.loop-folder.tree) (g.T.Tree.faults c.make_next.new.tree)
    (g.T.Tree.log c.args.tree.now) (g.T.Tree.log c.loop-folder.tree) (g.T.Tree.log c.make_next.new.tree) c.loop-folder.invariant.alone c.make_next.ensures.undisturbed

pub loop-folder-preserved : goal.loop-folder-preserved
loop-folder-preserved g c = record {
  log =
      folder-then c.args.folders.now c.loop-folder.folder-index c.folder-item.result (g.T.Tree.log c.args.tree.now) (g.T.Tree.log c.loop-folder.tree) (g.T.Tree.log c.make_next.new.tree) c.loop-folder-test.true
      c.folder-item.is c.loop-folder.invariant.log c.make_next.ensures.log;
  later = omega (arith, c.loop-folder.invariant.later, c.make_next.ensures.cause.later);
  alone =
      tree-then (g.T.Tree.undisturbed c.args.tree.now) (g.T.Tree.undisturbed c.loop-folder.tree) (g.T.Tree.undisturbed c.make_next.new.tree)
      (g.T.Tree.faults c.args.tree.now) (g.T.Tree.faults c.loop-folder.tree) (g.T.Tree.faults c.make_next.new.tree)
      (g.T.Tree.log c.args.tree.now) (g.T.Tree.log c.loop-folder.tree) (g.T.Tree.log c.make_next.new.tree) c.loop-folder.invariant.alone c.make_next.ensures.undisturbed;
  made =
      makes-more c.args.folders.now c.loop-folder.folder-index c.folder-item.result (g.T.Tree.log c.args.tree.now) (g.T.Tree.log c.loop-folder.tree) (g.T.Tree.log c.make_next.new.tree) c.loop-folder.barred
      c.make_next.new.barred c.loop-folder-test.true c.folder-item.is c.loop-folder.invariant.made c.loop-folder.invariant.log c.make_next.ensures.log c.in_ok-make_next.ensures.made;
}
