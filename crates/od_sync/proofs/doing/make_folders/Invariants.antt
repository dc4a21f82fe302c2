use Rattle.std.proofs.Common.{◌≤◌, drop}
use Rattle.od_tree.specs.Undisturbed.{Undisturbed}
use Rattle.od_sync.specs.Doing.{IsFolderOf, Makes, NoFile}
use Rattle.od_sync.proofs.Placed.{MakesLeft}
use Rattle.od_sync.proofs.doing.make_folders.Given as goal

-- the folders so far are made or barred, and those that are left can be made
abbrev pub invariant-loop-folder : goal.invariant-loop-folder
invariant-loop-folder g l = record {
  log : Makes (IsFolderOf l.folders) NoFile (g.T.Tree.log l.fn.tree) (g.T.Tree.log l.tree);
  later : g.T.Tree.faults l.fn.tree ≤ g.T.Tree.faults l.tree;
  alone : Undisturbed (g.T.Tree.undisturbed l.fn.tree) (g.T.Tree.undisturbed l.tree) (g.T.Tree.faults l.fn.tree) (g.T.Tree.faults l.tree) (g.T.Tree.log l.fn.tree) (g.T.Tree.log l.tree);
  made : MakesLeft l.folders (drop l.folder-index l.folders) (g.T.Tree.log l.fn.tree) (g.T.Tree.log l.tree) l.barred;
}
