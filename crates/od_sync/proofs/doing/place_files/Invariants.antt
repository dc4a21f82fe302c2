use Rattle.std.proofs.Common.{◌≤◌, length, take, drop}
use Rattle.od_tree.specs.Undisturbed.{Undisturbed}
use Rattle.od_sync.specs.Doing.{AreRowsOf, GivesRows, IsBroughtTo, Makes, NoFolder}
use Rattle.od_sync.proofs.Placed.{PlacesLeft}
use Rattle.od_sync.proofs.doing.place_files.Given as goal

-- the files so far are placed, and those that are left can be placed
abbrev pub invariant-loop-at : goal.invariant-loop-at
invariant-loop-at g l = record {
  within : l.at ≤ length l.batch;
  log : Makes NoFolder (IsBroughtTo l.batch l.outcomes) (g.T.Tree.log l.fn.tree) (g.T.Tree.log l.tree);
  later : g.T.Tree.faults l.fn.tree ≤ g.T.Tree.faults l.tree;
  alone : Undisturbed (g.T.Tree.undisturbed l.fn.tree) (g.T.Tree.undisturbed l.tree) (g.T.Tree.faults l.fn.tree) (g.T.Tree.faults l.tree) (g.T.Tree.log l.fn.tree) (g.T.Tree.log l.tree);
  placed : PlacesLeft l.batch (drop l.at l.batch) l.outcomes (drop l.at l.outcomes) (g.T.Tree.log l.fn.tree) (g.T.Tree.log l.tree);
  given : GivesRows l.rows (g.T.Tree.log l.fn.tree) (g.T.Tree.log l.tree);
  accepted : AreRowsOf (take l.at l.batch) l.rows;
}
