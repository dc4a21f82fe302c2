use Rattle.std.proofs.Common.{◌≤◌}
use Rattle.od_tree.specs.Undisturbed.{Undisturbed}
use Rattle.od_sync.specs.Scans.{GrowsByLooks}
use Rattle.od_sync.specs.Visits.{turns}
use Rattle.od_sync.proofs.Finding.{FindsSoFar}
use Rattle.od_sync.proofs.scanning.scan.Given as goal

-- the scan so far has only looked, and what it found and what waits are the whole tree
abbrev pub invariant-loop-turn : goal.invariant-loop-turn
invariant-loop-turn g l = record {
  log : GrowsByLooks 1 (g.T.Tree.log l.fn.tree) (g.T.Tree.log l.tree);
  later : g.T.Tree.faults l.fn.tree ≤ g.T.Tree.faults l.tree;
  undisturbed : Undisturbed (g.T.Tree.undisturbed l.fn.tree) (g.T.Tree.undisturbed l.tree) (g.T.Tree.faults l.fn.tree) (g.T.Tree.faults l.tree) (g.T.Tree.log l.fn.tree) (g.T.Tree.log l.tree);
  finds : FindsSoFar l.found.items (turns l.waiting.items) (g.T.Tree.log l.fn.tree) (g.T.Tree.log l.tree);
}
