use Rattle.std.proofs.Common.{◌≡◌, ◌<◌, ◌≤◌, true, length}
use Rattle.std.specs.List.{All}
use Rattle.od_keeper.specs.Undisturbed as keeper
use Rattle.od_transfer.specs.Asking.{Grows}
use Rattle.od_transfer.specs.Fits.{IsTransfer}
use Rattle.od_transfer.specs.Undisturbed as remote
use Rattle.od_tree.specs.Undisturbed as tree
use Rattle.od_sync.specs.Doing.{IsFetchOf, Makes, NoFolder, PutsRows, most_bytes}
use Rattle.od_sync.specs.Serving.{KeepsToken, Leaves}
use Rattle.od_sync.specs.declared.planning.Fetching.{Fetching}
use Rattle.od_sync.proofs.Batched.{FetchesSoFar}
use Rattle.od_sync.proofs.fetching.fetch_all.Given as goal

-- the batches so far are fetched and placed
abbrev pub invariant-loop-left : goal.invariant-loop-left
invariant-loop-left g l = record {
  below : All (λ (fetch : Fetching). 0 < length fetch.path) l.left;
  light : All (λ (fetch : Fetching). fetch.size ≤ most_bytes) l.left;
  written : All (λ (fetch : Fetching). 0 < fetch.id.0) l.left;
  fetches :
      FetchesSoFar l.fn.image l.fetches l.left l.last (g.R.Remote.faults l.fn.remote) (g.R.Remote.faults l.remote) (g.R.Remote.log l.fn.remote) (g.R.Remote.log l.remote)
      (g.T.Tree.log l.fn.tree) (g.T.Tree.log l.tree) (g.K.Keeper.images l.fn.keeper) (g.K.Keeper.images l.keeper);
  steps : Makes NoFolder (IsFetchOf l.fetches) (g.T.Tree.log l.fn.tree) (g.T.Tree.log l.tree);
  rows : PutsRows l.fn.image l.last (g.T.Tree.log l.fn.tree) (g.T.Tree.log l.tree);
  requests : Grows IsTransfer (g.R.Remote.log l.fn.remote) (g.R.Remote.log l.remote);
  tokens : KeepsToken l.fn.image (g.K.Keeper.images l.fn.keeper) (g.K.Keeper.images l.keeper);
  last : Leaves l.fn.image l.last (g.K.Keeper.images l.fn.keeper) (g.K.Keeper.images l.keeper);
  faults_later : g.R.Remote.faults l.fn.remote ≤ g.R.Remote.faults l.remote;
  answers_later : g.R.Remote.answers l.fn.remote ≤ g.R.Remote.answers l.remote;
  tree_later : g.T.Tree.faults l.fn.tree ≤ g.T.Tree.faults l.tree;
  keeper_later : g.K.Keeper.faults l.fn.keeper ≤ g.K.Keeper.faults l.keeper;
  remote_alone : remote.Undisturbed (g.R.Remote.undisturbed l.fn.remote) (g.R.Remote.undisturbed l.remote) (g.R.Remote.log l.fn.remote) (g.R.Remote.log l.remote);
  no_faults : g.R.Remote.undisturbed l.fn.remote ≡ true → g.R.Remote.faults l.remote ≡ g.R.Remote.faults l.fn.remote;
  tree_alone :
      tree.Undisturbed (g.T.Tree.undisturbed l.fn.tree) (g.T.Tree.undisturbed l.tree) (g.T.Tree.faults l.fn.tree) (g.T.Tree.faults l.tree) (g.T.Tree.log l.fn.tree) (g.T.Tree.log l.tree);
  keeper_alone : keeper.Undisturbed (g.K.Keeper.undisturbed l.fn.keeper) (g.K.Keeper.undisturbed l.keeper) (g.K.Keeper.faults l.fn.keeper) (g.K.Keeper.faults l.keeper);
}

abbrev pub decreases-loop-left : goal.decreases-loop-left
decreases-loop-left g l = length l.left
