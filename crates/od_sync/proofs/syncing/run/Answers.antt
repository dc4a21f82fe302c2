use Rattle.od_sync.proofs.Running.{runs-not-loaded}
use Rattle.od_sync.proofs.ServedTokens.{serves-not-loaded}
use Rattle.od_sync.proofs.syncing.run.Goals as goal

pub returns-in-Err-clause-runs : goal.returns-in-Err-clause-runs
returns-in-Err-clause-runs g c =
    runs-not-loaded 3 (g.R.Remote.faults c.args.remote.now) (g.R.Remote.faults c.args.remote.now) c.in-Err.fault c.from.result (g.R.Remote.log c.args.remote.now) (g.T.Tree.log c.args.tree.now)
    (g.K.Keeper.images c.args.keeper.now) (g.K.Keeper.images c.load.new.self) c.from.ensures c.load.ensures.images.same

pub returns-in-Err-clause-serves : goal.returns-in-Err-clause-serves
returns-in-Err-clause-serves g c =
    serves-not-loaded (g.R.Remote.log c.args.remote.now) (g.K.Keeper.images c.args.keeper.now) (g.K.Keeper.images c.load.new.self) c.load.ensures.images.same
