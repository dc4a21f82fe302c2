use Rattle.std.proofs.Common.{sym, subst}
use Rattle.od_sync.specs.Ends.{counts}
use Rattle.od_sync.specs.Syncs.{SyncsTold}
use Rattle.od_sync.specs.declared.ends.SyncEnd.{SyncEnd}
use Rattle.od_sync.proofs.SyncsSaid.{syncs-told}
use Rattle.od_sync.proofs.syncing.sync_now.Goals as goal

pub returns-clause-told : goal.returns-clause-told
returns-clause-told g c =
    let before = counts (g.R.Remote.faults c.args.remote.now) (g.R.Remote.answers c.args.remote.now) (g.R.Remote.in_row c.args.remote.now) (g.T.Tree.faults c.args.tree.now) (g.K.Keeper.faults c.args.keeper.now) in
    let now = counts (g.R.Remote.faults c.run-settled.new.remote) (g.R.Remote.answers c.run-settled.new.remote) (g.R.Remote.in_row c.run-settled.new.remote) (g.T.Tree.faults c.run-settled.new.tree) (g.K.Keeper.faults c.run-settled.new.keeper) in
    subst (λ (ended : SyncEnd). SyncsTold before now (g.R.Remote.log c.args.remote.now) (g.R.Remote.log c.run-settled.new.remote) (g.T.Tree.log c.args.tree.now) (g.T.Tree.log c.run-settled.new.tree)
    (g.K.Keeper.images c.args.keeper.now) (g.K.Keeper.images c.run-settled.new.keeper) ended) (sym c.end_of.ensures)
    (syncs-told before now c.run-settled.result (g.R.Remote.log c.args.remote.now) (g.R.Remote.log c.run-settled.new.remote) (g.T.Tree.log c.args.tree.now) (g.T.Tree.log c.run-settled.new.tree)
    (g.K.Keeper.images c.args.keeper.now) (g.K.Keeper.images c.run-settled.new.keeper) c.run-settled.ensures.runs c.run-settled.ensures.cause c.run-settled.ensures.serves)
