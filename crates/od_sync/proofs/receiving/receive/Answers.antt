use Rattle.od_sync.proofs.Going.{goes-got, goes-pull, stays}
use Rattle.od_sync.proofs.ReceivedImages.{below-root, receives, stopped-bad, stopped-memory}
use Rattle.od_sync.proofs.Sends.{asks-also}
use Rattle.od_sync.proofs.ServedTokens.{serves-kept, serves-pull}
use Rattle.od_sync.proofs.receiving.receive.Goals as goal

pub returns-in_err-view-clause-goes : goal.returns-in_err-view-clause-goes
returns-in_err-view-clause-goes g c = λ local.
    goes-pull c.args.image.now (g.R.Remote.log c.args.remote.now) (g.R.Remote.log c.pull_over.new.remote) local (g.K.Keeper.images c.args.keeper.now) (g.K.Keeper.images c.args.keeper.now)
    c.pull_over.ensures.asks (stays (g.K.Keeper.images c.args.keeper.now))

pub returns-in_err-view-clause-bad : goal.returns-in_err-view-clause-bad
returns-in_err-view-clause-bad g c = λ n is.
    c.pull_over.ensures.bad n (stopped-bad c.pull_over.result c.in_err-view.field-0.0 c.from_residual.result n c.in_err-view.was c.from_residual.ensures is)

pub returns-in_err-view-clause-serves : goal.returns-in_err-view-clause-serves
returns-in_err-view-clause-serves g c =
    serves-pull c.args.image.now (g.R.Remote.log c.args.remote.now) (g.R.Remote.log c.pull_over.new.remote) (g.K.Keeper.images c.args.keeper.now) (g.K.Keeper.images c.args.keeper.now)
    c.pull_over.ensures.asks (stays (g.K.Keeper.images c.args.keeper.now))

pub returns-in_err-received-clause-goes : goal.returns-in_err-received-clause-goes
returns-in_err-received-clause-goes g c = λ local.
    goes-pull c.args.image.now (g.R.Remote.log c.args.remote.now) (g.R.Remote.log c.pull_over.new.remote) local (g.K.Keeper.images c.args.keeper.now) (g.K.Keeper.images c.commit_view.new.keeper)
    c.pull_over.ensures.asks c.in_err-received.ensures.images.err

pub returns-in_err-received-clause-serves : goal.returns-in_err-received-clause-serves
returns-in_err-received-clause-serves g c =
    serves-pull c.args.image.now (g.R.Remote.log c.args.remote.now) (g.R.Remote.log c.pull_over.new.remote) (g.K.Keeper.images c.args.keeper.now) (g.K.Keeper.images c.commit_view.new.keeper)
    c.pull_over.ensures.asks c.in_err-received.ensures.images.err

pub returns-clause-goes : goal.returns-clause-goes
returns-clause-goes g c = λ local.
    goes-got c.args.image.now c.in_ok-received.received (g.R.Remote.log c.args.remote.now) (g.R.Remote.log c.pull_over.new.remote) local (g.K.Keeper.images c.args.keeper.now) (g.K.Keeper.images c.commit_view.new.keeper)
    (receives c.args.image.now c.in_ok-received.received c.in_ok-view.view (g.R.Remote.log c.args.remote.now) (g.R.Remote.log c.pull_over.new.remote) (g.K.Keeper.images c.args.keeper.now) (g.K.Keeper.images c.commit_view.new.keeper)
    c.in_ok-view.ensures.pulled c.in_ok-received.ensures.received c.in_ok-received.ensures.images)

pub returns-clause-received : goal.returns-clause-received
returns-clause-received g c =
    receives c.args.image.now c.in_ok-received.received c.in_ok-view.view (g.R.Remote.log c.args.remote.now) (g.R.Remote.log c.pull_over.new.remote) (g.K.Keeper.images c.args.keeper.now) (g.K.Keeper.images c.commit_view.new.keeper)
    c.in_ok-view.ensures.pulled c.in_ok-received.ensures.received c.in_ok-received.ensures.images

pub returns-clause-below : goal.returns-clause-below
returns-clause-below g c = below-root c.args.image.now c.in_ok-view.view.items c.in_ok-view.view.token c.in_ok-received.received c.in_ok-received.ensures.received

pub returns-clause-serves : goal.returns-clause-serves
returns-clause-serves g c =
    serves-kept c.args.image.now c.in_ok-received.received (g.R.Remote.log c.args.remote.now) (g.R.Remote.log c.pull_over.new.remote) (g.K.Keeper.images c.args.keeper.now) (g.K.Keeper.images c.commit_view.new.keeper) (g.K.Keeper.images c.commit_view.new.keeper)
    (receives c.args.image.now c.in_ok-received.received c.in_ok-view.view (g.R.Remote.log c.args.remote.now) (g.R.Remote.log c.pull_over.new.remote) (g.K.Keeper.images c.args.keeper.now) (g.K.Keeper.images c.commit_view.new.keeper)
    c.in_ok-view.ensures.pulled c.in_ok-received.ensures.received c.in_ok-received.ensures.images) (stays (g.K.Keeper.images c.commit_view.new.keeper))

pub returns-in_err-view-clause-asks : goal.returns-in_err-view-clause-asks
returns-in_err-view-clause-asks g c =
    asks-also c.args.image.now.token (g.R.Remote.log c.args.remote.now) (g.R.Remote.log c.pull_over.new.remote) (stopped-memory c.in_err-view.field-0.0 c.from_residual.result c.from_residual.ensures) c.in_err-view.ensures.asks

pub returns-in_err-received-clause-asks : goal.returns-in_err-received-clause-asks
returns-in_err-received-clause-asks g c =
    asks-also c.args.image.now.token (g.R.Remote.log c.args.remote.now) (g.R.Remote.log c.pull_over.new.remote) (λ is. absurd (cc is)) c.in_ok-view.ensures.asks

pub returns-clause-asks : goal.returns-clause-asks
returns-clause-asks g c =
    asks-also c.args.image.now.token (g.R.Remote.log c.args.remote.now) (g.R.Remote.log c.pull_over.new.remote) (λ is. absurd (cc is)) c.in_ok-view.ensures.asks
