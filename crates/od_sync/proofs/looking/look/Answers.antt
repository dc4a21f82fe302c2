use Rattle.std.proofs.Common.{arith}
use Rattle.od_sync.proofs.Going.{agreed-token, goes-met, goes-scanned, meets, stays}
use Rattle.od_sync.proofs.Looks.{looks-none, looks-weaker}
use Rattle.od_sync.proofs.ReceivedImages.{stopped-same}
use Rattle.od_sync.proofs.Sends.{asks-also}
use Rattle.od_sync.proofs.ServedTokens.{leaves-agreed, serves-agreed}
use Rattle.od_sync.proofs.looking.look.Goals as goal

pub returns-in_err-received-clause-goes : goal.returns-in_err-received-clause-goes
returns-in_err-received-clause-goes g c = c.receive.ensures.goes (g.T.Tree.log c.args.tree.now)

pub returns-in_err-local-clause-goes : goal.returns-in_err-local-clause-goes
returns-in_err-local-clause-goes g c =
    goes-scanned c.args.image c.in_ok-received.received (g.R.Remote.log c.args.remote.now) (g.R.Remote.log c.receive.new.remote) (g.T.Tree.log c.args.tree.now) (g.T.Tree.log c.scan.new.tree)
    (g.K.Keeper.images c.args.keeper.now) (g.K.Keeper.images c.receive.new.keeper) (g.K.Keeper.images c.receive.new.keeper)
    c.in_ok-received.ensures.received c.scan.ensures.log (stays (g.K.Keeper.images c.receive.new.keeper))

pub returns-in_err-sides-clause-goes : goal.returns-in_err-sides-clause-goes
returns-in_err-sides-clause-goes g c =
    goes-scanned c.args.image c.in_ok-received.received (g.R.Remote.log c.args.remote.now) (g.R.Remote.log c.receive.new.remote) (g.T.Tree.log c.args.tree.now) (g.T.Tree.log c.scan.new.tree)
    (g.K.Keeper.images c.args.keeper.now) (g.K.Keeper.images c.receive.new.keeper) (g.K.Keeper.images c.commit_agreement.new.keeper)
    c.in_ok-received.ensures.received c.scan.ensures.log c.in_err-sides.ensures.images.err

pub returns-clause-goes : goal.returns-clause-goes
returns-clause-goes g c =
    goes-met c.args.image c.in_ok-sides.sides (g.R.Remote.log c.args.remote.now) (g.R.Remote.log c.receive.new.remote) (g.T.Tree.log c.args.tree.now) (g.T.Tree.log c.scan.new.tree)
    (g.K.Keeper.images c.args.keeper.now) (g.K.Keeper.images c.commit_agreement.new.keeper)
    (meets c.args.image c.in_ok-received.received c.in_ok-local.local c.in_ok-sides.sides (g.R.Remote.log c.args.remote.now) (g.R.Remote.log c.receive.new.remote) (g.T.Tree.log c.args.tree.now) (g.T.Tree.log c.scan.new.tree)
    (g.K.Keeper.images c.args.keeper.now) (g.K.Keeper.images c.receive.new.keeper) (g.K.Keeper.images c.commit_agreement.new.keeper)
    c.in_ok-received.ensures.received c.in_ok-local.ensures.found c.in_ok-sides.ensures.sides c.in_ok-sides.ensures.images)

pub returns-clause-meets : goal.returns-clause-meets
returns-clause-meets g c =
    meets c.args.image c.in_ok-received.received c.in_ok-local.local c.in_ok-sides.sides (g.R.Remote.log c.args.remote.now) (g.R.Remote.log c.receive.new.remote) (g.T.Tree.log c.args.tree.now) (g.T.Tree.log c.scan.new.tree)
    (g.K.Keeper.images c.args.keeper.now) (g.K.Keeper.images c.receive.new.keeper) (g.K.Keeper.images c.commit_agreement.new.keeper)
    c.in_ok-received.ensures.received c.in_ok-local.ensures.found c.in_ok-sides.ensures.sides c.in_ok-sides.ensures.images

pub returns-in_err-received-clause-looks : goal.returns-in_err-received-clause-looks
returns-in_err-received-clause-looks g c = looks-weaker 0 1 (g.T.Tree.log c.args.tree.now) (g.T.Tree.log c.args.tree.now) (omega arith) (looks-none (g.T.Tree.log c.args.tree.now))

pub returns-clause-serves : goal.returns-clause-serves
returns-clause-serves g c =
    serves-agreed c.args.image c.in_ok-received.received c.in_ok-sides.sides (g.R.Remote.log c.args.remote.now) (g.R.Remote.log c.receive.new.remote)
    (g.K.Keeper.images c.args.keeper.now) (g.K.Keeper.images c.receive.new.keeper) (g.K.Keeper.images c.commit_agreement.new.keeper)
    c.in_ok-received.ensures.received c.in_ok-sides.ensures.images (agreed-token c.in_ok-received.received c.in_ok-local.local c.in_ok-sides.sides c.in_ok-sides.ensures.sides)

pub returns-clause-last : goal.returns-clause-last
returns-clause-last g c =
    leaves-agreed c.args.image c.in_ok-received.received c.in_ok-sides.sides (g.K.Keeper.images c.args.keeper.now) (g.K.Keeper.images c.receive.new.keeper) (g.K.Keeper.images c.commit_agreement.new.keeper)
    c.in_ok-received.ensures.adds c.in_ok-sides.ensures.images

pub returns-in_err-received-clause-asks : goal.returns-in_err-received-clause-asks
returns-in_err-received-clause-asks g c =
    asks-also c.args.image.token (g.R.Remote.log c.args.remote.now) (g.R.Remote.log c.receive.new.remote) (stopped-same c.in_err-received.field-0.0 c.from_residual.result c.from_residual.ensures) c.in_err-received.ensures.asks

pub returns-in_err-local-clause-asks : goal.returns-in_err-local-clause-asks
returns-in_err-local-clause-asks g c =
    asks-also c.args.image.token (g.R.Remote.log c.args.remote.now) (g.R.Remote.log c.receive.new.remote) (λ is. absurd (cc is)) c.in_ok-received.ensures.asks

pub returns-in_err-sides-clause-asks : goal.returns-in_err-sides-clause-asks
returns-in_err-sides-clause-asks g c =
    asks-also c.args.image.token (g.R.Remote.log c.args.remote.now) (g.R.Remote.log c.receive.new.remote) (λ is. absurd (cc is)) c.in_ok-received.ensures.asks

pub returns-clause-asks : goal.returns-clause-asks
returns-clause-asks g c =
    asks-also c.args.image.token (g.R.Remote.log c.args.remote.now) (g.R.Remote.log c.receive.new.remote) (λ is. absurd (cc is)) c.in_ok-received.ensures.asks
