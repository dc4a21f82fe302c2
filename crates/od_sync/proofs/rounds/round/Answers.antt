use Rattle.std.proofs.Common.{◌∙◌, sym}
use Rattle.od_sync.proofs.Rounding.{rounds-act-stopped, rounds-acted, rounds-settled, rounds-stopped}
use Rattle.od_sync.proofs.ServedTokens.{serves-then}
use Rattle.od_sync.proofs.SyncAlone.{alone-first}
use Rattle.od_sync.proofs.rounds.round.Goals as goal

pub returns-then-is_settled-clause-rounds : goal.returns-then-is_settled-clause-rounds
returns-then-is_settled-clause-rounds g c =
    rounds-settled (g.R.Remote.faults c.args.remote.now) (g.R.Remote.faults c.look.new.remote) c.args.image c.in-Ok.sides (g.R.Remote.log c.args.remote.now) (g.R.Remote.log c.look.new.remote) (g.T.Tree.log c.args.tree.now) (g.T.Tree.log c.look.new.tree) (g.K.Keeper.images c.args.keeper.now) (g.K.Keeper.images c.look.new.keeper)
    c.in-Ok.ensures.meets (sym c.is_settled.ensures ∙ c.if-is_settled.true)

pub returns-in-Ok-act-clause-rounds : goal.returns-in-Ok-act-clause-rounds
returns-in-Ok-act-clause-rounds g c =
    rounds-acted (g.R.Remote.faults c.args.remote.now) (g.R.Remote.faults c.look.new.remote) (g.R.Remote.faults c.act.new.remote) c.args.image c.in-Ok.sides c.in-Ok-act.next (g.R.Remote.log c.args.remote.now) (g.R.Remote.log c.look.new.remote) (g.R.Remote.log c.act.new.remote) (g.T.Tree.log c.args.tree.now) (g.T.Tree.log c.look.new.tree) (g.T.Tree.log c.act.new.tree)
    (g.K.Keeper.images c.args.keeper.now) (g.K.Keeper.images c.look.new.keeper) (g.K.Keeper.images c.act.new.keeper) c.look.ensures.cause.link_later c.in-Ok.ensures.meets (sym c.is_settled.ensures ∙ c.if-is_settled.false) c.in-Ok-act.ensures.acts c.act.ensures.steps c.act.ensures.tokens

pub returns-in-Err-act-clause-rounds : goal.returns-in-Err-act-clause-rounds
returns-in-Err-act-clause-rounds g c =
    rounds-act-stopped (g.R.Remote.faults c.args.remote.now) (g.R.Remote.faults c.act.new.remote) c.args.image c.in-Ok.sides c.in-Err-act.stop (g.R.Remote.log c.args.remote.now) (g.R.Remote.log c.look.new.remote) (g.R.Remote.log c.act.new.remote) (g.T.Tree.log c.args.tree.now) (g.T.Tree.log c.look.new.tree) (g.T.Tree.log c.act.new.tree)
    (g.K.Keeper.images c.args.keeper.now) (g.K.Keeper.images c.look.new.keeper) (g.K.Keeper.images c.act.new.keeper) c.in-Ok.ensures.meets c.in-Err-act.ensures.stops c.act.ensures.goes c.act.ensures.requests c.act.ensures.steps

pub returns-in-Err-clause-rounds : goal.returns-in-Err-clause-rounds
returns-in-Err-clause-rounds g c =
    rounds-stopped (g.R.Remote.faults c.args.remote.now) (g.R.Remote.faults c.look.new.remote) c.args.image c.in-Err.stop (g.R.Remote.log c.args.remote.now) (g.R.Remote.log c.look.new.remote) (g.T.Tree.log c.args.tree.now) (g.T.Tree.log c.look.new.tree) (g.K.Keeper.images c.args.keeper.now) (g.K.Keeper.images c.look.new.keeper)
    c.look.ensures.goes c.look.ensures.looks c.in-Err.ensures.asks c.in-Err.ensures.bad c.in-Err.ensures.bad_stays c.in-Err.ensures.unserved

pub returns-in-Ok-act-clause-serves : goal.returns-in-Ok-act-clause-serves
returns-in-Ok-act-clause-serves g c =
    serves-then c.args.image c.in-Ok.sides.image (g.R.Remote.log c.args.remote.now) (g.R.Remote.log c.look.new.remote) (g.R.Remote.log c.act.new.remote) (g.K.Keeper.images c.args.keeper.now) (g.K.Keeper.images c.look.new.keeper) (g.K.Keeper.images c.act.new.keeper)
    c.look.ensures.serves c.in-Ok.ensures.last c.act.ensures.serves

pub returns-in-Ok-act-clause-alone : goal.returns-in-Ok-act-clause-alone
returns-in-Ok-act-clause-alone g c = alone-first c.look.ensures.remote_alone c.look.ensures.tree_alone c.look.ensures.keeper_alone c.act.ensures.alone

pub returns-in-Err-act-clause-serves : goal.returns-in-Err-act-clause-serves
returns-in-Err-act-clause-serves g c =
    serves-then c.args.image c.in-Ok.sides.image (g.R.Remote.log c.args.remote.now) (g.R.Remote.log c.look.new.remote) (g.R.Remote.log c.act.new.remote) (g.K.Keeper.images c.args.keeper.now) (g.K.Keeper.images c.look.new.keeper) (g.K.Keeper.images c.act.new.keeper)
    c.look.ensures.serves c.in-Ok.ensures.last c.act.ensures.serves

pub returns-in-Err-act-clause-alone : goal.returns-in-Err-act-clause-alone
returns-in-Err-act-clause-alone g c = alone-first c.look.ensures.remote_alone c.look.ensures.tree_alone c.look.ensures.keeper_alone c.act.ensures.alone
