use Rattle.std.proofs.Common.{◌∙◌, arith, sym}
use Rattle.od_sync.proofs.Rounding.{rounds-settled, rounds-stopped}
use Rattle.od_sync.proofs.Running.{runs-settled, runs-stopped, runs-unsettled}
use Rattle.od_sync.proofs.rounds.last_round.Goals as goal

pub returns-then-is_settled-clause-runs : goal.returns-then-is_settled-clause-runs
returns-then-is_settled-clause-runs g c =
    runs-settled 1 (g.R.Remote.faults c.args.remote.now) (g.R.Remote.faults c.look.new.remote) c.args.image (g.R.Remote.log c.args.remote.now) (g.R.Remote.log c.look.new.remote)
    (g.T.Tree.log c.args.tree.now) (g.T.Tree.log c.look.new.tree) (g.K.Keeper.images c.args.keeper.now) (g.K.Keeper.images c.look.new.keeper) (omega arith)
    (rounds-settled (g.R.Remote.faults c.args.remote.now) (g.R.Remote.faults c.look.new.remote) c.args.image c.in-Ok.sides (g.R.Remote.log c.args.remote.now) (g.R.Remote.log c.look.new.remote)
    (g.T.Tree.log c.args.tree.now) (g.T.Tree.log c.look.new.tree) (g.K.Keeper.images c.args.keeper.now) (g.K.Keeper.images c.look.new.keeper)
    c.in-Ok.ensures.meets (sym c.is_settled.ensures ∙ c.if-is_settled.true))

pub returns-else-is_settled-clause-runs : goal.returns-else-is_settled-clause-runs
returns-else-is_settled-clause-runs g c =
    runs-unsettled (g.R.Remote.faults c.args.remote.now) (g.R.Remote.faults c.look.new.remote) c.args.image c.in-Ok.sides (g.R.Remote.log c.args.remote.now) (g.R.Remote.log c.look.new.remote)
    (g.T.Tree.log c.args.tree.now) (g.T.Tree.log c.look.new.tree) (g.K.Keeper.images c.args.keeper.now) (g.K.Keeper.images c.look.new.keeper)
    c.in-Ok.ensures.meets (sym c.is_settled.ensures ∙ c.if-is_settled.false)

pub returns-in-Err-clause-runs : goal.returns-in-Err-clause-runs
returns-in-Err-clause-runs g c =
    runs-stopped 1 (g.R.Remote.faults c.args.remote.now) (g.R.Remote.faults c.look.new.remote) c.args.image c.in-Err.stop (g.R.Remote.log c.args.remote.now) (g.R.Remote.log c.look.new.remote)
    (g.T.Tree.log c.args.tree.now) (g.T.Tree.log c.look.new.tree) (g.K.Keeper.images c.args.keeper.now) (g.K.Keeper.images c.look.new.keeper) (omega arith)
    (rounds-stopped (g.R.Remote.faults c.args.remote.now) (g.R.Remote.faults c.look.new.remote) c.args.image c.in-Err.stop (g.R.Remote.log c.args.remote.now) (g.R.Remote.log c.look.new.remote)
    (g.T.Tree.log c.args.tree.now) (g.T.Tree.log c.look.new.tree) (g.K.Keeper.images c.args.keeper.now) (g.K.Keeper.images c.look.new.keeper)
    c.look.ensures.goes c.look.ensures.looks c.in-Err.ensures.asks c.in-Err.ensures.bad c.in-Err.ensures.bad_stays c.in-Err.ensures.unserved)
