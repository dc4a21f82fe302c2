use Rattle.std.proofs.Common.{◌∙◌, Ok, Err, arith}
use Rattle.od_sync.proofs.Running.{runs-more, runs-settled, runs-stopped}
use Rattle.od_sync.proofs.ServedTokens.{serves-then, starts-next}
use Rattle.od_sync.proofs.SyncAlone.{alone-then}
use Rattle.od_sync.proofs.rounds.two_rounds.Goals as goal

pub returns-in-Ok-None-clause-runs : goal.returns-in-Ok-None-clause-runs
returns-in-Ok-None-clause-runs g c =
    runs-settled 2 (g.R.Remote.faults c.args.remote.now) (g.R.Remote.faults c.round.new.remote) c.args.image (g.R.Remote.log c.args.remote.now) (g.R.Remote.log c.round.new.remote) (g.T.Tree.log c.args.tree.now) (g.T.Tree.log c.round.new.tree) (g.K.Keeper.images c.args.keeper.now) (g.K.Keeper.images c.round.new.keeper) (omega arith) (rw c.in-Ok-None.field-0-is at c.in-Ok-None.ensures.rounds)

pub returns-in-Err-clause-runs : goal.returns-in-Err-clause-runs
returns-in-Err-clause-runs g c =
    runs-stopped 2 (g.R.Remote.faults c.args.remote.now) (g.R.Remote.faults c.round.new.remote) c.args.image c.in-Err.stop (g.R.Remote.log c.args.remote.now) (g.R.Remote.log c.round.new.remote) (g.T.Tree.log c.args.tree.now) (g.T.Tree.log c.round.new.tree) (g.K.Keeper.images c.args.keeper.now) (g.K.Keeper.images c.round.new.keeper) (omega arith) c.in-Err.ensures.rounds

pub returns-in-Ok-clause-runs : goal.returns-in-Ok-clause-runs
returns-in-Ok-clause-runs g c =
    runs-more 1 (g.R.Remote.faults c.args.remote.now) (g.R.Remote.faults c.round.new.remote) (g.R.Remote.faults c.last_round.new.remote) c.args.image c.in-Ok-Some.image (Ok c.in-Ok.settled) (g.R.Remote.log c.args.remote.now) (g.R.Remote.log c.round.new.remote) (g.R.Remote.log c.last_round.new.remote) (g.T.Tree.log c.args.tree.now) (g.T.Tree.log c.round.new.tree) (g.T.Tree.log c.last_round.new.tree)
    (g.K.Keeper.images c.args.keeper.now) (g.K.Keeper.images c.round.new.keeper) (g.K.Keeper.images c.last_round.new.keeper) c.round.ensures.cause.link_later c.last_round.ensures.cause.stopped.link_later (rw c.in-Ok-Some.field-0-is at c.in-Ok-Some.ensures.rounds) c.in-Ok.ensures.runs

pub returns-in-Ok-clause-serves : goal.returns-in-Ok-clause-serves
returns-in-Ok-clause-serves g c =
    serves-then c.args.image c.in-Ok-Some.image (g.R.Remote.log c.args.remote.now) (g.R.Remote.log c.round.new.remote) (g.R.Remote.log c.last_round.new.remote) (g.K.Keeper.images c.args.keeper.now) (g.K.Keeper.images c.round.new.keeper) (g.K.Keeper.images c.last_round.new.keeper)
    c.round.ensures.serves (rw c.in-Ok-Some.field-0-is at c.in-Ok-Some.ensures.last) c.last_round.ensures.serves

pub returns-in-Ok-clause-alone : goal.returns-in-Ok-clause-alone
returns-in-Ok-clause-alone g c = alone-then c.round.ensures.alone c.last_round.ensures.alone

pub returns-in-Ok-clause-no_faults : goal.returns-in-Ok-clause-no_faults
returns-in-Ok-clause-no_faults g c = λ is starts.
    c.last_round.ensures.no_faults (c.round.ensures.alone.drive.stays is)
    (starts-next (g.R.Remote.undisturbed c.args.remote.now) (g.R.Remote.undisturbed c.round.new.remote) c.args.image c.in-Ok-Some.image (g.R.Remote.log c.args.remote.now) (g.R.Remote.log c.round.new.remote) (g.K.Keeper.images c.args.keeper.now) (g.K.Keeper.images c.round.new.keeper) c.round.ensures.alone.drive c.round.ensures.serves (rw c.in-Ok-Some.field-0-is at c.in-Ok-Some.ensures.last) is starts)
    ∙ c.round.ensures.no_faults is starts

pub returns-in-Err-last_round-clause-runs : goal.returns-in-Err-last_round-clause-runs
returns-in-Err-last_round-clause-runs g c =
    runs-more 1 (g.R.Remote.faults c.args.remote.now) (g.R.Remote.faults c.round.new.remote) (g.R.Remote.faults c.last_round.new.remote) c.args.image c.in-Ok-Some.image (Err c.in-Err-last_round.stop) (g.R.Remote.log c.args.remote.now) (g.R.Remote.log c.round.new.remote) (g.R.Remote.log c.last_round.new.remote) (g.T.Tree.log c.args.tree.now) (g.T.Tree.log c.round.new.tree) (g.T.Tree.log c.last_round.new.tree)
    (g.K.Keeper.images c.args.keeper.now) (g.K.Keeper.images c.round.new.keeper) (g.K.Keeper.images c.last_round.new.keeper) c.round.ensures.cause.link_later c.last_round.ensures.cause.stopped.link_later (rw c.in-Ok-Some.field-0-is at c.in-Ok-Some.ensures.rounds) c.in-Err-last_round.ensures.runs

pub returns-in-Err-last_round-clause-serves : goal.returns-in-Err-last_round-clause-serves
returns-in-Err-last_round-clause-serves g c =
    serves-then c.args.image c.in-Ok-Some.image (g.R.Remote.log c.args.remote.now) (g.R.Remote.log c.round.new.remote) (g.R.Remote.log c.last_round.new.remote) (g.K.Keeper.images c.args.keeper.now) (g.K.Keeper.images c.round.new.keeper) (g.K.Keeper.images c.last_round.new.keeper)
    c.round.ensures.serves (rw c.in-Ok-Some.field-0-is at c.in-Ok-Some.ensures.last) c.last_round.ensures.serves

pub returns-in-Err-last_round-clause-alone : goal.returns-in-Err-last_round-clause-alone
returns-in-Err-last_round-clause-alone g c = alone-then c.round.ensures.alone c.last_round.ensures.alone

pub returns-in-Err-last_round-clause-no_faults : goal.returns-in-Err-last_round-clause-no_faults
returns-in-Err-last_round-clause-no_faults g c = λ is starts.
    c.last_round.ensures.no_faults (c.round.ensures.alone.drive.stays is)
    (starts-next (g.R.Remote.undisturbed c.args.remote.now) (g.R.Remote.undisturbed c.round.new.remote) c.args.image c.in-Ok-Some.image (g.R.Remote.log c.args.remote.now) (g.R.Remote.log c.round.new.remote) (g.K.Keeper.images c.args.keeper.now) (g.K.Keeper.images c.round.new.keeper) c.round.ensures.alone.drive c.round.ensures.serves (rw c.in-Ok-Some.field-0-is at c.in-Ok-Some.ensures.last) is starts)
    ∙ c.round.ensures.no_faults is starts
