use Rattle.std.proofs.Common.{◌∙◌, Ok, Err, arith}
use Rattle.od_sync.proofs.Running.{runs-more, runs-settled, runs-stopped}
use Rattle.od_sync.proofs.ServedTokens.{serves-then, starts-next}
use Rattle.od_sync.proofs.SyncAlone.{alone-then}
use Rattle.od_sync.proofs.rounds.three_rounds.Goals as goal

pub returns-in-Ok-None-clause-runs : goal.returns-in-Ok-None-clause-runs
returns-in-Ok-None-clause-runs g c =
    runs-settled 3 (g.R.Remote.faults c.args.remote.now) (g.R.Remote.faults c.round.new.remote) c.args.image (g.R.Remote.log c.args.remote.now) (g.R.Remote.log c.round.new.remote) (g.T.Tree.log c.args.tree.now) (g.T.Tree.log c.round.new.tree) (g.K.Keeper.images c.args.keeper.now) (g.K.Keeper.images c.round.new.keeper) (omega arith) (rw c.in-Ok-None.field-0-is at c.in-Ok-None.ensures.rounds)

pub returns-in-Err-clause-runs : goal.returns-in-Err-clause-runs
returns-in-Err-clause-runs g c =
    runs-stopped 3 (g.R.Remote.faults c.args.remote.now) (g.R.Remote.faults c.round.new.remote) c.args.image c.in-Err.stop (g.R.Remote.log c.args.remote.now) (g.R.Remote.log c.round.new.remote) (g.T.Tree.log c.args.tree.now) (g.T.Tree.log c.round.new.tree) (g.K.Keeper.images c.args.keeper.now) (g.K.Keeper.images c.round.new.keeper) (omega arith) c.in-Err.ensures.rounds

pub returns-in-Ok-clause-runs : goal.returns-in-Ok-clause-runs
returns-in-Ok-clause-runs g c =
    runs-more 2 (g.R.Remote.faults c.args.remote.now) (g.R.Remote.faults c.round.new.remote) (g.R.Remote.faults c.two_rounds.new.remote) c.args.image c.in-Ok-Some.image (Ok c.in-Ok.settled) (g.R.Remote.log c.args.remote.now) (g.R.Remote.log c.round.new.remote) (g.R.Remote.log c.two_rounds.new.remote) (g.T.Tree.log c.args.tree.now) (g.T.Tree.log c.round.new.tree) (g.T.Tree.log c.two_rounds.new.tree)
    (g.K.Keeper.images c.args.keeper.now) (g.K.Keeper.images c.round.new.keeper) (g.K.Keeper.images c.two_rounds.new.keeper) c.round.ensures.cause.link_later c.two_rounds.ensures.cause.stopped.link_later (rw c.in-Ok-Some.field-0-is at c.in-Ok-Some.ensures.rounds) c.in-Ok.ensures.runs

pub returns-in-Ok-clause-serves : goal.returns-in-Ok-clause-serves
returns-in-Ok-clause-serves g c =
    serves-then c.args.image c.in-Ok-Some.image (g.R.Remote.log c.args.remote.now) (g.R.Remote.log c.round.new.remote) (g.R.Remote.log c.two_rounds.new.remote) (g.K.Keeper.images c.args.keeper.now) (g.K.Keeper.images c.round.new.keeper) (g.K.Keeper.images c.two_rounds.new.keeper)
    c.round.ensures.serves (rw c.in-Ok-Some.field-0-is at c.in-Ok-Some.ensures.last) c.two_rounds.ensures.serves

pub returns-in-Ok-clause-alone : goal.returns-in-Ok-clause-alone
returns-in-Ok-clause-alone g c = alone-then c.round.ensures.alone c.two_rounds.ensures.alone

pub returns-in-Ok-clause-no_faults : goal.returns-in-Ok-clause-no_faults
returns-in-Ok-clause-no_faults g c = λ is starts.
    c.two_rounds.ensures.no_faults (c.round.ensures.alone.drive.stays is)
    (starts-next (g.R.Remote.undisturbed c.args.remote.now) (g.R.Remote.undisturbed c.round.new.remote) c.args.image c.in-Ok-Some.image (g.R.Remote.log c.args.remote.now) (g.R.Remote.log c.round.new.remote) (g.K.Keeper.images c.args.keeper.now) (g.K.Keeper.images c.round.new.keeper) c.round.ensures.alone.drive c.round.ensures.serves (rw c.in-Ok-Some.field-0-is at c.in-Ok-Some.ensures.last) is starts)
    ∙ c.round.ensures.no_faults is starts

pub returns-in-Err-two_rounds-clause-runs : goal.returns-in-Err-two_rounds-clause-runs
returns-in-Err-two_rounds-clause-runs g c =
    runs-more 2 (g.R.Remote.faults c.args.remote.now) (g.R.Remote.faults c.round.new.remote) (g.R.Remote.faults c.two_rounds.new.remote) c.args.image c.in-Ok-Some.image (Err c.in-Err-two_rounds.stop) (g.R.Remote.log c.args.remote.now) (g.R.Remote.log c.round.new.remote) (g.R.Remote.log c.two_rounds.new.remote) (g.T.Tree.log c.args.tree.now) (g.T.Tree.log c.round.new.tree) (g.T.Tree.log c.two_rounds.new.tree)
    (g.K.Keeper.images c.args.keeper.now) (g.K.Keeper.images c.round.new.keeper) (g.K.Keeper.images c.two_rounds.new.keeper) c.round.ensures.cause.link_later c.two_rounds.ensures.cause.stopped.link_later (rw c.in-Ok-Some.field-0-is at c.in-Ok-Some.ensures.rounds) c.in-Err-two_rounds.ensures.runs

pub returns-in-Err-two_rounds-clause-serves : goal.returns-in-Err-two_rounds-clause-serves
returns-in-Err-two_rounds-clause-serves g c =
    serves-then c.args.image c.in-Ok-Some.image (g.R.Remote.log c.args.remote.now) (g.R.Remote.log c.round.new.remote) (g.R.Remote.log c.two_rounds.new.remote) (g.K.Keeper.images c.args.keeper.now) (g.K.Keeper.images c.round.new.keeper) (g.K.Keeper.images c.two_rounds.new.keeper)
    c.round.ensures.serves (rw c.in-Ok-Some.field-0-is at c.in-Ok-Some.ensures.last) c.two_rounds.ensures.serves

pub returns-in-Err-two_rounds-clause-alone : goal.returns-in-Err-two_rounds-clause-alone
returns-in-Err-two_rounds-clause-alone g c = alone-then c.round.ensures.alone c.two_rounds.ensures.alone

pub returns-in-Err-two_rounds-clause-no_faults : goal.returns-in-Err-two_rounds-clause-no_faults
returns-in-Err-two_rounds-clause-no_faults g c = λ is starts.
    c.two_rounds.ensures.no_faults (c.round.ensures.alone.drive.stays is)
    (starts-next (g.R.Remote.undisturbed c.args.remote.now) (g.R.Remote.undisturbed c.round.new.remote) c.args.image c.in-Ok-Some.image (g.R.Remote.log c.args.remote.now) (g.R.Remote.log c.round.new.remote) (g.K.Keeper.images c.args.keeper.now) (g.K.Keeper.images c.round.new.keeper) c.round.ensures.alone.drive c.round.ensures.serves (rw c.in-Ok-Some.field-0-is at c.in-Ok-Some.ensures.last) is starts)
    ∙ c.round.ensures.no_faults is starts
