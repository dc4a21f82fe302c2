use Rattle.od_transfer.proofs.Repeats.{at-once, without-memory, again-heard, again-unheard}
use Rattle.od_transfer.proofs.Undisturbing.{undisturbed_then, no_faults-again}
use Rattle.od_transfer.proofs.again.ask_thrice.Goals as goal

pub returns-in-Ok-clause-log : goal.returns-in-Ok-clause-log
returns-in-Ok-clause-log g c = at-once 2 c.args.request.now c.in-Ok.ensures.log

pub returns-in-Err-Memory-clause-log : goal.returns-in-Err-Memory-clause-log
returns-in-Err-Memory-clause-log g c = without-memory 2 c.args.request.now c.in-Err-Memory.field-0-is c.in-Err-Memory.ensures.log

pub returns-in-Ok-ask_twice-clause-log : goal.returns-in-Ok-ask_twice-clause-log
returns-in-Ok-ask_twice-clause-log g c = again-heard 1 c.args.request.now c.in-Err-Failed.field-0-is c.in-Err-Failed.ensures.log c.in-Ok-ask_twice.ensures.log

pub returns-in-Ok-ask_twice-clause-undisturbed : goal.returns-in-Ok-ask_twice-clause-undisturbed
returns-in-Ok-ask_twice-clause-undisturbed g c =
    undisturbed_then (g.R.Remote.undisturbed c.args.remote.now) (g.R.Remote.undisturbed c.ask_once.new.remote) (g.R.Remote.undisturbed c.ask_twice.new.remote) (g.R.Remote.log c.args.remote.now) (g.R.Remote.log c.ask_once.new.remote) (g.R.Remote.log c.ask_twice.new.remote) c.in-Err-Failed.ensures.undisturbed c.in-Ok-ask_twice.ensures.undisturbed

pub returns-in-Ok-ask_twice-clause-no_faults : goal.returns-in-Ok-ask_twice-clause-no_faults
returns-in-Ok-ask_twice-clause-no_faults g c =
    no_faults-again c.args.request.now c.in-Err-Failed.field-0-is c.in-Err-Failed.ensures.undisturbed c.in-Err-Failed.ensures.log c.in-Err-Failed.ensures.no_faults c.in-Ok-ask_twice.ensures.no_faults

pub returns-in-Ok-ask_twice-clause-goes : goal.returns-in-Ok-ask_twice-clause-goes
returns-in-Ok-ask_twice-clause-goes g c = g.met.R.Remote.goes_trans c.args.remote.now c.ask_once.new.remote c.ask_twice.new.remote c.in-Err-Failed.ensures.goes c.in-Ok-ask_twice.ensures.goes

pub returns-in-Err-clause-log : goal.returns-in-Err-clause-log
returns-in-Err-clause-log g c = again-unheard 1 c.args.request.now c.in-Err-Failed.field-0-is c.in-Err-Failed.ensures.log c.in-Err.ensures.log

pub returns-in-Err-clause-undisturbed : goal.returns-in-Err-clause-undisturbed
returns-in-Err-clause-undisturbed g c =
    undisturbed_then (g.R.Remote.undisturbed c.args.remote.now) (g.R.Remote.undisturbed c.ask_once.new.remote) (g.R.Remote.undisturbed c.ask_twice.new.remote) (g.R.Remote.log c.args.remote.now) (g.R.Remote.log c.ask_once.new.remote) (g.R.Remote.log c.ask_twice.new.remote) c.in-Err-Failed.ensures.undisturbed c.in-Err.ensures.undisturbed

pub returns-in-Err-clause-no_faults : goal.returns-in-Err-clause-no_faults
returns-in-Err-clause-no_faults g c =
    no_faults-again c.args.request.now c.in-Err-Failed.field-0-is c.in-Err-Failed.ensures.undisturbed c.in-Err-Failed.ensures.log c.in-Err-Failed.ensures.no_faults c.in-Err.ensures.no_faults

pub returns-in-Err-clause-goes : goal.returns-in-Err-clause-goes
returns-in-Err-clause-goes g c = g.met.R.Remote.goes_trans c.args.remote.now c.ask_once.new.remote c.ask_twice.new.remote c.in-Err-Failed.ensures.goes c.in-Err.ensures.goes
