use Rattle.od_transfer.proofs.Repeats.{once-heard, once-unheard}
use Rattle.od_transfer.proofs.again.ask_once.Goals as goal

pub returns-in-Ok-clause-log : goal.returns-in-Ok-clause-log
returns-in-Ok-clause-log g c = once-heard c.args.request.now c.in-Ok.ensures.log

pub returns-in-Err-clause-log : goal.returns-in-Err-clause-log
returns-in-Err-clause-log g c = once-unheard c.args.request.now c.in-Err.ensures.log
