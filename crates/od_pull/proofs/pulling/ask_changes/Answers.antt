use Rattle.od_pull.proofs.Asking.{asked-reply, asked-stop}
use Rattle.od_pull.proofs.Ends.{fails}
use Rattle.od_pull.proofs.pulling.ask_changes.Goals as goal

pub returns-in_err-reply-clause-asks : goal.returns-in_err-reply-clause-asks
returns-in_err-reply-clause-asks g c = rw (fails c.from_residual-in_err-reply.ensures) (asked-stop c.args.mirror.now c.in_err-reply.field-0.0 (rw c.in_ok-request.ensures at c.in_err-reply.ensures))

pub returns-clause-asks : goal.returns-clause-asks
returns-clause-asks g c = asked-reply c.args.mirror.now c.in_ok-reply.reply (rw c.in_ok-request.ensures at c.in_ok-reply.ensures)
