use Rattle.od_pull.proofs.Ends.{fails}
use Rattle.od_pull.proofs.Taking.{gone-anew, gone-stopped, page-taken, page-untaken, refused}
use Rattle.od_pull.proofs.pulling.take_answer.Goals as goal

pub returns-in_err-reply-clause-takes : goal.returns-in_err-reply-clause-takes
returns-in_err-reply-clause-takes g c = rw (fails c.from_residual.ensures) c.in_err-reply.ensures.asks

pub returns-in_err-taken-in-Page-clause-takes : goal.returns-in_err-taken-in-Page-clause-takes
returns-in_err-taken-in-Page-clause-takes g c = rw (fails c.from_residual-in_err-taken-in-Page.ensures) (page-untaken c.args.mirror.now c.in_ok-reply.reply c.in_ok-reply.ensures.asks)

pub returns-in_err-begin_anew-in-Gone-clause-takes : goal.returns-in_err-begin_anew-in-Gone-clause-takes
returns-in_err-begin_anew-in-Gone-clause-takes g c = rw (fails c.from_residual-in_err-begin_anew-in-Gone.ensures)
    (gone-stopped g.met.O.Outside.laws c.args.mirror.now c.in-Gone.resync c.in_err-begin_anew-in-Gone.field-0.0 (rw c.in-Gone.is at c.in_ok-reply.ensures.asks) c.in_err-begin_anew-in-Gone.ensures)

pub returns-in_ok-taken-in-Page-clause-takes : goal.returns-in_ok-taken-in-Page-clause-takes
returns-in_ok-taken-in-Page-clause-takes g c = rw c.in_ok-taken-in-Page.ensures.ok.1 (rw c.in_ok-taken-in-Page.ensures.ok.0 (page-taken c.args.mirror.now c.in-Page.page (rw c.in-Page.is at c.in_ok-reply.ensures.asks)))

pub returns-in_ok-begin_anew-in-Gone-clause-takes : goal.returns-in_ok-begin_anew-in-Gone-clause-takes
returns-in_ok-begin_anew-in-Gone-clause-takes g c =
    rw c.gone.ensures (gone-anew g.met.O.Outside.laws c.args.mirror.now c.in-Gone.resync (rw c.in-Gone.is at c.in_ok-reply.ensures.asks) c.in_ok-begin_anew-in-Gone.ensures)

pub returns-in-Refused-clause-takes : goal.returns-in-Refused-clause-takes
returns-in-Refused-clause-takes g c = refused c.args.mirror.now c.in-Refused.status c.in-Refused.code (rw c.in-Refused.is at c.in_ok-reply.ensures.asks)
