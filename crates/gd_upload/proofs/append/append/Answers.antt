use Rattle.gd_upload.proofs.Writing.{written-found}
use Rattle.gd_upload.proofs.append.append.Goals as goal

pub returns-then-number-clause-ok : goal.returns-then-number-clause-ok
returns-then-number-clause-ok c =
    written-found c.args.number c.args.total c.args.bytes.now c.args.sessions.now c.loop-session.sessions c.loop-session.session-index c.session-item.result c.append.new.self c.number.result
    c.requires c.loop-session.invariant.same c.loop-session-test.true c.session-item.is c.number.ensures c.if-number.true c.in_ok-append.ensures.ok
