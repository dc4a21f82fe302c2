use Rattle.od_pull.proofs.Ends.{fails}
use Rattle.od_pull.proofs.Looking.{looked}
use Rattle.od_pull.proofs.learning.ask.Goals as goal

pub returns-in_err-reply : goal.returns-in_err-reply
returns-in_err-reply g c = rw (fails c.from_residual.ensures) (looked c.args.request.now c.requires _ c.in_err-reply.ensures)

pub returns : goal.returns
returns g c = looked c.args.request.now c.requires _ c.in_ok-reply.ensures
