use Rattle.std.proofs.Common.{arith}
use Rattle.od_board.proofs.Claimed.{claimed-held, claimed-in_order}
use Rattle.od_board.proofs.board.Board.claim.Goals as goal

pub invariant_of-self-clause-in_order : goal.invariant_of-self-clause-in_order
invariant_of-self-clause-in_order c =
    rw c.push_reserved.ensures.items (claimed-in_order 0 c.len-job.result c.args.worker c.args.self.now.claims.items (omega (arith, c.len-job.ensures)) c.args.self.now.in_order)

pub returns-clause-holder : goal.returns-clause-holder
returns-clause-holder c =
    rw c.push_reserved.ensures.items (claimed-held 0 c.len-job.result c.args.worker c.args.self.now.claims.items (omega (arith, c.len-job.ensures)) c.args.self.now.in_order)
