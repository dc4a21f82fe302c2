use Rattle.od_cli.proofs.Replies.{asks-err, asks-ok, cause-err, cause-ok, goes-err, goes-ok}
use Rattle.od_cli.proofs.world.WorldRemote.ask.Goals as goal

pub returns-in-Ok-clause-log : goal.returns-in-Ok-clause-log
returns-in-Ok-clause-log c = asks-ok c.args.self.now c.own.new.self c.args.request.now c.in-Ok.reply c.in-Ok.ensures.ok.0 c.in-Ok.ensures.ok.1

pub returns-in-Ok-clause-cause : goal.returns-in-Ok-clause-cause
returns-in-Ok-clause-cause c = cause-ok c.args.self.now c.own.new.self c.args.request.now c.in-Ok.reply c.in-Ok.ensures.ok.1 c.own.ensures.faults c.own.ensures.answers

pub returns-in-Err-clause-log : goal.returns-in-Err-clause-log
returns-in-Err-clause-log c = asks-err c.args.self.now c.own.new.self c.args.request.now c.in-Err.fault (λ is. (c.in-Err.ensures.failed is).1) c.in-Err.ensures.memory

pub returns-in-Err-clause-cause : goal.returns-in-Err-clause-cause
returns-in-Err-clause-cause c = cause-err c.args.self.now c.own.new.self c.in-Err.fault (λ is. (c.in-Err.ensures.failed is).1) c.own.ensures.faults c.own.ensures.answers

pub returns-in-Ok-clause-goes : goal.returns-in-Ok-clause-goes
returns-in-Ok-clause-goes c = goes-ok c.args.self.now c.own.new.self c.args.request.now c.in-Ok.ensures.ok.1 c.own.ensures.faults c.own.ensures.answers

pub returns-in-Err-clause-goes : goal.returns-in-Err-clause-goes
returns-in-Err-clause-goes c =
    goes-err c.args.self.now c.own.new.self c.in-Err.fault (λ is. (c.in-Err.ensures.failed is).1) c.in-Err.ensures.memory c.own.ensures.faults c.own.ensures.answers
