use Rattle.od_sync.proofs.Sends.{sent-page, sent-unserved, sent-unheard, sent-stopped}
use Rattle.od_sync.proofs.delta.send_delta.Goals as goal

pub returns-in-Some-clause-log : goal.returns-in-Some-clause-log
returns-in-Some-clause-log g c =
    sent-page c.args.request.now c.in-Ok.reply c.in-Some.page (g.R.Remote.log c.args.remote.now) (g.R.Remote.log c.ask.new.self) c.requires.delta c.requires.written c.in-Ok.ensures.kind c.in-Some.ensures c.in-Ok.ensures.log

pub returns-in-None-clause-log : goal.returns-in-None-clause-log
returns-in-None-clause-log g c =
    sent-unserved c.args.request.now c.in-Ok.reply (g.R.Remote.log c.args.remote.now) (g.R.Remote.log c.ask.new.self) c.requires.delta c.requires.written c.in-Ok.ensures.kind c.in-None.ensures c.in-Ok.ensures.log

pub returns-in-Err-Failed-clause-log : goal.returns-in-Err-Failed-clause-log
returns-in-Err-Failed-clause-log g c =
    sent-unheard c.args.request.now c.in-Err-Failed.field-0 (g.R.Remote.log c.args.remote.now) (g.R.Remote.log c.ask.new.self) c.requires.written c.in-Err-Failed.field-0-is c.in-Err-Failed.ensures.log

pub returns-in-Err-Memory-clause-log : goal.returns-in-Err-Memory-clause-log
returns-in-Err-Memory-clause-log g c =
    sent-stopped c.args.request.now c.in-Err-Memory.field-0 (g.R.Remote.log c.args.remote.now) (g.R.Remote.log c.ask.new.self) (record {}) c.requires.written c.in-Err-Memory.field-0-is c.in-Err-Memory.ensures.log
