use Rattle.gd_server.proofs.Pieces.{took_need, took_done}
use Rattle.gd_server.proofs.inbox.Inbox.take.Goals as goal

pub returns-in-Ok-Need : goal.returns-in-Ok-Need
returns-in-Ok-Need c =
    took_need c.args.self.now c.feed.new.self c.part-unread.result.now c.part-unread.ensures (rw c.in-Ok-Need.field-0-is at (c.in-Ok-Need.ensures.open c.requires))

pub returns-in-Ok-Done : goal.returns-in-Ok-Done
returns-in-Ok-Done c =
    took_done c.args.self.now c.feed.new.self c.part-unread.result.now c.in-Ok-Done.asks c.closes-closes.result c.in-Ok-Done.used c.part-unread.ensures c.args.self.now.within c.closes-closes.ensures
    (rw c.in-Ok-Done.field-0-is at (c.in-Ok-Done.ensures.open c.requires))
