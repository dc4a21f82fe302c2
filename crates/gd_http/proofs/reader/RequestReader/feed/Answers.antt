use Rattle.gd_http.proofs.Heard.{need_heard, done_heard}
use Rattle.gd_http.proofs.reader.RequestReader.feed.Goals as goal

pub returns-in-Ok-Need-clause-open : goal.returns-in-Ok-Need-clause-open
returns-in-Ok-Need-clause-open c =
    rw (← c.self.view_is, c.if-self.false)
    (λ is_open. need_heard c.self.inside.frames c.feed.new.self c.self.inside.closes c.args.piece.now c.feed.ensures.unfinished (rw c.in-Ok-Need.field-0-is at (c.in-Ok-Need.ensures.open is_open)))

pub returns-in-Ok-clause-open : goal.returns-in-Ok-clause-open
returns-in-Ok-clause-open c =
    rw (← c.self.view_is, c.if-self.false)
    (λ is_open. done_heard c.self.inside.frames c.feed.new.self c.self.inside.closes c.asks_to_close-closes.result c.args.piece.now c.in-Ok-Done.frame c.in-Ok.message c.in-Ok-Done.used
    c.in-Ok.ensures c.asks_to_close-closes.ensures c.feed.ensures.unfinished (rw c.in-Ok-Done.field-0-is at (c.in-Ok-Done.ensures.open is_open)))
