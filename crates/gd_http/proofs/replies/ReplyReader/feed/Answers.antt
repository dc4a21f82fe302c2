use Rattle.std.proofs.Common.{refl, arith}
use Rattle.gd_http.proofs.Heard.{need_told, done_told, meaning_told}
use Rattle.gd_http.proofs.replies.ReplyReader.feed.Goals as goal

pub returns-in-Ok-Need-clause-open : goal.returns-in-Ok-Need-clause-open
returns-in-Ok-Need-clause-open c =
    rw (← c.self.view_is, c.in-None.is)
    (λ is_open. need_told _ c.self.inside.frames c.feed.new.self c.args.piece.now refl c.feed.ensures.unfinished (rw c.in-Ok-Need.field-0-is at (c.in-Ok-Need.ensures.open is_open)))

pub returns-in-Ok-clause-open : goal.returns-in-Ok-clause-open
returns-in-Ok-clause-open c =
    rw (← c.self.view_is, c.in-None.is)
    (λ is_open. done_told _ c.self.inside.frames c.feed.new.self c.args.piece.now c.in-Ok-Done.frame c.in-Ok.reply c.in-Ok-Done.used c.saturating_add-self-inside.result refl c.in-Ok.ensures
    (omega (arith, c.saturating_add.ensures, c.saturating_add-self-inside.ensures, c.held-before.ensures.is)) c.feed.ensures.unfinished
    (rw c.in-Ok-Done.field-0-is at (c.in-Ok-Done.ensures.open is_open)))

pub returns-in-Err-Meaning-clause-open : goal.returns-in-Err-Meaning-clause-open
returns-in-Err-Meaning-clause-open c =
    rw (← c.self.view_is, c.in-None.is)
    (λ is_open. meaning_told _ c.self.inside.frames c.feed.new.self c.args.piece.now c.in-Ok-Done.frame c.in-Ok-Done.used refl
    (rw c.in-Err-Meaning.field-0-is at c.in-Err-Meaning.ensures) c.feed.ensures.unfinished
    (rw c.in-Ok-Done.field-0-is at (c.in-Ok-Done.ensures.open is_open)))
