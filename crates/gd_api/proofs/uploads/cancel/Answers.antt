use Rattle.gd_item.specs.Sessions.{session_at}
use Rattle.gd_api.proofs.Sending.{done-given, refused-given}
use Rattle.gd_api.proofs.uploads.cancel.Goals as goal

pub returns-in-Ok-clause-answer : goal.returns-in-Ok-clause-answer
returns-in-Ok-clause-answer c = λ list openers stands. done-given (session_at c.args.session list) _ (c.in-Ok.ensures.answer list openers stands)

pub returns-in-Err-clause-answer : goal.returns-in-Err-clause-answer
returns-in-Err-clause-answer c = λ list openers stands. refused-given (session_at c.args.session list) c.in-Err.fault _ _ (c.in-Err.ensures.answer list openers stands)
