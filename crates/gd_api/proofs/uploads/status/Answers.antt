use Rattle.gd_item.specs.Sessions.{session_at}
use Rattle.gd_api.proofs.Sending.{status-given, refused-given}
use Rattle.gd_api.proofs.uploads.status.Goals as goal

pub returns-in-Ok : goal.returns-in-Ok
returns-in-Ok c = λ list openers stands. status-given (session_at c.args.session list) c.in-Ok.expected (c.in-Ok.ensures list openers stands)

pub returns-in-Err : goal.returns-in-Err
returns-in-Err c = λ list openers stands. refused-given (session_at c.args.session list) c.in-Err.fault _ _ (c.in-Err.ensures list openers stands)
