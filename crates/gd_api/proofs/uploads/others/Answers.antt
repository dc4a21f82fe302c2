use Rattle.std.proofs.Common.{rules}
use Rattle.std.proofs.Common.{arith}
use Rattle.gd_item.specs.Sessions.{session_at}
use Rattle.gd_api.proofs.Sending.{count-given, none-counted}
use Rattle.gd_api.proofs.uploads.others.Goals as goal

pub returns-in-Ok : goal.returns-in-Ok
returns-in-Ok c = λ list openers stands. let held = c.held_bytes.ensures list openers stands in let count = count-given (session_at c.args.session list) c.in-Ok.count (c.in-Ok.ensures list openers stands) in search (rules, held, count, c.saturating_sub.ensures)

pub returns-in-Err : goal.returns-in-Err
returns-in-Err c = λ list openers stands. let held = c.held_bytes-in-Err.ensures list openers stands in let count = none-counted (session_at c.args.session list) c.in-Err.field-0 (c.in-Err.ensures list openers stands) in omega (arith, held, count)
