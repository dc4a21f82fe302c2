use Rattle.std.specs.Option.{option_copied}
use Rattle.gd_item.specs.Pages.{asked}
use Rattle.gd_api.proofs.Asking.{page-given, bad-given, gone-given}
use Rattle.gd_api.proofs.feed.delta.Goals as goal

pub returns-in-Ok : goal.returns-in-Ok
returns-in-Ok c = λ state stands. page-given state c.args.size (asked state (option_copied c.args.token)) c.in-Ok.page (c.in-Ok.ensures.answer state stands)

pub returns-in-Err-BadToken : goal.returns-in-Err-BadToken
returns-in-Err-BadToken c = λ state stands. bad-given state c.args.size (asked state (option_copied c.args.token)) (rw c.in-Err-BadToken.field-0-is at c.in-Err-BadToken.ensures.answer state stands)

pub returns-in-Err-Gone : goal.returns-in-Err-Gone
returns-in-Err-Gone c = λ state stands. gone-given state c.args.size (asked state (option_copied c.args.token)) c.in-Err-Gone.resync (rw c.in-Err-Gone.field-0-is at c.in-Err-Gone.ensures.answer state stands)
