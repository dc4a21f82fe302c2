use Rattle.gd_api.proofs.Sending.{begun-told}
use Rattle.gd_api.proofs.uploads.begin.Goals as goal

pub returns-clause-answer : goal.returns-clause-answer
returns-clause-answer c = λ list openers stands. let told = c.in_ok-session.ensures.answer list openers stands in begun-told _ c.in_ok-session.session list openers c.args.place c.args.behaviour c.in-Ok.condition c.args.condition.now c.args.defer c.in-Ok.ensures.cases told
