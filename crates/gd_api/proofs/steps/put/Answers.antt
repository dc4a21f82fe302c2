use Rattle.std.proofs.Common.{rules}
use Rattle.gd_api.proofs.steps.put.Goals as goal

pub returns-in-Some-clause-answer : goal.returns-in-Some-clause-answer
returns-in-Some-clause-answer c = λ log epoch floor stands. let found = c.in_ok-place.ensures log epoch floor stands in let told = c.put_in.ensures.answer log epoch floor stands in search (rules, found, told, c.in-Some.is)

pub returns-in-None-clause-answer : goal.returns-in-None-clause-answer
returns-in-None-clause-answer c = λ log epoch floor stands. let found = c.in_ok-place.ensures log epoch floor stands in search (rules, found, c.in-None.is)
