use Rattle.std.proofs.Common.{rules}
use Rattle.gd_api.proofs.reads.children.Goals as goal

pub returns-in-Some : goal.returns-in-Some
returns-in-Some c = record { answer = λ log epoch floor stands. let found = c.find_target.ensures log epoch floor stands in let told = c.children_at.ensures.answer log epoch floor stands in search (rules, found, told, c.in-Some.is) }

pub returns-in-None : goal.returns-in-None
returns-in-None c = record { answer = λ log epoch floor stands. let found = c.find_target.ensures log epoch floor stands in search (rules, found, c.in-None.is) }
