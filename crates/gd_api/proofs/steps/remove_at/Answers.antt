use Rattle.std.proofs.Common.{rules}
use Rattle.gd_api.proofs.steps.remove_at.Goals as goal

pub returns-in_err-remove-clause-answer : goal.returns-in_err-remove-clause-answer
returns-in_err-remove-clause-answer c = λ log epoch floor stands. let told = c.in_err-remove.ensures.answer log epoch floor stands in search (rules, told, c.from_residual.ensures)

pub returns-clause-answer : goal.returns-clause-answer
returns-clause-answer c = λ log epoch floor stands. let told = c.in_ok-remove.ensures.answer log epoch floor stands in search (rules, told)
