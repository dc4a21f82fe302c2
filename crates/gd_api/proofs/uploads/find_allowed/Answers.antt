use Rattle.std.proofs.Common.{rules}
use Rattle.gd_api.proofs.uploads.find_allowed.Goals as goal

pub returns-in_err-may_put-in-Some : goal.returns-in_err-may_put-in-Some
returns-in_err-may_put-in-Some c = λ log epoch floor stands. let found = c.in_ok-place.ensures log epoch floor stands in let told = c.in_err-may_put-in-Some.ensures log epoch floor stands in search (rules, found, told, c.in-Some.is, c.from_residual-in_err-may_put-in-Some.ensures)

pub returns-in_ok-may_put-in-Some : goal.returns-in_ok-may_put-in-Some
returns-in_ok-may_put-in-Some c = λ log epoch floor stands. let found = c.in_ok-place.ensures log epoch floor stands in let told = c.in_ok-may_put-in-Some.ensures log epoch floor stands in search (rules, found, told, c.in-Some.is)

pub returns-in-None : goal.returns-in-None
returns-in-None c = λ log epoch floor stands. let found = c.in_ok-place.ensures log epoch floor stands in search (rules, found, c.in-None.is)
