use Rattle.std.proofs.Common.{rules}
use Rattle.gd_api.proofs.target.find_place_at.Goals as goal

pub returns-in-Some : goal.returns-in-Some
returns-in-Some c = λ log epoch floor stands. let found = c.by_path.ensures log epoch floor stands in search (rules, found, c.in-Some.is, c.in_ok-above.ensures)

pub returns : goal.returns
returns c = λ log epoch floor stands. let found = c.by_path.ensures log epoch floor stands in search (rules, found, c.in-None.is, c.in_ok-above.ensures)
