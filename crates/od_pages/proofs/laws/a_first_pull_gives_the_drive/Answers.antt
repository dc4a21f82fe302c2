use Rattle.od_pages.proofs.Pulling.{first-items, first-token}
use Rattle.od_pages.proofs.laws.a_first_pull_gives_the_drive.Goals as goal

pub returns-clause-items : goal.returns-clause-items
returns-clause-items c log page view last is whole = first-items log page view last is whole

pub returns-clause-token : goal.returns-clause-token
returns-clause-token c log page view last is = first-token log page view last is
