use Rattle.od_pages.proofs.Pulling.{pull-begins, pull-goes-on, pull-answered}
use Rattle.od_pages.proofs.laws.a_pull_goes_on.Goals as goal

pub returns-clause-begins : goal.returns-clause-begins
returns-clause-begins c log items token are = pull-begins log items token are

pub returns-clause-goes_on : goal.returns-clause-goes_on
returns-clause-goes_on c log pulled next step pull hears = pull-goes-on log pulled next step pull hears

pub returns-clause-answered : goal.returns-clause-answered
returns-clause-answered c log pulled size pull = pull-answered log pulled size pull
