use Rattle.od_pages.proofs.Pulling.{pull-items, pull-sound, pull-never-bad}
use Rattle.od_pages.proofs.laws.a_pull_gives_the_drive.Goals as goal

pub returns-clause-items : goal.returns-clause-items
returns-clause-items c items token log page view are last is whole = pull-items log page items token view are last is whole

pub returns-clause-sound : goal.returns-clause-sound
returns-clause-sound c items token log page view are last is = pull-sound log page items token view are last is

pub returns-clause-never_bad : goal.returns-clause-never_bad
returns-clause-never_bad c items token log page number are last bad = pull-never-bad log page items token number are last bad
