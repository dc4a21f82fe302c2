use Rattle.od_pages.proofs.Pulling.{pages-items, pages-sound, pages-token, pages-never-bad}
use Rattle.od_pages.proofs.laws.a_pull_over_pages_gives_the_drive.Goals as goal

pub returns-clause-items : goal.returns-clause-items
returns-clause-items c log pulled page view pull last is whole = pages-items log page pulled pull last view is whole

pub returns-clause-sound : goal.returns-clause-sound
returns-clause-sound c log pulled page view pull last is = pages-sound log page pulled pull last view is

pub returns-clause-token : goal.returns-clause-token
returns-clause-token c log pulled page view pull last is = pages-token log page pulled pull last view is

pub returns-clause-never_bad : goal.returns-clause-never_bad
returns-clause-never_bad c log pulled page number pull last bad = pages-never-bad log page pulled pull last number bad
