use Rattle.gd_item.specs.Steps.{state_of, held_by}
use Rattle.gd_laws.proofs.Every.{every-drive}
use Rattle.gd_laws.proofs.Marks.{is-marked}
use Rattle.od_pages.proofs.Pulling.{feed-gives-all}
use Rattle.od_pages.proofs.Standing.{records-fit, paths-of-records}
use Rattle.od_pages.proofs.laws.a_feed_gives_the_drive.Goals as goal

pub returns-clause-items : goal.returns-clause-items
returns-clause-items c log start = feed-gives-all (held_by log) (every-drive log).tree (is-marked (state_of log).effects) start

pub returns-clause-fit : goal.returns-clause-fit
returns-clause-fit c held sound = records-fit held sound

pub returns-clause-paths : goal.returns-clause-paths
returns-clause-paths c held sound = paths-of-records held sound
