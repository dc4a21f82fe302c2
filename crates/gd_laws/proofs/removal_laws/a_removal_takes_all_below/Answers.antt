use Rattle.gd_laws.proofs.Removals.{all-log, only-log}
use Rattle.gd_laws.proofs.removal_laws.a_removal_takes_all_below.Goals as goal

pub returns-clause-all : goal.returns-clause-all
returns-clause-all c = all-log

pub returns-clause-only : goal.returns-clause-only
returns-clause-only c = only-log
