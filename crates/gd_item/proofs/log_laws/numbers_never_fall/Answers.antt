use Rattle.gd_item.proofs.LogsGrow.{number-log, epoch-log, floor-log, plain-log}
use Rattle.gd_item.proofs.log_laws.numbers_never_fall.Goals as goal

pub returns-clause-number : goal.returns-clause-number
returns-clause-number c = number-log

pub returns-clause-epoch : goal.returns-clause-epoch
returns-clause-epoch c = epoch-log

pub returns-clause-floor : goal.returns-clause-floor
returns-clause-floor c = floor-log

pub returns-clause-plain : goal.returns-clause-plain
returns-clause-plain c = plain-log
