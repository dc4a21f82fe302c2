use Rattle.gd_item.proofs.LogsFull.{filled-number, filled-answer}
use Rattle.gd_item.proofs.session_instances.drive_filled.Goals as goal

pub returns-clause-number : goal.returns-clause-number
returns-clause-number c = filled-number

pub returns-clause-next : goal.returns-clause-next
returns-clause-next c = filled-answer
