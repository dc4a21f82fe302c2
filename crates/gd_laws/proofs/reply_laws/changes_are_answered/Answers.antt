use Rattle.gd_laws.proofs.Answered.{changes-log}
use Rattle.gd_laws.proofs.reply_laws.changes_are_answered.Goals as goal

pub returns : goal.returns
returns c = changes-log
