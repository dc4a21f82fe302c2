use Rattle.gd_item.proofs.LogsSessions.{completions-log}
use Rattle.gd_item.proofs.log_laws.a_session_completes_once.Goals as goal

pub returns : goal.returns
returns c = completions-log
