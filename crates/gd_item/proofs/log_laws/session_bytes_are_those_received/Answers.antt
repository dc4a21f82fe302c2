use Rattle.gd_item.proofs.LogsReceived.{received-log}
use Rattle.gd_item.proofs.log_laws.session_bytes_are_those_received.Goals as goal

pub returns : goal.returns
returns c = received-log
