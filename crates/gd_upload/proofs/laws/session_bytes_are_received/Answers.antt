use Rattle.gd_item.proofs.LogsReceived.{received-log}
use Rattle.gd_upload.proofs.laws.session_bytes_are_received.Goals as goal

pub returns : goal.returns
returns c = received-log
