use Rattle.gd_item.proofs.LogsReceived.{kept-log}
use Rattle.gd_item.proofs.log_laws.kept_bytes_are_those_of_versions.Goals as goal

pub returns : goal.returns
returns c = kept-log
