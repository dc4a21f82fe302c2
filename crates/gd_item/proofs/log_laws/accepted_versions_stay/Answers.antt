use Rattle.gd_item.proofs.LogsGrow.{accepted-log}
use Rattle.gd_item.proofs.log_laws.accepted_versions_stay.Goals as goal

pub returns : goal.returns
returns c = accepted-log
