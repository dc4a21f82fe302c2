use Rattle.gd_item.proofs.LogsVersions.{version-log}
use Rattle.gd_item.proofs.log_laws.a_version_is_accepted.Goals as goal

pub returns : goal.returns
returns c = version-log
