use Rattle.gd_laws.proofs.Versions.{given-log}
use Rattle.gd_laws.proofs.version_laws.no_version_is_forgotten.Goals as goal

pub returns : goal.returns
returns c = given-log
