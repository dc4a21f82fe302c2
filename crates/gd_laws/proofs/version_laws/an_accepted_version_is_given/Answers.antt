use Rattle.gd_laws.proofs.Versions.{version-given}
use Rattle.gd_laws.proofs.version_laws.an_accepted_version_is_given.Goals as goal

pub returns : goal.returns
returns c log number content item now bytes is file = version-given log number content item now bytes is file
