use Rattle.std.proofs.Common.{refl}
use Rattle.gd_json.specs.Bases.{is_port, is_authority, is_base}
use Rattle.gd_json.proofs.laws.bases_told.Goals as goal

pub returns-clause-base : goal.returns-clause-base
unfolding is_base is_authority is_port
returns-clause-base c = refl

pub returns-clause-slash : goal.returns-clause-slash
unfolding is_base is_authority is_port
returns-clause-slash c = refl
