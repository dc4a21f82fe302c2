use Rattle.gd_names.proofs.Settled.{settled-free}
use Rattle.gd_conflict.proofs.laws.a_settled_name_is_free.Goals as goal

pub returns : goal.returns
returns c = settled-free
