use Rattle.gd_names.proofs.Settled.{over-sibling}
use Rattle.gd_conflict.proofs.laws.a_file_goes_over_a_file.Goals as goal

pub returns : goal.returns
returns c = over-sibling
