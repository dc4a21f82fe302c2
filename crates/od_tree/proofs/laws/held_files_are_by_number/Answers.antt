use Rattle.od_tree.proofs.Holding.{by_number}
use Rattle.od_tree.proofs.laws.held_files_are_by_number.Goals as goal

pub returns : goal.returns
returns c = by_number
